-- What an edit does to a vehicle's stops: none is lost, none comes twice, and their number stays. The day may be any list of words.
-- Assumes nothing.
use Rattle.std.specs.Prelude.{if◌then◌else◌}
use Prim.Native.Nat.{ℕ, suc, ◌+◌}
use mathlib.Core.Path.{◌≡◌, refl, sym, ap, ◌∙◌, subst}
use mathlib.Core.List.{List, [], ◌∷◌, ◌++◌}
use mathlib.Core.Logic.{inl, inr}
use native.Mathlib.Decide.{ℕ_discrete}
use native.Mathlib.Omega.{arith}
use lib.Dec.{eqb}
use lib.ListN.{length, length-append}
use borrow.Author.Tests.{eqb-true, eqb-false, eq-eqb, ne_eqb}
use Rattle.rules.specs.Lists.{Every, times}
use Rattle.rules.specs.Plan.{Task, serve, empty, lunch, Round, stops_on, Known}
use Rattle.rules.specs.Edits.{Edit, before, after, swap, remove, replace, change_stop, change_tip, change, changed}
use Rattle.laws.proofs.Fresh.{every_append}
use Rattle.laws.proofs.Decided.{known}
use Rattle.laws.proofs.Lists.{times_append}
use Rattle.laws.proofs.Plan.{stops_append}
use Rattle.edits.specs.EditWords.{Named}

-- which stop stands where a stop stood: an interchange renames two, any other edit none
unfoldable pub renamed : Edit → ℕ → ℕ
renamed (before i j) k = k
renamed (after i j) k = k
renamed (swap i j) k = if eqb k i then j else if eqb k j then i else k
renamed (remove at) k = k
renamed (replace at x) k = k

-- what an edit of a vehicle's tasks keeps
pub record Suits (day : List ℕ) (e : Edit) (tasks : Round) : Type 0 where
  pub known : Every (Known day) (changed e 0 tasks)
  pub count : length (stops_on (changed e 0 tasks)) ≡ length (stops_on tasks)
  pub same : (k : ℕ) → times k (stops_on (changed e 0 tasks)) ≡ times (renamed e k) (stops_on tasks)

-- a tip stays, goes or is another: no stop
tip_stops : (e : Edit) (t y : ℕ) → stops_on (change_tip e t y) ≡ []
unfolding change_tip stops_on
tip_stops (before i j) t y = refl
tip_stops (after i j) t y = refl
tip_stops (swap i j) t y = refl
tip_stops (remove at) t y = elim (known (eqb t at)) [ inl e ↦ rw e refl | inr e ↦ rw e refl ]
tip_stops (replace at x) t y = elim (known (eqb t at)) [ inl e ↦ rw e refl | inr e ↦ rw e refl ]

-- from what becomes of each stop to what becomes of all
module _ (e : Edit) where
  stops_front : (t : ℕ) (task : Task) (tasks : Round) → stops_on (changed e t (task ∷ tasks)) ≡ stops_on (change e t task) ++ stops_on (changed e (suc t) tasks)
  unfolding changed
  stops_front t task tasks = stops_append (change e t task) (changed e (suc t) tasks)

  stops_tip : (t y : ℕ) (tasks : Round) → stops_on (changed e t (empty y ∷ tasks)) ≡ stops_on (changed e (suc t) tasks)
  unfolding change
  stops_tip t y tasks = stops_front t (empty y) tasks ∙ ap (λ (ks : List ℕ). ks ++ stops_on (changed e (suc t) tasks)) (tip_stops e t y)

  pub times_all : (k k' : ℕ) → ((x : ℕ) → times k (stops_on (change_stop e x)) ≡ times k' (x ∷ []))
      → (t : ℕ) (tasks : Round) → times k (stops_on (changed e t tasks)) ≡ times k' (stops_on tasks)
  unfolding changed change stops_on times
  times_all k k' h t [] = refl
  times_all k k' h t (serve x ∷ tasks) =
      omega (
        arith,
        ap (times k) (stops_front t (serve x) tasks),
        times_append k (stops_on (change_stop e x)) (stops_on (changed e (suc t) tasks)),
        h x,
        times_all k k' h (suc t) tasks,
      )
  times_all k k' h t (empty y ∷ tasks) = ap (times k) (stops_tip t y tasks) ∙ times_all k k' h (suc t) tasks
  times_all k k' h t (lunch ∷ tasks) = times_all k k' h (suc t) tasks

  pub length_all : (i j : ℕ) → ((x : ℕ) → length (stops_on (change_stop e x)) + times j (x ∷ []) ≡ 1 + times i (x ∷ []))
      → (t : ℕ) (tasks : Round) → length (stops_on (changed e t tasks)) + times j (stops_on tasks) ≡ length (stops_on tasks) + times i (stops_on tasks)
  unfolding changed change stops_on times
  length_all i j h t [] = refl
  length_all i j h t (serve x ∷ tasks) =
      omega (
        arith,
        ap length (stops_front t (serve x) tasks),
        length-append (stops_on (change_stop e x)) (stops_on (changed e (suc t) tasks)),
        h x,
        length_all i j h (suc t) tasks,
      )
  length_all i j h t (empty y ∷ tasks) = omega (arith, ap length (stops_tip t y tasks), length_all i j h (suc t) tasks)
  length_all i j h t (lunch ∷ tasks) = length_all i j h (suc t) tasks

-- the numbers stay the day's
stop_known : (day : List ℕ) (e : Edit) (x : ℕ) → Named day e → Known day (serve x) → Every (Known day) (change_stop e x)
unfolding change_stop Every
stop_known day (before i j) x n h = elim (known (eqb x j)) [
  | inl a ↦ rw a tt
  | inr a ↦ elim (known (eqb x i)) [ inl b ↦ rw (a, b) (n.1, (n.0, tt)) | inr b ↦ rw (a, b) (h, tt) ]
]
stop_known day (after i j) x n h = elim (known (eqb x j)) [
  | inl a ↦ rw a tt
  | inr a ↦ elim (known (eqb x i)) [ inl b ↦ rw (a, b) (n.0, (n.1, tt)) | inr b ↦ rw (a, b) (h, tt) ]
]
stop_known day (swap i j) x n h = elim (known (eqb x i)) [
  | inl a ↦ rw a (n.1, tt)
  | inr a ↦ elim (known (eqb x j)) [ inl b ↦ rw (a, b) (n.0, tt) | inr b ↦ rw (a, b) (h, tt) ]
]
stop_known day (remove at) x n h = (h, tt)
stop_known day (replace at y) x n h = (h, tt)

tip_known : (day : List ℕ) (e : Edit) (t y : ℕ) → Named day e → Known day (empty y) → Every (Known day) (change_tip e t y)
unfolding change_tip Every
tip_known day (before i j) t y n h = (h, tt)
tip_known day (after i j) t y n h = (h, tt)
tip_known day (swap i j) t y n h = (h, tt)
tip_known day (remove at) t y n h = elim (known (eqb t at)) [ inl a ↦ rw a tt | inr a ↦ rw a (h, tt) ]
tip_known day (replace at x) t y n h = elim (known (eqb t at)) [ inl a ↦ rw a (n, tt) | inr a ↦ rw a (h, tt) ]

pub changed_known : (day : List ℕ) (e : Edit) (t : ℕ) (tasks : Round) → Named day e → Every (Known day) tasks → Every (Known day) (changed e t tasks)
unfolding changed change Every
changed_known day e t [] n h = tt
changed_known day e t (serve x ∷ tasks) n h =
    every_append (Known day) (change_stop e x) (changed e (suc t) tasks) (stop_known day e x n h.0) (changed_known day e (suc t) tasks n h.1)
changed_known day e t (empty y ∷ tasks) n h =
    every_append (Known day) (change_tip e t y) (changed e (suc t) tasks) (tip_known day e t y n h.0) (changed_known day e (suc t) tasks n h.1)
changed_known day e t (lunch ∷ tasks) n h = changed_known day e (suc t) tasks n h.1

-- a stop moved before or after another: it stands where the other does, and no longer where it stood
module _ (e : Edit) (i j : ℕ) (apart : i ≡ j → ⊥)
    (gone : stops_on (change_stop e j) ≡ [])
    (there : (k : ℕ) → times k (stops_on (change_stop e i)) ≡ times k (j ∷ i ∷ []))
    (both : length (stops_on (change_stop e i)) ≡ 2)
    (other : (x : ℕ) → (x ≡ j → ⊥) → (x ≡ i → ⊥) → stops_on (change_stop e x) ≡ x ∷ []) where
  -- what holds of j, of i and of each other stop holds of all
  by_stop : (P : ℕ → Type 0) → P j → P i → ((x : ℕ) → (x ≡ j → ⊥) → (x ≡ i → ⊥) → P x) → (x : ℕ) → P x
  by_stop P of-j of-i of_other x = elim (ℕ_discrete x j) [
    | yes a ↦ subst P (sym a) of-j
    | no a ↦ elim (ℕ_discrete x i) [ yes b ↦ subst P (sym b) of-i | no b ↦ of_other x a b ]
  ]

  moved_times : (x : ℕ) → times j (stops_on (change_stop e x)) ≡ times i (x ∷ [])
  unfolding times
  moved_times = by_stop (λ x. times j (stops_on (change_stop e x)) ≡ times i (x ∷ []))
      (rw (gone, ne_eqb i j apart) refl)
      (rw (there j, eq-eqb j j refl, ne_eqb j i (λ z. apart (sym z)), eq-eqb i i refl) refl)
      (λ x a b. rw (other x a b, ne_eqb j x (λ z. a (sym z)), ne_eqb i x (λ z. b (sym z))) refl)

  kept_times : (k : ℕ) → (k ≡ j → ⊥) → (x : ℕ) → times k (stops_on (change_stop e x)) ≡ times k (x ∷ [])
  unfolding times
  kept_times k n = by_stop (λ x. times k (stops_on (change_stop e x)) ≡ times k (x ∷ []))
      (rw (gone, ne_eqb k j n) refl)
      (rw (there k, ne_eqb k j n) (omega arith))
      (λ x a b. rw (other x a b) refl)

  moved_length : (x : ℕ) → length (stops_on (change_stop e x)) + times j (x ∷ []) ≡ 1 + times i (x ∷ [])
  unfolding times
  moved_length = by_stop (λ x. length (stops_on (change_stop e x)) + times j (x ∷ []) ≡ 1 + times i (x ∷ []))
      (rw (gone, ne_eqb i j apart, eq-eqb j j refl) (omega arith))
      (rw (both, ne_eqb j i (λ z. apart (sym z)), eq-eqb i i refl) (omega arith))
      (λ x a b. rw (other x a b, ne_eqb j x (λ z. a (sym z)), ne_eqb i x (λ z. b (sym z))) refl)

  pub move_same : (tasks : Round) → times i (stops_on tasks) ≡ times j (stops_on tasks) → (k : ℕ) → times k (stops_on (changed e 0 tasks)) ≡ times k (stops_on tasks)
  move_same tasks h k = elim (known (eqb k j)) [
    | inl a ↦ let s = eqb-true k j a in rw s (times_all e j i moved_times 0 tasks ∙ h)
    | inr a ↦ times_all e k k (kept_times k (eqb-false k j a)) 0 tasks
  ]

  pub move_count : (tasks : Round) → times i (stops_on tasks) ≡ times j (stops_on tasks) → length (stops_on (changed e 0 tasks)) ≡ length (stops_on tasks)
  move_count tasks h = omega (arith, length_all e i j moved_length 0 tasks)
