-- Each edit suits the vehicles that it is listed for: the number of their stops stays, and so does which stops they have but for an
-- interchange. The day may be any list of words.
-- Assumes nothing.
use Rattle.std.specs.Prelude.{if◌then◌else◌}
use Prim.Native.Nat.{ℕ, ◌+◌}
use mathlib.Core.Path.{◌≡◌, refl, sym, ap, ◌∙◌}
use mathlib.Core.Bool.{Bool, true, false}
use mathlib.Core.List.{List, [], ◌∷◌}
use mathlib.Core.Logic.{inl, inr}
use native.Mathlib.Omega.{arith}
use lib.Dec.{eqb}
use lib.ListN.{length}
use borrow.Author.Tests.{eqb-true, eqb-false, eq-eqb, ne_eqb}
use Rattle.rules.specs.Lists.{Every, times}
use Rattle.rules.specs.Plan.{serve, empty, Round, stops_on, Known}
use Rattle.rules.specs.Edits.{Edit, before, after, swap, remove, replace, change_stop}
use Rattle.laws.proofs.Decided.{known}
use Rattle.edits.specs.EditWords.{Named}
use Rattle.edits.proofs.EditLaws.{renamed, Suits, times_all, length_all, changed_known, move_same, move_count}

module _ (day : List ℕ) (tasks : Round) (h : Every (Known day) tasks) where
  module _ (i j : ℕ) (apart : i ≡ j → ⊥) (n : Known day (serve i) × Known day (serve j)) (q : times i (stops_on tasks) ≡ times j (stops_on tasks)) where
    -- j moved to i, the pair in either order
    moved : (e : Edit) (pair : Round) → Named day e → ((x : ℕ) → change_stop e x ≡ (if eqb x j then [] else if eqb x i then pair else serve x ∷ []))
        → ((k : ℕ) → times k (stops_on pair) ≡ times k (j ∷ i ∷ [])) → length (stops_on pair) ≡ 2 → ((k : ℕ) → renamed e k ≡ k) → Suits day e tasks
    unfolding stops_on
    moved e pair m is there two keeps =
        let gone : change_stop e j ≡ [] = is j ∙ rw (eq-eqb j j refl) refl in
        let here : change_stop e i ≡ pair = is i ∙ rw (ne_eqb i j apart, eq-eqb i i refl) refl in
        let other : (x : ℕ) → (x ≡ j → ⊥) → (x ≡ i → ⊥) → stops_on (change_stop e x) ≡ x ∷ [] = λ x a b. rw (is x, ne_eqb x j a, ne_eqb x i b) refl in
        let times-here : (k : ℕ) → times k (stops_on (change_stop e i)) ≡ times k (j ∷ i ∷ []) = λ k. ap (λ (ts : Round). times k (stops_on ts)) here ∙ there k in
        let many = ap (λ (ts : Round). length (stops_on ts)) here ∙ two in
        record {
          known = changed_known day e 0 tasks m h;
          count = move_count e i j apart (ap stops_on gone) times-here many other tasks q;
          same = λ k. move_same e i j apart (ap stops_on gone) times-here many other tasks q k ∙ ap (λ (n : ℕ). times n (stops_on tasks)) (sym (keeps k));
        }

    -- "j moved just before i", "then just after"
    pub suits_before : Suits day (before i j) tasks
    unfolding change_stop renamed stops_on
    suits_before = moved (before i j) (serve j ∷ serve i ∷ []) n (λ x. refl) (λ k. refl) refl (λ k. refl)

    pub suits_after : Suits day (after i j) tasks
    unfolding change_stop renamed stops_on times
    suits_after = moved (after i j) (serve i ∷ serve j ∷ []) n (λ x. refl) (λ k. omega arith) refl (λ k. refl)

  -- an edit that puts one stop for each: it is the renamed one, and renaming twice is none
  module _ (e : Edit) (n : Named day e) (one : (x : ℕ) → stops_on (change_stop e x) ≡ renamed e x ∷ []) (twice : (x : ℕ) → renamed e (renamed e x) ≡ x) where
    same_test : (k x : ℕ) → eqb k (renamed e x) ≡ eqb (renamed e k) x
    same_test k x = elim (known (eqb k (renamed e x))) [
      | inl a ↦ a ∙ sym (eq-eqb (renamed e k) x (ap (renamed e) (eqb-true k (renamed e x) a) ∙ twice x))
      | inr a ↦ a ∙ sym (ne_eqb (renamed e k) x (λ z. eqb-false k (renamed e x) a (sym (twice k) ∙ ap (renamed e) z)))
    ]

    one_times : (k x : ℕ) → times k (stops_on (change_stop e x)) ≡ times (renamed e k) (x ∷ [])
    unfolding times
    one_times k x = rw (one x, same_test k x) refl

    one_length : (x : ℕ) → length (stops_on (change_stop e x)) + times 0 (x ∷ []) ≡ 1 + times 0 (x ∷ [])
    one_length x = rw (one x) refl

    suits_one : Suits day e tasks
    suits_one =
        record {
          known = changed_known day e 0 tasks n h;
          count = omega (arith, length_all e 0 0 one_length 0 tasks);
          same = λ k. times_all e k (renamed e k) (one_times k) 0 tasks;
        }

  -- "i and j interchanged"
  swap_one : (i j x : ℕ) → stops_on (change_stop (swap i j) x) ≡ renamed (swap i j) x ∷ []
  unfolding change_stop renamed stops_on
  swap_one i j x = go (eqb x i) (eqb x j)
    where
      go : (b c : Bool) → stops_on (if b then serve j ∷ [] else if c then serve i ∷ [] else serve x ∷ []) ≡ (if b then j else if c then i else x) ∷ []
      go true c = refl
      go false true = refl
      go false false = refl

  swap_twice : (i j x : ℕ) → (i ≡ j → ⊥) → renamed (swap i j) (renamed (swap i j) x) ≡ x
  unfolding renamed
  swap_twice i j x apart = elim (known (eqb x i)) [
    | inl a ↦ rw (a, ne_eqb j i (λ z. apart (sym z)), eq-eqb j j refl) (sym (eqb-true x i a))
    | inr a ↦ elim (known (eqb x j)) [
      | inl b ↦ rw (a, b, eq-eqb i i refl) (sym (eqb-true x j b))
      | inr b ↦ rw (a, b, a, b) refl
    ]
  ]

  pub suits_swap : (i j : ℕ) → (i ≡ j → ⊥) → Known day (serve i) × Known day (serve j) → Suits day (swap i j) tasks
  suits_swap i j apart n = suits_one (swap i j) n (swap_one i j) (λ x. swap_twice i j x apart)

  -- a C "removed", or "replaced by" another tip
  pub suits_remove : (at : ℕ) → Suits day (remove at) tasks
  unfolding change_stop renamed stops_on
  suits_remove at = suits_one (remove at) tt (λ x. refl) (λ x. refl)

  pub suits_replace : (at x : ℕ) → Known day (empty x) → Suits day (replace at x) tasks
  unfolding change_stop renamed stops_on
  suits_replace at x n = suits_one (replace at x) n (λ y. refl) (λ y. refl)

-- an interchange renames no stop of a vehicle that has neither of the two
pub swap_elsewhere : (i j : ℕ) (ks : List ℕ) → times i ks ≡ times j ks → (k : ℕ) → times (renamed (swap i j) k) ks ≡ times k ks
unfolding renamed
swap_elsewhere i j ks e k = elim (known (eqb k i)) [
  | inl a ↦ rw a (sym e ∙ ap (λ (x : ℕ). times x ks) (sym (eqb-true k i a)))
  | inr a ↦ elim (known (eqb k j)) [ inl b ↦ rw (a, b) (e ∙ ap (λ (x : ℕ). times x ks) (sym (eqb-true k j b))) | inr b ↦ rw (a, b) refl ]
]
