-- What a word becomes under an edit is what its task becomes. Assumes nothing.
use Rattle.std.specs.Prelude.{if◌then◌else◌}
use Prim.Native.Nat.{ℕ, ◌+◌}
use mathlib.Core.Path.{◌≡◌, refl, sym, ap, ◌∙◌}
use mathlib.Core.Bool.{true, false, ◌&&◌}
use mathlib.Core.List.{List, [], ◌∷◌}
use mathlib.Core.Logic.{inl, inr}
use native.Mathlib.Omega.{arith}
use lib.Dec.{eqb, leb}
use borrow.Author.Tests.{eq-eqb, ne_eqb, le-leb, lt-leb, eqb-true, eqb-false}
use Rattle.rules.specs.Fields.{stops}
use Rattle.rules.specs.PlanWords.{stop_word, tip_word, rest_word}
use Rattle.rules.specs.Plan.{Task, serve, empty, lunch, Round, task_word, Known}
use Rattle.rules.specs.Edits.{Edit, before, after, swap, remove, replace, change_stop, change_tip, change}
use Rattle.laws.proofs.Decided.{known}
use Rattle.edits.specs.EditWords.{a_stop, a_tip, Makes, makes_none, makes_one, makes_two, Becomes}
use Rattle.edits.specs.declared.Change.{Change}
use Rattle.edits.specs.declared.Change.TheVariants.{Gone, One, Two}

-- words are equal where their numbers are
same_number : (a k j : ℕ) → eqb (a + k) (a + j) ≡ eqb k j
same_number a k j = elim (known (eqb k j)) [
  | inl e ↦ eq-eqb (a + k) (a + j) (ap (λ (x : ℕ). a + x) (eqb-true k j e)) ∙ sym e
  | inr n ↦ ne_eqb (a + k) (a + j) (λ q. eqb-false k j n (omega (arith, q))) ∙ sym n
]

-- a rest is taken off
pub rest_off : (day : List ℕ) (e : Edit) (t w : ℕ) (task : Task) → w ≡ task_word task → Known day task → w ≡ rest_word → Becomes day e t task Gone
unfolding task_word change Known
rest_off day e t w (serve k) q n r = absurd (omega (arith, q, r, n.1))
rest_off day e t w (empty x) q n r = absurd (omega (arith, q, r, n.1))
rest_off day e t w lunch q n r = makes_none

-- equal words make equal tasks
makes_as : {day : List ℕ} {made other : Change} {ts us : Round} → made ≡ other → us ≡ ts → Makes day other ts → Makes day made us
makes_as e q m = rw (e, q) m

-- no tip's word is a stop's
tip_no_stop : (day : List ℕ) (x j : ℕ) → Known day (serve j) → eqb (tip_word x) (stop_word j) ≡ false
unfolding Known
tip_no_stop day x j n = ne_eqb (tip_word x) (stop_word j) (λ q. omega (arith, q, n.1))

-- a stop that is moved to another, the pair in an order
module _ (day : List ℕ) (e : Edit) (i j one two t w : ℕ) {made : Change} (iIs : Known day (serve i)) (jIs : Known day (serve j)) (one_is : Known day (serve one)) (two_is : Known day (serve two))
    (moves : (k : ℕ) → change_stop e k ≡ (if eqb k j then [] else if eqb k i then serve one ∷ serve two ∷ [] else serve k ∷ []))
    (stands : (x : ℕ) → change_tip e t x ≡ empty x ∷ [])
    (f : made ≡ (if eqb w (stop_word j) then Gone else if eqb w (stop_word i) then Two (stop_word one) (stop_word two) else One w)) where
  moved_stop : (k : ℕ) → w ≡ stop_word k → Known day (serve k) → Becomes day e t (serve k) made
  unfolding change
  moved_stop k q n =
      let h : eqb w (stop_word j) ≡ eqb k j = rw q (same_number (stop_word 0) k j) in
      let l : eqb w (stop_word i) ≡ eqb k i = rw q (same_number (stop_word 0) k i) in
      elim (known (eqb k j)) [
        | inl a ↦ makes_as (f ∙ rw (h, a) refl) (moves k ∙ rw a refl) makes_none
        | inr a ↦ elim (known (eqb k i)) [
          | inl b ↦ makes_as (f ∙ rw (h, a, l, b) refl) (moves k ∙ rw (a, b) refl) (makes_two _ _ _ _ (a_stop one one_is) (a_stop two two_is))
          | inr b ↦ makes_as (f ∙ rw (h, a, l, b) (ap One q)) (moves k ∙ rw (a, b) refl) (makes_one _ _ (a_stop k n))
        ]
      ]

  moved_tip : (x : ℕ) → w ≡ tip_word x → Known day (empty x) → Becomes day e t (empty x) made
  unfolding change
  moved_tip x q n =
      let h : eqb w (stop_word j) ≡ false = rw q (tip_no_stop day x j jIs) in
      let l : eqb w (stop_word i) ≡ false = rw q (tip_no_stop day x i iIs) in
      makes_as (f ∙ rw (h, l) (ap One q)) (stands x) (makes_one _ _ (a_tip x n))

  pub moved : (task : Task) → (w ≡ rest_word → ⊥) → w ≡ task_word task → Known day task → Becomes day e t task made
  unfolding task_word
  moved (serve k) r q n = moved_stop k q n
  moved (empty x) r q n = moved_tip x q n
  moved lunch r q n = absurd (r q)

-- two stops interchanged
module _ (day : List ℕ) (i j t w : ℕ) {other : ℕ} (iIs : Known day (serve i)) (jIs : Known day (serve j))
    (f : other ≡ (if eqb w (stop_word i) then stop_word j else if eqb w (stop_word j) then stop_word i else w)) where
  pub swapped : (task : Task) → (w ≡ rest_word → ⊥) → w ≡ task_word task → Known day task → Becomes day (swap i j) t task (One other)
  unfolding task_word change change_stop change_tip
  swapped lunch r q n = absurd (r q)
  swapped (empty x) r q n =
      let h : eqb w (stop_word j) ≡ false = rw q (tip_no_stop day x j jIs) in
      let l : eqb w (stop_word i) ≡ false = rw q (tip_no_stop day x i iIs) in
      makes_as (ap One (f ∙ rw (l, h) q)) refl (makes_one _ _ (a_tip x n))
  swapped (serve k) r q n =
      let h : eqb w (stop_word j) ≡ eqb k j = rw q (same_number (stop_word 0) k j) in
      let l : eqb w (stop_word i) ≡ eqb k i = rw q (same_number (stop_word 0) k i) in
      elim (known (eqb k i)) [
        | inl a ↦ makes_as (ap One (f ∙ rw (l, a) refl)) (rw a refl) (makes_one _ _ (a_stop j jIs))
        | inr a ↦ elim (known (eqb k j)) [
          | inl b ↦ makes_as (ap One (f ∙ rw (l, a, h, b) refl)) (rw (a, b) refl) (makes_one _ _ (a_stop i iIs))
          | inr b ↦ makes_as (ap One (f ∙ rw (l, a, h, b) q)) (rw (a, b) refl) (makes_one _ _ (a_stop k n))
        ]
      ]

-- a tip removed or replaced
module _ (day : List ℕ) (at t w : ℕ) (other : Change) {made : Change} (f : made ≡ (if eqb t at && leb (tip_word 0) w then other else One w)) where
  below : (k : ℕ) → w ≡ stop_word k → Known day (serve k) → made ≡ One w
  unfolding Known
  below k q n = elim (known (eqb t at)) [
    | inl a ↦ let h : leb (tip_word 0) w ≡ false = lt-leb (tip_word 0) w (omega (arith, q, n.1)) in f ∙ rw (a, h) refl
    | inr a ↦ f ∙ rw a refl
  ]

  above : (x : ℕ) → w ≡ tip_word x → made ≡ (if eqb t at then other else One w)
  above x q = let h : leb (tip_word 0) w ≡ true = le-leb (tip_word 0) w (omega (arith, q)) in elim (known (eqb t at)) [ inl a ↦ f ∙ rw (a, h) refl | inr a ↦ f ∙ rw a refl ]

  tipped : (e : Edit) (ts : Round) → ((k : ℕ) → change_stop e k ≡ serve k ∷ []) → ((x : ℕ) → change_tip e t x ≡ (if eqb t at then ts else empty x ∷ [])) → Makes day other ts
      → (task : Task) → (w ≡ rest_word → ⊥) → w ≡ task_word task → Known day task → Becomes day e t task made
  unfolding task_word change
  tipped e ts stops tips m lunch r q n = absurd (r q)
  tipped e ts stops tips m (serve k) r q n = makes_as (below k q n ∙ ap One q) (stops k) (makes_one _ _ (a_stop k n))
  tipped e ts stops tips m (empty x) r q n = elim (known (eqb t at)) [
    | inl a ↦ makes_as (above x q ∙ rw a refl) (tips x ∙ rw a refl) m
    | inr a ↦ makes_as (above x q ∙ rw a (ap One q)) (tips x ∙ rw a refl) (makes_one _ _ (a_tip x n))
  ]

  pub removed : other ≡ Gone → (task : Task) → (w ≡ rest_word → ⊥) → w ≡ task_word task → Known day task → Becomes day (remove at) t task made
  unfolding change_stop change_tip
  removed z = tipped (remove at) [] (λ k. refl) (λ x. refl) (makes_as z refl makes_none)

  pub replaced : (y : ℕ) → other ≡ One (tip_word y) → Known day (empty y) → (task : Task) → (w ≡ rest_word → ⊥) → w ≡ task_word task → Known day task
      → Becomes day (replace at y) t task made
  unfolding change_stop change_tip
  replaced y z m = tipped (replace at y) (empty y ∷ []) (λ k. refl) (λ x. refl) (makes_as z refl (makes_one _ _ (a_tip y m)))

-- a stop moved just before another, and just after
module _ (day : List ℕ) (i j t w : ℕ) {made : Change} (iIs : Known day (serve i)) (jIs : Known day (serve j)) where
  pub moved_before : made ≡ (if eqb w (stop_word j) then Gone else if eqb w (stop_word i) then Two (stop_word j) (stop_word i) else One w)
      → (task : Task) → (w ≡ rest_word → ⊥) → w ≡ task_word task → Known day task → Becomes day (before i j) t task made
  unfolding change_stop change_tip
  moved_before f = moved day (before i j) i j j i t w iIs jIs jIs iIs (λ k. refl) (λ x. refl) f

  pub moved_after : made ≡ (if eqb w (stop_word j) then Gone else if eqb w (stop_word i) then Two (stop_word i) (stop_word j) else One w)
      → (task : Task) → (w ≡ rest_word → ⊥) → w ≡ task_word task → Known day task → Becomes day (after i j) t task made
  unfolding change_stop change_tip
  moved_after f = moved day (after i j) i j i j t w iIs jIs iIs jIs (λ k. refl) (λ x. refl) f
