-- What a trial changes in the distance: that of the vehicles it touches, and of no other. Assumes nothing.
use Rattle.std.specs.Prelude.{if◌then◌else◌}
use Prim.Native.Nat.{ℕ, zero, suc, ◌+◌, ◌≤◌, ◌<◌}
use mathlib.Core.Path.{◌≡◌, refl, sym, ap, ◌∙◌}
use mathlib.Core.Bool.{Bool, false, ◌||◌}
use mathlib.Core.List.{List, [], ◌∷◌}
use mathlib.Core.Logic.{inl, inr}
use mathlib.Core.Option.{some, some-injective}
use native.Mathlib.Omega.{arith}
use lib.Dec.{eqb}
use lib.ListN.{length, get_or}
use borrow.Author.Tests.{eq-eqb, ne_eqb, eqb-true}
use Rattle.rules.specs.Lists.{total}
use Rattle.rules.specs.Plan.{Round}
use Rattle.rules.specs.Lawful.{distance_from}
use Rattle.rules.specs.Edits.{Trial, touches}
use Rattle.rules.specs.Attempts.{retried, tried_from, distance_of}
use Rattle.laws.proofs.Decided.{known}
use Rattle.candidates.proofs.RoundLists.{joined_both}

-- the vehicles' numbers that pass a test, their distances summed
unfoldable pub driven_by : List ℕ → (ℕ → Bool) → ℕ → List Round → ℕ
driven_by day f from [] = 0
driven_by day f from (tasks ∷ rounds) = (if f (suc from) then distance_from day 0 tasks else 0) + driven_by day f (suc from) rounds

module _ (day : List ℕ) (m : Trial) where
  -- a vehicle that is not touched drives what it drove
  one_gain : (number : ℕ) (tasks first : Round) → retried day m number tasks ≡ some first
      → distance_from day 0 first + (if touches m number then distance_from day 0 tasks else 0) ≡ distance_from day 0 tasks + (if touches m number then distance_from day 0 first else 0)
  unfolding retried
  one_gain number tasks first e = elim (known (touches m number)) [
    | inl y ↦ rw y (omega arith)
    | inr n ↦ let same : tasks ≡ first = some-injective _ _ (rw n at e) in rw (n, same) refl
  ]

  -- so do all others
  pub gain : (from : ℕ) (rounds q : List Round) → tried_from day m from rounds ≡ some q
      → distance_of day q + driven_by day (touches m) from rounds ≡ distance_of day rounds + driven_by day (touches m) from q
  unfolding tried_from distance_of total driven_by
  gain from [] q e = rw (sym (some-injective _ _ e)) refl
  gain from (tasks ∷ rounds) q e =
      let b = joined_both (retried day m (suc from) tasks) (tried_from day m (suc from) rounds) q e in
      rw b.whole (omega (arith, gain (suc from) rounds b.others b.others_are, one_gain (suc from) tasks b.first b.first_is))

  -- as many vehicles
  pub tried_length : (from : ℕ) (rounds q : List Round) → tried_from day m from rounds ≡ some q → length q ≡ length rounds
  unfolding tried_from
  tried_length from [] q e = ap length (sym (some-injective _ _ e))
  tried_length from (tasks ∷ rounds) q e =
      let b = joined_both (retried day m (suc from) tasks) (tried_from day m (suc from) rounds) q e in
      ap length b.whole ∙ ap suc (tried_length (suc from) rounds b.others b.others_are)

  -- each vehicle is what the trial makes of it
  pub tried_at : (from v n : ℕ) (rounds q : List Round) → tried_from day m from rounds ≡ some q → v < length rounds → n ≡ from + v + 1
      → retried day m n (get_or rounds v []) ≡ some (get_or q v [])
  unfolding tried_from
  tried_at from v n [] q e l k = absurd (omega arith)
  tried_at from zero n (tasks ∷ rounds) q e l k =
      let b = joined_both (retried day m (suc from) tasks) (tried_from day m (suc from) rounds) q e in
      let first : n ≡ suc from = omega arith in
      rw (first, b.whole) b.first_is
  tried_at from (suc v) n (tasks ∷ rounds) q e l k =
      let b = joined_both (retried day m (suc from) tasks) (tried_from day m (suc from) rounds) q e in
      rw b.whole (tried_at (suc from) v n rounds b.others b.others_are (omega arith) (omega arith))

-- one vehicle, and two
driven_none : (day : List ℕ) (n from : ℕ) (rounds : List Round) → n ≤ from → driven_by day (λ k. eqb k n) from rounds ≡ 0
unfolding driven_by
driven_none day n from [] l = refl
driven_none day n from (tasks ∷ rounds) l = rw (ne_eqb (suc from) n (λ q. omega arith)) (omega (arith, driven_none day n (suc from) rounds (omega arith)))

driven_at : (day : List ℕ) (from v n : ℕ) (rounds : List Round) → v < length rounds → n ≡ from + v + 1
    → driven_by day (λ k. eqb k n) from rounds ≡ distance_from day 0 (get_or rounds v [])
unfolding driven_by
driven_at day from v n [] l e = absurd (omega arith)
driven_at day from zero n (tasks ∷ rounds) l e = rw (eq-eqb (suc from) n (omega arith)) (omega (arith, driven_none day n (suc from) rounds (omega arith)))
driven_at day from (suc v) n (tasks ∷ rounds) l e =
    rw (ne_eqb (suc from) n (λ q. omega arith)) (omega (arith, driven_at day (suc from) v n rounds (omega arith) (omega arith)))

driven_two : (day : List ℕ) (a b from : ℕ) (rounds : List Round) → (a ≡ b → ⊥)
    → driven_by day (λ k. eqb k a || eqb k b) from rounds ≡ driven_by day (λ k. eqb k a) from rounds + driven_by day (λ k. eqb k b) from rounds
unfolding driven_by
driven_two day a b from [] n = refl
driven_two day a b from (tasks ∷ rounds) n = elim (known (eqb (suc from) a)) [
  | inl y ↦
      let e : eqb (suc from) b ≡ false = ne_eqb (suc from) b (λ q. n (sym (eqb-true _ _ y) ∙ q)) in rw (y, e) (omega (arith, driven_two day a b (suc from) rounds n))
  | inr z ↦ rw z (omega (arith, driven_two day a b (suc from) rounds n))
]

driven_same : (day : List ℕ) (a from : ℕ) (rounds : List Round) → driven_by day (λ k. eqb k a || eqb k a) from rounds ≡ driven_by day (λ k. eqb k a) from rounds
unfolding driven_by
driven_same day a from [] = refl
driven_same day a from (tasks ∷ rounds) = elim (known (eqb (suc from) a)) [
  | inl y ↦ rw y (omega (arith, driven_same day a (suc from) rounds))
  | inr z ↦ rw z (omega (arith, driven_same day a (suc from) rounds))
]

-- of a plan's vehicles, one or two are touched
module _ (day : List ℕ) (m : Trial) (rounds : List Round) where
  pub driven_one : (v : ℕ) → v < length rounds → m.one ≡ v + 1 → m.other ≡ v + 1 → driven_by day (touches m) 0 rounds ≡ distance_from day 0 (get_or rounds v [])
  unfolding touches
  driven_one v l e f = rw (e, f) (driven_same day (v + 1) 0 rounds ∙ driven_at day 0 v (v + 1) rounds l (omega arith))

  pub driven_pair : (v u : ℕ) → v < length rounds → u < length rounds → m.one ≡ v + 1 → m.other ≡ u + 1 → (v ≡ u → ⊥)
      → driven_by day (touches m) 0 rounds ≡ distance_from day 0 (get_or rounds v []) + distance_from day 0 (get_or rounds u [])
  unfolding touches
  driven_pair v u l k e f n =
      rw (e, f)
      (omega (
        arith,
        driven_two day (v + 1) (u + 1) 0 rounds (λ q. n (omega arith)),
        driven_at day 0 v (v + 1) rounds l (omega arith),
        driven_at day 0 u (u + 1) rounds k (omega arith),
      ))
