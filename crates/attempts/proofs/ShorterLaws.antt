-- A trial whose touched vehicles drive no less than before gives no lawful, shorter plan. Assumes nothing.
use Rattle.std.specs.Prelude.{Some, None}
use Prim.Native.Nat.{ℕ, ◌+◌, ◌-◌, ◌≤◌, ◌<◌}
use mathlib.Core.Path.{◌≡◌, refl, sym, ap, ◌∙◌}
use mathlib.Core.Bool.{true, false}
use mathlib.Core.List.{List, []}
use mathlib.Core.Logic.{inl, inr}
use mathlib.Core.Option.{none, some, some-injective}
use native.Mathlib.Omega.{arith}
use lib.Dec.{ltb, eqb}
use lib.ListN.{length, get_or}
use borrow.Author.Tests.{le-ltb, eq-eqb, ltb-false}
use Rattle.rules.specs.Fields.{IsAccepted}
use Rattle.rules.specs.Plan.{Round}
use Rattle.rules.specs.Lawful.{distance_from}
use Rattle.rules.specs.Build.{greedy_lefts}
use Rattle.rules.specs.Edits.{Trial, touches, changed}
use Rattle.rules.specs.Attempts.{walked_again, retried, tried, distance_of, kept_if, attempt}
use Rattle.laws.proofs.Decided.{known, known_option}
use Rattle.day.proofs.Ranges.{accepted_ranges}
use Rattle.trial_list.specs.Shapes.{Valid, moved_before, moved_after, swapped, removed, replaced}
use Rattle.candidates.proofs.NextRounds.{few_vehicles, plan_short, vehicle_stands}
use Rattle.candidates.proofs.RoundLists.{tried_fails}
use Rattle.tracks.specs.Measure.{DrivesAgain}
use Rattle.tracks.specs.declared.plan_tables.Tables.{Tables}
use Rattle.attempts.specs.Tries.{Numbers, SomeTouched, Retries, Measured, SomeMeasured, SomeMade}
use Rattle.attempts.proofs.Gains.{gain, tried_at, driven_one, driven_pair, tried_length}

-- none is kept where the trial fails, or its plan is no shorter
pub attempt_failed : (day lefts : List ℕ) (rounds : List Round) (m : Trial) → tried day rounds m ≡ none → attempt day lefts rounds m ≡ none
unfolding attempt kept_if
attempt_failed day lefts rounds m e = rw e refl

attempt_longer : (day lefts : List ℕ) (rounds : List Round) (m : Trial)
    → ((q : List Round) → tried day rounds m ≡ some q → distance_of day rounds ≤ distance_of day q)
    → attempt day lefts rounds m ≡ none
unfolding attempt kept_if
attempt_longer day lefts rounds m h = elim (known_option (tried day rounds m)) [
  | inl e ↦ rw e refl
  | inr x ↦ rw (x.1, le-ltb (distance_of day x.0) (distance_of day rounds) (h x.0 x.1)) refl
]

-- the numbers of the vehicles that a trial touches, and that they are touched
pub valid_numbers : (day : List ℕ) (rounds : List Round) (m : Trial) → Valid day rounds m → Numbers rounds m
valid_numbers day rounds m (moved_before i j number n a b) = record { first_one = a.first; last_one = a.within; first_other = a.first; last_other = a.within }
valid_numbers day rounds m (moved_after i j number n a b) = record { first_one = a.first; last_one = a.within; first_other = a.first; last_other = a.within }
valid_numbers day rounds m (swapped i j number other n k a b) = record { first_one = a.first; last_one = a.within; first_other = b.first; last_other = b.within }
valid_numbers day rounds m (removed at number f l) = record { first_one = f; last_one = l; first_other = f; last_other = l }
valid_numbers day rounds m (replaced at x number k f l) = record { first_one = f; last_one = l; first_other = f; last_other = l }

-- which vehicles are touched
pub touches_one : (m : Trial) (n : ℕ) → n ≡ m.one → touches m n ≡ true
unfolding touches
touches_one m n e = rw (eq-eqb n m.one e) refl

pub touches_other : (m : Trial) (n : ℕ) → n ≡ m.other → touches m n ≡ true
unfolding touches
touches_other m n e = elim (known (eqb n m.one)) [ inl y ↦ rw y refl | inr z ↦ rw (z, eq-eqb n m.other e) refl ]

-- a touched vehicle in the plan that a trial gives
module _ (day : List ℕ) (m : Trial) (rounds : List Round) (v : ℕ) (l : v < length rounds) (y : touches m (v + 1) ≡ true) where
  again_is : retried day m (v + 1) (get_or rounds v []) ≡ walked_again day (changed m.edit 0 (get_or rounds v []))
  unfolding retried
  again_is = rw y refl

  pub retry_fails : DrivesAgain day (changed m.edit 0 (get_or rounds v [])) None → tried day rounds m ≡ none
  retry_fails w = tried_fails day m rounds v l (again_is ∙ w)

  pub retry_drives : {distance : ℕ} → DrivesAgain day (changed m.edit 0 (get_or rounds v [])) (Some distance) → (q : List Round) → tried day rounds m ≡ some q
      → distance ≡ distance_from day 0 (get_or q v [])
  retry_drives a q e =
      let same : a.done ≡ get_or q v [] = some-injective _ _ (sym a.is ∙ sym again_is ∙ tried_at day m 0 v (v + 1) rounds q e l (omega arith)) in
      a.drives ∙ ap (distance_from day 0) same

-- a vehicle of the plan that the trial touches, counted from 0
record IsTouched (rounds : List Round) (m : Trial) (v : ℕ) : Type 0 where
  pub inside : v < length rounds
  pub touched : touches m (v + 1) ≡ true

module _ {rounds : List Round} {m : Trial} (n : Numbers rounds m) where
  one_touched : IsTouched rounds m (m.one - 1)
  one_touched = record { inside = omega (arith, n.first_one, n.last_one); touched = touches_one m (m.one - 1 + 1) (omega (arith, n.first_one)) }

  other_touched : IsTouched rounds m (m.other - 1)
  other_touched = record { inside = omega (arith, n.first_other, n.last_other); touched = touches_other m (m.other - 1 + 1) (omega (arith, n.first_other)) }

-- as the code asks for it
module _ {day plan : List ℕ} {tables : Tables} {m : Trial} (ok : IsAccepted day) where
  pub some_measured : {count distance : ℕ} → SomeMade day plan tables m count distance → SomeMeasured day plan tables m
  some_measured s =
      let t = s.made.measured.trying in
      record {
        rounds = s.rounds;
        measured = s.made.measured;
        numbers = valid_numbers day s.rounds m t.valid;
        few = omega (arith, few_vehicles t, (accepted_ranges day ok).stops_most);
      }

  some_touched : (s : SomeMeasured day plan tables m) {v : ℕ} → IsTouched s.rounds m v → SomeTouched day plan tables m v
  some_touched s i =
      let t = s.measured.trying in
      record {
        rounds = s.rounds;
        trying = t;
        tracked = s.measured.tracked;
        inside = i.inside;
        touched = i.touched;
        vehicle = vehicle_stands t ok i.inside;
        short = omega (arith, plan_short t, (accepted_ranges day ok).stops_most);
      }

  pub some_one : SomeMeasured day plan tables m → SomeTouched day plan tables m (m.one - 1)
  some_one s = some_touched s (one_touched s.numbers)

  pub some_other : SomeMeasured day plan tables m → SomeTouched day plan tables m (m.other - 1)
  some_other s = some_touched s (other_touched s.numbers)

-- what the walks of the touched vehicles say of a plan held
module _ {day plan : List ℕ} {tables : Tables} {m : Trial} {rounds : List Round} (h : Measured day plan tables m rounds) where
  numbers : Numbers rounds m
  numbers = valid_numbers day rounds m h.trying.valid

  failed_at : {v : ℕ} → IsTouched rounds m v → Retries day plan tables m v None → attempt day (greedy_lefts day) rounds m ≡ none
  failed_at i f =
      attempt_failed day (greedy_lefts day) rounds m (retry_fails day m rounds _ i.inside i.touched (f rounds h.trying h.tracked i.inside i.touched))

  drives_at : {v distance : ℕ} → IsTouched rounds m v → Retries day plan tables m v (Some distance)
      → (q : List Round) → tried day rounds m ≡ some q → distance ≡ distance_from day 0 (get_or q v [])
  drives_at i f = retry_drives day m rounds _ i.inside i.touched (f rounds h.trying h.tracked i.inside i.touched)

  -- the trial fails on one of them
  pub one_failed : Retries day plan tables m (m.one - 1) None → attempt day (greedy_lefts day) rounds m ≡ none
  one_failed = failed_at (one_touched numbers)

  pub other_failed : Retries day plan tables m (m.other - 1) None → attempt day (greedy_lefts day) rounds m ≡ none
  other_failed = failed_at (other_touched numbers)

  -- one vehicle drives no less, or two do
  pub one_longer : {distance : ℕ} → Retries day plan tables m (m.one - 1) (Some distance) → m.one ≡ m.other
      → ltb distance (get_or tables.distances (m.one - 1) 0) ≡ false → attempt day (greedy_lefts day) rounds m ≡ none
  one_longer {distance} f e d =
      let v = m.one - 1 in
      let i = one_touched numbers in
      let a : m.one ≡ v + 1 = omega (arith, numbers.first_one) in
      let b : m.other ≡ v + 1 = sym e ∙ a in
      attempt_longer day (greedy_lefts day) rounds m
      (λ q s. omega (
        arith,
        ltb-false distance (get_or tables.distances v 0) d,
        h.driven v i.inside,
        drives_at i f q s,
        gain day m 0 rounds q s,
        driven_one day m rounds v i.inside a b,
        driven_one day m q v (omega (arith, i.inside, tried_length day m 0 rounds q s)) a b,
      ))

  pub both_longer : {first second : ℕ} → Retries day plan tables m (m.one - 1) (Some first) → (m.one ≡ m.other → ⊥) → Retries day plan tables m (m.other - 1) (Some second)
      → {a b x y : ℕ} → a ≡ first → b ≡ second → x ≡ get_or tables.distances (m.one - 1) 0 → y ≡ get_or tables.distances (m.other - 1) 0 → ltb (a + b) (x + y) ≡ false
      → attempt day (greedy_lefts day) rounds m ≡ none
  both_longer f e k {a} {b} {x} {y} p q ex ey d =
      let v = m.one - 1 in
      let u = m.other - 1 in
      let i = one_touched numbers in
      let j = other_touched numbers in
      let one : m.one ≡ v + 1 = omega (arith, numbers.first_one) in
      let other : m.other ≡ u + 1 = omega (arith, numbers.first_other) in
      let apart : v ≡ u → ⊥ = λ z. e (one ∙ ap (λ (w : ℕ). w + 1) z ∙ sym other) in
      attempt_longer day (greedy_lefts day) rounds m
      (λ w s. omega (
        arith,
        p,
        q,
        ex,
        ey,
        ltb-false (a + b) (x + y) d,
        h.driven v i.inside,
        h.driven u j.inside,
        drives_at i f w s,
        drives_at j k w s,
        gain day m 0 rounds w s,
        driven_pair day m rounds v u i.inside j.inside one other apart,
        driven_pair day m w v u (omega (arith, i.inside, tried_length day m 0 rounds w s)) (omega (arith, j.inside, tried_length day m 0 rounds w s)) one other apart,
      ))
