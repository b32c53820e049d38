-- Growing neighbour sets, by computation: a search with one kept trial, and day M. Assumes nothing.
use Rattle.std.specs.Prelude.{if◌then◌else◌}
use Prim.Native.Nat.{ℕ}
use mathlib.Core.Path.{◌≡◌, refl}
use mathlib.Core.Bool.{true, false, ◌&&◌}
use mathlib.Core.List.{[], ◌∷◌, map}
use mathlib.Core.Option.{none, some}
use lib.Dec.{eqb}
use Rattle.rules.specs.Answers.{given, refused}
use Rattle.rules.specs.Search.{Result, run, improve, growing_sets}
use Rattle.rules.specs.Planned.{growing_answer}
use Rattle.rules.proofs.DayM.{day_m}
use Rattle.rules.proofs.LetteredCases.{planning, day_j}

-- each K lists one trial, itself; of plan 1 that of 10 gives plan 0, no other gives a plan
abbrev keeps_ten : (budget : ℕ) → Result ℕ
keeps_ten budget = improve {P = ℕ} {M = ℕ} (λ p. map (λ K. K ∷ []) growing_sets) (λ p m. if eqb p 1 && eqb m 10 then some 0 else none) budget 1

-- 5, 10 which is kept, and again 5, 10, 25, 50
pub record Returns : Type 0 where
  pub settles : keeps_ten 6 ≡ record { plan = 0; trials = 6; settled = true }
  pub one_fewer : keeps_ten 5 ≡ record { plan = 0; trials = 5; settled = false }
  pub just_kept : keeps_ten 2 ≡ record { plan = 0; trials = 2; settled = false }
  pub not_yet : keeps_ten 1 ≡ record { plan = 1; trials = 1; settled = false }

pub returns_to_five : Returns
unfolding run improve
returns_to_five = record { settles = refl; one_fewer = refl; just_kept = refl; not_yet = refl }

-- only 10 and 50 list a trial, which is not kept: "a budget gone just at the end of a list" settles only where every later list is empty too
abbrev some_empty : (budget : ℕ) → Result ℕ
some_empty budget = improve {P = ℕ} {M = ℕ} (λ p. [] ∷ (10 ∷ []) ∷ [] ∷ (50 ∷ []) ∷ []) (λ p m. none) budget 1

pub record Ends : Type 0 where
  pub at_the_last : some_empty 2 ≡ record { plan = 1; trials = 2; settled = true }
  pub at_ten : some_empty 1 ≡ record { plan = 1; trials = 1; settled = false }
  pub at_none : some_empty 0 ≡ record { plan = 1; trials = 0; settled = false }

pub ends_with_the_lists : Ends
unfolding run improve
ends_with_the_lists = record { at_the_last = refl; at_ten = refl; at_none = refl }

-- day M in buffers of ten words: the trials of each K are the same, and count again
pub record Growing : Type 0 where
  pub settles : growing_answer (day_m 100 30 60 60 50) 24 10 10 ≡ given (35 ∷ 24 ∷ 1 ∷ 0 ∷ 7 ∷ [])
  pub one_fewer : growing_answer (day_m 100 30 60 60 50) 23 10 10 ≡ given (35 ∷ 23 ∷ 0 ∷ 0 ∷ 7 ∷ [])
  pub two_vehicles : growing_answer (day_m 79 30 60 60 50) 16 10 10 ≡ given (42 ∷ 16 ∷ 1 ∷ 0 ∷ 10 ∷ [])
  pub left_out : growing_answer (day_m 100 30 60 101 50) 6 10 10 ≡ given (21 ∷ 4 ∷ 1 ∷ 1 ∷ 6 ∷ [])
  pub no_stops : growing_answer day_j 0 10 10 ≡ given (0 ∷ 0 ∷ 1 ∷ 0 ∷ 0 ∷ [])
  pub short : growing_answer (day_m 100 30 60 60 50) 24 9 10 ≡ refused 14 10

pub growing : Growing
unfolding planning growing_answer
growing = record { settles = refl; one_fewer = refl; two_vehicles = refl; left_out = refl; no_stops = refl; short = refl }
