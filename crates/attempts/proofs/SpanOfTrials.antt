-- The stops that a trial names, where the trial may be made: each stands once at most on each vehicle. Assumes nothing.
use Prim.Native.Nat.{ℕ, ◌+◌, ◌≤◌, ◌<◌}
use mathlib.Core.Path.{◌≡◌}
use mathlib.Core.List.{List, []}
use mathlib.Core.Logic.{inl, inr}
use native.Mathlib.Omega.{arith}
use lib.Dec.{eqb}
use lib.ListN.{length, get_or}
use borrow.Author.Tests.{ne_eqb, eqb-true, eqb-false}
use Rattle.rules.specs.Lists.{times}
use Rattle.rules.specs.Plan.{Round, stops_on}
use Rattle.rules.specs.Edits.{Trial}
use Rattle.laws.proofs.Decided.{known, bit_most}
use Rattle.spans.specs.Span.{Single}
use Rattle.trial_list.specs.Shapes.{StandsOn, On, Valid, moved_before, moved_after, swapped, removed, replaced}
use Rattle.trial_list.proofs.Shapes.{each_vehicle}

module _ {day : List ℕ} {rounds : List Round} (v : ℕ) (l : v < length rounds) where
  -- a stop stands on its own vehicle
  stands_here : {k number : ℕ} → On day rounds k number → StandsOn k number (v + 1) (get_or rounds v [])
  stands_here {k} {number} h = each_vehicle (StandsOn k number) 0 rounds v (v + 1) l (omega arith) h.stands

  at_most_once : {k number : ℕ} → On day rounds k number → times k (stops_on (get_or rounds v [])) ≤ 1
  unfolding StandsOn
  at_most_once {k} {number} h = omega (arith, stands_here h, bit_most (eqb (v + 1) number))

  not_here : {k number : ℕ} → On day rounds k number → (v + 1 ≡ number → ⊥) → times k (stops_on (get_or rounds v [])) ≡ 0
  unfolding StandsOn
  not_here {k} {number} h n = rw (ne_eqb (v + 1) number n) at (stands_here h)

  -- the stops of a trial that may be made
  pub valid_single : {m : Trial} → Valid day rounds m → Single m.edit (eqb (v + 1) m.one) (get_or rounds v [])
  unfolding Single
  valid_single (moved_before i j number n a b) = (at_most_once a, at_most_once b)
  valid_single (moved_after i j number n a b) = (at_most_once a, at_most_once b)
  valid_single (swapped i j number other n d a b) = elim (known (eqb (v + 1) number)) [
    | inl h ↦ rw h (at_most_once a, not_here b (λ q. d (omega (arith, eqb-true (v + 1) number h))))
    | inr h ↦ rw h (at_most_once b, not_here a (eqb-false (v + 1) number h))
  ]
  valid_single (removed at number a b) = tt
  valid_single (replaced at x number k a b) = tt
