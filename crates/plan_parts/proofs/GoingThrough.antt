-- Laws of the walk over a plan's parts: between the words of a vehicle that is out only cargo and trip change. Assumes nothing.
use Rattle.std.specs.Prelude.{Option, Some, None, Ok, IfSome}
use Prim.Native.Nat.{ℕ, ◌+◌, ◌-◌, ◌<◌, ◌≤◌}
use mathlib.Core.Path.{◌≡◌, refl, ap, ◌∙◌}
use mathlib.Core.Bool.{Bool, true, false, not, false≢true}
use mathlib.Core.List.{List}
use native.Mathlib.Omega.{arith}
use lib.ListN.{length, get_or, set}
use borrow.Author.Tests.{not-false}
use Rattle.rules.specs.PlanWords.{Word, vehicle, stop, tip, rest, back, left, stray, word_of}
use Rattle.rules.specs.Fields.{stops}
use Rattle.rules.specs.Cargo.{empty, cargo_after}
use Rattle.rules.specs.Trip.{leaving}
use Rattle.rules.specs.Check.{well_formed, tally_after, start, check_from}
use Rattle.rules.specs.declared.walk.Cargo.{Cargo}
use Rattle.rules.specs.declared.walk.Tally.{Tally}
use Rattle.rules.specs.declared.walk.Trip.{Trip}
use Rattle.word_steps.specs.Steps.{fault_by, Next, StepOf, Within}
use Rattle.word_steps.specs.declared.steps.State.{State}
use Rattle.word_steps.specs.declared.steps.Step.{Step}
use Rattle.plan_parts.specs.Walked.{out_with, end_of, Reached, PartTo, ToldAll}
use Rattle.plan_parts.specs.declared.parts.Part.{Part}
use Rattle.plan_parts.proofs.Reaching.{stop_below, reached_next, reached_vehicle, reached_passed, reached_small, reached_tally, reached_end}

-- a tally with so many stops served
abbrev served_to : Tally → ℕ → Tally
served_to y n = record { inside = true; vehicles = y.vehicles; served = n; left = y.left; last = y.last; distance = y.distance }

-- a word of a vehicle that is out, and out after it: the tally changes by the stops served alone
still_out : (day : List ℕ) (y : Tally) (c : Cargo) (u : Trip) (w : Word) → well_formed day (served_to y (y.served + c.visits)) c w ≡ true
    → (tally_after (served_to y (y.served + c.visits)) u w).inside ≡ true
    → tally_after (served_to y (y.served + c.visits)) u w ≡ served_to y (y.served + (cargo_after day c w).visits)
unfolding well_formed tally_after cargo_after
still_out day y c u (vehicle k) f e = absurd (false≢true f)
still_out day y c u (stop k) f e = ap (served_to y) (omega arith)
still_out day y c u (tip k) f e = refl
still_out day y c u rest f e = refl
still_out day y c u back f e = absurd (false≢true e)
still_out day y c u (left k) f e = absurd (false≢true f)
still_out day y c u stray f e = absurd (false≢true f)

module _ (day plan : List ℕ) (i : ℕ) (y : Tally) (c : Cargo) (t : Trip) (flags : List Bool) (so_far : Reached day plan i (out_with y c t) flags) where
  -- the stops served are few
  pub out_few : length plan ≤ 4096 → i < length plan → y.served + c.visits ≤ 4096
  out_few short h = (reached_small day plan i (out_with y c t) flags so_far short h).tally_small.served

  module _ (s : State) (same : s ≡ out_with y c t) (here : i < length plan) where
    now_far : Reached day plan i s flags
    now_far = rw same so_far

    pub out_small : length plan ≤ 4096 → Within day 4096 s
    out_small short = reached_small day plan i s flags now_far short here

    module _ {r : Step} (task : StepOf (fault_by day flags s (word_of (get_or plan i 0))) day s (word_of (get_or plan i 0)) (Ok r)) where
      pub out_below : r.stop < 256
      out_below = stop_below day plan i s flags now_far here task

      module _ {after : List Bool} (m : after ≡ set flags r.stop true) where
        -- behind the word
        pub out_next : Reached day plan (i + 1) r.state after
        out_next = reached_next day plan i s flags now_far here task m

        -- the vehicle is still out
        pub out_again : not r.state.tally.inside ≡ false → Reached day plan (i + 1) (out_with y r.state.cargo r.state.trip) after
        out_again h = rw tally at whole
          where
            next : Next day (out_with y c t) (word_of (get_or plan i 0)) r
            next = rw same at (reached_passed day plan i s flags now_far here task).0

            formed : well_formed day (served_to y (y.served + c.visits)) c (word_of (get_or plan i 0)) ≡ true
            formed = rw same at (reached_passed day plan i s flags now_far here task).1.formed

            tally : r.state.tally ≡ served_to y (y.served + r.state.cargo.visits)
            tally =
                next.tally_is
                ∙ rw next.cargo_is (still_out day y c _ (word_of (get_or plan i 0)) formed (rw next.tally_is at (not-false _ h)))

            whole : Reached day plan (i + 1) (record { tally = r.state.tally; cargo = r.state.cargo; trip = r.state.trip }) after
            whole = out_next

-- a vehicle that leaves is out, with nothing
sets_out : (y : Tally) → y.inside ≡ true → y ≡ served_to y (y.served + 0)
sets_out y e = ap (λ (b : Bool). record { inside = b; vehicles = y.vehicles; served = y.served; left = y.left; last = y.last; distance = y.distance }) e ∙ ap (served_to y) (omega arith)

module _ (day plan : List ℕ) (i : ℕ) (s : State) (flags : List Bool) (so_far : Reached day plan i s flags) (here : i < length plan) where
  module _ (x : Word) {r : Step} (word : word_of (get_or plan i 0) ≡ x) (first : StepOf (fault_by day flags s x) day s x (Ok r)) where
    step : StepOf (fault_by day flags s (word_of (get_or plan i 0))) day s (word_of (get_or plan i 0)) (Ok r)
    step = rw word first

    pub part_below : r.stop < 256
    part_below = stop_below day plan i s flags so_far here step

    pub part_next : {after : List Bool} → after ≡ set flags r.stop true → Reached day plan (i + 1) r.state after
    part_next m = reached_next day plan i s flags so_far here step m

  pub part_out : (k : ℕ) {r : Step} → word_of (get_or plan i 0) ≡ vehicle k
      → StepOf (fault_by day flags s (vehicle k)) day s (vehicle k) (Ok r)
      → Reached day plan (i + 1) (out_with r.state.tally empty (leaving day)) flags
  unfolding tally_after cargo_after
  part_out k {r} word first = rw (next.cargo_is, next.trip_is, sets_out r.state.tally (rw next.tally_is)) at whole
    where
      next : Next day s (vehicle k) r
      next = first.next_is

      whole : Reached day plan (i + 1) (record { tally = r.state.tally; cargo = r.state.cargo; trip = r.state.trip }) flags
      whole = reached_vehicle day plan i s flags so_far here (step (vehicle k) word first) k word

-- at the plan's end
pub told_end : (day plan : List ℕ) (i : ℕ) (s : State) (flags : List Bool) → Reached day plan i s flags → i ≤ length plan → length plan ≤ i
    → length plan ≤ 4096 → ToldAll day plan s.tally
told_end day plan i s flags so_far most least short =
    let end : length plan ≡ i = omega arith in
    record {
      small = reached_tally day plan i s flags so_far short most;
      same = rw end (reached_end day plan i s flags _ _ so_far least refl refl);
    }

-- as a vehicle leaves
pub out_start : (day plan : List ℕ) (i : ℕ) (y : Tally) (c : Cargo) (t : Trip) (flags : List Bool) → c ≡ empty → t ≡ leaving day
    → Reached day plan i (out_with y empty (leaving day)) flags → Reached day plan i (out_with y c t) flags
out_start day plan i y c t flags e f so_far = rw (e, f) so_far

-- behind a part
pub part_less : (day plan : List ℕ) (met : List Bool) (i : ℕ) {r : Part} → PartTo day plan met i r → length plan - r.end < length plan - i
part_less day plan met i p = omega (arith, p.more, p.most)
