-- The turns of the loop that writes one vehicle's tasks, and its end: the way back.
-- Assumes nothing.
use Prim.Native.Nat.{ℕ, ◌-◌, ◌*◌, ◌<◌}
use mathlib.Core.Path.{◌≡◌, refl, sym, ◌∙◌, subst}
use mathlib.Core.Bool.{Bool, true, false, true≢false}
use mathlib.Core.List.{List}
use mathlib.Core.Option.{none}
use native.Mathlib.Omega.{arith}
use lib.ListN.{length}
use Rattle.rules.specs.Lists.{unmet}
use Rattle.rules.specs.Fields.{stops}
use Rattle.rules.specs.PlanWords.{back_word}
use Rattle.rules.specs.Build.{Truck, resting, one_vehicle}
use Rattle.laws.proofs.Fresh.{unmet_most}
use Rattle.plan_words.specs.Said.{round_said, Said}
use Rattle.plan_words.proofs.WordForms.{back_form}
use Rattle.greedy_laws.proofs.Driving.{end_none, reached_end}
use Rattle.greedy_laws.proofs.GreedyRoom.{rested_room}
use Rattle.greedy_laws.proofs.VehicleStops.{routes_unmet, rested_routes}
use Rattle.next_task.specs.NextBy.{next_of, is_task}
use Rattle.next_task.specs.declared.tasks.Next.{Next}
use Rattle.next_task.specs.declared.tasks.Next.TheVariants as Nexts
use Rattle.vehicle_writer.specs.Going.{LeftOf, Going, WordPut, SomeGoing, TaskAhead, GoesOn, VehicleDone, EndsAll}
use Rattle.vehicle_writer.specs.declared.state.Ready.{Ready}
use Rattle.vehicle_writer.proofs.GoingLaws.{going_at, put_said}

-- no task is left: the vehicle is at its end
pub home_none : (next : Next) → is_task next ≡ false → next_of next ≡ none
home_none (Nexts.Stop k) e = absurd (true≢false e)
home_none (Nexts.Tip x) e = absurd (true≢false e)
home_none Nexts.Home e = refl

-- room for its way back
module _ {day : List ℕ} {part : List ℕ} {at : ℕ} {r : Ready} (g : SomeGoing day part at r) where
  end_room : at < 5 * unmet (stops day) g.before
  end_room =
      let v = g.going.truck in
      let routes = rested_routes day g.before v g.going.reached in
      let size = (rested_room day g.before v g.going.reached).size in
      omega (arith, going_at g.going, size, routes.visits, routes_unmet day g.before (resting day v) routes, g.some)

going_end : {day before : List ℕ} {number : ℕ} {p part now : List ℕ} {at end : ℕ} {r : Ready} → Going day before number p part at r
    → is_task r.next ≡ false → at < length part → WordPut part at back_word now end → VehicleDone day before number p now r.state.left end
going_end {day} {before} {number} {p} {part} {now} {at} {end} {r} g e l w =
    let v = g.truck in
    let is_end : resting day v ≡ one_vehicle day before =
    sym (end_none day v (sym g.ready.next_is ∙ home_none r.next e)) ∙ reached_end day before v g.reached in
    record {
      text = subst (λ (u : Truck). Said (round_said number u.tasks) p now end) is_end (put_said w g.text back_form l);
      left_is = subst (λ (u : Truck). LeftOf day u.taken r.state.left) is_end g.ready.left_is;
    }

-- some vehicle was under way when the loop began, and each that was is under way now
module _ {day : List ℕ} {old : List ℕ} {from : ℕ} {first : Ready} {part : List ℕ} {at : ℕ} {r : Ready}
    (g : SomeGoing day old from first) (on : GoesOn day old from first part at r) where
  abbrev still : SomeGoing day part at r
  still =
      record {
        before = g.before;
        number = g.number;
        p = g.p;
        going = on g.before g.number g.p g.going;
        some = g.some;
        room = g.room;
      }

  pub still_space : at < length part
  still_space = omega (arith, end_room still, g.room, still.going.text.text.size)

  pub still_few : at < 1280
  still_few = omega (arith, end_room still, unmet_most (stops day) g.before)

  module _ {asked : Bool} (a : asked ≡ is_task r.next) where
    pub still_ahead : asked ≡ true → TaskAhead day part at r
    still_ahead t = record { some = still; task = sym a ∙ t }

    pub still_less : {end : ℕ} → asked ≡ true → at < end → 1280 - end < 1280 - at
    still_less t l = omega (arith, still_few)

    pub still_end : asked ≡ false → {now : List ℕ} {end : ℕ} → WordPut part at back_word now end → EndsAll day old from first now r.state.left end
    still_end t w = λ before number p h. going_end (on before number p h) (sym a ∙ t) still_space w
