-- A fresh vehicle's first task: where there is one the vehicle is written, where there is none it takes no stop.
-- Assumes nothing.
use Rattle.std.specs.Prelude.{Some, None}
use Prim.Native.Nat.{ℕ, ◌*◌, ◌<◌}
use mathlib.Core.Path.{◌≡◌, refl, sym, ap, ◌∙◌}
use mathlib.Core.Bool.{Bool, true, false}
use mathlib.Core.List.{List}
use mathlib.Core.Logic.{inl, inr}
use mathlib.Core.Option.{some-ne-none}
use native.Mathlib.Nat.{eq-zero-or-pos}
use native.Mathlib.Omega.{arith}
use lib.ListN.{length}
use Rattle.rules.specs.Lists.{unmet}
use Rattle.rules.specs.Fields.{stops}
use Rattle.rules.specs.PlanWords.{vehicle_word}
use Rattle.rules.specs.Trip.{leaving}
use Rattle.rules.specs.Home.{due}
use Rattle.rules.specs.Build.{Truck, fresh, resting, one_vehicle}
use Rattle.rules.specs.declared.walk.Cargo.{Cargo}
use Rattle.rules.specs.declared.walk.Trip.{Trip}
use Rattle.marks.specs.declared.Marks.{Marks}
use Rattle.plan_words.proofs.SaidLaws.{said_none}
use Rattle.plan_words.proofs.WordForms.{vehicle_made}
use Rattle.greedy_laws.specs.Reached.{set_out}
use Rattle.greedy_laws.proofs.Driving.{resting_cargo, end_none, reached_end}
use Rattle.greedy_laws.proofs.GreedyRoom.{rested_paid}
use Rattle.greedy_laws.proofs.LeftOut.{idle_none}
use Rattle.greedy_laws.proofs.NextTasks.{next_some}
use Rattle.greedy_laws.proofs.VehicleStops.{rested_routes}
use Rattle.next_task.specs.NextBy.{is_task}
use Rattle.vehicle_writer.specs.Going.{LeftOf, IsReady, SetsOut, WordPut, RestSaid, StartSaid, Going, SomeGoing, SomeLeft, EndsAll, WritesOne}
use Rattle.vehicle_writer.specs.declared.state.Ready.{Ready}
use Rattle.vehicle_writer.specs.declared.writer.Written.{Written}
use Rattle.vehicle_writer.proofs.EndLaws.{home_none}
use Rattle.vehicle_writer.proofs.GoingLaws.{named, next_room, put_said, rest_words}

-- A, and D where a rest is due
pub start_said : (day : List ℕ) {part mid now : List ℕ} {number from at end word : ℕ} {t : Trip} → number < 256 → word ≡ vehicle_word number → from ≡ 0
    → 1 < length part → t ≡ leaving day → WordPut part from word mid at → RestSaid (due day t) mid at now end → StartSaid day number part now end
start_said day {part} {mid} {now} {number} {from} {at} {end} {word} {t} few e none l q w rested = λ before.
    let one = put_said (rw none at w) (said_none part) (vehicle_made number few e) (omega arith) in
    rest_words day number (fresh day before) t one q rested

module _ {day : List ℕ} (before : List ℕ) {r : Ready} (f : IsReady day (resting day (fresh day before)) r) where
  -- a task: there is room for it, and the vehicle takes a stop
  first_room : is_task r.next ≡ true → 2 < 5 * unmet (stops day) before
  first_room e =
      let v = fresh day before in
      let n = named r.next e in
      let next = next_some day (resting day v) n.0 (sym f.next_is ∙ n.1) in
      omega (arith, next_room day before (resting day v) (rested_routes day before v set_out) (rested_paid day before v set_out) n.0 next)

  first_some : is_task r.next ≡ true → 0 < (one_vehicle day before).cargo.visits
  first_some e = elim (eq-zero-or-pos (one_vehicle day before).cargo.visits) [
    | inl z ↦ let n = named r.next e in absurd (some-ne-none n.0 (sym n.1 ∙ f.next_is ∙ idle_none day before z))
    | inr l ↦ l
  ]

  -- no task: the vehicle takes no stop
  first_none : is_task r.next ≡ false → (one_vehicle day before).cargo.visits ≡ 0
  first_none e =
      let v = fresh day before in
      let end : resting day v ≡ one_vehicle day before =
      sym (end_none day v (sym f.next_is ∙ home_none r.next e)) ∙ reached_end day before v set_out in
      ap (λ (u : Truck). u.cargo.visits) (sym end) ∙ ap (λ (c : Cargo). c.visits) (resting_cargo day v)

module _ {day : List ℕ} {left : Marks} {r : Ready} {asked : Bool} (out : SetsOut day left r) (a : asked ≡ is_task r.next) where
  -- there is no task
  pub out_idle : (number : ℕ) (part : List ℕ) → asked ≡ false → WritesOne day left number part part None
  out_idle number part t = λ before h. record { none = first_none before (out before h) (sym a ∙ t); kept = refl }

  -- there is one, and room for the first words
  module _ (t : asked ≡ true) where
    pub out_room : {part : List ℕ} → SomeLeft day part left → 1 < length part
    out_room some = omega (arith, first_room some.before (out some.before some.left_is) (sym a ∙ t), some.room)

    -- with them the vehicle is under way
    module _ {number : ℕ} {part now : List ℕ} {at : ℕ} (start : StartSaid day number part now at) where
      out_going : (before : List ℕ) → LeftOf day before left → Going day before number part now at r
      out_going before h = record { truck = fresh day before; reached = set_out; ready = out before h; text = start before }

      pub out_under_way : SomeLeft day part left → SomeGoing day now at r
      out_under_way some =
          record {
            before = some.before;
            number = number;
            p = part;
            going = out_going some.before some.left_is;
            some = omega (arith, first_room some.before (out some.before some.left_is) (sym a ∙ t));
            room = some.room;
          }

      -- and then it is written, in the part that was lent
      pub out_written : {end back : List ℕ} (w : Written) → EndsAll day now at r end w.left w.words → back ≡ end → WritesOne day left number part back (Some w)
      out_written w ends e = λ before h.
          record { some = first_some before (out before h) (sym a ∙ t); done = rw e (ends before number part (out_going before h)) }
