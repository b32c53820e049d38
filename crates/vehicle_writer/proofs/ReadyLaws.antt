-- A vehicle that has rested if due, with its next task before it: the code's state is that of the vehicle that the build reaches.
-- Assumes nothing.
use Prim.Native.Nat.{ℕ}
use mathlib.Core.Path.{◌≡◌, sym, ap, ◌∙◌, subst}
use mathlib.Core.List.{List}
use Rattle.rules.specs.Cargo as Carried
use Rattle.rules.specs.Trip.{leaving}
use Rattle.rules.specs.Home.{rest_if_due}
use Rattle.rules.specs.Build.{Truck, fresh, resting}
use Rattle.rules.specs.declared.walk.Cargo.{Cargo}
use Rattle.rules.specs.declared.walk.Trip.{Trip}
use Rattle.laws.specs.Marks.{marked}
use Rattle.marks.specs.declared.Marks.{Marks}
use Rattle.greedy_laws.proofs.Driving.{resting_trip, resting_cargo, resting_taken}
use Rattle.next_task.specs.NextBy.{next_by}
use Rattle.next_task.proofs.TaskLaws.{next_is_lem}
use Rattle.vehicle_writer.specs.Done.{MadeReady}
use Rattle.vehicle_writer.specs.Going.{LeftOf, IsReady, SetsOut}
use Rattle.vehicle_writer.specs.declared.state.State.{State}
use Rattle.vehicle_writer.specs.declared.state.Ready.{Ready}

pub ready_is : {day : List ℕ} (v : Truck) {s : State} {r : Ready} → s.trip ≡ v.trip → s.cargo ≡ v.cargo
    → LeftOf day v.taken s.left → MadeReady day s r → IsReady day (resting day v) r
ready_is {day} v {s} {r} t c l m =
    let trip_is : r.state.trip ≡ (resting day v).trip = m.rested.trip ∙ ap (rest_if_due day) t ∙ sym (resting_trip day v) in
    let cargo_is : r.state.cargo ≡ (resting day v).cargo = m.rested.cargo ∙ c ∙ sym (resting_cargo day v) in
    let left_is : LeftOf day (resting day v).taken r.state.left =
    subst (λ (ks : List ℕ). LeftOf day ks r.state.left) (sym (resting_taken day v)) (subst (LeftOf day v.taken) (sym m.rested.left) l) in
    record {
      trip_is = trip_is;
      cargo_is = cargo_is;
      left_is = left_is;
      next_is =
          m.next_is
          ∙ ap (λ (y : Trip). next_by day y r.state.cargo (marked r.state.left.words)) trip_is
          ∙ ap (λ (y : Cargo). next_by day (resting day v).trip y (marked r.state.left.words)) cargo_is
          ∙ ap (next_by day (resting day v).trip (resting day v).cargo) left_is.are
          ∙ next_is_lem day (resting day v);
      next_in = m.next_in;
    }

-- a fresh vehicle, whatever stops were routed that leave these marks
pub fresh_ready : {day : List ℕ} {left : Marks} {s : State} {r : Ready} → s.trip ≡ leaving day → s.cargo ≡ Carried.empty
    → s.left ≡ left → MadeReady day s r → SetsOut day left r
fresh_ready {day} t c l m = λ before h. ready_is (fresh day before) t c (subst (LeftOf day before) (sym l) h) m
