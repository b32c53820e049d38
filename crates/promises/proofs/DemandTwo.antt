-- Demand 2: "a plan is called lawful exactly when it has document 01's form, meets its loads and counts, and a timetable exists that meets
-- every window and the rest rule; distance and counts are those of document 01". And the earliest timetable, which is the check's. Assumes nothing.
use Prim.Native.Nat.{ℕ, ◌≤◌}
use mathlib.Core.Path.{◌≡◌, ◌∙◌}
use mathlib.Core.Bool.{false}
use mathlib.Core.List.{List}
use mathlib.Core.Logic.{◌↔◌}
use lib.ListN.{take}
use Rattle.rules.specs.Lists.{Every}
use Rattle.rules.specs.Fields.{opening}
use Rattle.rules.specs.Plan.{Round}
use Rattle.rules.specs.Timetable.{calls, Keeps, IsTimetable, NoLater, IsEarliest, InTime, earliest_minutes}
use Rattle.rules.specs.Lawful.{Timed, Lawful}
use Rattle.rules.specs.Check.{check_plan}
use Rattle.rules.specs.SameRounds.{same_rounds}
use Rattle.laws.proofs.Fresh.{every_weaker}
use Rattle.plan_laws.proofs.Theorems.{lawful_iff, lawful_totals, earliest_only, earliest_is, starts_keep, starts_first, prefix_kept, prefix_first, same_iff, different_iff}
use Rattle.promises.specs.Exactly.{DemandTwo, SaysSame}

-- "called lawful exactly when", and "distance and counts are those of document 01"
pub check_exactly : (day plan answer : List ℕ) → answer ≡ check_plan day plan → DemandTwo day plan answer
check_exactly day plan answer e =
    record { exactly = rw e (lawful_iff day plan); told = λ accepted l. e ∙ lawful_totals day plan accepted l }

-- the earliest minutes of each vehicle of a lawful plan are a timetable of it, at each word no later than any other
pub lawful_earliest : (day plan : List ℕ) (l : Lawful day plan)
    → Every (λ tasks. IsEarliest day tasks (earliest_minutes day (opening day 0) tasks)) l.rounds
lawful_earliest day plan l = every_weaker (Timed day) _ (earliest_is day) l.rounds l.timed

-- minutes are the earliest timetable exactly where there is one and they are these
pub earliest_exactly : (day : List ℕ) (tasks : Round) (minutes : List ℕ)
    → IsEarliest day tasks minutes ↔ (Timed day tasks × (minutes ≡ earliest_minutes day (opening day 0) tasks))
earliest_exactly day tasks minutes = (
  λ e. let timed : Timed day tasks = record { minutes = minutes; kept = e.kept } in (timed, earliest_only day tasks minutes _ e (earliest_is day tasks timed)),
  λ x. rw x.1 (earliest_is day tasks x.0),
)

-- the same of a vehicle that leaves at any minute from E0 on: in time, its earliest minutes are a timetable
pub leaving_earliest : (day : List ℕ) (tasks : Round) (leaves : ℕ) → opening day 0 ≤ leaves → InTime leaves (calls day 0 false tasks)
    → IsTimetable day tasks (earliest_minutes day leaves tasks)
leaving_earliest day tasks leaves h x = record { leaves = leaves; opened = h; kept = starts_keep leaves (calls day 0 false tasks) x }

-- and no timetable with the same or a later leaving is sooner
pub leaving_no_sooner : (day : List ℕ) (tasks : Round) (leaves later : ℕ) (minutes : List ℕ) → leaves ≤ later
    → Keeps later (calls day 0 false tasks) minutes → NoLater (earliest_minutes day leaves tasks) minutes
leaving_no_sooner day tasks leaves later minutes h x = starts_first leaves later (calls day 0 false tasks) minutes h x

-- the same of the first words of a vehicle alone, as many as are in time
pub prefix_earliest : (day : List ℕ) (tasks : Round) (leaves count : ℕ) → InTime leaves (take count (calls day 0 false tasks))
    → Keeps leaves (take count (calls day 0 false tasks)) (take count (earliest_minutes day leaves tasks))
prefix_earliest day tasks leaves count x = prefix_kept count leaves (calls day 0 false tasks) x

pub prefix_no_sooner : (day : List ℕ) (tasks : Round) (leaves later count : ℕ) (minutes : List ℕ) → leaves ≤ later
    → Keeps later (take count (calls day 0 false tasks)) minutes → NoLater (take count (earliest_minutes day leaves tasks)) minutes
prefix_no_sooner day tasks leaves later count minutes h x = prefix_first count leaves later (calls day 0 false tasks) minutes h x

-- same rounds are said exactly of "two lawful plans whose vehicles, in order, visit the same stops in order"
pub same_exactly : (day first second answer : List ℕ) → answer ≡ same_rounds day first second → SaysSame day first second answer
same_exactly day first second answer e = record { same = rw e (same_iff day first second); different = rw e (different_iff day first second) }
