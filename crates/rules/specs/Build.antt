-- The greedy build: document 01, "Greedy build", steps 1 to 5. Assumes nothing.
use Rattle.std.specs.Prelude.{ℕ, zero, suc, ◌+◌, ◌*◌, Bool, true, false, ◌||◌, List, [], ◌∷◌, ◌++◌, ltb, eqb, if◌then◌else◌}
use Rattle.std.proofs.Math.Option.{Option, none, some}
use Rattle.rules.specs.Lists.{mem}
use Rattle.rules.specs.Fields.{stops}
use Rattle.rules.specs.Plan.{Task, serve, empty, lunch, Round, plan_words, word_for}
use Rattle.rules.specs.Cargo.{cargo_after}
use Rattle.rules.specs.Cargo as Carried
use Rattle.rules.specs.Trip.{leaving, trip_after}
use Rattle.rules.specs.Check.{met_after}
use Rattle.rules.specs.Home.{nearest_tip, due, rest_if_due}
use Rattle.rules.specs.Choice.{nearest_stop, earliest_stop, chosen_stop, takeable, waitable}
use Rattle.rules.specs.declared.walk.Cargo.{Cargo}
use Rattle.rules.specs.declared.walk.Trip.{Trip}

-- a vehicle on its way: where and when it is, what it carries, the stops routed so far by any vehicle, and what it has done
pub record Truck : Type 0 where
  pub trip : Trip
  pub cargo : Cargo
  pub taken : List ℕ
  pub tasks : Round

-- "1. Fresh vehicle: T = E0, empty, at the depot"
abbrev pub fresh : List ℕ → List ℕ → Truck
fresh day taken = record { trip = leaving day; cargo = Carried.empty; taken = taken; tasks = [] }

-- the vehicle does a task
abbrev pub doing : List ℕ → Truck → Task → Truck
doing day v task =
    record {
      trip = trip_after day v.trip (word_for task);
      cargo = cargo_after day v.cargo (word_for task);
      taken = met_after v.taken (word_for task);
      tasks = v.tasks ++ (task ∷ []);
    }

-- "2. Rest if due"
unfoldable pub resting : List ℕ → Truck → Truck
resting day v = if due day v.trip then doing day v lunch else v

-- a stop that was chosen is served; 0 chooses none
unfoldable pub serving : ℕ → Option Task
serving k = if eqb k 0 then none else some (serve k)

-- "4. Load > 0: drive to n(r,T), empty"
unfoldable pub emptying : ℕ → Option Task
emptying x = if eqb x 0 then none else some (empty x)

-- steps 3, 4 and 5, in this order; none: "go back to the depot"
unfoldable pub next_task : List ℕ → Truck → Option Task
next_task day v =
    if ltb 0 (chosen_stop day v.trip v.cargo (nearest_stop day v.trip v.cargo v.taken))
    then serving (chosen_stop day v.trip v.cargo (nearest_stop day v.trip v.cargo v.taken))
    else if ltb 0 v.cargo.load then emptying (nearest_tip day v.trip.place v.trip.minute)
    else serving (earliest_stop day v.trip v.cargo v.taken)

-- the vehicle goes on, at most so many tasks besides the rest, until there is none left
unfoldable pub drive : List ℕ → ℕ → Truck → Truck
drive day zero v = v
drive day (suc most) v = elim (next_task day (resting day v)) [ none ↦ resting day v | some task ↦ drive day most (doing day (resting day v) task) ]

-- one vehicle: each stop, and each tip behind a load, is a task, so 2n + 2 are enough
unfoldable pub one_vehicle : List ℕ → List ℕ → Truck
one_vehicle day taken = drive day (2 * stops day + 2) (fresh day taken)

-- the vehicles, at most so many: "a fresh vehicle that takes none is not written"
unfoldable pub fleet : List ℕ → ℕ → List ℕ → List Round
fleet day zero taken = []
fleet day (suc most) taken =
    elim (eqb (one_vehicle day taken).cargo.visits 0) [ true ↦ [] | false ↦ (one_vehicle day taken).tasks ∷ fleet day most (one_vehicle day taken).taken ]

-- the stops that these vehicles route
unfoldable pub routed : List ℕ → ℕ → List ℕ → List ℕ
routed day zero taken = taken
routed day (suc most) taken =
    elim (eqb (one_vehicle day taken).cargo.visits 0) [ true ↦ taken | false ↦ routed day most (one_vehicle day taken).taken ]

-- "all that remain become F words": those of the r numbers from k on that are not routed, rising
unfoldable pub remaining : List ℕ → ℕ → ℕ → List ℕ
remaining taken k zero = []
remaining taken k (suc r) = if mem k taken then remaining taken (suc k) r else k ∷ remaining taken (suc k) r

-- each vehicle that is written takes a stop, so n + 1 are enough
abbrev pub greedy_rounds : List ℕ → List Round
greedy_rounds day = fleet day (stops day + 1) []

abbrev pub greedy_lefts : List ℕ → List ℕ
greedy_lefts day = remaining (routed day (stops day + 1) []) 1 (stops day)

-- "the plan so written is the greedy plan"
unfoldable pub greedy_plan : List ℕ → List ℕ
greedy_plan day = plan_words (greedy_rounds day) (greedy_lefts day)

-- "a fresh vehicle could take a stop first if, after step 2 at the depot, step 3's or step 5's conditions hold for it"
unfoldable pub could_take_first : List ℕ → ℕ → Bool
could_take_first day k = takeable day (rest_if_due day (leaving day)) Carried.empty k || waitable day (rest_if_due day (leaving day)) Carried.empty k
