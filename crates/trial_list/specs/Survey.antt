-- Tables of the present plan: where each vehicle's words begin, which vehicle serves each stop, and how far each vehicle drives. It serves
-- the contracts of the functions that make trials. Assumes nothing.
use Rattle.std.specs.Prelude.{ℕ, ◌+◌, ◌≤◌, ◌<◌, ◌≡◌, Bool, true, false, ◌&&◌, Option, Some, None, List, [], eqb, ltb, length, get_or, take, set, if◌then◌else◌}
use Rattle.rules.specs.Lists.{Every, mem}
use Rattle.rules.specs.Fields.{tips, stops, stop_place, leg_distance}
use Rattle.rules.specs.PlanWords.{Word, vehicle, stop, tip, rest, back, left, stray, word_of}
use Rattle.rules.specs.Plan.{Task, serve, empty, lunch, Round, word_for, rounds_words, plan_words, stops_on, Known}
use Rattle.rules.specs.Lawful.{distance_from}
use Rattle.rules.specs.TrialList.{vehicle_of}
use Rattle.laws.specs.Plan.{RoundAt}
use Rattle.trial_list.specs.declared.survey.Driven.{Driven}
use Rattle.trial_list.specs.declared.survey.Ride.{Ride}

-- where vehicles start: the A word of vehicle number v + 1 stands at starts[v], and behind the last vehicle starts says where they end
pub record StartsOf (starts : List ℕ) (rounds : List Round) : Type 0 where
  pub at : (v : ℕ) → v ≤ length rounds → get_or starts v 0 ≡ length (rounds_words 0 (take v rounds))
  pub size : length starts ≡ 256

-- the plan has these vehicles and leaves these stops out, and it is known where they start
pub record Laid (plan starts : List ℕ) (rounds : List Round) (lefts : List ℕ) : Type 0 where
  pub text : plan ≡ plan_words rounds lefts
  pub starting : StartsOf starts rounds

-- vehicle v, counted from 0, has its words in the plan: its A word at starts[v], its E word just before starts[v + 1]
pub record VehicleIn (plan starts : List ℕ) (v : ℕ) : Type 0 where
  pub few : v < 240
  pub table : length starts ≡ 256
  pub order : get_or starts v 0 + 2 ≤ get_or starts (v + 1) 0
  pub inside : get_or starts (v + 1) 0 ≤ length plan

-- the plan has these vehicles and leaves these stops out
pub record PlanOf (day plan : List ℕ) (rounds : List Round) (lefts : List ℕ) : Type 0 where
  pub text : plan ≡ plan_words rounds lefts
  pub known : Every (Every (Known day)) rounds
  pub few : length rounds ≤ 240

-- there are such vehicles
pub record SomePlan (day plan : List ℕ) : Type 0 where
  pub rounds : List Round
  pub lefts : List ℕ
  pub plan_of : PlanOf day plan rounds lefts

-- what the tables say of these vehicles
pub record Surveyed (day : List ℕ) (rounds : List Round) (starts vehicles distances : List ℕ) (count : ℕ) : Type 0 where
  pub counted : count ≡ length rounds
  pub starting : StartsOf starts rounds
  pub routed : (k : ℕ) → 1 ≤ k → k ≤ stops day → get_or vehicles k 0 ≡ vehicle_of rounds k
  pub driven : (v : ℕ) → v < length rounds → get_or distances v 0 ≡ distance_from day 0 (get_or rounds v [])
  pub vehicles_size : length vehicles ≡ 256
  pub distances_size : length distances ≡ 256

-- so they say of whatever vehicles the plan has
abbrev pub SurveysAll : (day plan starts vehicles distances : List ℕ) (count : ℕ) → Type 0
SurveysAll day plan starts vehicles distances count =
    (rounds : List Round) (lefts : List ℕ) → PlanOf day plan rounds lefts → Surveyed day rounds starts vehicles distances count

-- there are such tasks
pub record SomeRound (day plan : List ℕ) (from : ℕ) : Type 0 where
  pub tasks : Round
  pub rest : List ℕ
  pub round_at : RoundAt day plan from tasks rest

-- a number, or the other where it is 0
unfoldable pub first_of : ℕ → ℕ → ℕ
first_of x y = if eqb x 0 then y else x

-- the vehicle of stop k after a vehicle of that number has done its tasks, where it was x before
unfoldable pub vehicle_then : (number : ℕ) → Round → (x k : ℕ) → ℕ
vehicle_then number tasks x k = first_of x (if mem k (stops_on tasks) then number else 0)

-- what is known behind a vehicle's words
pub record Ended (day : List ℕ) (from number : ℕ) (tasks : Round) (before after : List ℕ) (r : Driven) : Type 0 where
  pub ends : r.end ≡ from + length tasks + 1
  pub drives : r.distance ≡ distance_from day 0 tasks
  pub marks : (k : ℕ) → get_or after k 0 ≡ vehicle_then number tasks (get_or before k 0) k

-- so it is for whatever tasks stand there
abbrev pub EndsAll : (day plan : List ℕ) (from number : ℕ) (before after : List ℕ) (r : Driven) → Type 0
EndsAll day plan from number before after r =
    (tasks : Round) (rest : List ℕ) → RoundAt day plan from tasks rest → Ended day from number tasks before after r

-- a vehicle once it has driven to a place, and behind one more task
abbrev pub ride_at : List ℕ → Ride → ℕ → Ride
ride_at day ride place = record { place = place; distance = ride.distance + leg_distance day ride.place place }

abbrev pub ride_then : List ℕ → Ride → Task → Ride
ride_then day ride (serve k) = ride_at day ride (stop_place day k)
ride_then day ride (empty k) = ride_at day ride k
ride_then day ride lunch = ride

-- the vehicles of the stops with that of stop k, where it had none, and behind one more task
abbrev pub vehicles_with : List ℕ → (number k : ℕ) → List ℕ
vehicles_with vehicles number k = if eqb (get_or vehicles k 0) 0 then set vehicles k number else vehicles

abbrev pub vehicles_then : List ℕ → ℕ → Task → List ℕ
vehicles_then vehicles number (serve k) = vehicles_with vehicles number k
vehicles_then vehicles number (empty k) = vehicles
vehicles_then vehicles number lunch = vehicles

-- a stop or a tip that a word names is one of the day's
pub record NamesOf (day : List ℕ) (word : Word) : Type 0 where
  pub stops_in : (k : ℕ) → word ≡ stop k → k ≤ stops day
  pub tips_in : (k : ℕ) → word ≡ tip k → k ≤ tips day

-- what is known behind a word: a task is done, or the vehicle is back
pub record RideBehind (day : List ℕ) (ride : Ride) (number : ℕ) (before after : List ℕ) (word : Word) (result : Option Ride) : Type 0 where
  pub done : (task : Task) → word ≡ word_for task → (result ≡ Some (ride_then day ride task)) × (after ≡ vehicles_then before number task)
  pub home : word ≡ back → (result ≡ None) × (after ≡ before)

-- an A word, and that one stands at a place of the plan
abbrev pub names_vehicle : Word → Bool
names_vehicle (vehicle k) = true
names_vehicle (stop k) = false
names_vehicle (tip k) = false
names_vehicle rest = false
names_vehicle back = false
names_vehicle (left k) = false
names_vehicle stray = false

abbrev pub is_vehicle : List ℕ → ℕ → Bool
is_vehicle plan at = ltb at (length plan) && names_vehicle (word_of (get_or plan at 0))
