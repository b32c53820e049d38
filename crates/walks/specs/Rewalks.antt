-- A vehicle's words, what an edit makes of them and how they are walked again, as the code has it. It serves the contracts of the functions
-- that make trials. Assumes nothing.
use Rattle.std.specs.Prelude.{ℕ, ◌+◌, ◌*◌, ◌≤◌, ◌≡◌, List, [], ◌∷◌, map, length, drop, Option, Some, None}
use Rattle.std.proofs.Math.Option as maybe
use Rattle.std.proofs.Math.Option.{none, some}
use Rattle.rules.specs.Lists.{Every}
use Rattle.rules.specs.Fields.{leg_distance}
use Rattle.rules.specs.Plan.{Task, Round, task_word, round_words, stops_on, Known}
use Rattle.rules.specs.Lawful.{distance_from}
use Rattle.rules.specs.Build.{Truck, fresh}
use Rattle.rules.specs.Edits.{Edit, change, changed}
use Rattle.rules.specs.Attempts.{walk_on, walk_home, walked_again}
use Rattle.laws.specs.Buffer.{Wrote}
use Rattle.edits.specs.declared.Change.{Change}
use Rattle.edits.specs.EditWords.{Means, Makes}
use Rattle.walks.specs.Cabs.{Start, at_depot, Standing, Stands, SomeStanding, Drives}
use Rattle.walks.specs.declared.cabs.Cab.{Cab}
use Rattle.walks.specs.declared.vehicle.Walked.{Walked}

-- each vehicle that may serve their stops has walked these tasks
abbrev pub Walks : List ℕ → List ℕ → Cab → Round → List ℕ → Option Cab → Type 0
Walks day part c tasks now r = Drives day (length (stops_on tasks)) part c (λ v. walk_on day tasks (some v)) now r

-- the tasks that a word stands for: a stop's or a tip's one, and of word 0 none
pub data MeansTasks (day : List ℕ) : ℕ → Round → Type 0 where
  nothing : MeansTasks day 0 []
  one_task : (w : ℕ) (task : Task) → Means day w task → MeansTasks day w (task ∷ [])

-- a vehicle or a failed trial, with a word before it
pub record SomeWord (day part : List ℕ) (c : Option Cab) (w : ℕ) : Type 0 where
  pub start : Start
  pub most : ℕ
  pub more : ℕ
  pub p : List ℕ
  pub o : maybe.Option Truck
  pub tasks : Round
  pub means : MeansTasks day w tasks
  pub stands : Stands day start most (length (stops_on tasks) + more) p part o c

-- it has walked the word
abbrev pub WalksWord : List ℕ → List ℕ → Option Cab → ℕ → List ℕ → Option Cab → Type 0
WalksWord day part c w now r =
    (start : Start) (most more : ℕ) (p : List ℕ) (o : maybe.Option Truck) (tasks : Round) → MeansTasks day w tasks
    → Stands day start most (length (stops_on tasks) + more) p part o c → Stands day start most more p now (walk_on day tasks o) r

-- a vehicle before what a word has become
pub record SomeChange (day part : List ℕ) (c : Cab) (made : Change) : Type 0 where
  pub tasks : Round
  pub makes : Makes day made tasks
  pub stands : SomeStanding day (length (stops_on tasks)) part c

abbrev pub WalksChange : List ℕ → List ℕ → Cab → Change → List ℕ → Option Cab → Type 0
WalksChange day part c made now r = (tasks : Round) → Makes day made tasks → Walks day part c tasks now r

-- a vehicle before the word of task number t, which is still to be changed
pub record SomeTask (day : List ℕ) (e : Edit) (t : ℕ) (part : List ℕ) (c : Cab) (w : ℕ) : Type 0 where
  pub task : Task
  pub is : w ≡ task_word task
  pub known : Known day task
  pub stands : SomeStanding day (length (stops_on (change e t task))) part c

-- it has walked what the task becomes, whatever task has this word
abbrev pub WalksTask : List ℕ → Edit → ℕ → List ℕ → Cab → ℕ → List ℕ → Option Cab → Type 0
WalksTask day e t part c w now r = (task : Task) → w ≡ task_word task → Known day task → Walks day part c (change e t task) now r

-- these are the tasks of a vehicle, and there is room for what they become
pub record Walkable (day : List ℕ) (e : Edit) (words part : List ℕ) (tasks : Round) : Type 0 where
  pub are : words ≡ map task_word tasks
  pub known : Every (Known day) tasks
  pub edited : Every (Known day) (changed e 0 tasks)
  pub few : length (stops_on (changed e 0 tasks)) ≤ 240
  pub room : 3 + 2 * length (stops_on (changed e 0 tasks)) ≤ length part

pub record SomeWalkable (day : List ℕ) (e : Edit) (words part : List ℕ) : Type 0 where
  pub tasks : Round
  pub walkable : Walkable day e words part tasks

-- the tasks before number i are walked, and those from it on are left
pub record Midway (day : List ℕ) (e : Edit) (start : Start) (p part : List ℕ) (tasks : Round) (i : ℕ) (c : Cab) : Type 0 where
  pub v : Truck
  pub standing : Standing day start (length (stops_on (changed e 0 tasks))) (length (stops_on (changed e i (drop i tasks)))) p part v c
  pub same : walk_on day (changed e i (drop i tasks)) (some v) ≡ walk_on day (changed e 0 tasks) (some (fresh day []))

-- all of them are, whatever tasks have these words
pub record Through (day : List ℕ) (e : Edit) (number : ℕ) (p part : List ℕ) (tasks : Round) (r : Option Cab) : Type 0 where
  pub stands : Stands day (at_depot number) (length (stops_on (changed e 0 tasks))) 0 p part (walk_on day (changed e 0 tasks) (some (fresh day []))) r

abbrev pub WalksAll : List ℕ → Edit → ℕ → List ℕ → List ℕ → List ℕ → Option Cab → Type 0
WalksAll day e number words p part r = (tasks : Round) → Walkable day e words p tasks → Through day e number p part tasks r

-- a vehicle or a failed trial, and no task left
pub record SomeDone (day part : List ℕ) (c : Option Cab) : Type 0 where
  pub start : Start
  pub most : ℕ
  pub p : List ℕ
  pub o : maybe.Option Truck
  pub stands : Stands day start most 0 p part o c

-- the vehicle is back, but for its E word
pub record Back (day : List ℕ) (start : Start) (most : ℕ) (p part : List ℕ) (o : maybe.Option Truck) (r : Walked) : Type 0 where
  pub v : Truck
  pub is : walk_home day o ≡ some v
  pub cab : Cab
  pub standing : Standing day start most 0 p part v cab
  pub words : r.words ≡ cab.at + 1
  pub distance : r.distance ≡ v.trip.distance + leg_distance day v.trip.place 0

-- or the trial has failed
abbrev pub BackIf : List ℕ → Start → ℕ → List ℕ → List ℕ → maybe.Option Truck → Option Walked → Type 0
BackIf day start most p part o None = walk_home day o ≡ none
BackIf day start most p part o (Some r) = Back day start most p part o r

pub record BackAs (day : List ℕ) (start : Start) (most : ℕ) (p part : List ℕ) (o : maybe.Option Truck) (r : Option Walked) : Type 0 where
  pub size : length part ≡ length p
  pub back : BackIf day start most p part o r

abbrev pub ComesBack : List ℕ → List ℕ → Option Cab → List ℕ → Option Walked → Type 0
ComesBack day part c now r =
    (start : Start) (most : ℕ) (p : List ℕ) (o : maybe.Option Truck) → Stands day start most 0 p part o c → BackAs day start most p now o r

-- the vehicle is walked again: what it has done, and how far it drives
pub record Again (day : List ℕ) (tasks : Round) (distance : ℕ) : Type 0 where
  pub done : Round
  pub is : walked_again day tasks ≡ some done
  pub drives : distance ≡ distance_from day 0 done

-- or the trial has failed
abbrev pub AgainAs : List ℕ → Round → Option Walked → Type 0
AgainAs day tasks None = walked_again day tasks ≡ none
AgainAs day tasks (Some r) = Again day tasks r.distance

-- and its words stand at the front of the part
pub record Rewritten (day : List ℕ) (number : ℕ) (tasks : Round) (p part : List ℕ) (r : Walked) : Type 0 where
  pub again : Again day tasks r.distance
  pub text : Wrote (round_words number again.done) p part r.words

abbrev pub RewrittenAs : List ℕ → ℕ → Round → List ℕ → List ℕ → Option Walked → Type 0
RewrittenAs day number tasks p part None = walked_again day tasks ≡ none
RewrittenAs day number tasks p part (Some r) = Rewritten day number tasks p part r

pub record WalkedAs (day : List ℕ) (number : ℕ) (tasks : Round) (p part : List ℕ) (r : Option Walked) : Type 0 where
  pub size : length part ≡ length p
  pub written : RewrittenAs day number tasks p part r
