-- What the code says of the trial list, which it never writes down: a step over it, the next trial, and the tables that it goes by. It serves
-- the contracts of the functions that make trials. Assumes nothing.
use Rattle.std.specs.Prelude.{ℕ, suc, ◌+◌, ◌*◌, ◌-◌, ◌≤◌, ◌<◌, ◌≡◌, List, [], ◌∷◌, Option, Some, None, IfSome, length, get_or}
use Rattle.rules.specs.Lists.{Every}
use Rattle.rules.specs.Tests.{number_or_none}
use Rattle.rules.specs.Fields.{stops, tips}
use Rattle.rules.specs.Plan.{Round, plan_words, Known}
use Rattle.rules.specs.Edits.{Trial}
use Rattle.neighbours.specs.Tables.{TableOf}
use Rattle.trial_list.specs.Survey.{VehicleIn, Surveyed}
use Rattle.trial_list.specs.TrialRest.{listed_trial, from_half, pair_rest, tip_from, tip_rest, rest_of}
use Rattle.trial_list.specs.declared.listing.Cursor.{Cursor}
use Rattle.trial_list.specs.declared.listing.Listed.{Listed}
use Rattle.trial_list.specs.declared.pairs.Half.TheVariants as Halves
use Rattle.trial_list.specs.declared.pairs.PairPlace.{PairPlace}
use Rattle.trial_list.specs.declared.tips.TipPlace.{TipPlace}
use Rattle.trial_list.specs.declared.listing.Trial as Code
use Rattle.trial_list.specs.declared.listing.Listing.{Listing}

-- a list that goes on behind a place: with a trial or, passing on, without
pub record Goes {P : Type 0} (rest : P → List Trial) (at : P) (r : Listed P) : Type 0 where
  pub some : (m : Code.Trial) → r.trial ≡ Some m → rest at ≡ listed_trial m ∷ rest r.next
  pub none : r.trial ≡ None → rest at ≡ rest r.next

-- a list whose next trial is this, or that is at its end
pub record Tells {P : Type 0} (rest : P → List Trial) (at : P) (r : Listed P) : Type 0 where
  pub some : (m : Code.Trial) → r.trial ≡ Some m → rest at ≡ listed_trial m ∷ rest r.next
  pub none : r.trial ≡ None → (rest at ≡ []) × (rest r.next ≡ [])

-- a number of a table, where 0 stands for none
pub record NumberAt (number : ℕ) (choice : Option ℕ) : Type 0 where
  pub number_is : number_or_none choice ≡ number
  pub some : IfSome choice (λ k. (0 < k) × (k < 256))

-- the next pair, the second trial of this one, the next stop
abbrev pub next_rank : PairPlace → PairPlace
next_rank p = record { stop = p.stop; rank = p.rank + 1; half = Halves.First }

abbrev pub halfway : PairPlace → PairPlace
halfway p = record { stop = p.stop; rank = p.rank; half = Halves.Second }

abbrev pub next_stop : PairPlace → PairPlace
next_stop p = record { stop = p.stop + 1; rank = 0; half = Halves.First }

-- what is said of a pair with these trials
pub data PairTells (trials : List Trial) (p : PairPlace) : Listed PairPlace → Type 0 where
  no_trial : (r : Listed PairPlace) → r.trial ≡ None → from_half p.half trials ≡ [] → r.next ≡ next_rank p → PairTells trials p r
  last_trial : (r : Listed PairPlace) (m : Code.Trial) → r.trial ≡ Some m → from_half p.half trials ≡ listed_trial m ∷ [] → r.next ≡ next_rank p → PairTells trials p r
  first_trial : (r : Listed PairPlace) (m : Code.Trial) (other : Trial) → r.trial ≡ Some m → p.half ≡ Halves.First → trials ≡ listed_trial m ∷ other ∷ []
      → r.next ≡ halfway p → PairTells trials p r

-- the next tip to try, the next task, the next vehicle
abbrev pub at_tip : TipPlace → ℕ → TipPlace
at_tip q x = record { vehicle = q.vehicle; task = q.task; tip = Some x }

abbrev pub next_task : TipPlace → TipPlace
next_task q = record { vehicle = q.vehicle; task = q.task + 1; tip = None }

abbrev pub next_vehicle : TipPlace → TipPlace
next_vehicle q = record { vehicle = q.vehicle + 1; task = 0; tip = None }

-- what is said of a tip y
pub data TipTells (most y : ℕ) (q : TipPlace) : Listed TipPlace → Type 0 where
  tells_no_tip : (r : Listed TipPlace) → r.trial ≡ None → tip_from most (suc q.vehicle) q.task y q.tip ≡ [] → r.next ≡ next_task q → TipTells most y q r
  tells_tip : (r : Listed TipPlace) (m : Code.Trial) (x : ℕ) → r.trial ≡ Some m
      → tip_from most (suc q.vehicle) q.task y q.tip ≡ listed_trial m ∷ tip_from most (suc q.vehicle) q.task y (Some x) → r.next ≡ at_tip q x → TipTells most y q r

-- the task is one of the vehicle's, or the vehicle's end
abbrev pub TipFits : List ℕ → ℕ → TipPlace → Type 0
TipFits starts count q = q.vehicle < count → get_or starts q.vehicle 0 + q.task + 2 ≤ get_or starts (q.vehicle + 1) 0

-- the present plan and its tables
pub record PlanTables (stop_count tip_count K : ℕ) (table starts vehicles plan : List ℕ) (count : ℕ) : Type 0 where
  pub day : List ℕ
  pub rounds : List Round
  pub lefts : List ℕ
  pub distances : List ℕ
  pub stops_is : stop_count ≡ stops day
  pub tips_is : tip_count ≡ tips day
  pub most : stops day ≤ 240
  pub close : K ≤ 50
  pub known : Every (Every (Known day)) rounds
  pub few : length rounds ≤ 240
  pub table_is : TableOf day K table
  pub surveyed : Surveyed day rounds starts vehicles distances count
  pub text : plan ≡ plan_words rounds lefts

abbrev pub ListingOf : Listing → Type 0
ListingOf t = PlanTables t.stops t.tips t.k t.neighbours.now t.starts.now t.vehicles.now t.plan.now t.count

-- a part of the list: what is left of it behind a place, where it can go on, where there is more to look at, and how much there may be yet
pub record Part (P : Type 0) : Type 1 where
  pub rest : (t : Listing) → ListingOf t → P → List Trial
  pub fits : Listing → P → Type 0
  pub inside : Listing → P → Type 0
  pub left : Listing → P → ℕ

-- one step over the places: the list goes on, and there is less of it yet
pub record Step {P : Type 0} (part : Part P) (t : Listing) (p : P) (r : Listed P) : Type 0 where
  pub goes : (s : ListingOf t) → Goes (part.rest t s) p r
  pub fits : part.fits t r.next
  pub falls : r.trial ≡ None → part.left t r.next < part.left t p

-- the next trial, if there is one
pub record NextListed {P : Type 0} (part : Part P) (t : Listing) (p : P) (r : Listed P) : Type 0 where
  pub tells : (s : ListingOf t) → Tells (part.rest t s) p r
  pub fits : part.fits t r.next

-- the place is one of a vehicle of the plan
pub record SomeTip (t : Listing) (q : TipPlace) : Type 0 where
  pub tables : ListingOf t
  pub within : q.vehicle < t.count
  pub vehicle : VehicleIn t.plan.now t.starts.now q.vehicle
  pub fits : get_or t.starts.now q.vehicle 0 + q.task + 2 ≤ get_or t.starts.now (q.vehicle + 1) 0

-- of the pairs there are stops and ranks left, of the tips words
abbrev pub pair_part : Part PairPlace
pair_part = record {
  rest = λ t s. pair_rest s.day t.k s.rounds;
  fits = λ t p. 1 ≤ p.stop;
  inside = λ t p. ListingOf t × (1 ≤ p.stop) × (p.stop ≤ t.stops);
  left = λ t p. 64 * (suc t.stops - p.stop) + (t.k - p.rank);
}

abbrev pub tip_part : Part TipPlace
tip_part = record {
  rest = λ t s. tip_rest s.day s.rounds;
  fits = λ t q. TipFits t.starts.now t.count q;
  inside = SomeTip;
  left = λ t q. length t.plan.now - (get_or t.starts.now q.vehicle 0 + q.task);
}

-- where the list can go on
pub record CursorFits (starts : List ℕ) (count : ℕ) (c : Cursor) : Type 0 where
  pub first : 1 ≤ c.pairs.stop
  pub tip_fits : TipFits starts count c.tips

-- the next trial of the list, if there is one
pub record ListAnswer (stop_count tip_count K : ℕ) (table starts vehicles plan : List ℕ) (count : ℕ) (c : Cursor) (r : Listed Cursor) : Type 0 where
  pub tells : (s : PlanTables stop_count tip_count K table starts vehicles plan count) → Tells (rest_of s.day K s.rounds) c r
  pub fits : CursorFits starts count r.next

abbrev pub Answers : Listing → Cursor → Listed Cursor → Type 0
Answers t = ListAnswer t.stops t.tips t.k t.neighbours.now t.starts.now t.vehicles.now t.plan.now t.count
