-- The check of a plan, word by word at its earliest minutes: document 01, "Plan and timetable"; refusals 6 to 12 with their places.
-- The declarative side, which says what lawful means without a walk, is Lawful.antt; `lawful_iff` joins the two. Assumes nothing.
use Rattle.std.specs.Prelude.{ℕ, suc, ◌+◌, Bool, true, false, not, ◌&&◌, List, [], ◌∷◌, length, ltb, leb, eqb, if◌then◌else◌}
use Rattle.rules.specs.Tests.{neb}
use Rattle.rules.specs.Answers.{given, refused, is_given}
use Rattle.rules.specs.Lists.{mem, unmet}
use Rattle.rules.specs.DayFile.{judge_day}
use Rattle.rules.specs.Fields.{tips, stops}
use Rattle.rules.specs.PlanWords.{Word, vehicle, stop, tip, rest, back, left, stray, word_of}
use Rattle.rules.specs.Cargo.{empty, cargo_fault, cargo_after}
use Rattle.rules.specs.Trip.{leaving, trip_fault, trip_after}
use Rattle.rules.specs.declared.walk.Cargo.{Cargo}
use Rattle.rules.specs.declared.walk.Tally.{Tally}
use Rattle.rules.specs.declared.walk.Trip.{Trip}

-- before the first word
abbrev pub untold : Tally
untold = record { inside = false; vehicles = 0; served = 0; left = 0; last = 0; distance = 0 }

-- one vehicle more, which is out
abbrev pub one_out : Tally → Tally
one_out y = record { inside = true; vehicles = y.vehicles + 1; served = y.served; left = y.left; last = y.last; distance = y.distance }

-- one stop more is served
abbrev pub one_served : Tally → Tally
one_served y =
    record { inside = y.inside; vehicles = y.vehicles; served = y.served + 1; left = y.left; last = y.last; distance = y.distance }

-- a stop is left out
abbrev pub one_left : Tally → ℕ → Tally
one_left y k =
    record { inside = y.inside; vehicles = y.vehicles; served = y.served; left = y.left + 1; last = k; distance = y.distance }

-- the vehicle is back, and its distance counts
abbrev pub one_back : Tally → ℕ → Tally
one_back y driven =
    record { inside = false; vehicles = y.vehicles; served = y.served; left = y.left; last = y.last; distance = y.distance + driven }

-- a number from 1 to the most
unfoldable pub within : ℕ → ℕ → Bool
within most k = leb 1 k && leb k most

-- "not of the form above, or numbers outside": vehicles counted, each A .. E with at least one B, then F words rising
unfoldable pub well_formed : List ℕ → Tally → Cargo → Word → Bool
well_formed day y c (vehicle k) = not y.inside && eqb y.last 0 && eqb k (y.vehicles + 1)
well_formed day y c (stop k) = y.inside && within (stops day) k
well_formed day y c (tip k) = y.inside && within (tips day) k
well_formed day y c rest = y.inside
well_formed day y c back = y.inside && ltb 0 c.visits
well_formed day y c (left k) = not y.inside && within (stops day) k && ltb y.last k
well_formed day y c stray = false

-- "stop met again", served or left out
unfoldable pub met_again : List ℕ → Word → Bool
met_again met (vehicle k) = false
met_again met (stop k) = mem k met
met_again met (tip k) = false
met_again met rest = false
met_again met back = false
met_again met (left k) = mem k met
met_again met stray = false

-- the stops met so far
unfoldable pub met_after : List ℕ → Word → List ℕ
met_after met (vehicle k) = met
met_after met (stop k) = k ∷ met
met_after met (tip k) = met
met_after met rest = met
met_after met back = met
met_after met (left k) = k ∷ met
met_after met stray = met

-- the plan so far, after a word; the trip is the one behind the word
unfoldable pub tally_after : Tally → Trip → Word → Tally
tally_after y t (vehicle k) = one_out y
tally_after y t (stop k) = one_served y
tally_after y t (tip k) = y
tally_after y t rest = y
tally_after y t back = one_back y t.distance
tally_after y t (left k) = one_left y k
tally_after y t stray = y

-- the walk between two words
pub record Walk : Type 0 where
  pub tally : Tally
  pub cargo : Cargo
  pub trip : Trip
  pub met : List ℕ

-- before the first word; no vehicle is out yet
abbrev pub start : List ℕ → Walk
start day = record { tally = untold; cargo = empty; trip = leaving day; met = [] }

-- "each plan word at its earliest minutes: 7 to 12 rising": what is wrong with a word, 0 for nothing
unfoldable pub fault_at : List ℕ → Walk → Word → ℕ
fault_at day s w =
    if not (well_formed day s.tally s.cargo w) then 7
    else if met_again s.met w then 8
    else if neb (cargo_fault day s.cargo w) 0 then cargo_fault day s.cargo w
    else trip_fault day s.trip w

-- the walk after a word
abbrev pub walk_after : List ℕ → Walk → Word → Walk
walk_after day s w =
    record {
      tally = tally_after s.tally (trip_after day s.trip w) w;
      cargo = cargo_after day s.cargo w;
      trip = trip_after day s.trip w;
      met = met_after s.met w;
    }

-- "the plan's end: 7, 8": cut inside a vehicle, or a stop missing, at the plan's length; else distance, vehicles and stops served
unfoldable pub finished : List ℕ → ℕ → Walk → List ℕ
finished day i s =
    if s.tally.inside then refused 7 i
    else if ltb 0 (unmet (stops day) s.met) then refused 8 i
    else given (s.tally.distance ∷ s.tally.vehicles ∷ s.tally.served ∷ [])

-- the words from index i on
unfoldable pub check_from : List ℕ → List ℕ → ℕ → Walk → List ℕ
check_from day [] i s = finished day i s
check_from day (w ∷ ws) i s =
    if eqb (fault_at day s (word_of w)) 0 then check_from day ws (suc i) (walk_after day s (word_of w))
    else refused (fault_at day s (word_of w)) i

-- the answer on a plan of an accepted day: "6 plan over 4,096 words (place 4,096)", then the words
unfoldable pub check_words : List ℕ → List ℕ → List ℕ
check_words day plan = if ltb 4096 (length plan) then refused 6 4096 else check_from day plan 0 (start day)

-- the answer on a day and a plan: distance, vehicles and stops served, or the first refusal of 1 to 12
unfoldable pub check_plan : List ℕ → List ℕ → List ℕ
check_plan day plan = if is_given (judge_day day) then check_words day plan else judge_day day
