-- When a vehicle is where: document 01, "Plan and timetable". Each of its words is a call, a visit, a rest or the return, and a timetable
-- gives each call a minute. Then the earliest timetable. No walk is mentioned here. Assumes nothing.
use Rattle.std.specs.Prelude.{ℕ, ◌+◌, ◌≤◌, max, min, Bool, true, false, List, [], ◌∷◌, if◌then◌else◌}
use Rattle.rules.specs.Fields.{stop_place, opening, closing, rest_opening, rest_closing, rest_minutes, service, leg_minutes}
use Rattle.rules.specs.Plan.{serve, empty, lunch, Round}

-- what a word asks: minutes of driving to it, its opening and closing, how long it lasts, and how much of it must be over by closing
pub record Call : Type 0 where
  pub drive : ℕ
  pub opens : ℕ
  pub lasts : ℕ
  pub inside : ℕ
  pub closes : ℕ

-- a visit to a place, "starting within its window and lasting V": nothing of it need be over by closing
abbrev pub visit_to : List ℕ → ℕ → ℕ → Call
visit_to day from place =
    record { drive = leg_minutes day from place; opens = opening day place; lasts = service day place; inside = 0; closes = closing day place }

-- "a rest starting where the vehicle is, within R1..R2, lasting R3"
abbrev pub rest_there : List ℕ → Call
rest_there day = record { drive = 0; opens = rest_opening day; lasts = rest_minutes day; inside = 0; closes = rest_closing day }

-- the return: "back by L0 (depot closing), and by R2 if it had no rest"
abbrev pub return_from : List ℕ → ℕ → Bool → Call
return_from day from rested =
    record { drive = leg_minutes day from 0; opens = 0; lasts = 0; inside = 0; closes = if rested then closing day 0 else min (closing day 0) (rest_closing day) }

-- the calls of the tasks that are left, and of the return, from a place
unfoldable pub calls : List ℕ → ℕ → Bool → Round → List Call
calls day from rested [] = return_from day from rested ∷ []
calls day from rested (serve k ∷ tasks) = visit_to day from (stop_place day k) ∷ calls day (stop_place day k) rested tasks
calls day from rested (empty k ∷ tasks) = visit_to day from k ∷ calls day k rested tasks
calls day from rested (lunch ∷ tasks) = rest_there day ∷ calls day from true tasks

-- a call at a minute, by a vehicle that is free from a minute on: "no sooner than the previous end plus t, starting within its window"
pub record Meets (free : ℕ) (c : Call) (minute : ℕ) : Type 0 where
  pub reached : free + c.drive ≤ minute
  pub opened : c.opens ≤ minute
  pub not_closed : minute + c.inside ≤ c.closes

-- "a timetable gives each word a whole minute": each call one, and after it the vehicle is free when the call is over
unfoldable pub Keeps : ℕ → List Call → List ℕ → Type 0
Keeps free [] [] = Unit {0}
Keeps free [] (m ∷ ms) = ⊥
Keeps free (c ∷ cs) [] = ⊥
Keeps free (c ∷ cs) (m ∷ ms) = Meets free c m × Keeps (m + c.lasts) cs ms

-- a timetable of a vehicle, which starts at the depot without a rest: "leaving at E0 (depot opening) or later"
pub record IsTimetable (day : List ℕ) (tasks : Round) (minutes : List ℕ) : Type 0 where
  pub leaves : ℕ
  pub opened : opening day 0 ≤ leaves
  pub kept : Keeps leaves (calls day 0 false tasks) minutes

-- as many minutes, and at each word none later
unfoldable pub NoLater : List ℕ → List ℕ → Type 0
NoLater [] [] = Unit {0}
NoLater [] (y ∷ ys) = ⊥
NoLater (x ∷ xs) [] = ⊥
NoLater (x ∷ xs) (y ∷ ys) = (x ≤ y) × NoLater xs ys

-- the earliest timetable: it is one, and at each word no later than any other
pub record IsEarliest (day : List ℕ) (tasks : Round) (minutes : List ℕ) : Type 0 where
  pub kept : IsTimetable day tasks minutes
  pub first : (others : List ℕ) → IsTimetable day tasks others → NoLater minutes others

-- the earliest start of a call, by a vehicle that is free from a minute on
abbrev pub call_start : ℕ → Call → ℕ
call_start free c = max (free + c.drive) c.opens

-- when the vehicle is free again
abbrev pub call_end : ℕ → Call → ℕ
call_end free c = call_start free c + c.lasts

-- the earliest minutes of calls, one after the other
unfoldable pub starts : ℕ → List Call → List ℕ
starts free [] = []
starts free (c ∷ cs) = call_start free c ∷ starts (call_end free c) cs

-- none of them misses its closing
unfoldable pub InTime : ℕ → List Call → Type 0
InTime free [] = Unit {0}
InTime free (c ∷ cs) = (call_start free c + c.inside ≤ c.closes) × InTime (call_end free c) cs

-- the earliest minutes of a vehicle that leaves the depot at a minute
abbrev pub earliest_minutes : List ℕ → ℕ → Round → List ℕ
earliest_minutes day leaves tasks = starts leaves (calls day 0 false tasks)
