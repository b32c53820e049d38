-- A trial as a substitution of words, each of which becomes none, one or two: document 01, "Trials". Assumes nothing.
use Rattle.std.specs.Prelude.{ℕ, suc, Bool, ◌||◌, [], ◌∷◌, ◌++◌, eqb, if◌then◌else◌}
use Rattle.rules.specs.Plan.{Task, serve, empty, lunch, Round}

-- what is done to the words of a vehicle
pub data Edit : Type 0 where
  -- stop j "moved just before i"
  before : (i j : ℕ) → Edit
  -- "then just after"
  after : (i j : ℕ) → Edit
  -- "i and j interchanged"
  swap : (i j : ℕ) → Edit
  -- a C "removed": the task with this number, counted from 0
  remove : (at : ℕ) → Edit
  -- a C "replaced by" another tip
  replace : (at x : ℕ) → Edit

-- what becomes of a stop
unfoldable pub change_stop : Edit → ℕ → Round
change_stop (before i j) k = if eqb k j then [] else if eqb k i then serve j ∷ serve i ∷ [] else serve k ∷ []
change_stop (after i j) k = if eqb k j then [] else if eqb k i then serve i ∷ serve j ∷ [] else serve k ∷ []
change_stop (swap i j) k = if eqb k i then serve j ∷ [] else if eqb k j then serve i ∷ [] else serve k ∷ []
change_stop (remove at) k = serve k ∷ []
change_stop (replace at x) k = serve k ∷ []

-- what becomes of the tip that is the task number t
unfoldable pub change_tip : Edit → ℕ → ℕ → Round
change_tip (before i j) t y = empty y ∷ []
change_tip (after i j) t y = empty y ∷ []
change_tip (swap i j) t y = empty y ∷ []
change_tip (remove at) t y = if eqb t at then [] else empty y ∷ []
change_tip (replace at x) t y = if eqb t at then empty x ∷ [] else empty y ∷ []

-- what becomes of the task number t; "a trial takes the D words off the touched vehicles"
unfoldable pub change : Edit → ℕ → Task → Round
change e t (serve k) = change_stop e k
change e t (empty y) = change_tip e t y
change e t lunch = []

-- what becomes of the tasks from number t on
unfoldable pub changed : Edit → ℕ → Round → Round
changed e t [] = []
changed e t (task ∷ tasks) = change e t task ++ changed e (suc t) tasks

-- a trial: what is done, and the vehicles that it touches, which may be one and the same
pub record Trial : Type 0 where
  pub edit : Edit
  pub one : ℕ
  pub other : ℕ

-- a trial of one vehicle
abbrev pub on_one : Edit → ℕ → Trial
on_one e number = record { edit = e; one = number; other = number }

-- a trial of two vehicles
abbrev pub on_two : Edit → ℕ → ℕ → Trial
on_two e number other = record { edit = e; one = number; other = other }

-- the trial touches the vehicle with this number
unfoldable pub touches : Trial → ℕ → Bool
touches m number = eqb number m.one || eqb number m.other
