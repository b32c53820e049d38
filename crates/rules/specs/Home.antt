-- The nearest open tip, rest if due, and the way home: document 01, "Greedy build". A trip is where and when a vehicle is. Assumes nothing.
use Rattle.std.specs.Prelude.{ℕ, ◌+◌, Bool, false, not, ◌&&◌, ◌||◌, List, leb, eqb, if◌then◌else◌}
use Rattle.rules.specs.Tests.{least}
use Rattle.rules.specs.Fields.{tips, opening, closing, rest_opening, rest_closing, leg_minutes}
use Rattle.rules.specs.Trip.{arrival, visited, rested_at}
use Rattle.rules.specs.declared.walk.Trip.{Trip}

-- "T + t in the tip's window"
unfoldable pub open_tip : List ℕ → ℕ → ℕ → ℕ → Bool
open_tip day place minute x =
    leb (opening day x) (minute + leg_minutes day place x) && leb (minute + leg_minutes day place x) (closing day x)

-- "nearest open tip n(p,T): least t from place p with T + t in the tip's window; ties, lowest number"; 0 where none is open
unfoldable pub nearest_tip : List ℕ → ℕ → ℕ → ℕ
nearest_tip day place minute = least (open_tip day place minute) (leg_minutes day place) (tips day)

-- "not rested and R1 ≤ T ≤ R2"
unfoldable pub due : List ℕ → Trip → Bool
due day t = not t.rested && (leb (rest_opening day) t.minute && leb t.minute (rest_closing day))

-- "rest if due": T grows by R3
unfoldable pub rest_if_due : List ℕ → Trip → Trip
rest_if_due day t = if due day t then rested_at day t else t

-- "drive to the depot": "arrival is by L0, and by R2 if unrested"
unfoldable pub home_direct : List ℕ → Trip → Bool
home_direct day t = leb (arrival day t 0) (closing day 0) && (t.rested || leb (arrival day t 0) (rest_closing day))

-- "drive to n(p,T), tip, rest if due; drive to the depot"; there is none where no tip is open
unfoldable pub home_by_tip : List ℕ → Trip → ℕ → Bool
home_by_tip day t x = if eqb x 0 then false else home_direct day (rest_if_due day (visited day t x))

-- "way home from (p, T, load): rest if due; if load > 0" by the nearest open tip
unfoldable pub home_loaded : List ℕ → Trip → ℕ → Bool
home_loaded day t load = if eqb load 0 then home_direct day t else home_by_tip day t (nearest_tip day t.place t.minute)

unfoldable pub way_home : List ℕ → Trip → ℕ → Bool
way_home day t load = home_loaded day (rest_if_due day t) load
