-- Which stop a vehicle takes next: document 01, "Greedy build", steps 3 and 5, with the ties of document 02, Q-1. Assumes nothing.
use Rattle.std.specs.Prelude.{ℕ, ◌+◌, ◌*◌, Bool, false, not, ◌&&◌, ◌||◌, List, ltb, leb, eqb, if◌then◌else◌}
use Rattle.rules.specs.Tests.{least}
use Rattle.rules.specs.Lists.{mem}
use Rattle.rules.specs.Fields.{stops, stop_place, load_limit, day_limit, stop_limit, opening, closing, quantity, leg_minutes}
use Rattle.rules.specs.Cargo.{loaded, over_limits}
use Rattle.rules.specs.Trip.{arrival, visited}
use Rattle.rules.specs.Home.{nearest_tip, way_home}
use Rattle.rules.specs.declared.walk.Cargo.{Cargo}
use Rattle.rules.specs.declared.walk.Trip.{Trip}

-- what the vehicle carries once stop k is on it
abbrev pub taking : List ℕ → Cargo → ℕ → Cargo
taking day c k = loaded c (quantity day (stop_place day k))

-- "fitting Q, Q* and S*, with a way home after service"
unfoldable pub suits : List ℕ → Trip → Cargo → ℕ → Bool
suits day t c k = not (over_limits day (taking day c k)) && way_home day (visited day t (stop_place day k)) (taking day c k).load

-- step 3's conditions: "reached within their window"
unfoldable pub takeable : List ℕ → Trip → Cargo → ℕ → Bool
takeable day t c k =
    leb (opening day (stop_place day k)) (arrival day t (stop_place day k))
    && (leb (arrival day t (stop_place day k)) (closing day (stop_place day k)) && suits day t c k)

-- step 5's conditions: "reached before opening, same conditions, service from E"
unfoldable pub waitable : List ℕ → Trip → Cargo → ℕ → Bool
waitable day t c k = ltb (arrival day t (stop_place day k)) (opening day (stop_place day k)) && suits day t c k

-- "where travel minutes tie in step 3, or openings tie in step 5, take the earlier closing, and then the lower number"; a closing is below 4,096
abbrev pub shuts_first : List ℕ → (minutes k : ℕ) → ℕ
shuts_first day minutes k = minutes * 4096 + closing day (stop_place day k)

-- step 3 takes "the least t"
abbrev pub near_key : List ℕ → Trip → ℕ → ℕ
near_key day t k = shuts_first day (leg_minutes day t.place (stop_place day k)) k

-- step 5 takes "the stop of least opening"
abbrev pub open_key : List ℕ → ℕ → ℕ
open_key day k = shuts_first day (opening day (stop_place day k)) k

-- the nearest unrouted stop that can be taken, 0 for none
unfoldable pub nearest_stop : List ℕ → Trip → Cargo → List ℕ → ℕ
nearest_stop day t c taken = least (λ k. not (mem k taken) && takeable day t c k) (near_key day t) (stops day)

-- the unrouted stop that opens first among those worth waiting for, 0 for none
unfoldable pub earliest_stop : List ℕ → Trip → Cargo → List ℕ → ℕ
earliest_stop day t c taken = least (λ k. not (mem k taken) && waitable day t c k) (open_key day) (stops day)

-- "load > 0 and at least one of 5 × load > 4Q, 5 × day's kg > 4Q* and 5 × stops > 4S* true (counted before the choice)"
unfoldable pub near_capacity : List ℕ → Cargo → Bool
near_capacity day c =
    ltb 0 c.load
    && (ltb (4 * load_limit day) (5 * c.load) || ltb (4 * day_limit day) (5 * c.kg) || ltb (4 * stop_limit day) (5 * c.visits))

-- "a choice farther in minutes than n(r,T)"; there is always one where this is asked
unfoldable pub farther : List ℕ → Trip → ℕ → ℕ → Bool
farther day t k x = if eqb x 0 then false else ltb (leg_minutes day t.place x) (leg_minutes day t.place (stop_place day k))

-- step 3's choice, "dropped" where it is too far; 0 for none
unfoldable pub chosen_stop : List ℕ → Trip → Cargo → ℕ → ℕ
chosen_stop day t c k = if near_capacity day c && farther day t k (nearest_tip day t.place t.minute) then 0 else k
