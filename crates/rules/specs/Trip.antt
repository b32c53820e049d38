-- Where and when a vehicle is, at its earliest minutes: document 01, "Plan and timetable"; refusals 11 and 12. Assumes nothing.
use Rattle.std.specs.Prelude.{ℕ, ◌+◌, max, true, false, List, ltb, if◌then◌else◌}
use Rattle.rules.specs.Fields.{stop_place, opening, closing, rest_opening, rest_closing, rest_minutes, service, leg_minutes, leg_distance}
use Rattle.rules.specs.PlanWords.{Word, vehicle, stop, tip, rest, back, left, stray}
use Rattle.rules.specs.declared.walk.Trip.{Trip}

-- "leaving at E0 (depot opening)"
abbrev pub leaving : List ℕ → Trip
leaving day = record { minute = opening day 0; place = 0; rested = false; distance = 0 }

-- "each visit no sooner than the previous end plus t"
abbrev pub arrival : List ℕ → Trip → ℕ → ℕ
arrival day t place = t.minute + leg_minutes day t.place place

-- the earliest start of a visit
abbrev pub visit_start : List ℕ → Trip → ℕ → ℕ
visit_start day t place = max (arrival day t place) (opening day place)

-- the earliest start of a rest
abbrev pub rest_start : List ℕ → Trip → ℕ
rest_start day t = max t.minute (rest_opening day)

-- the trip to a place, where a minute is the end of what is done there
abbrev pub driven : List ℕ → Trip → ℕ → ℕ → Trip
driven day t place end =
    record { minute = end; place = place; rested = t.rested; distance = t.distance + leg_distance day t.place place }

-- "lasting V"
abbrev pub visited : List ℕ → Trip → ℕ → Trip
visited day t place = driven day t place (visit_start day t place + service day place)

-- "a rest starting where the vehicle is, lasting R3"
abbrev pub rested_at : List ℕ → Trip → Trip
rested_at day t = record { minute = rest_start day t + rest_minutes day; place = t.place; rested = true; distance = t.distance }

-- 11, "start after L"
unfoldable pub visit_fault : List ℕ → Trip → ℕ → ℕ
visit_fault day t place = if ltb (closing day place) (visit_start day t place) then 11 else 0

-- 12, "second rest, rest after R2"
unfoldable pub rest_fault : List ℕ → Trip → ℕ
rest_fault day t = if t.rested then 12 else if ltb (rest_closing day) (rest_start day t) then 12 else 0

-- 11, "back after L0"; 12, "unrested back after R2"
unfoldable pub back_fault : List ℕ → Trip → ℕ
back_fault day t =
    if ltb (closing day 0) (arrival day t 0) then 11
    else if t.rested then 0
    else if ltb (rest_closing day) (arrival day t 0) then 12
    else 0

-- what is wrong with a word by the minute: 11, 12, or 0 for nothing
abbrev pub trip_fault : List ℕ → Trip → Word → ℕ
trip_fault day t (vehicle k) = 0
trip_fault day t (stop k) = visit_fault day t (stop_place day k)
trip_fault day t (tip k) = visit_fault day t k
trip_fault day t rest = rest_fault day t
trip_fault day t back = back_fault day t
trip_fault day t (left k) = 0
trip_fault day t stray = 0

-- the trip after a word
abbrev pub trip_after : List ℕ → Trip → Word → Trip
trip_after day t (vehicle k) = leaving day
trip_after day t (stop k) = visited day t (stop_place day k)
trip_after day t (tip k) = visited day t k
trip_after day t rest = rested_at day t
trip_after day t back = driven day t 0 (arrival day t 0)
trip_after day t (left k) = t
trip_after day t stray = t
