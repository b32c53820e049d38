-- What a vehicle carries: document 01, "Plan and timetable", loads and counts; refusals 9 and 10. Assumes nothing.
use Rattle.std.specs.Prelude.{ℕ, ◌+◌, Bool, ◌||◌, List, ltb, if◌then◌else◌}
use Rattle.rules.specs.Fields.{stop_place, load_limit, day_limit, stop_limit, quantity}
use Rattle.rules.specs.PlanWords.{Word, vehicle, stop, tip, rest, back, left, stray}
use Rattle.rules.specs.declared.walk.Cargo.{Cargo}

-- "a vehicle starts empty"
abbrev pub empty : Cargo
empty = record { load = 0; kg = 0; visits = 0 }

-- "a B adds q" to the load and to the day's total
abbrev pub loaded : Cargo → ℕ → Cargo
loaded c q = record { load = c.load + q; kg = c.kg + q; visits = c.visits + 1 }

-- "a C empties", and the day's total stays
abbrev pub emptied : Cargo → Cargo
emptied c = record { load = 0; kg = c.kg; visits = c.visits }

-- "load at most Q, day's total at most Q*, B words at most S*"
unfoldable pub over_limits : List ℕ → Cargo → Bool
over_limits day c = ltb (load_limit day) c.load || ltb (day_limit day) c.kg || ltb (stop_limit day) c.visits

-- what is wrong with a word by the load: 9 "over Q, Q* or S*", 10 "back with load", 0 nothing
unfoldable pub cargo_fault : List ℕ → Cargo → Word → ℕ
cargo_fault day c (stop k) = if over_limits day (loaded c (quantity day (stop_place day k))) then 9 else 0
cargo_fault day c back = if ltb 0 c.load then 10 else 0
cargo_fault day c (vehicle k) = 0
cargo_fault day c (tip k) = 0
cargo_fault day c rest = 0
cargo_fault day c (left k) = 0
cargo_fault day c stray = 0

-- what the vehicle carries after a word
unfoldable pub cargo_after : List ℕ → Cargo → Word → Cargo
cargo_after day c (vehicle k) = empty
cargo_after day c (stop k) = loaded c (quantity day (stop_place day k))
cargo_after day c (tip k) = emptied c
cargo_after day c rest = c
cargo_after day c back = c
cargo_after day c (left k) = c
cargo_after day c stray = c
