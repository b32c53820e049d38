-- The next task by a set of unrouted stops, as the code has it. It serves the contracts of this crate's own functions. Assumes nothing.
use Rattle.std.specs.Prelude.{ℕ, ◌<◌, ◌≤◌, Bool, true, false, List, ltb, if◌then◌else◌}
use Rattle.std.proofs.Math.Option.{Option, none, some}
use Rattle.rules.specs.Fields.{tips, stops}
use Rattle.rules.specs.Plan.{Task, serve, empty}
use Rattle.rules.specs.Home.{nearest_tip}
use Rattle.rules.specs.Choice.{chosen_stop}
use Rattle.rules.specs.Build.{serving, emptying}
use Rattle.rules.specs.declared.walk.Cargo.{Cargo}
use Rattle.rules.specs.declared.walk.Trip.{Trip}
use Rattle.next_task.specs.Wanted.{best_stop}
use Rattle.next_task.specs.declared.tasks.Next.{Next}
use Rattle.next_task.specs.declared.tasks.Next.TheVariants as Nexts

-- the task that the code names
abbrev pub next_of : Next → Option Task
next_of (Nexts.Stop k) = some (serve k)
next_of (Nexts.Tip x) = some (empty x)
next_of Nexts.Home = none

-- step 5
unfoldable pub wait_by : List ℕ → Trip → Cargo → (ℕ → Bool) → Option Task
wait_by day t c p = serving (best_stop false day t c p)

-- step 3's choice
unfoldable pub chosen_by : List ℕ → Trip → Cargo → (ℕ → Bool) → ℕ
chosen_by day t c p = chosen_stop day t c (best_stop true day t c p)

-- steps 3, 4 and 5
unfoldable pub next_by : List ℕ → Trip → Cargo → (ℕ → Bool) → Option Task
next_by day t c p =
    if ltb 0 (chosen_by day t c p) then serving (chosen_by day t c p)
    else if ltb 0 c.load then emptying (nearest_tip day t.place t.minute)
    else wait_by day t c p

-- the number of the task is a stop's or a tip's
abbrev pub NextWithin : List ℕ → Next → Type 0
NextWithin day (Nexts.Stop k) = (0 < k) × (k ≤ stops day)
NextWithin day (Nexts.Tip x) = (0 < x) × (x ≤ tips day)
NextWithin day Nexts.Home = Unit {0}

-- there is a task
abbrev pub is_task : Next → Bool
is_task (Nexts.Stop k) = true
is_task (Nexts.Tip x) = true
is_task Nexts.Home = false
