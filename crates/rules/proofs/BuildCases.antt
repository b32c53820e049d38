-- The greedy plan of day M, by computation. Assumes nothing.
use mathlib.Core.Path.{◌≡◌, refl}
use mathlib.Core.List.{[], ◌∷◌}
use lib.ListN.{set}
use Rattle.rules.specs.Tests.{wins, better, least}
use Rattle.rules.specs.Plan.{task_word, round_words, rounds_words, plan_words}
use Rattle.rules.specs.Home.{open_tip, nearest_tip, due, rest_if_due, home_direct, home_by_tip, home_loaded, way_home}
use Rattle.rules.specs.Choice.{suits, takeable, waitable, nearest_stop, earliest_stop, near_capacity, farther, chosen_stop}
use Rattle.rules.specs.Build.{resting, serving, emptying, next_task, drive, one_vehicle, fleet, routed, remaining, greedy_plan, could_take_first}
use Rattle.rules.proofs.DayM.{window_word, day_m}
use Rattle.rules.proofs.CheckCases.{computed}

-- all that a choice computes by
unfoldable chosen : Unit {0}
unfolding wins better least suits takeable waitable nearest_stop earliest_stop near_capacity farther chosen_stop due rest_if_due home_direct home_by_tip home_loaded way_home open_tip nearest_tip
chosen = tt

-- all that the build computes by
unfoldable pub built : Unit {0}
unfolding computed chosen task_word round_words rounds_words plan_words resting serving emptying next_task drive one_vehicle fleet routed remaining greedy_plan could_take_first
built = tt

greedy_a : greedy_plan (day_m 100 30 60 60 50) ≡ 0xA0000001 ∷ 0xB0000001 ∷ 0xC0000001 ∷ 0xD0000000 ∷ 0xB0000002 ∷ 0xC0000001 ∷ 0xE0000000 ∷ []
unfolding built
greedy_a = refl

-- both stops are ten minutes away, and stop 2 closes first
greedy_c : greedy_plan (day_m 100 30 60 60 49) ≡ 0xA0000001 ∷ 0xB0000002 ∷ 0xC0000001 ∷ 0xD0000000 ∷ 0xB0000001 ∷ 0xC0000001 ∷ 0xE0000000 ∷ []
unfolding built
greedy_c = refl

-- both stops open at 15, and stop 2 closes first
opening_tie : greedy_plan (set (set (day_m 100 30 60 60 50) 9 (window_word 5 15 50)) 12 (window_word 5 15 49))
    ≡ 0xA0000001 ∷ 0xB0000002 ∷ 0xC0000001 ∷ 0xD0000000 ∷ 0xE0000000 ∷ 0xA0000002 ∷ 0xB0000001 ∷ 0xC0000001 ∷ 0xD0000000 ∷ 0xE0000000 ∷ []
unfolding built
opening_tie = refl
