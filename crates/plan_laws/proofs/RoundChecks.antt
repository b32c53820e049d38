-- Vehicles put together: what the check says of a plan from what it says of its vehicles and its F words. Every vehicle that is clear by
-- itself, whose numbers are known and whose stops are new, takes the check from one side of its words to the other.
-- Assumes nothing.
use Prim.Native.Nat.{ℕ, suc, ◌+◌, ◌≤◌, ◌<◌}
use mathlib.Core.Path.{◌≡◌, refl, ap, ap₂, ◌∙◌}
use mathlib.Core.Bool.{true, false}
use mathlib.Core.List.{List, [], ◌∷◌, ◌++◌, map, append_assoc}
use mathlib.Core.Logic.{◌↔◌}
use native.Mathlib.Omega.{arith}
use lib.ListN.{length, length-append, length-map}
use borrow.Author.Tests.{le-leb, lt-ltb, eq-eqb}
use Rattle.rules.specs.Lists.{Every}
use Rattle.rules.specs.Fields.{tips, stops}
use Rattle.rules.specs.PlanWords.{vehicle, back, vehicle_word, back_word, word_of}
use Rattle.rules.specs.Plan.{Task, serve, empty, lunch, Round, task_word, round_words, stops_on, Known, word_for}
use Rattle.rules.specs.Cargo.{cargo_fault, cargo_after}
use Rattle.rules.specs.Trip.{trip_fault}
use Rattle.rules.specs.Check.{within, well_formed, met_again, met_after, tally_after, Walk, walk_after, check_from}
use Rattle.laws.specs.Lists.{Fresh}
use Rattle.plan_laws.specs.Vehicles.{CargoClear, TripClear, Clear, walk_tasks, walk_round}
use Rattle.plan_laws.proofs.Passing.{Passes, word_passes}
use Rattle.plan_words.proofs.WordForms.{stop_form_lem, tip_form_lem, vehicle_form, rest_form, back_form}

-- a number of 1 to the most
pub within_true : (most k : ℕ) → 1 ≤ k → k ≤ most → within most k ≡ true
unfolding within
within_true most k h g = rw (le-leb 1 k h, le-leb k most g)

-- the word of a task whose number is known
pub task_form : (day : List ℕ) (task : Task) → Known day task → word_of (task_word task) ≡ word_for task
unfolding Known task_word
task_form day (serve k) h = stop_form_lem k (omega arith)
task_form day (empty k) h = tip_form_lem k (omega arith)
task_form day lunch h = rest_form

-- a task that is clear passes, inside a vehicle
task_passes : (day : List ℕ) (s : Walk) (task : Task) → s.tally.inside ≡ true → Known day task → met_again s.met (word_for task) ≡ false
    → cargo_fault day s.cargo (word_for task) ≡ 0 → trip_fault day s.trip (word_for task) ≡ 0 → Passes day s (word_for task)
unfolding well_formed Known
task_passes day s (serve k) e h m c t =
    record { formed = rw (e, within_true (stops day) k h.0 h.1); new = m; cargo = c; trip = t }
task_passes day s (empty k) e h m c t =
    record { formed = rw (e, within_true (tips day) k h.0 h.1); new = m; cargo = c; trip = t }
task_passes day s lunch e h m c t = record { formed = e; new = m; cargo = c; trip = t }

-- the stops of a task and of those behind it are new exactly where its own is and then theirs
pub task_new : (met : List ℕ) (task : Task) (tasks : Round)
    → Fresh met (stops_on (task ∷ tasks)) ↔ ((met_again met (word_for task) ≡ false) × Fresh (met_after met (word_for task)) (stops_on tasks))
unfolding Fresh stops_on met_again met_after
task_new met (serve k) tasks = (λ f. f, λ x. x)
task_new met (empty k) tasks = (λ f. (refl, f), λ x. x.1)
task_new met lunch tasks = (λ f. (refl, f), λ x. x.1)

-- the stops served on the way add up
pub task_visits : (day : List ℕ) (s : Walk) (task : Task) (tasks : Round)
    → (walk_after day s (word_for task)).cargo.visits + length (stops_on tasks) ≡ s.cargo.visits + length (stops_on (task ∷ tasks))
unfolding cargo_after stops_on
task_visits day s (serve k) tasks = omega arith
task_visits day s (empty k) tasks = refl
task_visits day s lunch tasks = refl

task_inside : (day : List ℕ) (s : Walk) (task : Task) → (walk_after day s (word_for task)).tally.inside ≡ s.tally.inside
unfolding tally_after
task_inside day s (serve k) = refl
task_inside day s (empty k) = refl
task_inside day s lunch = refl

-- the tasks of a vehicle, and its return
pub tasks_check : (day : List ℕ) (s : Walk) (tasks : Round) (behind : List ℕ) (i : ℕ) → s.tally.inside ≡ true → Every (Known day) tasks
    → Fresh s.met (stops_on tasks) → CargoClear day s.cargo tasks → TripClear day s.trip tasks → 0 < s.cargo.visits + length (stops_on tasks)
    → check_from day (map task_word tasks ++ (back_word ∷ behind)) i s ≡ check_from day behind (i + length tasks + 1) (walk_after day (walk_tasks day s tasks) back)
unfolding Every CargoClear TripClear walk_tasks well_formed met_again stops_on
tasks_check day s [] behind i e h f c t b =
    let at : suc i ≡ i + 0 + 1 = omega arith in
    let busy : 0 < s.cargo.visits = omega arith in
    word_passes day back_word behind i s back back_form (record { formed = rw (e, lt-ltb 0 s.cargo.visits busy); new = refl; cargo = c; trip = t })
    ∙ ap (λ (j : ℕ). check_from day behind j (walk_after day s back)) at
tasks_check day s (task ∷ tasks) behind i e h f c t b =
    let n = (task_new s.met task tasks).0 f in
    let at : suc i + length tasks + 1 ≡ i + length (task ∷ tasks) + 1 = omega arith in
    word_passes day (task_word task) (map task_word tasks ++ (back_word ∷ behind)) i s (word_for task) (task_form day task h.0)
    (task_passes day s task e h.0 n.0 c.0 t.0)
    ∙ tasks_check day (walk_after day s (word_for task)) tasks behind (suc i) (task_inside day s task ∙ e) h.1 n.1 c.1 t.1 (omega (arith, task_visits day s task tasks))
    ∙ ap (λ (j : ℕ). check_from day behind j (walk_after day (walk_tasks day (walk_after day s (word_for task)) tasks) back)) at

-- a vehicle: it may leave when none is out and no stop was left out yet
pub round_check : (day : List ℕ) (s : Walk) (tasks : Round) (behind : List ℕ) (i : ℕ) → s.tally.inside ≡ false → s.tally.last ≡ 0 → s.tally.vehicles < 255
    → Every (Known day) tasks → Fresh s.met (stops_on tasks) → Clear day tasks → 0 < length (stops_on tasks)
    → check_from day (round_words (suc s.tally.vehicles) tasks ++ behind) i s
    ≡ check_from day behind (i + length (round_words (suc s.tally.vehicles) tasks)) (walk_round day s tasks)
unfolding round_words walk_round well_formed met_again met_after cargo_after cargo_fault tally_after
round_check day s tasks behind i e l v h f c b =
    let number : suc s.tally.vehicles ≡ s.tally.vehicles + 1 = omega arith in
    let s' = walk_after day s (vehicle (suc s.tally.vehicles)) in
    let regroup : (map task_word tasks ++ (back_word ∷ [])) ++ behind ≡ map task_word tasks ++ (back_word ∷ behind) = append_assoc (map task_word tasks) (back_word ∷ []) behind in
    let at : suc i + length tasks + 1 ≡ i + length (vehicle_word (suc s.tally.vehicles) ∷ (map task_word tasks ++ (back_word ∷ []))) =
    omega (arith, length-append (map task_word tasks) (back_word ∷ []), length-map tasks task_word) in
    word_passes day (vehicle_word (suc s.tally.vehicles)) ((map task_word tasks ++ (back_word ∷ [])) ++ behind) i s (vehicle (suc s.tally.vehicles))
    (vehicle_form (suc s.tally.vehicles) (omega arith))
    (record { formed = rw (e, l, eq-eqb (suc s.tally.vehicles) (s.tally.vehicles + 1) number); new = refl; cargo = refl; trip = refl })
    ∙ ap (λ (ws : List ℕ). check_from day ws (suc i) s') regroup
    ∙ tasks_check day s' tasks behind (suc i) refl h f c.cargo c.trip (omega arith)
    ∙ ap₂ (λ (j k : ℕ). check_from day behind j (walk_after day (walk_tasks day (walk_after day s (vehicle k)) tasks) back)) at number
