-- The words of a plan tell its vehicles: two plans of the form whose words say the same have the same vehicles. So what the check finds in the
-- words of a plan it says of the plan's own vehicles.
-- Assumes nothing.
use Prim.Native.Nat.{ℕ, suc}
use mathlib.Core.Path.{◌≡◌, refl, sym, ap, ap₂, ◌∙◌, subst}
use mathlib.Core.Bool.{true}
use mathlib.Core.List.{List, [], ◌∷◌, ◌++◌, map, nil≢cons, head-eq_of_cons-eq, tail-eq_of_cons-eq}
use mathlib.Core.Option.{Option, none, some, none-ne-some, some-injective}
use native.Mathlib.Omega.{arith}
use Rattle.rules.specs.Answers.{given, is_given}
use Rattle.rules.specs.Lists.{Every}
use Rattle.rules.specs.Fields.{IsAccepted}
use Rattle.rules.specs.PlanWords.{Word, vehicle, stop, tip, rest, back, left, stray, read_plan}
use Rattle.rules.specs.Plan.{Task, serve, empty, lunch, Round, plan_words, Formed, word_for}
use Rattle.rules.specs.Lawful.{Loads, Timed, Lawful, totals}
use Rattle.rules.specs.Check.{check_plan, check_words}
use Rattle.plan_words.specs.Said.{says}
use Rattle.plan_laws.proofs.LawfulIff.{lawful_iff, lawful_totals}
use Rattle.plan_laws.proofs.PlanChecks.{few_rounds}
use Rattle.plan_laws.proofs.PlanSays.{plan_says}

-- the task that a word says, if it says one
abbrev pub task_in : Word → Option Task
task_in (stop k) = some (serve k)
task_in (tip k) = some (empty k)
task_in rest = some lunch
task_in back = none
task_in (vehicle k) = none
task_in (left k) = none
task_in stray = none

task_in_lem : (task : Task) → task_in (word_for task) ≡ some task
task_in_lem (serve k) = refl
task_in_lem (empty k) = refl
task_in_lem lunch = refl

-- words that begin with no task
abbrev pub NoTask : List Word → Type 0
NoTask ws = (task : Task) (us : List Word) → ws ≡ word_for task ∷ us → ⊥

pub no_task_lem : (u : Word) (ws : List Word) → task_in u ≡ none → NoTask (u ∷ ws)
no_task_lem u ws x task us e = none-ne-some task (sym x ∙ ap task_in (head-eq_of_cons-eq e) ∙ task_in_lem task)

-- a vehicle's tasks end where no task comes
pub tasks_told : (tasks others : Round) (ws us : List Word) → NoTask ws → NoTask us → map word_for tasks ++ ws ≡ map word_for others ++ us → (tasks ≡ others) × (ws ≡ us)
tasks_told [] [] ws us n m e = (refl, e)
tasks_told [] (other ∷ others) ws us n m e = absurd (n other _ e)
tasks_told (task ∷ tasks) [] ws us n m e = absurd (m task _ (sym e))
tasks_told (task ∷ tasks) (other ∷ others) ws us n m e =
    let p = tasks_told tasks others ws us n m (tail-eq_of_cons-eq e) in
    let same : task ≡ other = some-injective task other (sym (task_in_lem task) ∙ ap task_in (head-eq_of_cons-eq e) ∙ task_in_lem other) in
    (ap₂ (λ (t : Task) (ts : Round). t ∷ ts) same p.0, p.1)

-- a stop left out begins no vehicle
not_left : (lefts : List ℕ) (number : ℕ) (ws : List Word) → map left lefts ≡ vehicle number ∷ ws → ⊥
not_left [] number ws e = nil≢cons e
not_left (k ∷ lefts) number ws e = let z : ◌≡◌ {A = ℕ} 0 1 = cc in omega arith

lefts_told : (lefts away : List ℕ) → map left lefts ≡ map left away → lefts ≡ away
lefts_told [] [] e = refl
lefts_told [] (k ∷ away) e = absurd (nil≢cons e)
lefts_told (k ∷ lefts) [] e = absurd (nil≢cons (sym e))
lefts_told (k ∷ lefts) (l ∷ away) e =
    let same : k ≡ l = cc in
    ap₂ (λ (x : ℕ) (xs : List ℕ). x ∷ xs) same (lefts_told lefts away (tail-eq_of_cons-eq e))

-- what a plan says tells its vehicles and the stops left out
rounds_told : (from : ℕ) (rounds others : List Round) (lefts away : List ℕ) → says from rounds lefts ≡ says from others away → (rounds ≡ others) × (lefts ≡ away)
unfolding says
rounds_told from [] [] lefts away e = (refl, lefts_told lefts away e)
rounds_told from [] (other ∷ others) lefts away e = absurd (not_left lefts (suc from) _ e)
rounds_told from (tasks ∷ rounds) [] lefts away e = absurd (not_left away (suc from) _ (sym e))
rounds_told from (tasks ∷ rounds) (other ∷ others) lefts away e =
    let p = tasks_told tasks other _ _ (no_task_lem back _ refl) (no_task_lem back _ refl) (tail-eq_of_cons-eq e) in
    let q = rounds_told (suc from) rounds others lefts away (tail-eq_of_cons-eq p.1) in
    (ap₂ (λ (t : Round) (ts : List Round). t ∷ ts) p.0 q.0, q.1)

-- a plan of the form says its vehicles and the stops left out
pub formed_says : (day plan : List ℕ) (rounds : List Round) (lefts : List ℕ) → Formed day plan rounds lefts → read_plan plan ≡ says 0 rounds lefts
unfolding plan_words
formed_says day plan rounds lefts f = f.text ∙ plan_says day 0 rounds lefts f.known f.others (omega (arith, few_rounds day plan rounds lefts f))

-- so there are no others
pub formed_only : (day plan : List ℕ) (rounds others : List Round) (lefts away : List ℕ) → Formed day plan rounds lefts → Formed day plan others away
    → (rounds ≡ others) × (lefts ≡ away)
formed_only day plan rounds others lefts away f g =
    rounds_told 0 rounds others lefts away (sym (formed_says day plan rounds lefts f) ∙ formed_says day plan others away g)

module _ (day : List ℕ) where
  -- vehicles whose words the check calls lawful: they have the form, loads and timetables, and the check answers with their totals
  module _ (accepted : IsAccepted day) (rounds : List Round) (lefts : List ℕ)
      (f : Formed day (plan_words rounds lefts) rounds lefts) (e : is_given (check_words day (plan_words rounds lefts)) ≡ true) where
    answered : is_given (check_plan day (plan_words rounds lefts)) ≡ true
    unfolding check_plan
    answered = rw accepted e

    found : Lawful day (plan_words rounds lefts)
    found = ((lawful_iff day (plan_words rounds lefts)).0 answered).1

    same : found.rounds ≡ rounds
    same = (formed_only day (plan_words rounds lefts) found.rounds rounds found.lefts lefts found.formed f).0

    pub told_lawful : Lawful day (plan_words rounds lefts)
    told_lawful =
        record {
          rounds = rounds;
          lefts = lefts;
          formed = f;
          loads = subst (Every (Loads day)) same found.loads;
          timed = subst (Every (Timed day)) same found.timed;
        }

    pub told_totals : check_plan day (plan_words rounds lefts) ≡ given (totals day rounds)
    unfolding told_lawful
    told_totals = lawful_totals day (plan_words rounds lefts) accepted told_lawful
