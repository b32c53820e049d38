-- One vehicle's words in a lawful plan are that vehicle's: A, its tasks, E. Where there is no such vehicle the companion refuses.
-- Assumes nothing.
use Prim.Native.Nat.{ℕ, suc, ◌+◌, ◌≤◌, ◌<◌}
use mathlib.Core.Path.{◌≡◌, refl, sym, ap, ◌∙◌}
use mathlib.Core.Bool.{false}
use mathlib.Core.List.{List, [], ◌∷◌, ◌++◌, map, append_assoc}
use native.Mathlib.Omega.{arith}
use lib.ListN.{length, length-append, length-map, take, drop}
use lib.Seq.{take_at, drop_at}
use borrow.Author.Tests.{eq-eqb, ne_eqb}
use Rattle.rules.specs.Answers.{given, refused}
use Rattle.rules.specs.Lists.{Every}
use Rattle.rules.specs.Fields.{stops, IsAccepted}
use Rattle.rules.specs.PlanWords.{Word, back_word, left_word, word_of, read_plan}
use Rattle.rules.specs.Plan.{Task, serve, empty, lunch, Round, task_word, round_words, rounds_words, plan_words, Known}
use Rattle.rules.specs.Lawful.{Lawful}
use Rattle.rules.specs.VehiclePlace.{is_vehicle, is_back, words_to_back, place_from, vehicle_place, vehicle_words}
use Rattle.laws.proofs.Fresh.{every_split}
use Rattle.plan_laws.proofs.LawfulIff.{lawful_totals}
use Rattle.plan_laws.proofs.PlanChecks.{few_rounds}
use Rattle.plan_laws.proofs.RoundChecks.{task_form}
use Rattle.plan_laws.proofs.SameReading.{read_take, read_drop, place_read}
use Rattle.plan_words.proofs.WordForms.{vehicle_form, back_form, left_form}

-- a task's word is no A and no E
task_neither : (day : List ℕ) (number : ℕ) (task : Task) → Known day task
    → (is_vehicle number (word_of (task_word task)) ≡ false) × (is_back (word_of (task_word task)) ≡ false)
task_neither day number (serve k) h = rw (task_form day (serve k) h) (refl, refl)
task_neither day number (empty k) h = rw (task_form day (empty k) h) (refl, refl)
task_neither day number lunch h = rw (task_form day lunch h) (refl, refl)

-- the words up to E of a vehicle are all its words
tasks_to_back : (day : List ℕ) (tasks : Round) (behind : List ℕ) → Every (Known day) tasks → words_to_back (map task_word tasks ++ (back_word ∷ behind)) ≡ length tasks + 1
unfolding words_to_back Every
tasks_to_back day [] behind h = rw back_form refl
tasks_to_back day (task ∷ tasks) behind h =
    rw (task_neither day 0 task h.0).1 (omega (arith, tasks_to_back day tasks behind h.1))

pub round_length : (number : ℕ) (tasks : Round) → length (round_words number tasks) ≡ length tasks + 2
unfolding round_words
round_length number tasks = omega (arith, length-append (map task_word tasks) (back_word ∷ []), length-map tasks task_word)

pub round_to_back : (day : List ℕ) (number : ℕ) (tasks : Round) (behind : List ℕ) → number < 256 → Every (Known day) tasks
    → words_to_back (round_words number tasks ++ behind) ≡ length (round_words number tasks)
unfolding words_to_back round_words
round_to_back day number tasks behind n h =
    rw (vehicle_form number n, append_assoc (map task_word tasks) (back_word ∷ []) behind)
    (omega (arith, tasks_to_back day tasks behind h, round_length number tasks))

-- no vehicle is found among tasks, nor in another vehicle's words, nor among the stops left out
tasks_skip : (day : List ℕ) (number : ℕ) (tasks : Round) (behind : List ℕ) (i : ℕ) → Every (Known day) tasks
    → place_from number (map task_word tasks ++ (back_word ∷ behind)) i ≡ place_from number behind (i + length tasks + 1)
unfolding place_from Every
tasks_skip day number [] behind i h = rw back_form (ap (place_from number behind) (omega arith))
tasks_skip day number (task ∷ tasks) behind i h =
    rw (task_neither day number task h.0).0 (tasks_skip day number tasks behind (suc i) h.1 ∙ ap (place_from number behind) (omega arith))

round_skip : (day : List ℕ) (number other : ℕ) (tasks : Round) (behind : List ℕ) (i : ℕ) → other < 256 → (other ≡ number → ⊥) → Every (Known day) tasks
    → place_from number (round_words other tasks ++ behind) i ≡ place_from number behind (i + length (round_words other tasks))
unfolding place_from round_words
round_skip day number other tasks behind i n d h =
    rw (vehicle_form other n, ne_eqb other number d, append_assoc (map task_word tasks) (back_word ∷ []) behind)
    (tasks_skip day number tasks behind (suc i) h ∙ ap (place_from number behind) (omega (arith, round_length other tasks)))

pub rounds_skip : (day : List ℕ) (number before : ℕ) (rounds : List Round) (behind : List ℕ) (i : ℕ) → before + length rounds < 256
    → ((m : ℕ) → before < m → m ≤ before + length rounds → m ≡ number → ⊥) → Every (Every (Known day)) rounds
    → place_from number (rounds_words before rounds ++ behind) i ≡ place_from number behind (i + length (rounds_words before rounds))
unfolding rounds_words Every
rounds_skip day number before [] behind i n d h = ap (place_from number behind) (omega arith)
rounds_skip day number before (tasks ∷ rounds) behind i n d h =
    let words = round_words (suc before) tasks in
    let others = rounds_words (suc before) rounds in
    ap (λ (ws : List ℕ). place_from number ws i) (append_assoc words others behind)
    ∙ round_skip day number (suc before) tasks (others ++ behind) i (omega arith) (d (suc before) (omega arith) (omega arith)) h.0
    ∙ rounds_skip day number (suc before) rounds behind (i + length words) (omega arith) (λ m a b. d m (omega arith) (omega arith)) h.1
    ∙ ap (place_from number behind) (omega (arith, length-append words others))

lefts_skip : (day : List ℕ) (number : ℕ) (lefts : List ℕ) (i : ℕ) → Every (λ k. k ≤ stops day) lefts → place_from number (map left_word lefts) i ≡ refused 15 number
unfolding place_from Every
lefts_skip day number [] i h = refl
lefts_skip day number (k ∷ lefts) i h = rw (left_form k (omega (arith, h.0))) (lefts_skip day number lefts (suc i) h.1)

-- vehicles of two parts
pub rounds_append : (before : ℕ) (xs ys : List Round) → rounds_words before (xs ++ ys) ≡ rounds_words before xs ++ rounds_words (before + length xs) ys
unfolding rounds_words
rounds_append before [] ys = ap (λ (m : ℕ). rounds_words m ys) (omega arith)
rounds_append before (tasks ∷ xs) ys =
    let number : suc before + length xs ≡ before + length (tasks ∷ xs) = omega arith in
    ap (λ (ws : List ℕ). round_words (suc before) tasks ++ ws) (rounds_append (suc before) xs ys ∙ ap (λ (m : ℕ). rounds_words (suc before) xs ++ rounds_words m ys) number)
    ∙ sym (append_assoc (round_words (suc before) tasks) (rounds_words (suc before) xs) (rounds_words (before + length (tasks ∷ xs)) ys))

-- a vehicle's words stand at the front
place_here : (day : List ℕ) (number : ℕ) (tasks : Round) (others : List ℕ) (i : ℕ) → number < 256 → Every (Known day) tasks
    → place_from number (round_words number tasks ++ others) i ≡ given (i ∷ length (round_words number tasks) ∷ [])
unfolding round_words place_from
place_here day number tasks others i n h =
    rw (vehicle_form number n, eq-eqb number number refl) (ap (λ (m : ℕ). given (i ∷ m ∷ [])) (round_to_back day number tasks others n h))

-- the words of a plan around one vehicle
pub around : (before behind : List Round) (tasks : Round) (lefts : List ℕ)
    → plan_words (before ++ (tasks ∷ behind)) lefts
    ≡ rounds_words 0 before ++ (round_words (suc (length before)) tasks ++ (rounds_words (suc (length before)) behind ++ map left_word lefts))
unfolding plan_words rounds_words
around before behind tasks lefts =
    let number : 0 + length before ≡ length before = omega arith in
    let words = round_words (suc (length before)) tasks in
    let others = rounds_words (suc (length before)) behind in
    ap (λ (ws : List ℕ). ws ++ map left_word lefts)
    (rounds_append 0 before (tasks ∷ behind) ∙ ap (λ (m : ℕ). rounds_words 0 before ++ rounds_words m (tasks ∷ behind)) number)
    ∙ append_assoc (rounds_words 0 before) (words ++ others) (map left_word lefts)
    ∙ ap (λ (ws : List ℕ). rounds_words 0 before ++ ws) (append_assoc words others (map left_word lefts))

module _ (day plan : List ℕ) (ok : IsAccepted day) (l : Lawful day plan) where
  -- where the plan is lawful, the companion looks for the vehicle
  place_asked : (number : ℕ) → vehicle_place day plan number ≡ place_from number (plan_words l.rounds l.lefts) 0
  unfolding vehicle_place
  place_asked number = rw (lawful_totals day plan ok l) (place_read number plan (plan_words l.rounds l.lefts) 0 l.formed.text)

  few : length l.rounds < 256
  few = few_rounds day plan l.rounds l.lefts l.formed

  -- "no such vehicle in the plan": number 0, or above the vehicles
  pub no_vehicle : (number : ℕ) → ((m : ℕ) → 0 < m → m ≤ length l.rounds → m ≡ number → ⊥) → vehicle_place day plan number ≡ refused 15 number
  unfolding plan_words
  no_vehicle number d =
      place_asked number
      ∙ rounds_skip day number 0 l.rounds (map left_word l.lefts) 0 (omega (arith, few)) (λ m a b. d m a (omega arith)) l.formed.known
      ∙ lefts_skip day number l.lefts (0 + length (rounds_words 0 l.rounds)) l.formed.others

  -- a vehicle of the plan
  module _ (before behind : List Round) (tasks : Round) (e : l.rounds ≡ before ++ (tasks ∷ behind)) where
    abbrev words : List ℕ
    words = round_words (suc (length before)) tasks

    pub vehicle_there : vehicle_place day plan (suc (length before)) ≡ given (length (rounds_words 0 before) ∷ length words ∷ [])
    unfolding Every
    vehicle_there =
        let number = suc (length before) in
        let known = every_split (Every (Known day)) before (tasks ∷ behind) (rw e at l.formed.known) in
        let room : length before + suc (length behind) < 256 = omega (arith, ap length e, length-append before (tasks ∷ behind), few) in
        let others = rounds_words number behind ++ map left_word l.lefts in
        place_asked number
        ∙ ap (λ (ws : List ℕ). place_from number ws 0) (ap (λ (rs : List Round). plan_words rs l.lefts) e ∙ around before behind tasks l.lefts)
        ∙ rounds_skip day number 0 before (words ++ others) 0 (omega arith) (λ m a b q. omega arith) known.0
        ∙ place_here day number tasks others (0 + length (rounds_words 0 before)) (omega arith) known.1.0
        ∙ ap (λ (i : ℕ). given (i ∷ length words ∷ [])) (omega arith)

    -- its words are handed back
    pub vehicle_handed : read_plan (vehicle_words day plan (suc (length before))) ≡ read_plan words
    unfolding vehicle_words
    vehicle_handed =
        let front = rounds_words 0 before in
        let others = words ++ (rounds_words (suc (length before)) behind ++ map left_word l.lefts) in
        let text : read_plan plan ≡ read_plan (front ++ others) =
        l.formed.text ∙ ap read_plan (ap (λ (rs : List Round). plan_words rs l.lefts) e ∙ around before behind tasks l.lefts) in
        let part : List ℕ → List ℕ = λ ws. take (length words) (drop (length front) ws) in
        let part-read : (ws : List ℕ) → read_plan (part ws) ≡ take (length words) (drop (length front) (read_plan ws)) =
        λ ws. read_take (length words) (drop (length front) ws) ∙ ap (take (length words)) (read_drop (length front) ws) in
        rw vehicle_there
        (part-read plan ∙ ap (λ (l : List Word). take (length words) (drop (length front) l)) text ∙ sym (part-read (front ++ others))
        ∙ ap read_plan (ap (take (length words)) (drop_at front others (length front) refl) ∙ take_at words _ (length words) refl))
