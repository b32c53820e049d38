-- Where the words of each vehicle stand in a plan, by where the vehicles start. Vehicles are counted from 0 here.
-- Assumes nothing.
use Prim.Native.Nat.{ℕ, suc, ◌+◌, ◌-◌, ◌≤◌, ◌<◌}
use mathlib.Core.Path.{◌≡◌, refl, sym, ap, ◌∙◌}
use mathlib.Core.List.{List, [], ◌∷◌, ◌++◌, map, append_assoc, append-nil}
use native.Mathlib.Numerals.{add-one}
use native.Mathlib.Omega.{arith}
use lib.ListN.{length, length-append, length-drop, length-map, get_or, take, drop, take-append-drop, get_or-append}
use lib.Seq.{split_at, take-suc, take_at, take-take, drop_at, drop-drop, get_or-drop, length-take-le}
use Rattle.rules.specs.PlanWords.{back_word, left_word}
use Rattle.rules.specs.Plan.{lunch, Round, task_word, round_words, rounds_words, plan_words}
use Rattle.laws.proofs.Lists.{get_map}
use Rattle.plan_laws.proofs.Theorems.{round_length, rounds_append, around}
use Rattle.trial_list.specs.Survey.{Laid, VehicleIn}

-- the words of one vehicle more, and how many they are
pub rounds_more : (done : List Round) (tasks : Round) → rounds_words 0 (done ++ (tasks ∷ [])) ≡ rounds_words 0 done ++ round_words (length done + 1) tasks
unfolding rounds_words
rounds_more done tasks =
    let e : suc (0 + length done) ≡ length done + 1 = omega arith in
    rounds_append 0 done (tasks ∷ []) ∙ ap (λ (ws : List ℕ). rounds_words 0 done ++ ws) (rw (e, append-nil (round_words (length done + 1) tasks)) refl)

rounds_length : (done : List Round) (tasks : Round) → length (rounds_words 0 (done ++ (tasks ∷ []))) ≡ length (rounds_words 0 done) + (length tasks + 2)
rounds_length done tasks =
    ap length (rounds_more done tasks)
    ∙ omega (arith, length-append (rounds_words 0 done) (round_words (length done + 1) tasks), round_length (length done + 1) tasks)

-- a vehicle stands behind those in front of it
module _ (rounds : List Round) where
  pub starts_next : (v : ℕ) → v < length rounds
      → length (rounds_words 0 (take (v + 1) rounds)) ≡ length (rounds_words 0 (take v rounds)) + (length (get_or rounds v []) + 2)
  starts_next v l = rw (add-one, take-suc rounds v [] l) (rounds_length (take v rounds) (get_or rounds v []))

  pub starts_rise : (u v : ℕ) → u < v → v ≤ length rounds
      → length (rounds_words 0 (take u rounds)) + length (get_or rounds u []) + 2 ≤ length (rounds_words 0 (take v rounds))
  starts_rise u v h l =
      let front : take (u + 1) rounds ≡ take (u + 1) (take v rounds) = sym (take-take (u + 1) v rounds (omega arith)) in
      let parts = ap length (rounds_append 0 (take (u + 1) (take v rounds)) (drop (u + 1) (take v rounds))) in
      omega (arith, starts_next u (omega arith), ap (λ (rs : List Round). length (rounds_words 0 rs)) front, ap (λ (rs : List Round). length (rounds_words 0 rs)) (take-append-drop (u + 1) (take v rounds)), parts, length-append (rounds_words 0 (take (u + 1) (take v rounds))) (rounds_words (0 + length (take (u + 1) (take v rounds))) (drop (u + 1) (take v rounds))))

-- the words behind vehicle v
abbrev pub others : List Round → List ℕ → ℕ → List ℕ
others rounds lefts v = rounds_words (v + 1) (drop (suc v) rounds) ++ map left_word lefts

-- vehicle v of a plan stands where the words of those in front of it end
module _ (rounds : List Round) (lefts : List ℕ) {plan : List ℕ} (text : plan ≡ plan_words rounds lefts) {v at : ℕ}
    (placed : at ≡ length (rounds_words 0 (take v rounds))) (l : v < length rounds) where
  pub placed_words : drop at plan ≡ round_words (v + 1) (get_or rounds v []) ++ others rounds lefts v
  placed_words =
      let front = take v rounds in
      let number : suc (length front) ≡ v + 1 = omega (arith, length-take-le v rounds (omega arith)) in
      ap (drop at)
      (text ∙ ap (λ (rs : List Round). plan_words rs lefts) (split_at rounds v [] l) ∙ around front (drop (suc v) rounds) (get_or rounds v []) lefts
      ∙ ap (λ (n : ℕ). rounds_words 0 front ++ (round_words n (get_or rounds v []) ++ (rounds_words n (drop (suc v) rounds) ++ map left_word lefts))) number)
      ∙ drop_at (rounds_words 0 front) (round_words (v + 1) (get_or rounds v []) ++ others rounds lefts v) at (sym placed)

  pub placed_inside : at + length (get_or rounds v []) + 2 ≤ length plan
  placed_inside =
      omega (
        arith,
        ap length placed_words,
        length-drop at plan,
        length-append (round_words (v + 1) (get_or rounds v [])) (others rounds lefts v),
        round_length (v + 1) (get_or rounds v []),
      )

  -- its tasks stand behind its A word, then E, then other words
  pub placed_tasks : drop (at + 1) plan ≡ map task_word (get_or rounds v []) ++ (back_word ∷ others rounds lefts v)
  unfolding round_words
  placed_tasks =
      sym (drop-drop 1 at plan) ∙ ap (drop 1) placed_words ∙ append_assoc (map task_word (get_or rounds v [])) (back_word ∷ []) (others rounds lefts v)

-- the same by where the vehicles start
module _ {plan starts : List ℕ} {rounds : List Round} {lefts : List ℕ} (h : Laid plan starts rounds lefts) {v : ℕ} (l : v < length rounds) where
  abbrev tasks : Round
  tasks = get_or rounds v []

  abbrev pub behind : List ℕ
  behind = others rounds lefts v

  starts_here : get_or starts v 0 ≡ length (rounds_words 0 (take v rounds))
  starts_here = h.starting.at v (omega arith)

  -- the next one starts behind its E word
  pub start_next : get_or starts (v + 1) 0 ≡ get_or starts v 0 + length tasks + 2
  start_next = omega (arith, h.starting.at (v + 1) (omega arith), starts_here, starts_next rounds v l)

  pub vehicle_inside : get_or starts (v + 1) 0 ≤ length plan
  vehicle_inside = omega (arith, start_next, placed_inside rounds lefts h.text starts_here l)

  pub vehicle_in : length rounds ≤ 240 → VehicleIn plan starts v
  vehicle_in few = record { few = omega arith; table = h.starting.size; order = omega (arith, start_next); inside = vehicle_inside }

  -- all its words
  pub round_are : take (get_or starts (v + 1) 0 - get_or starts v 0) (drop (get_or starts v 0) plan) ≡ round_words (v + 1) tasks
  round_are =
      let n = get_or starts (v + 1) 0 - get_or starts v 0 in
      ap (take n) (placed_words rounds lefts h.text starts_here l)
      ∙ take_at (round_words (v + 1) tasks) behind n (omega (arith, start_next, round_length (v + 1) tasks))

  pub tasks_text : drop (get_or starts v 0 + 1) plan ≡ map task_word tasks ++ (back_word ∷ behind)
  tasks_text = placed_tasks rounds lefts h.text starts_here l

  -- the words between its A and its E word
  pub words_are : take (get_or starts (v + 1) 0 - 1 - (get_or starts v 0 + 1)) (drop (get_or starts v 0 + 1) plan) ≡ map task_word tasks
  words_are =
      let n = get_or starts (v + 1) 0 - 1 - (get_or starts v 0 + 1) in
      ap (take n) tasks_text ∙ take_at (map task_word tasks) (back_word ∷ behind) n (omega (arith, start_next, length-map tasks task_word))

  -- the word of a task
  pub task_word_lem : (t : ℕ) → t < length tasks → get_or plan (get_or starts v 0 + 1 + t) 0 ≡ task_word (get_or tasks t lunch)
  task_word_lem t k =
      sym (get_or-drop (get_or starts v 0 + 1) plan t 0) ∙ ap (λ (ws : List ℕ). get_or ws t 0) tasks_text
      ∙ get_or-append (map task_word tasks) (back_word ∷ behind) 0 t (omega (arith, length-map tasks task_word)) ∙ get_map task_word tasks t 0 lunch k
