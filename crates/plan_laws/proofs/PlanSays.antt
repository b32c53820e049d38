-- What the words of a plan say: vehicles, their tasks and their returns, then the stops left out. Assumes nothing.
use Prim.Native.Nat.{ℕ, suc, ◌+◌, ◌≤◌, ◌<◌}
use mathlib.Core.Path.{◌≡◌, refl, ap, ap₂, ◌∙◌}
use mathlib.Core.List.{List, [], ◌∷◌, ◌++◌, map, append_assoc}
use native.Mathlib.Omega.{arith}
use lib.ListN.{length}
use Rattle.rules.specs.Lists.{Every}
use Rattle.rules.specs.Fields.{stops}
use Rattle.rules.specs.PlanWords.{Word, vehicle, back, left, vehicle_word, back_word, left_word, read_plan}
use Rattle.rules.specs.Plan.{Round, task_word, round_words, rounds_words, Known, word_for}
use Rattle.plan_words.specs.Said.{says}
use Rattle.plan_words.proofs.WordForms.{vehicle_form, back_form, left_form}
use Rattle.plan_laws.proofs.RoundChecks.{task_form}

module _ (day : List ℕ) where
  -- a vehicle's tasks and its return, in front of other words
  pub tasks_say : (tasks : Round) (ws : List ℕ) → Every (Known day) tasks
      → read_plan (map task_word tasks ++ (back_word ∷ ws)) ≡ map word_for tasks ++ (back ∷ read_plan ws)
  unfolding Every
  tasks_say [] ws h = ap (λ (w : Word). w ∷ read_plan ws) back_form
  tasks_say (task ∷ tasks) ws h = ap₂ (λ (w : Word) (l : List Word). w ∷ l) (task_form day task h.0) (tasks_say tasks ws h.1)

  lefts_say : (lefts : List ℕ) → Every (λ k. k ≤ stops day) lefts → read_plan (map left_word lefts) ≡ map left lefts
  unfolding Every
  lefts_say [] h = refl
  lefts_say (k ∷ lefts) h = ap₂ (λ (w : Word) (l : List Word). w ∷ l) (left_form k (omega (arith, h.0))) (lefts_say lefts h.1)

  front : (number : ℕ) (tasks : Round) (ws us : List ℕ) → (round_words number tasks ++ ws) ++ us ≡ vehicle_word number ∷ (map task_word tasks ++ (back_word ∷ (ws ++ us)))
  unfolding round_words
  front number tasks ws us =
      ap (λ (xs : List ℕ). vehicle_word number ∷ (xs ++ us)) (append_assoc (map task_word tasks) (back_word ∷ []) ws)
      ∙ ap (λ (xs : List ℕ). vehicle_word number ∷ xs) (append_assoc (map task_word tasks) (back_word ∷ ws) us)

  pub plan_says : (from : ℕ) (rounds : List Round) (lefts : List ℕ) → Every (Every (Known day)) rounds → Every (λ k. k ≤ stops day) lefts
      → from + length rounds < 256 → read_plan (rounds_words from rounds ++ map left_word lefts) ≡ says from rounds lefts
  unfolding Every rounds_words says
  plan_says from [] lefts h g m = lefts_say lefts g
  plan_says from (tasks ∷ rounds) lefts h g m =
      let others = rounds_words (suc from) rounds ++ map left_word lefts in
      ap read_plan (front (suc from) tasks (rounds_words (suc from) rounds) (map left_word lefts))
      ∙ ap₂ (λ (w : Word) (l : List Word). w ∷ l) (vehicle_form (suc from) (omega arith)) (tasks_say tasks others h.0)
      ∙ ap (λ (l : List Word). vehicle (suc from) ∷ (map word_for tasks ++ (back ∷ l))) (plan_says (suc from) rounds lefts h.1 g (omega arith))
