-- An edit as the code names it, and what it makes of a task's word. It serves the contracts of the functions that make trials.
-- Assumes nothing.
use Rattle.std.specs.Prelude.{ℕ, ◌<◌, List, [], ◌∷◌}
use Rattle.rules.specs.PlanWords.{stop_word, tip_word}
use Rattle.rules.specs.Plan.{Task, serve, empty, Round, Known}
use Rattle.rules.specs.Edits.{Edit, before, after, swap, remove, replace, change, Trial, on_two}
use Rattle.edits.specs.declared.Change.{Change}
use Rattle.edits.specs.declared.Change.TheVariants.{Gone, One, Two}
use Rattle.edits.specs.declared.Edit as Code
use Rattle.edits.specs.declared.Edit.TheVariants as Edits

-- the edit that the code names
abbrev pub edit_of : Code.Edit → Edit
edit_of (Edits.Before i j) = before i j
edit_of (Edits.After i j) = after i j
edit_of (Edits.Swap i j) = swap i j
edit_of (Edits.Remove at) = remove at
edit_of (Edits.Replace at x) = replace at x

-- the trial that the code names by its edit and the vehicles that it touches
abbrev pub trial_of : Code.Edit → ℕ → ℕ → Trial
trial_of e one other = on_two (edit_of e) one other

-- the numbers of an edit are those of the day's stops and tips
abbrev pub Named : List ℕ → Edit → Type 0
Named day (before i j) = Known day (serve i) × Known day (serve j)
Named day (after i j) = Known day (serve i) × Known day (serve j)
Named day (swap i j) = Known day (serve i) × Known day (serve j)
Named day (remove at) = Unit {0}
Named day (replace at x) = Known day (empty x)

abbrev pub EditKnown : List ℕ → Code.Edit → Type 0
EditKnown day e = Named day (edit_of e)

-- and small, so that their words can be made
abbrev pub EditSmall : Code.Edit → Type 0
EditSmall (Edits.Before i j) = (i < 256) × (j < 256)
EditSmall (Edits.After i j) = (i < 256) × (j < 256)
EditSmall (Edits.Swap i j) = (i < 256) × (j < 256)
EditSmall (Edits.Remove at) = Unit {0}
EditSmall (Edits.Replace at x) = x < 256

-- a word that is walked, of a stop or a tip
pub data Means (day : List ℕ) : ℕ → Task → Type 0 where
  a_stop : (k : ℕ) → Known day (serve k) → Means day (stop_word k) (serve k)
  a_tip : (x : ℕ) → Known day (empty x) → Means day (tip_word x) (empty x)

-- the words that there are now, and their tasks
pub data Makes (day : List ℕ) : Change → Round → Type 0 where
  makes_none : Makes day Gone []
  makes_one : (w : ℕ) (task : Task) → Means day w task → Makes day (One w) (task ∷ [])
  makes_two : (v w : ℕ) (first second : Task) → Means day v first → Means day w second → Makes day (Two v w) (first ∷ second ∷ [])

-- what becomes of a task, as words
abbrev pub Becomes : List ℕ → Edit → ℕ → Task → Change → Type 0
Becomes day e t task made = Makes day made (change e t task)
