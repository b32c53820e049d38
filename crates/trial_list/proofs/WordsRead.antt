-- What is known of a word of a plan by what it says. Assumes nothing.
use Prim.Native.Nat.{ℕ, ◌<◌}
use mathlib.Core.Path.{◌≡◌, sym}
use mathlib.Core.Bool.{true, true≢false}
use mathlib.Core.List.{List}
use native.Mathlib.Omega.{arith}
use Rattle.rules.specs.PlanWords.{Word, tip, stop_word, word_of}
use Rattle.rules.specs.Plan.{Task, serve, empty, lunch, word_for, Known}
use Rattle.plan_words.proofs.WordForms.{Apart, is_vehicle, is_stop, is_tip, is_rest, is_back, is_left, is_stray, apart}
use Rattle.trial_list.specs.Survey.{NamesOf, names_vehicle}

-- what a known task's word names
pub known_names : (day : List ℕ) (task : Task) → Known day task → NamesOf day (word_for task)
unfolding Known
known_names day (serve k) h = record { stops_in = λ j e. let q : k ≡ j = cc in omega (arith, h.1, q); tips_in = λ j e. absurd cc }
known_names day (empty k) h = record { stops_in = λ j e. absurd cc; tips_in = λ j e. let q : k ≡ j = cc in omega (arith, h.1, q) }
known_names day lunch h = record { stops_in = λ j e. absurd cc; tips_in = λ j e. absurd cc }

-- an A word stands before the words of all other kinds, and a number of a tip is small
pub vehicle_low : (w : ℕ) → names_vehicle (word_of w) ≡ true → w < stop_word 0
vehicle_low w = go (word_of w) (apart w)
  where
    go : (is : Word) → Apart w is → names_vehicle is ≡ true → w < stop_word 0
    go is (is_vehicle k h kind e) t = omega (arith, kind)
    go is (is_stop k h kind e) t = absurd (true≢false (sym t))
    go is (is_tip k h kind e) t = absurd (true≢false (sym t))
    go is (is_rest r e) t = absurd (true≢false (sym t))
    go is (is_back r e) t = absurd (true≢false (sym t))
    go is (is_left k h kind e) t = absurd (true≢false (sym t))
    go is (is_stray e) t = absurd (true≢false (sym t))

pub tip_small : (w k : ℕ) → word_of w ≡ tip k → k < 256
tip_small w k = go (word_of w) (apart w)
  where
    go : (is : Word) → Apart w is → is ≡ tip k → k < 256
    go is (is_vehicle j h kind e) t = absurd cc
    go is (is_stop j h kind e) t = absurd cc
    go is (is_tip j h kind e) t = let same : j ≡ k = cc in omega (arith, h, same)
    go is (is_rest r e) t = absurd cc
    go is (is_back r e) t = absurd cc
    go is (is_left j h kind e) t = absurd cc
    go is (is_stray e) t = absurd cc
