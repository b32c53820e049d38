-- Words copied to the front of a part, and the parts of a vehicle's words. Assumes nothing.
use Prim.Native.Nat.{ℕ, ◌+◌, ◌-◌, ◌≤◌, ◌<◌}
use mathlib.Core.Path.{◌≡◌, refl, sym, ap}
use mathlib.Core.List.{List, [], ◌∷◌, map}
use native.Mathlib.Omega.{arith}
use native.Mathlib.Numerals.{add-one}
use lib.ListN.{length, length-append, get_or, take, drop, set}
use lib.Seq.{take-suc, take_at}
use Rattle.rules.specs.PlanWords.{back_word}
use Rattle.rules.specs.Plan.{Round, task_word, round_words}
use Rattle.laws.specs.Buffer.{Wrote}
use Rattle.laws.proofs.Buffer.{wrote_put, wrote_same}

-- one word more is copied
pub copy_next : (words : List ℕ) (i d : ℕ) {p part : List ℕ} → Wrote (take i words) p part i → i < length words → length words ≤ length p
    → Wrote (take (i + 1) words) p (set part i (get_or words i d)) (i + 1)
copy_next words i d w l h = wrote_same (wrote_put w (get_or words i d) (omega arith)) (sym (rw add-one (take-suc words i d l))) refl

-- a part from the front
pub front_part : (n : ℕ) (xs : List ℕ) → take (n - 0) (drop 0 xs) ≡ take n xs
front_part n xs = let e : n - 0 ≡ n = omega arith in ap (λ (k : ℕ). take k xs) e

-- the tasks of a vehicle stand between its A and its E
pub inner_words : (number : ℕ) (tasks : Round) (words : List ℕ) → words ≡ round_words number tasks → take (length words - 1 - 1) (drop 1 words) ≡ map task_word tasks
unfolding round_words
inner_words number tasks words e =
    let n : length (round_words number tasks) - 1 - 1 ≡ length (map task_word tasks) = omega (arith, length-append (map task_word tasks) (back_word ∷ [])) in
    rw (e, n) (take_at (map task_word tasks) (back_word ∷ []) (length (map task_word tasks)) refl)
