-- To pass over bytes of a kind is to count them. Assumes nothing.
use Rattle.std.specs.Prelude.{if◌then◌else◌}
use Rattle.std.specs.List.{take_while, prefix_len}
use Rattle.std.proofs.lemmas.List.Folds.{length-prefix_len}
use Prim.Native.Nat.{ℕ, suc, ◌+◌}
use mathlib.Core.Path.{◌≡◌}
use mathlib.Core.Bool.{Bool, true, false}
use mathlib.Core.List.{List, [], ◌∷◌}
use native.Mathlib.Omega.{arith}
use lib.ListN.{length, drop}
use Rattle.rules.specs.TextFields.{passed_from, passed}

counted_from : (kind : ℕ → Bool) (bs : List ℕ) (i : ℕ) → passed_from kind bs i ≡ i + prefix_len kind bs
unfolding passed_from
counted_from kind [] i = omega arith
counted_from kind (b ∷ bs) i = go (kind b) (counted_from kind bs (suc i))
  where
    go : (t : Bool) → passed_from kind bs (suc i) ≡ suc i + prefix_len kind bs
        → (if t then passed_from kind bs (suc i) else i) ≡ i + (if t then 1 + prefix_len kind bs else 0)
    go true h = omega arith
    go false h = omega arith

pub passed_counts : (kind : ℕ → Bool) (text : List ℕ) (at : ℕ) → passed kind text at ≡ at + prefix_len kind (drop at text)
unfolding passed
passed_counts kind text at = counted_from kind (drop at text) at

pub passed_counted : (kind : ℕ → Bool) (text : List ℕ) (at : ℕ) {bytes : List ℕ} {n : ℕ} → bytes ≡ drop at text
    → n ≡ length (take_while kind bytes) → at + n ≡ passed kind text at
passed_counted kind text at b e = omega (arith, passed_counts kind text at, length-prefix_len kind (drop at text), rw b at e)
