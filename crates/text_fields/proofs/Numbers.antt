-- Laws of reading a number: digit by digit, held at 1,000,000.
-- Assumes nothing.
use Rattle.std.specs.Prelude.{if◌then◌else◌}
use Rattle.std.specs.List.{fold, take_while}
use Rattle.std.proofs.lemmas.List.Sums.{take_while-cons}
use Prim.Native.Nat.{ℕ, ◌+◌, ◌*◌, ◌-◌, ◌≤◌, ◌<◌, min}
use mathlib.Core.Path.{◌≡◌, sym, ◌∙◌}
use mathlib.Core.Bool.{Bool, true, false}
use mathlib.Core.List.{List, [], ◌∷◌}
use native.Mathlib.Omega.{arith}
use lib.ListN.{drop}
use lib.Dec.{ltb}
use borrow.Author.Tests.{ltb-false}
use Rattle.laws.proofs.Tests.{only_second}
use Rattle.rules.specs.TextFields.{is_digit, value_from, number_at}
use Rattle.text_fields.specs.Runs.{held_at}

pub digit_low : (b : ℕ) {t : Bool} → t ≡ is_digit b → t ≡ true → 48 ≤ b
unfolding is_digit
digit_low b e h = ltb-false _ _ (only_second (ltb b 48) (λ z. absurd (let y : ◌≡◌ {A = ℕ} 0 1 = cc in omega arith)) (sym e ∙ h)).0

-- the number with one digit more, held at 1,000,000
abbrev pub grown : ℕ → ℕ → ℕ
grown v b = min (10 * v + (b - 48)) 1000000

-- to hold a number at 1,000,000 digit by digit is to hold it at the end
held_along : (bs : List ℕ) (v w : ℕ) → w ≡ min 1000000 v → fold grown w (take_while is_digit bs) ≡ min 1000000 (value_from bs v)
unfolding value_from
held_along [] v w e = e
held_along (b ∷ bs) v w e = rw (take_while-cons is_digit b bs) (go (is_digit b) (held_along bs (10 * v + (b - 48)) (grown w b) (omega arith)))
  where
    go : (t : Bool) → fold grown (grown w b) (take_while is_digit bs) ≡ min 1000000 (value_from bs (10 * v + (b - 48)))
        → fold grown w (if t then b ∷ take_while is_digit bs else []) ≡ min 1000000 (if t then value_from bs (10 * v + (b - 48)) else v)
    go true h = h
    go false h = e

pub number_folded : (text : List ℕ) (at : ℕ) {bytes : List ℕ} {v : ℕ} → bytes ≡ drop at text
    → v ≡ fold grown 0 (take_while is_digit bytes) → (v ≡ held_at text at) × (v ≤ 1000000)
unfolding held_at number_at
number_folded text at b e = let k = rw b at e ∙ held_along (drop at text) 0 0 (omega arith) in (k, omega arith)

-- to hold a number at 1,000,000 hides nothing from a limit below that
module _ (text : List ℕ) (at : ℕ) {v : ℕ} (held : v ≡ held_at text at) where
  pub held_within : v < 1000000 → v ≡ number_at text at
  unfolding held_at
  held_within h = omega arith

  pub held_most : (limit : ℕ) → limit < 1000000 → number_at text at ≤ limit → v ≡ number_at text at
  unfolding held_at
  held_most limit low h = omega arith

  pub held_over : (limit : ℕ) → limit < v → limit < number_at text at
  unfolding held_at
  held_over limit h = omega arith
