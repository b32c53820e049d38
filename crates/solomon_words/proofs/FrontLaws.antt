-- Laws of the words in front of the legs: one for each way through their tests. Assumes nothing.
use Rattle.std.proofs.Common.{◌≡◌, ℕ, ◌+◌, ◌-◌, ◌/◌, ◌%◌, ◌≤◌, ◌<◌, List, ◌++◌, length, take, drop, refl, sym, ap, ◌∙◌, arith, append-nil}
use Rattle.std.proofs.lemmas.List.{length-take-le}
use Rattle.std.proofs.Math.ListN.{drop_of_length-le}
use borrow.Author.Tests.{eq-eqb, ne_eqb, lt-ltb, le-ltb}
use Rattle.rules.specs.DayFile.{legs_at}
use Rattle.rules.specs.Lists.{listed, over}
use Rattle.laws.specs.Buffer.{Wrote}
use Rattle.laws.proofs.Buffer.{over_drop}
use Rattle.laws.proofs.Listed.{length_listed}
use Rattle.rules.specs.SolomonDay.{hours_word, stop_word, day_word}

-- the three words of a stop
module _ (number : ℕ → ℕ → ℕ) (j : ℕ) {k r : ℕ} where
  pub stop_hours : j % 3 ≡ 0 → k ≡ 1 + j / 3 → r ≡ hours_word number k → r ≡ stop_word number j
  unfolding stop_word
  stop_hours h ek er = rw (eq-eqb (j % 3) 0 h, ← ek) er

  pub stop_service : (j % 3 ≡ 0 → ⊥) → j % 3 ≡ 1 → k ≡ 1 + j / 3 → r ≡ number k 6 → 1879048192 + r ≡ stop_word number j
  unfolding stop_word
  stop_service h g ek er = rw (ne_eqb (j % 3) 0 h, eq-eqb (j % 3) 1 g, ← ek, ← er) refl

  pub stop_demand : (j % 3 ≡ 0 → ⊥) → (j % 3 ≡ 1 → ⊥) → k ≡ 1 + j / 3 → r ≡ number k 3 → 2147483648 + r ≡ stop_word number j
  unfolding stop_word
  stop_demand h g ek er = rw (ne_eqb (j % 3) 0 h, ne_eqb (j % 3) 1 g, ← ek, ← er) refl

-- the word at an index
module _ (number : ℕ → ℕ → ℕ) (load n i : ℕ) {r : ℕ} where
  pub front_stop : 7 ≤ i → 9 ≤ i → i < legs_at 1 n → r ≡ stop_word number (i - 9) → r ≡ day_word number load n i
  unfolding day_word
  front_stop f g h e = rw (le-ltb i 7 f, le-ltb i 9 g, lt-ltb i (legs_at 1 n) h) e

-- the front of a buffer, lent and written whole
pub front_whole : (f : ℕ → ℕ) (p front : List ℕ) (m i n : ℕ) → Wrote (listed f i) (take m p) front i → i ≡ m → m ≤ length p → m ≡ n
    → front ++ drop m p ≡ over (listed f n) p
front_whole f p front m i n w e l en =
    let rest : length (take m p) ≤ i = omega (arith, length-take-le m p l) in
    let all = w.text ∙ over_drop (listed f i) (take m p) i (length_listed f i)
    ∙ ap (λ (xs : List ℕ). listed f i ++ xs) (drop_of_length-le (take m p) rest) ∙ append-nil (listed f i) ∙ ap (listed f) e in
    ap (λ (xs : List ℕ). xs ++ drop m p) all ∙ sym (over_drop (listed f m) p m (length_listed f m)) ∙ ap (λ (k : ℕ). over (listed f k) p) en
