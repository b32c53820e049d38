-- Which stop steps 3 and 5 take, of those that meet their conditions: document 01, "Greedy build", with the ties of document 02, Q-1.
-- Assumes nothing.
use Rattle.std.specs.Prelude.{ℕ, ◌≤◌, ◌<◌, ◌≡◌, Bool, true, false}

-- stop a is taken before stop b, or is that stop: fewer minutes of travel, or an earlier opening; where these tie "the earlier closing, and then
-- the lower number"
pub data NotBehind (minutes closes : ℕ → ℕ) (a b : ℕ) : Type 0 where
  fewer : minutes a < minutes b → NotBehind minutes closes a b
  closes_first : minutes a ≡ minutes b → closes a < closes b → NotBehind minutes closes a b
  lower_number : minutes a ≡ minutes b → closes a ≡ closes b → a ≤ b → NotBehind minutes closes a b

-- the stop taken, of n: none where no stop meets the conditions, else one that meets them and is behind no other that does
pub record TakenOf (meets : ℕ → Bool) (minutes closes : ℕ → ℕ) (n stop : ℕ) : Type 0 where
  pub within : stop ≤ n
  pub none : stop ≡ 0 → (k : ℕ) → 0 < k → k ≤ n → meets k ≡ false
  pub met : 0 < stop → meets stop ≡ true
  pub first : 0 < stop → (k : ℕ) → 0 < k → k ≤ n → meets k ≡ true → NotBehind minutes closes stop k
