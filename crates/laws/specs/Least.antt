-- What the least is: the rule that `least` keeps. Assumes nothing.
use Rattle.std.specs.Prelude.{ℕ, ◌≤◌, ◌<◌, ◌≡◌, Bool, true, false}

-- r is the number of 1..m that passes and has the least key: 0 only where none passes; else r passes, no key is less than r's, and each lower number's is greater
pub record IsLeast (ok : ℕ → Bool) (key : ℕ → ℕ) (m r : ℕ) : Type 0 where
  pub within : r ≤ m
  pub none : r ≡ 0 → (k : ℕ) → 0 < k → k ≤ m → ok k ≡ false
  pub passes : 0 < r → ok r ≡ true
  pub minimal : 0 < r → (k : ℕ) → 0 < k → k ≤ m → ok k ≡ true → key r ≤ key k
  pub lowest : 0 < r → (k : ℕ) → 0 < k → k < r → ok k ≡ true → key r < key k
