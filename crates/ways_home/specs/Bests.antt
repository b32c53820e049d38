-- The best so far of a search for the least key, with its key. It serves the contracts of the searches. Assumes nothing.
use Rattle.std.specs.Prelude.{ℕ, ◌<◌, ◌≤◌, ◌≡◌, eqb, if◌then◌else◌, Option, IfSome}
use Rattle.rules.specs.Tests.{number_or_none}
use Rattle.ways_home.specs.declared.best.Best.{Best}

-- past every key
abbrev pub keys_end : ℕ
keys_end = 0x1000000

-- the best is none, 0, or one of 1..n, and its key is carried with it
pub record BestBy (key : ℕ → ℕ) (n : ℕ) (best : Best) : Type 0 where
  pub within : best.number ≤ n
  pub key_is : best.key ≡ (if eqb best.number 0 then keys_end else key best.number)

-- one of 1..n, or none, which is this number
pub record ChosenOf (n number : ℕ) (choice : Option ℕ) : Type 0 where
  pub number_is : number_or_none choice ≡ number
  pub within : IfSome choice (λ k. (0 < k) × (k ≤ n))
