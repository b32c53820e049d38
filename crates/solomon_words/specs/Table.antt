-- The customers' numbers, seven for each, and what the writer of a day asks for. Assumes nothing.
use Rattle.std.specs.Prelude.{ℕ, ◌+◌, ◌≤◌, ◌<◌, ◌≡◌, List, [], get_or}
use Rattle.rules.specs.SolomonForm.{place_of}
use Rattle.text_fields.specs.Runs.{held_at}

-- field i of customer k
abbrev pub cell : List (List ℕ) → ℕ → ℕ → ℕ
cell customers k i = get_or (get_or customers k []) i 0

-- the numbers of the text stand in the first m rows
abbrev pub Stored : List ℕ → List (List ℕ) → ℕ → Type 0
Stored text customers m = (k : ℕ) → k < m → (i : ℕ) → i < 7 → cell customers k i ≡ held_at text (place_of text (6 + k) i)

-- the numbers of customer k that every customer has: the coordinates and the window
pub record CustomerFit (number : ℕ → ℕ → ℕ) (k : ℕ) : Type 0 where
  pub across : number k 1 ≤ 1000
  pub upward : number k 2 ≤ 1000
  pub order : number k 4 ≤ number k 5
  pub due : number k 5 ≤ 1440

-- those that a stop has besides
pub record StopFit (number : ℕ → ℕ → ℕ) (k : ℕ) : Type 0 where
  pub demand : number k 3 ≤ 100000
  pub service : number k 6 ≤ 240

-- capacity, stops and their numbers are within a day file's limits
pub record Fit (number : ℕ → ℕ → ℕ) (load n : ℕ) : Type 0 where
  pub stops_most : n ≤ 240
  pub load_least : 1 ≤ load
  pub load_most : load ≤ 100000
  pub customers : (k : ℕ) → k ≤ n → CustomerFit number k
  pub stops : (k : ℕ) → 1 ≤ k → k ≤ n → StopFit number k

-- two sources of numbers say the same wherever the day of n stops asks
pub record Same (n : ℕ) (f g : ℕ → ℕ → ℕ) : Type 0 where
  pub across : (k : ℕ) → k ≤ n → f k 1 ≡ g k 1
  pub upward : (k : ℕ) → k ≤ n → f k 2 ≡ g k 2
  pub opens : (k : ℕ) → k ≤ n → f k 4 ≡ g k 4
  pub closes : (k : ℕ) → k ≤ n → f k 5 ≡ g k 5
  pub demand : (k : ℕ) → 1 ≤ k → k ≤ n → f k 3 ≡ g k 3
  pub service : (k : ℕ) → 1 ≤ k → k ≤ n → f k 6 ≡ g k 6

-- the first m words of a buffer are those of a rule
abbrev pub Begins : (ℕ → ℕ) → List ℕ → ℕ → Type 0
Begins f words m = (j : ℕ) → j < m → get_or words j 0 ≡ f j
