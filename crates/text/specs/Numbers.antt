-- Numbers as text: decimal, and words of eight hexadecimal digits in upper case. Assumes nothing.
use Rattle.std.specs.Prelude.{ℕ, zero, suc, ◌+◌, ◌-◌, ◌*◌, ◌/◌, ◌%◌, ◌^◌, List, [], ◌∷◌, ◌++◌, ltb, if◌then◌else◌}

-- the digit of a number below 16: `0` to `9`, then `A` to `F`
unfoldable pub digit : ℕ → ℕ
digit d = if ltb d 10 then 48 + d else 55 + d

-- the decimal digits of n, at most so many: those of its tenth, and the last one behind them
unfoldable pub decimal_in : ℕ → ℕ → List ℕ
decimal_in zero n = []
decimal_in (suc places) n = if ltb n 10 then digit n ∷ [] else decimal_in places (n / 10) ++ (digit (n % 10) ∷ [])

-- a number of 64 bits has at most twenty
unfoldable pub decimal : ℕ → List ℕ
decimal n = decimal_in 20 n

-- the first so many of a word's eight hexadecimal digits
unfoldable pub hex_digits : ℕ → ℕ → List ℕ
hex_digits w zero = []
hex_digits w (suc i) = hex_digits w i ++ (digit (w / 2 ^ (28 - 4 * i) % 16) ∷ [])

-- "eight hexadecimal digits"
unfoldable pub hexadecimal : ℕ → List ℕ
hexadecimal w = hex_digits w 8
