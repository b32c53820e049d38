-- What a struct parameter that holds an array of unsigned numbers tells: the array's length, and that each element fits.
-- The premise h is in `c.good`: parameter p at `.1` p times, then `.0`; its field f from there at `.1 .1`, `.1` f times, then `.0`.
-- Assumes nothing.
use Prim.Native.Nat.{ℕ, zero, suc, ◌^◌, ◌<◌}
use mathlib.Core.Path.{◌≡◌}
use mathlib.Core.List.{List, [], ◌∷◌}
use lib.ListN.{length, get_or}
use lib.Pow.{pow_pos}
use mir.Syntax.{Width}
use mir.Val.{Val, bits}
use denote.Shadow.{shadow}
use denote.Array.{each, in_array}
use denote.Plain.{UInt}

-- each element, and 0 beyond the end, fits in its width
each_fits : (w : Width) (xs : List ℕ) (us : List Val) → shadow (each ℕ (UInt w).own_val xs us)
    → (i : ℕ) → get_or xs i 0 < 2 ^ bits w
each_fits w [] [] h i = pow_pos (bits w)
each_fits w [] (u ∷ us) h i = absurd h
each_fits w (x ∷ xs) [] h i = absurd h
each_fits w (x ∷ xs) (u ∷ us) h zero = h.0.1
each_fits w (x ∷ xs) (u ∷ us) h (suc i) = each_fits w xs us h.1 i

-- of an array of n numbers of width w
module _ (w : Width) (n : ℕ) (xs : List ℕ) (vs : List Val)
    (h : shadow (in_array ℕ (UInt w).own_val n xs vs)) where
  pub array_length : length xs ≡ n
  array_length = h.1.0.1

  pub array_fits : (i : ℕ) → get_or xs i 0 < 2 ^ bits w
  array_fits i = each_fits w xs h.0 h.1.1 i
