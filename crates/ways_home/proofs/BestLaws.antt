-- Laws of the best so far: how it begins, how it goes on, and what the key that is carried tells. Assumes nothing.
use Rattle.std.specs.Prelude.{if◌then◌else◌}
use Prim.Native.Nat.{ℕ, ◌<◌}
use mathlib.Core.Path.{◌≡◌, refl}
use mathlib.Core.Bool.{Bool, true, false, ◌||◌}
use native.Mathlib.Omega.{arith}
use lib.Dec.{ltb, eqb}
use borrow.Author.Tests.{lt-ltb}
use Rattle.ways_home.specs.Bests.{keys_end, BestBy}
use Rattle.ways_home.specs.declared.best.Best.{Best}

module _ (key : ℕ → ℕ) (n : ℕ) where
  pub none_so_far : BestBy key n (record { number = 0; key = keys_end })
  none_so_far = record { within = omega arith; key_is = refl }

  -- the key that is carried tells what the best number's key would
  pub less_key : (k : ℕ) (best : Best) → BestBy key n best → key k < keys_end
      → ltb (key k) best.key ≡ (eqb best.number 0 || ltb (key k) (key best.number))
  less_key k best so_far h = rw so_far.key_is (go (eqb best.number 0))
    where
      go : (none : Bool) → ltb (key k) (if none then keys_end else key best.number) ≡ (none || ltb (key k) (key best.number))
      go true = lt-ltb _ _ h
      go false = refl
