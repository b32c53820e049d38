-- A buffer while it is written from its front on, and filled with zeros. Assumes nothing.
use Rattle.std.specs.Prelude.{ℕ, ◌-◌, ◌≡◌, List, ◌++◌, length, take, replicate}
use Rattle.rules.specs.Lists.{over}

-- the buffer, which was p, is now part: the n words ws stand at its front
pub record Wrote {A : Type 0} (ws p part : List A) (n : ℕ) : Type 0 where
  pub count : n ≡ length ws
  pub text : part ≡ over ws p
  pub size : length part ≡ length p

-- the words of p before place from, and zeros from there to place i
unfoldable pub zeros : List ℕ → ℕ → ℕ → List ℕ
zeros p from i = take from p ++ replicate (i - from) 0
