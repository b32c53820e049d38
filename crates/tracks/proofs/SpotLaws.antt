-- The places of the stops, word by word as the code tells them.
-- Assumes nothing.
use Prim.Native.Nat.{ℕ, suc, ◌+◌, ◌-◌, ◌≤◌, ◌<◌}
use mathlib.Core.Path.{◌≡◌}
use mathlib.Core.List.{List, ◌∷◌}
use native.Mathlib.Omega.{arith}
use native.Mathlib.Numerals.{add-one}
use lib.ListN.{length, get_or, take, drop}
use lib.Seq.{drop-cons}
use Rattle.tracks.specs.Tables.{spot_after, spots_after}

-- one word more is looked at, and none is left
module _ (plan : List ℕ) (end at : ℕ) (spots : List ℕ) {all : List ℕ} (so_far : spots_after (take (end - at) (drop at plan)) at spots ≡ all) where
  pub spots_next : {now : List ℕ} → at < end → end ≤ length plan → now ≡ spot_after (get_or plan at 0) at spots
      → spots_after (take (end - (at + 1)) (drop (at + 1) plan)) (at + 1) now ≡ all
  unfolding spots_after
  spots_next h l e =
      let more : end - at ≡ suc (end - (at + 1)) = omega arith in
      let here : drop at plan ≡ get_or plan at 0 ∷ drop (at + 1) plan = rw add-one (drop-cons plan at 0 (omega arith)) in
      rw e (rw (more, here) at so_far)

  pub spots_done : end ≤ at → spots ≡ all
  unfolding spots_after
  spots_done h = let none : end - at ≡ 0 = omega arith in rw none at so_far
