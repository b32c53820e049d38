-- Steps 3 and 5 take the stop of fewest minutes or of earliest opening, of those the first to close, and of those the lowest number.
-- Assumes nothing.
use Prim.Native.Nat.{ℕ, ◌+◌, ◌*◌, ◌≤◌, ◌<◌}
use mathlib.Core.Bool.{Bool, not, ◌&&◌}
use mathlib.Core.List.{List}
use native.Mathlib.Decide.{dec_lt}
use native.Mathlib.Omega.{arith}
use Rattle.rules.specs.Tests.{least}
use Rattle.rules.specs.Lists.{mem}
use Rattle.rules.specs.Fields.{stops, stop_place, opening, closing, leg_minutes}
use Rattle.rules.specs.Choice.{takeable, waitable, nearest_stop, earliest_stop}
use Rattle.rules.specs.declared.walk.Cargo.{Cargo}
use Rattle.rules.specs.declared.walk.Trip.{Trip}
use Rattle.laws.proofs.Least.{least_is}
use Rattle.promises.specs.Ties.{NotBehind, fewer, closes_first, lower_number, TakenOf}

module _ (minutes closes : ℕ → ℕ) where
  -- by minutes, then by a closing below 4,096
  abbrev key : ℕ → ℕ
  key k = minutes k * 4096 + closes k

  -- a key that is not greater, and less than that of a lower number, is not behind
  not_behind : (a b : ℕ) → closes a < 4096 → closes b < 4096 → key a ≤ key b → (b < a → key a < key b) → NotBehind minutes closes a b
  not_behind a b small smaller most less = elim (dec_lt (minutes a) (minutes b)) [
    | yes l ↦ fewer l
    | no h ↦ elim (dec_lt (closes a) (closes b)) [
      | yes l ↦ closes_first (omega arith) l
      | no g ↦ elim (dec_lt b a) [ yes l ↦ absurd (omega (arith, less l)) | no f ↦ lower_number (omega arith) (omega arith) (omega arith) ]
    ]
  ]

  -- so the least of these keys is the stop taken
  least_taken : (meets : ℕ → Bool) (n : ℕ) → ((k : ℕ) → closes k < 4096) → TakenOf meets minutes closes n (least meets key n)
  least_taken meets n small =
      let h = least_is meets key n in
      record {
        within = h.within;
        none = h.none;
        met = h.passes;
        first = λ p k q l e. not_behind _ k (small _) (small k) (h.minimal p k q l e) (λ s. h.lowest p k q s e);
      }

-- "where travel minutes tie in step 3 ... take the earlier closing, and then the lower number"
pub nearest_in_order : (day : List ℕ) (t : Trip) (c : Cargo) (taken : List ℕ)
    → TakenOf (λ k. not (mem k taken) && takeable day t c k) (λ k. leg_minutes day t.place (stop_place day k)) (λ k. closing day (stop_place day k))
    (stops day) (nearest_stop day t c taken)
unfolding nearest_stop
nearest_in_order day t c taken =
    least_taken (λ k. leg_minutes day t.place (stop_place day k)) (λ k. closing day (stop_place day k))
    (λ k. not (mem k taken) && takeable day t c k) (stops day) (λ k. omega arith)

-- "or openings tie in step 5"
pub earliest_in_order : (day : List ℕ) (t : Trip) (c : Cargo) (taken : List ℕ)
    → TakenOf (λ k. not (mem k taken) && waitable day t c k) (λ k. opening day (stop_place day k)) (λ k. closing day (stop_place day k)) (stops day)
    (earliest_stop day t c taken)
unfolding earliest_stop
earliest_in_order day t c taken =
    least_taken (λ k. opening day (stop_place day k)) (λ k. closing day (stop_place day k)) (λ k. not (mem k taken) && waitable day t c k) (stops day)
    (λ k. omega arith)
