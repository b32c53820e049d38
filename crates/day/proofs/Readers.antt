-- The readers over a day's layout, and byte reading: one law for each of them.
-- Assumes nothing.
use Prim.Native.Nat.{ℕ, ◌+◌, ◌*◌, ◌/◌, ◌%◌, ◌<◌, ◌≤◌}
use mathlib.Core.Path.{◌≡◌, ap}
use mathlib.Core.List.{List}
use native.Mathlib.Omega.{arith}
use lib.ListN.{length, get_or}
use borrow.Author.Tests.{le-leb, lt-leb, ne_eqb}
use Rattle.rules.specs.DayFile.{lone_number, window_opening, window_closing, minutes_of, distance_of}
use Rattle.rules.specs.Fields.{word_at, tips, stop_place, window_index, service, quantity}
use Rattle.day.specs.Layout.{LayoutOf, WindowOf, LegOf}
use Rattle.day.specs.declared.fields.Layout.{Layout}
use Rattle.day.specs.declared.fields.Window.{Window}
use Rattle.day.proofs.Forms.{square_below}

-- where the window of a tip stands, and that of a stop
pub tip_index : (d k : ℕ) → 0 < k → k ≤ d → window_index d k ≡ 5 + 2 * k
unfolding window_index
tip_index d k h g = rw (ne_eqb k 0 (λ e. omega arith), le-leb k d g)

pub stop_index : (d k : ℕ) → 0 < k → window_index d (d + k) ≡ 4 + 2 * d + 3 * k
unfolding window_index
stop_index d k h = rw (ne_eqb (d + k) 0 (λ e. omega arith), lt-leb (d + k) d (omega arith)) (omega arith)

module _ (day : List ℕ) (layout : Layout) where
  pub depot_read : (w : Window) → (w.opening ≡ window_opening (word_at day 4)) × (w.closing ≡ window_closing (word_at day 4)) → WindowOf day 0 w
  unfolding window_index
  depot_read w e = record { opens = e.0; closes = e.1 }

  module _ (k : ℕ) (h : LayoutOf day layout) (k-some : 0 < k) where
    pub tip_window_read : (w : Window) → k ≤ layout.tips → (w.opening ≡ window_opening (word_at day (5 + 2 * k))) × (w.closing ≡ window_closing (word_at day (5 + 2 * k)))
        → WindowOf day k w
    tip_window_read w g e =
        let at : window_index (tips day) k ≡ 5 + 2 * k = tip_index (tips day) k k-some (omega (arith, h.tips_are)) in
        record { opens = rw at e.0; closes = rw at e.1 }

    pub tip_service_read : {x : ℕ} → k ≤ layout.tips → x ≡ lone_number (word_at day (6 + 2 * k)) → x ≡ service day k
    tip_service_read g e =
        let at : window_index (tips day) k + 1 ≡ 6 + 2 * k = omega (arith, tip_index (tips day) k k-some (omega (arith, h.tips_are))) in
        rw at e

    stop_at : (j : ℕ) → window_index (tips day) (stop_place day k) + j ≡ 4 + j + 2 * layout.tips + 3 * k
    stop_at j = omega (arith, stop_index (tips day) k k-some, h.tips_are)

    pub stop_window_read : (w : Window) → (w.opening ≡ window_opening (word_at day (4 + 2 * layout.tips + 3 * k))) × (w.closing ≡ window_closing (word_at day (4 + 2 * layout.tips + 3 * k)))
        → WindowOf day (stop_place day k) w
    stop_window_read w e =
        let at : window_index (tips day) (stop_place day k) ≡ 4 + 2 * layout.tips + 3 * k = omega (arith, stop_at 0) in
        record { opens = rw at e.0; closes = rw at e.1 }

    pub stop_service_read : {x : ℕ} → x ≡ lone_number (word_at day (5 + 2 * layout.tips + 3 * k)) → x ≡ service day (stop_place day k)
    stop_service_read e = rw (stop_at 1) e

    pub stop_quantity_read : {x : ℕ} → x ≡ lone_number (word_at day (6 + 2 * layout.tips + 3 * k)) → x ≡ quantity day (stop_place day k)
    stop_quantity_read e = rw (stop_at 2) e

  -- the leg from place p to place q stands within the day
  pub leg_at : (p q : ℕ) → LayoutOf day layout → p < layout.places → q < layout.places → layout.legs + p * layout.places + q < length day
  leg_at p q h hp hq = omega (arith, square_below p q layout.places hp hq, h.long)

-- a stop's place stands behind the tips
module _ (day : List ℕ) (layout : Layout) (k : ℕ) (l : LayoutOf day layout) where
  pub stop_hours : (hours : Window) → WindowOf day (stop_place day k) hours → WindowOf day (layout.tips + k) hours
  stop_hours hours h = rw l.tips_are h

  pub stop_minutes : {minutes : ℕ} → minutes ≡ service day (stop_place day k) → minutes ≡ service day (layout.tips + k)
  stop_minutes e = rw l.tips_are e
