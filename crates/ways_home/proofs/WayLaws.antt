-- The tests of rest and the way home, with what the day says in place of what was read. Assumes nothing.
use Rattle.std.specs.Prelude.{Option, Some, None, IfSome}
use Prim.Native.Nat.{ℕ, ◌+◌, ◌<◌, ◌≤◌}
use native.Mathlib.Omega.{arith}
use mathlib.Core.Path.{◌≡◌}
use mathlib.Core.Bool.{Bool, not, ◌&&◌, ◌||◌}
use mathlib.Core.List.{List}
use lib.Dec.{leb}
use Rattle.rules.specs.Tests.{least, number_or_none}
use Rattle.rules.specs.Fields.{tips, places, rest_opening, rest_closing, leg_minutes}
use Rattle.rules.specs.Home.{open_tip, nearest_tip, due, rest_if_due, home_direct}
use Rattle.rules.specs.Trip.{visited}
use Rattle.rules.specs.declared.walk.Trip.{Trip}
use Rattle.day.specs.Layout.{WindowOf, LegOf}
use Rattle.day.specs.declared.fields.Leg.{Leg}
use Rattle.day.specs.declared.fields.Window.{Window}
use Rattle.trips.specs.Trips.{SmallTrip}
use Rattle.ways_home.specs.Bests.{ChosenOf}
use Rattle.ways_home.proofs.HomeLaws.{visit_minute, visit_place, rest_minute, rest_place}

module _ (day : List ℕ) where
  pub open_by : (place minute tip : ℕ) {away : ℕ} (w : Window) {b : Bool} → WindowOf day tip w → away ≡ leg_minutes day place tip
      → b ≡ (leb w.opening (minute + away) && leb (minute + away) w.closing) → b ≡ open_tip day place minute tip
  unfolding open_tip
  open_by place minute tip w h e eb = rw (eb, h.opens, h.closes, e)

  pub due_by_window : (t : Trip) (w : Window) {b : Bool} → (w.opening ≡ rest_opening day) × (w.closing ≡ rest_closing day)
      → b ≡ (leb w.opening t.minute && leb t.minute w.closing) → (not t.rested && b) ≡ due day t
  unfolding due
  due_by_window t w h eb = rw (eb, h.0, h.1)

  pub home_by : (t : Trip) (l : Leg) (w r : Window) → LegOf day t.place 0 l → WindowOf day 0 w → (r.opening ≡ rest_opening day) × (r.closing ≡ rest_closing day)
      → (leb (t.minute + l.minutes) w.closing && (t.rested || leb (t.minute + l.minutes) r.closing)) ≡ home_direct day t
  unfolding home_direct
  home_by t l w r hl hw hr = rw (hl.takes, hw.closes, hr.1)

  -- behind a tip and a rest, a trip is still at a place and not too late to count
  pub behind_tip : (most : ℕ) (t u v : Trip) (tip : ℕ) → SmallTrip day most t → tip ≤ tips day → u ≡ visited day t tip → v ≡ rest_if_due day u
      → (v.place < places day) × (v.minute < 1073741824)
  behind_tip most t u v tip small within eu ev = (
    omega (arith, rest_place day u v ev, visit_place day t u tip eu, within),
    omega (arith, rest_minute day 536870912 u v (omega arith) (visit_minute day most t u tip small eu) ev),
  )

  pub nearest_of_all : (place minute best : ℕ) → best ≡ least (open_tip day place minute) (leg_minutes day place) (tips day) → best ≡ nearest_tip day place minute
  unfolding nearest_tip
  nearest_of_all place minute best e = e

-- the choice that a number from 0 on stands for
pub chosen : (n number : ℕ) (choice : Option ℕ) → number_or_none choice ≡ number → number ≤ n → IfSome choice (λ k. 0 < k) → ChosenOf n number choice
chosen n number None e within some = record { number_is = e; within = some }
chosen n number (Some k) e within some = record { number_is = e; within = (some, omega (arith, e, within)) }
