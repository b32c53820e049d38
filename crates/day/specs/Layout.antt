-- A day's layout, decoded once; and what the readers over it say. Assumes nothing.
use Rattle.std.specs.Prelude.{ℕ, ◌+◌, ◌*◌, ◌<◌, ◌≡◌, List, length}
use Rattle.rules.specs.DayFile.{legs_at}
use Rattle.rules.specs.Fields.{tips, stops, places, opening, closing, service, leg_minutes, leg_distance}
use Rattle.day.specs.declared.fields.Layout.{Layout}
use Rattle.day.specs.declared.fields.Leg.{Leg}
use Rattle.day.specs.declared.fields.Visit.{Visit}
use Rattle.day.specs.declared.fields.Window.{Window}

-- each part is the day's, and every leg is there
pub record LayoutOf (day : List ℕ) (layout : Layout) : Type 0 where
  pub stops_are : layout.stops ≡ stops day
  pub tips_are : layout.tips ≡ tips day
  pub places_are : layout.places ≡ places day
  pub legs_are : layout.legs ≡ legs_at (tips day) (stops day)
  pub long : layout.legs + layout.places * layout.places ≡ length day

-- the window of a place
pub record WindowOf (day : List ℕ) (place : ℕ) (w : Window) : Type 0 where
  pub opens : w.opening ≡ opening day place
  pub closes : w.closing ≡ closing day place

-- the leg from place p to place q
pub record LegOf (day : List ℕ) (p q : ℕ) (l : Leg) : Type 0 where
  pub takes : l.minutes ≡ leg_minutes day p q
  pub spans : l.distance ≡ leg_distance day p q

-- a visit to a place of the day
pub record VisitOf (day : List ℕ) (v : Visit) : Type 0 where
  pub within : v.place < places day
  pub window : WindowOf day v.place v.hours
  pub lasts : v.minutes ≡ service day v.place
