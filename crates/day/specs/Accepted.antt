-- What an accepted day gives: each range of document 01, "Day file", under its name. Assumes nothing.
use Rattle.std.specs.Prelude.{ℕ, ◌<◌, ◌≤◌, ◌≡◌, List, length}
use Rattle.rules.specs.DayFile.{words_of}
use Rattle.rules.specs.Fields.{tips, stops, places, stop_place, load_limit, day_limit, stop_limit, opening, closing}
use Rattle.rules.specs.Fields.{rest_opening, rest_closing, rest_minutes, service, quantity, leg_index, leg_minutes, leg_distance}

-- every range, and every index below the length
pub record Accepted (day : List ℕ) : Type 0 where
  pub stops_most : stops day ≤ 240
  pub tips_least : 1 ≤ tips day
  pub tips_most : tips day ≤ 15
  pub long : length day ≡ words_of (tips day) (stops day)
  pub load_least : 1 ≤ load_limit day
  pub load_most : load_limit day ≤ 100000
  pub day_least : 1 ≤ day_limit day
  pub day_most : day_limit day ≤ 1000000
  pub visits_least : 1 ≤ stop_limit day
  pub visits_most : stop_limit day ≤ 240
  pub rest_order : rest_opening day ≤ rest_closing day
  pub rest_end : rest_closing day ≤ 1440
  pub rest_most : rest_minutes day ≤ 240
  pub window_order : (place : ℕ) → place < places day → opening day place ≤ closing day place
  pub window_end : (place : ℕ) → place < places day → closing day place ≤ 1440
  pub service_most : (place : ℕ) → 0 < place → place < places day → service day place ≤ 240
  pub quantity_most : (k : ℕ) → 0 < k → k ≤ stops day → quantity day (stop_place day k) ≤ 100000
  pub minutes_most : (p q : ℕ) → p < places day → q < places day → leg_minutes day p q ≤ 1440
  pub stay_minutes : (p : ℕ) → p < places day → leg_minutes day p p ≡ 0
  pub stay_distance : (p : ℕ) → p < places day → leg_distance day p p ≡ 0
  pub leg_inside : (p q : ℕ) → p < places day → q < places day → leg_index (tips day) (stops day) p q < length day
