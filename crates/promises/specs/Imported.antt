-- What is owed of an import: document 02, Q-6. Assumes nothing.
use Rattle.std.specs.Prelude.{ℕ, ◌+◌, ◌-◌, ◌*◌, ◌≤◌, ◌<◌, ◌≡◌, true, List, [], ◌∷◌, length, take}
use Rattle.rules.specs.Answers.{given, refused, is_given}
use Rattle.rules.specs.DayFile.{judge_day}
use Rattle.rules.specs.Fields.{stops, tips, load_limit, day_limit, stop_limit, opening, closing, rest_opening, rest_closing, rest_minutes, service, quantity, stop_place, leg_minutes, leg_distance}
use Rattle.rules.specs.SolomonForm.{Offends}
use Rattle.rules.specs.SolomonDay.{IsRoot, squares, customer_number, capacity, stops_of, import_words}

-- a day says what the text says, under document 01's names; place 0 is the depot, 1 the tip, 1 + k stop k
pub record SaysText (text day : List ℕ) : Type 0 where
  pub one_tip : tips day ≡ 1
  pub stop_count : stops day ≡ stops_of text
  pub load : load_limit day ≡ capacity text
  pub day_load : day_limit day ≡ 1000000
  pub stop_most : stop_limit day ≡ 240
  pub rest : (rest_opening day ≡ 1440) × (rest_closing day ≡ 1440) × (rest_minutes day ≡ 0)
  pub depot : (opening day 0 ≡ customer_number text 0 4) × (closing day 0 ≡ customer_number text 0 5)
  pub tip : (opening day 1 ≡ customer_number text 0 4) × (closing day 1 ≡ customer_number text 0 5) × (service day 1 ≡ 0)
  pub opens : (k : ℕ) → 1 ≤ k → k ≤ stops_of text → opening day (stop_place day k) ≡ customer_number text k 4
  pub closes : (k : ℕ) → 1 ≤ k → k ≤ stops_of text → closing day (stop_place day k) ≡ customer_number text k 5
  pub serves : (k : ℕ) → 1 ≤ k → k ≤ stops_of text → service day (stop_place day k) ≡ customer_number text k 6
  pub demands : (k : ℕ) → 1 ≤ k → k ≤ stops_of text → quantity day (stop_place day k) ≡ customer_number text k 3
  -- "the greatest whole number whose square is at most dx² + dy²", and "at most 100 times that sum"
  pub minutes : (p q : ℕ) → p < 2 + stops_of text → q < 2 + stops_of text → IsRoot (squares (customer_number text) (p - 1) (q - 1)) (leg_minutes day p q)
  pub distance : (p q : ℕ) → p < 2 + stops_of text → q < 2 + stops_of text → IsRoot (100 * squares (customer_number text) (p - 1) (q - 1)) (leg_distance day p q)

-- "of the two the earlier byte counts, at one byte 17"
pub record Earliest (text : List ℕ) (number place : ℕ) : Type 0 where
  pub offends : Offends text number place
  pub earliest : (other byte : ℕ) → Offends text other byte → (place ≤ byte) × (place ≡ byte → number ≤ other)

-- the text has no offence
abbrev pub NoOffence : List ℕ → Type 0
NoOffence text = (number place : ℕ) → Offends text number place → ⊥

-- an import by its answer and its buffer
pub record ImportedBy (text answer buffer : List ℕ) : Type 0 where
  -- "the words written, whose number the answer carries, must read back as an accepted day"
  pub counted : is_given answer ≡ true → answer ≡ given (length (import_words text) ∷ [])
  pub written : is_given answer ≡ true → take (length (import_words text)) buffer ≡ import_words text
  pub accepted : is_given answer ≡ true → judge_day (import_words text) ≡ given (stops_of text ∷ 1 ∷ [])
  pub says : is_given answer ≡ true → SaysText text (import_words text)
  pub right : is_given answer ≡ true → NoOffence text
  -- "17 ..; 18 ..; both come before every other refusal of this call"
  pub short : (place : ℕ) → answer ≡ refused 14 place → NoOffence text × (place ≡ length (import_words text))
  pub refusal : (number place : ℕ) → answer ≡ refused number place → (number ≡ 0 → ⊥) → (number ≡ 14 → ⊥) → Earliest text number place
