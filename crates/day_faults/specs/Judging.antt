-- How the judge goes over a day in parts. It serves contracts; no definition of the day rests on it.
-- Assumes nothing.
use Rattle.std.specs.Prelude.{ℕ, ◌+◌, ◌*◌, ◌<◌, ◌≡◌, List, length, drop, Result, Ok, Err}
use Rattle.rules.specs.Answers.{refused}
use Rattle.rules.specs.DayFile.{places_of, legs_at, words_of, judge_from}
use Rattle.rules.specs.Faults.{day_fault_number}
use Rattle.day_faults.specs.declared.faults.Fault.{Fault}

-- the answer on the words from an index on
unfoldable pub judged_from : (d n : ℕ) (day : List ℕ) (from : ℕ) → List ℕ
judged_from d n day from = judge_from d n (drop from day) from

-- the answer where the words up to an end were looked at: the fault found, or that on the words from the end on
abbrev pub judged_after : (d n : ℕ) (day : List ℕ) (end : ℕ) (found : Result (Unit {0}) Fault) → List ℕ
judged_after d n day end (Ok _) = judged_from d n day end
judged_after d n day end (Err found) = refused (day_fault_number found.fault) found.place

-- a day of d tips and n stops has its length
pub record Whole (day : List ℕ) (d n : ℕ) : Type 0 where
  pub tips_few : d < 16
  pub stops_few : n < 256
  pub long : length day ≡ words_of d n
  pub short : length day < 1000000

-- where the legs from a place begin
abbrev pub row_at : (d n from : ℕ) → ℕ
row_at d n from = legs_at d n + from * places_of d n
