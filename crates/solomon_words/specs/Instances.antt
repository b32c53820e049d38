-- What an instance says, and the words of its day. Assumes nothing.
use Rattle.std.specs.Prelude.{ℕ, ◌+◌, ◌-◌, ◌*◌, ◌≤◌, ◌<◌, List, length}
use Rattle.rules.specs.DayFile.{legs_at, words_of}
use Rattle.rules.specs.SolomonDay.{day_word}
use Rattle.solomon_words.specs.Table.{cell, Begins}
use Rattle.solomon_words.specs.declared.Instance.{Instance}

-- field i of customer k
abbrev pub number_in : Instance → ℕ → ℕ → ℕ
number_in given = cell given.customers.now

-- how many stops there are: each customer but the depot is one
abbrev pub stops_in : Instance → ℕ
stops_in given = length given.customers.now - 1

-- word i of the day
abbrev pub word_at : Instance → ℕ → ℕ
word_at given = day_word (number_in given) given.load (stops_in given)

-- the legs of so many rows stand behind the words in front of them
abbrev pub row_at : Instance → ℕ → ℕ
row_at given row = legs_at 1 (stops_in given) + row * (2 + stops_in given)

-- what the word of a leg asks for: a leg of the day, and the words in front of it
pub record LegAsked (given : Instance) (words : List ℕ) (from to : ℕ) : Type 0 where
  pub row : from < 2 + stops_in given
  pub column : to < 2 + stops_in given
  pub room : words_of 1 (stops_in given) ≤ length words
  pub begins : Begins (word_at given) words (row_at given from + to)
