-- The lines that are printed: "distance, trials, settled, left out, words in one line; then the words, eight hexadecimal digits a line", or
-- "refused", number, place in one line, blanks between. Assumes nothing.
use Rattle.std.specs.Prelude.{ℕ, ◌≤◌, ◌≡◌, Bool, true, List, [], ◌∷◌, ◌++◌, eqb, length, get_or, take, if◌then◌else◌}
use Rattle.rules.specs.Answers.{is_given}
use Rattle.text.specs.Numbers.{decimal, hexadecimal}

abbrev pub blank : ℕ
blank = 32

abbrev pub line_feed : ℕ
line_feed = 10

-- a number, and a blank or a line feed behind it
unfoldable pub number : ℕ → ℕ → List ℕ
number n mark = decimal n ++ (mark ∷ [])

-- `yes` and `no`, each with a blank behind it
abbrev pub yes : List ℕ
yes = 121 ∷ 101 ∷ 115 ∷ blank ∷ []

abbrev pub no : List ℕ
no = 110 ∷ 111 ∷ blank ∷ []

-- `refused` and a blank
abbrev pub refused_word : List ℕ
refused_word = 114 ∷ 101 ∷ 102 ∷ 117 ∷ 115 ∷ 101 ∷ 100 ∷ blank ∷ []

-- `too long` in a line
abbrev pub too_long : List ℕ
too_long = 116 ∷ 111 ∷ 111 ∷ blank ∷ 108 ∷ 111 ∷ 110 ∷ 103 ∷ line_feed ∷ []

-- "refused", number, place
unfoldable pub refused_line : ℕ → ℕ → List ℕ
refused_line refusal place = refused_word ++ number refusal blank ++ number place line_feed

-- distance, trials, settled, left out, words
unfoldable pub planned_line : ℕ → ℕ → Bool → ℕ → ℕ → List ℕ
planned_line distance trials settled left words =
    number distance blank ++ number trials blank ++ (if settled then yes else no) ++ number left blank ++ number words line_feed

-- a word in a line
unfoldable pub word_line : ℕ → List ℕ
word_line w = hexadecimal w ++ (line_feed ∷ [])

-- words, one a line
unfoldable pub word_lines : List ℕ → List ℕ
word_lines [] = []
word_lines (w ∷ ws) = word_line w ++ word_lines ws

-- what is printed of an answer, and of the plan's buffer, of which the answer says how many words are the plan: a plan's answer has six
-- numbers, a refusal two
unfoldable pub answer_text : List ℕ → List ℕ → List ℕ
answer_text answer plan =
    if eqb (length answer) 6
    then
    planned_line (get_or answer 1 0) (get_or answer 2 0) (eqb (get_or answer 3 0) 1) (get_or answer 4 0) (get_or answer 5 0)
    ++ word_lines (take (get_or answer 5 0) plan)
    else refused_line (get_or answer 0 0) (get_or answer 1 0)

-- a plan that an answer tells of has no more words than its buffer
abbrev pub Within : List ℕ → ℕ → Type 0
Within answer room = is_given answer ≡ true → get_or answer 5 0 ≤ room
