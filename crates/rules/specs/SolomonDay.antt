-- The day of a Solomon instance, word by word in the order of document 01, "Day file": document 02, Q-6. A number is asked for by its customer and
-- its field; customer 0 is the depot. And what the call answers and writes: refusals 17 and 18, then 14. Assumes nothing.
use Rattle.std.specs.Prelude.{ℕ, zero, suc, ◌+◌, ◌-◌, ◌*◌, ◌/◌, ◌%◌, ◌≤◌, ◌<◌, List, [], ◌∷◌, length, eqb, ltb, leb, if◌then◌else◌, Result, Ok, Err}
use Rattle.std.specs.Result.{result_unwrap_or}
use Rattle.rules.specs.Faults.{text_fault_number}
use Rattle.rules.specs.Answers.{given, refused, is_given}
use Rattle.rules.specs.Lists.{listed, over}
use Rattle.rules.specs.DayFile.{tips_end, legs_at, places_of, words_of}
use Rattle.rules.specs.TextFields.{number_at}
use Rattle.rules.specs.SolomonForm.{place_of, judge_text}
use Rattle.rules.specs.declared.texts.Offence.{Offence}

-- field i of customer k: 1 abscissa, 2 ordinate, 3 demand, 4 ready time, 5 due date, 6 service time
unfoldable pub customer_number : List ℕ → ℕ → ℕ → ℕ
customer_number text k i = number_at text (place_of text (6 + k) i)

-- "Q is the capacity"
unfoldable pub capacity : List ℕ → ℕ
capacity text = number_at text (place_of text 3 1)

-- a word of a kind with a lone number
abbrev pub lone_word : ℕ → ℕ → ℕ
lone_word kind value = 0x10000000 * kind + value

-- a word of a kind with a window
abbrev pub window_word : ℕ → ℕ → ℕ → ℕ
window_word kind opens closes = 0x10000000 * kind + (0x1000 * opens + closes)

-- a leg of so many minutes and such a distance
abbrev pub leg_word_of : ℕ → ℕ → ℕ
leg_word_of minutes distance = 0x90000000 + (0x10000 * minutes + distance)

-- the greatest whole number up to m whose square is at most s
unfoldable pub root_up_to : ℕ → ℕ → ℕ
root_up_to s zero = 0
root_up_to s (suc m) = if leb (suc m * suc m) s then suc m else root_up_to s m

-- "the greatest whole number whose square is at most" s: none above s has such a square
unfoldable pub root : ℕ → ℕ
root s = root_up_to s s

-- r is that number
pub record IsRoot (s r : ℕ) : Type 0 where
  pub fits : r * r ≤ s
  pub greatest : s < (r + 1) * (r + 1)

-- "the differences of the coordinates"
abbrev pub apart : ℕ → ℕ → ℕ
apart a b = (a - b) + (b - a)

-- the words of the day, of such numbers
module _ (number : ℕ → ℕ → ℕ) where
  -- "dx² + dy²" of two customers
  abbrev pub squares : ℕ → ℕ → ℕ
  squares a b =
      apart (number a 1) (number b 1) * apart (number a 1) (number b 1)
      + apart (number a 2) (number b 2) * apart (number a 2) (number b 2)

  -- the window of a customer
  abbrev pub hours_word : ℕ → ℕ
  hours_word k = window_word 5 (number k 4) (number k 5)

  -- one tip; Q; "Q* 1,000,000, S* 240"; the depot's window; "the rest window 1,440..1,440 with 0 minutes"
  unfoldable pub head_word : ℕ → ℕ → ℕ → ℕ
  head_word load n i =
      if eqb i 0 then lone_word 1 (0x100 * 1 + n)
      else if eqb i 1 then lone_word 2 load
      else if eqb i 2 then lone_word 3 1000000
      else if eqb i 3 then lone_word 4 240
      else if eqb i 4 then hours_word 0
      else if eqb i 5 then window_word 6 1440 1440
      else lone_word 7 0

  -- "one tip stands at the depot with the depot's window and no service"
  unfoldable pub tip_word : ℕ → ℕ
  tip_word j = if eqb (j % 2) 0 then hours_word 0 else lone_word 7 0

  -- each stop: window, service minutes, quantity
  unfoldable pub stop_word : ℕ → ℕ
  stop_word j =
      if eqb (j % 3) 0 then hours_word (1 + j / 3)
      else if eqb (j % 3) 1 then lone_word 7 (number (1 + j / 3) 6)
      else lone_word 8 (number (1 + j / 3) 3)

  -- a leg: "the greatest whole number whose square is at most dx² + dy²", and "at most 100 times that sum"
  abbrev pub way_word : ℕ → ℕ → ℕ
  way_word a b = leg_word_of (root (squares a b)) (root (100 * squares a b))

  -- word i of the day: depot and tip, places 0 and 1, are customer 0, and place 1 + k is customer k
  unfoldable pub day_word : ℕ → ℕ → ℕ → ℕ
  day_word load n i =
      if ltb i 7 then head_word load n i
      else if ltb i (tips_end 1) then tip_word (i - 7)
      else if ltb i (legs_at 1 n) then stop_word (i - tips_end 1)
      else way_word ((i - legs_at 1 n) / places_of 1 n - 1) ((i - legs_at 1 n) % places_of 1 n - 1)

-- all of them
abbrev pub day_words : (ℕ → ℕ → ℕ) → ℕ → ℕ → List ℕ
day_words number load n = listed (day_word number load n) (words_of 1 n)

-- the stops of a text
abbrev pub stops_of : List ℕ → ℕ
stops_of text = result_unwrap_or (judge_text text) 0

-- "the words written"
unfoldable pub import_words : List ℕ → List ℕ
import_words text = day_words (customer_number text) (capacity text) (stops_of text)

-- the answer on what is found of a text, for a buffer of so much room: how many words, or 17 and 18, which "come before every other refusal of this
-- call", then 14
abbrev pub answer_on : Result ℕ Offence → ℕ → List ℕ
answer_on (Ok stops) room = if ltb room (words_of 1 stops) then refused 14 (words_of 1 stops) else given (words_of 1 stops ∷ [])
answer_on (Err found) room = refused (text_fault_number found.fault) found.place

unfoldable pub import_answer : List ℕ → ℕ → List ℕ
import_answer text room = answer_on (judge_text text) room

-- the lent buffer then: as before past what was written, and after a refusal as before
unfoldable pub import_buffer : List ℕ → List ℕ → List ℕ
import_buffer text words = if is_given (import_answer text (length words)) then over (import_words text) words else words
