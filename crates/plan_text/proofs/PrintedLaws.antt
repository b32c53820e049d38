-- Laws of what is printed of a day file: its bytes read or refused. Assumes nothing.
use Rattle.std.specs.Prelude.{if◌then◌else◌}
use Prim.Native.Nat.{ℕ, zero, suc, ◌/◌, ◌%◌, ◌≤◌, ◌<◌}
use mathlib.Core.Path.{◌≡◌, refl, sym, ap, ◌∙◌}
use mathlib.Core.Bool.{Bool, true, false, false≢true}
use mathlib.Core.List.{List, [], ◌∷◌}
use native.Mathlib.Omega.{arith}
use lib.Dec.{ltb}
use lib.ListN.{length, take, get_or, length-append}
use lib.Seq.{length-take-le}
use borrow.Author.Tests.{ne_eqb, lt-ltb, le-ltb, ltb-false}
use Rattle.rules.specs.Tests.{neb}
use Rattle.rules.specs.Answers.{given, refused, is_given}
use Rattle.rules.specs.Bytes.{byte_word, byte_words, read_answer, read_buffer}
use Rattle.rules.specs.AnswerValues.{words_values, WordsNumbered}
use Rattle.rules.specs.declared.answers.WordsAnswer.{WordsAnswer}
use Rattle.rules.specs.declared.answers.WordsAnswer.TheVariants as Reads
use Rattle.laws.proofs.Buffer.{over_front}
use Rattle.text.specs.Lines.{too_long, refused_line}
use Rattle.plan_text.specs.Printed.{day_text, bytes_text, printed}

-- the words of the bytes
words_length : (bytes : List ℕ) (n : ℕ) → length (byte_words bytes n) ≡ n
unfolding byte_words
words_length bytes zero = refl
words_length bytes (suc n) = omega (arith, length-append (byte_words bytes n) (byte_word bytes n ∷ []), words_length bytes n)

-- an answer that is given says how many words there are, and they fit
abbrev read_by : (a b c : Bool) → ℕ → List ℕ
read_by a b c n = if a then refused 1 n else if b then refused 1 n else if c then refused 14 n else given (n ∷ [])

read_by_lem : (a b c : Bool) (n : ℕ) → is_given (read_by a b c n) ≡ true → (get_or (read_by a b c n) 1 0 ≡ n) × (c ≡ false)
read_by_lem true b c n h = absurd (false≢true h)
read_by_lem false true c n h = absurd (false≢true h)
read_by_lem false false true n h = absurd (false≢true h)
read_by_lem false false false n h = (refl, refl)

module _ (bytes : List ℕ) (room : ℕ) (h : is_given (read_answer bytes room) ≡ true) where
  read_count : get_or (read_answer bytes room) 1 0 ≡ length bytes / 4
  unfolding read_answer
  read_count = (read_by_lem (neb (length bytes % 4) 0) (ltb (length bytes / 4) 7) (ltb room (length bytes / 4)) (length bytes / 4) h).0

  read_fits : length bytes / 4 ≤ room
  unfolding read_answer
  read_fits =
      ltb-false room (length bytes / 4)
      (read_by_lem (neb (length bytes % 4) 0) (ltb (length bytes / 4) 7) (ltb room (length bytes / 4)) (length bytes / 4) h).1

-- the text of a day file, whose bytes were read into a buffer of 16,384 words or refused
module _ (bytes words : List ℕ) {answer : WordsAnswer} (e : words_values answer ≡ read_answer bytes (length words)) where
  module _ {count : ℕ} (q : answer ≡ Reads.Read count) where
    told_given : is_given (read_answer bytes (length words)) ≡ true
    told_given = ap is_given (sym e ∙ ap words_values q)

    count_is : count ≡ length bytes / 4
    count_is = ap (λ (xs : List ℕ). get_or xs 1 0) (sym (ap words_values q) ∙ e) ∙ read_count bytes (length words) told_given

    module _ (now : List ℕ) (kept : length now ≡ length words) where
      pub file_fits : count ≤ length now
      file_fits = omega (arith, count_is, read_fits bytes (length words) told_given)

      pub file_counted : count ≡ length (take count now)
      file_counted = sym (length-take-le count now file_fits)

    front_words : {now : List ℕ} → now ≡ read_buffer bytes words → take count now ≡ byte_words bytes (length bytes / 4)
    unfolding read_buffer
    front_words {now} b =
        ap (take count) (b ∙ rw told_given refl)
        ∙ over_front (byte_words bytes (length bytes / 4)) words count (words_length bytes (length bytes / 4) ∙ sym count_is)

    pub file_text : {now : List ℕ} → now ≡ read_buffer bytes words → 16384 ≡ length words → day_text (take count now) ≡ bytes_text bytes
    unfolding bytes_text
    file_text b r =
        let yes : is_given (read_answer bytes 16384) ≡ true = rw r told_given in
        rw yes (ap day_text (front_words b))

  pub refusal_text : {number place : ℕ} → answer ≡ Reads.Refused number place → WordsNumbered answer → 16384 ≡ length words
      → refused_line number place ≡ bytes_text bytes
  unfolding bytes_text
  refusal_text {number} {place} q h r =
      let same : refused number place ≡ read_answer bytes 16384 = rw r (sym (ap words_values q) ∙ e) in
      let some : 1 ≤ number = rw q at h in
      rw (← same, ne_eqb number 0 (λ z. omega arith)) refl

-- any bytes
pub printed_long : (bytes : List ℕ) → 65536 < length bytes → too_long ≡ printed bytes
unfolding printed
printed_long bytes l = rw (lt-ltb 65536 (length bytes) l) refl

pub printed_short : (bytes : List ℕ) → length bytes ≤ 65536 → bytes_text bytes ≡ printed bytes
unfolding printed
printed_short bytes l = rw (le-ltb 65536 (length bytes) l) refl
