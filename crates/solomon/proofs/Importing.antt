-- What an answer to the import tells: an accepted day was written, or the earliest offence is named. Assumes nothing.
use Rattle.std.specs.Prelude.{if◌then◌else◌, Result, Ok, Err}
use Prim.Native.Nat.{ℕ}
use mathlib.Core.Path.{◌≡◌, refl, sym, ap, ◌∙◌}
use mathlib.Core.Bool.{Bool, true, false, false≢true}
use mathlib.Core.List.{List, [], ◌∷◌}
use mathlib.Core.Logic.{inl, inr}
use native.Mathlib.Omega.{arith}
use lib.ListN.{length, get_or}
use lib.Dec.{ltb}
use Rattle.rules.specs.Answers.{given, refused, is_given}
use Rattle.rules.specs.Faults.{text_fault_number}
use Rattle.rules.specs.Lists.{mem}
use Rattle.rules.specs.DayFile.{words_of, judge_day}
use Rattle.rules.specs.SolomonForm.{Offends, judge_text}
use Rattle.rules.specs.SolomonDay.{customer_number, capacity, stops_of, import_words, answer_on, import_answer, import_buffer}
use Rattle.rules.specs.Demands.{AnswersBy, answer, refusal}
use Rattle.solomon_form.proofs.Judged.{text_right, first_fault}
use Rattle.rules.specs.declared.faults.TextFault.{TextFault}
use Rattle.rules.specs.declared.faults.TextFault.TheVariants.{Form, Range}
use Rattle.rules.specs.declared.texts.Offence.{Offence}
use Rattle.solomon_form.proofs.Earliest.{Later, number_least, found_earliest, found_offends, none_offends}
use Rattle.solomon_words.specs.Table.{Fit}
use Rattle.solomon.proofs.Accepted.{day_long, words_accepted}
use Rattle.solomon.proofs.Fitting.{text_fits}

module _ (text : List ℕ) where
  import_long : length (import_words text) ≡ words_of 1 (stops_of text)
  unfolding import_words
  import_long = day_long (customer_number text) (capacity text) (stops_of text)

  -- what is known of a text without fault: within the limits, its words are an accepted day of one tip
  module _ {n : ℕ} (e : judge_text text ≡ Ok n) where
    right_stops : stops_of text ≡ n
    right_stops = rw e refl

    right_long : words_of 1 n ≡ length (import_words text)
    right_long = ap (words_of 1) (sym right_stops) ∙ sym import_long

    right_limits : Fit (customer_number text) (capacity text) (stops_of text)
    right_limits = text_fits text (stops_of text) (text_right text (stops_of text) (e ∙ ap (λ (k : ℕ). let r : Result ℕ Offence = Ok k in r) (sym right_stops)))

  -- each way through the answer
  pub data Ways (room : ℕ) : List ℕ → Type 0 where
    read : (n : ℕ) → judge_text text ≡ Ok n → Ways room (given (length (import_words text) ∷ []))
    short : (n : ℕ) → judge_text text ≡ Ok n → Ways room (refused 14 (length (import_words text)))
    fault : (found : Offence) → judge_text text ≡ Err found → Ways room (refused (text_fault_number found.fault) found.place)

  pub import_ways : (room : ℕ) → Ways room (import_answer text room)
  unfolding import_answer
  import_ways room = go (judge_text text) refl
    where
      told : (n : ℕ) → judge_text text ≡ Ok n → (t : Bool) → Ways room (if t then refused 14 (words_of 1 n) else given (words_of 1 n ∷ []))
      told n e true = rw (right_long e) (short n e)
      told n e false = rw (right_long e) (read n e)

      go : (found : Result ℕ Offence) → judge_text text ≡ found → Ways room (answer_on found room)
      go (Ok n) e = told n e (ltb room (words_of 1 n))
      go (Err found) e = fault found e

  fault_listed : (fault : TextFault) → mem (text_fault_number fault) (14 ∷ 17 ∷ 18 ∷ []) ≡ true
  unfolding mem
  fault_listed Form = refl
  fault_listed Range = refl

  -- demand 1: 14, 17, 18
  pub import_numbers : (room : ℕ) → AnswersBy (14 ∷ 17 ∷ 18 ∷ []) (import_answer text room)
  unfolding mem
  import_numbers room = go (import_ways room)
    where
      go : {told : List ℕ} → Ways room told → AnswersBy (14 ∷ 17 ∷ 18 ∷ []) told
      go (read n e) = answer (length (import_words text) ∷ [])
      go (short n e) = refusal 14 (length (import_words text)) refl
      go (fault found e) = refusal (text_fault_number found.fault) found.place (fault_listed found.fault)

  -- after a refusal the buffer is as it was
  pub import_kept : (words : List ℕ) → is_given (import_answer text (length words)) ≡ false → import_buffer text words ≡ words
  unfolding import_buffer
  import_kept words e = rw e refl

  -- a refusal of a fault is no answer
  fault_told : (fault : TextFault) (place : ℕ) → is_given (refused (text_fault_number fault) place) ≡ false
  fault_told Form place = refl
  fault_told Range place = refl

  -- an answer is given of a text without fault
  pub import_given : (room : ℕ) → is_given (import_answer text room) ≡ true → (n : ℕ) × (judge_text text ≡ Ok n)
  import_given room = go (import_ways room)
    where
      go : {told : List ℕ} → Ways room told → is_given told ≡ true → (n : ℕ) × (judge_text text ≡ Ok n)
      go (read n e) h = (n, e)
      go (short n e) h = (n, e)
      go (fault found e) h = absurd (false≢true (sym (fault_told found.fault found.place) ∙ h))

  pub import_told : (room : ℕ) → is_given (import_answer text room) ≡ true → import_answer text room ≡ given (length (import_words text) ∷ [])
  import_told room = go (import_ways room)
    where
      go : {told : List ℕ} → Ways room told → is_given told ≡ true → told ≡ given (length (import_words text) ∷ [])
      go (read n e) h = refl
      go (short n e) h = absurd (false≢true h)
      go (fault found e) h = absurd (false≢true (sym (fault_told found.fault found.place) ∙ h))

  module _ (room : ℕ) (given_right : is_given (import_answer text room) ≡ true) where
    pub text_limits : Fit (customer_number text) (capacity text) (stops_of text)
    text_limits = right_limits (import_given room given_right).1

    -- the words are an accepted day of one tip
    pub import_accepted : judge_day (import_words text) ≡ given (stops_of text ∷ 1 ∷ [])
    unfolding import_words
    import_accepted = words_accepted (customer_number text) (capacity text) (stops_of text) text_limits

  same_number : {n m p q : ℕ} → refused n p ≡ refused m q → n ≡ m
  same_number e = ap (λ (xs : List ℕ). get_or xs 0 0) e

  same_place : {n m p q : ℕ} → refused n p ≡ refused m q → p ≡ q
  same_place e = ap (λ (xs : List ℕ). get_or xs 1 0) e

  pub no_offence : (n : ℕ) → judge_text text ≡ Ok n → (number place : ℕ) → Offends text number place → ⊥
  no_offence = none_offends text

  -- 14 is refused of a text without fault
  pub import_short : (room place : ℕ) → import_answer text room ≡ refused 14 place → ((n : ℕ) × (judge_text text ≡ Ok n)) × (place ≡ length (import_words text))
  import_short room place = go (import_ways room)
    where
      go : {told : List ℕ} → Ways room told → told ≡ refused 14 place → ((n : ℕ) × (judge_text text ≡ Ok n)) × (place ≡ length (import_words text))
      go (read n e) h = let z : ◌≡◌ {A = ℕ} 0 14 = ap (λ (xs : List ℕ). get_or xs 0 0) h in absurd (omega arith)
      go (short n e) h = ((n, e), sym (same_place h))
      go (fault found e) h = let same = same_number h in absurd (elim (number_least found.fault) [ inl z ↦ omega arith | inr z ↦ omega arith ])

  -- 17 and 18 name the earliest offence
  pub import_fault : (room number place : ℕ) → import_answer text room ≡ refused number place → (number ≡ 0 → ⊥) → (number ≡ 14 → ⊥)
      → (found : Offence) × (judge_text text ≡ Err found) × (text_fault_number found.fault ≡ number) × (found.place ≡ place)
  import_fault room number place = go (import_ways room)
    where
      go : {told : List ℕ} → Ways room told → told ≡ refused number place → (number ≡ 0 → ⊥) → (number ≡ 14 → ⊥)
          → (found : Offence) × (judge_text text ≡ Err found) × (text_fault_number found.fault ≡ number) × (found.place ≡ place)
      go (read n e) h n0 n14 = absurd (n0 (sym (ap (λ (xs : List ℕ). get_or xs 0 0) h)))
      go (short n e) h n0 n14 = absurd (n14 (sym (same_number h)))
      go (fault found e) h n0 n14 = (found, e, same_number h, same_place h)

  module _ (found : Offence) (e : judge_text text ≡ Err found) where
    pub fault_offends : Offends text (text_fault_number found.fault) found.place
    fault_offends = found_offends text (first_fault text found e)

    pub fault_earliest : (other byte : ℕ) → Offends text other byte → Later (text_fault_number found.fault) found.place other byte
    fault_earliest = found_earliest text (first_fault text found e)
