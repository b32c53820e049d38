-- Laws of the import: one for each way through it. Assumes nothing.
use Rattle.std.specs.Prelude.{if◌then◌else◌, Ok, Err}
use Prim.Native.Nat.{ℕ, ◌+◌, ◌-◌, ◌*◌, ◌≤◌, ◌<◌}
use mathlib.Core.Path.{◌≡◌, refl, sym, ap, subst, ◌∙◌}
use native.Mathlib.Omega.{arith}
use mathlib.Core.List.{List, [], ◌∷◌}
use lib.ListN.{length}
use borrow.Author.Tests.{lt-ltb, le-ltb}
use Rattle.rules.specs.Answers.{given, refused, is_given}
use Rattle.rules.specs.Faults.{text_fault_number}
use Rattle.rules.specs.DayFile.{words_of}
use Rattle.rules.specs.Lists.{listed, over}
use Rattle.rules.specs.SolomonForm.{place_of, judge_text}
use Rattle.rules.specs.SolomonDay.{day_word, stops_of, import_words, import_answer, import_buffer}
use Rattle.rules.specs.declared.faults.TextFault.{TextFault}
use Rattle.rules.specs.declared.faults.TextFault.TheVariants.{Form, Range}
use Rattle.rules.specs.declared.texts.Offence.{Offence}
use Rattle.text_fields.specs.Runs.{held_at}
use Rattle.solomon_form.proofs.Judged.{TextRight, text_right}
use Rattle.solomon_words.specs.Table.{cell, Stored, Fit}
use Rattle.solomon.proofs.Fitting.{table_same, load_same, table_fits}
use Rattle.solomon.proofs.DayWords.{words_same}

-- the numbers of a text, and the day written from them
module _ (text : List ℕ) (customers : List (List ℕ)) (n m : ℕ) {held : ℕ} (t : TextRight text n) (s : Stored text customers m) (em : m ≡ n + 1)
    (size : length customers ≡ n + 1) (eh : held ≡ held_at text (place_of text 3 1)) where
  all : Stored text customers (n + 1)
  all k h = s k (omega arith)

  stops : length customers - 1 ≡ n
  stops = omega arith

  pub table_fit : Fit (cell customers) held (length customers - 1)
  table_fit = rw stops (table_fits text n t customers all (load_same text n t customers all eh))

  pub table_imported : (words : List ℕ) {after : List ℕ} → n ≡ stops_of text
      → after ≡ over (listed (day_word (cell customers) held (length customers - 1)) (words_of 1 (length customers - 1))) words
      → after ≡ over (import_words text) words
  unfolding import_words
  table_imported words en e =
      rw stops at e
      ∙ ap (λ (ws : List ℕ). over ws words) (words_same (table_same text n t customers all) held ∙ rw (load_same text n t customers all eh, en) refl)

module _ (text words : List ℕ) where
  -- what is found of a text at fault
  pub import_refused : {found : Offence} {number : ℕ} → Err found ≡ judge_text text → number ≡ text_fault_number found.fault
      → refused number found.place ≡ import_answer text (length words)
  unfolding import_answer
  import_refused {found} e n = rw (← e, n) refl

  pub refused_kept : {found : Offence} → Err found ≡ judge_text text → words ≡ import_buffer text words
  unfolding import_answer import_buffer
  refused_kept {found} e = rw (← e) (either found.fault)
    where
      either : (fault : TextFault) → words ≡ (if is_given (refused (text_fault_number fault) found.place) then over (import_words text) words else words)
      either Form = refl
      either Range = refl

  -- and of one without fault
  module _ {n : ℕ} (e : Ok n ≡ judge_text text) where
    pub found_right : TextRight text n
    found_right = text_right text n (sym e)

    pub found_few : n ≤ 240
    found_few = found_right.stops_most

    pub found_stops : n ≡ stops_of text
    found_stops = rw (← e) refl

    module _ {total : ℕ} (et : total ≡ words_of 1 n) where
      pub import_short : length words < total → (refused 14 total ≡ import_answer text (length words)) × (words ≡ import_buffer text words)
      unfolding import_answer import_buffer
      import_short l = rw (← e, lt-ltb (length words) (words_of 1 n) (rw et at l)) (ap (refused 14) et, refl)

      pub import_read : {after : List ℕ} → total ≤ length words → after ≡ over (import_words text) words
          → (given (total ∷ []) ≡ import_answer text (length words)) × (after ≡ import_buffer text words)
      unfolding import_answer import_buffer
      import_read l ew = rw (← e, le-ltb (length words) (words_of 1 n) (rw et at l)) (ap (λ (k : ℕ). given (k ∷ [])) et, ew)
