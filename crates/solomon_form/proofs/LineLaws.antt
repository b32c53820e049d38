-- Laws of reading a line field by field, and a text line by line: one for each way through the code's loops. Assumes nothing.
use Rattle.std.specs.Prelude.{if◌then◌else◌, ⊤, Ok, Err}
use Rattle.std.specs.Result.{result_and}
use Prim.Native.Nat.{ℕ, zero, suc, ◌+◌, ◌-◌, ◌≤◌, ◌<◌}
use mathlib.Core.Path.{◌≡◌, refl, sym, ap, ◌∙◌}
use mathlib.Core.Bool.{Bool, true, false, false≢true}
use mathlib.Core.List.{List}
use native.Mathlib.Numerals.{add-one}
use native.Mathlib.Omega.{arith}
use lib.ListN.{length}
use lib.Dec.{leb}
use borrow.Author.Tests.{leb-true}
use Rattle.rules.specs.TextFields.{is_gap, passed, field_at, line_at, next_field, next_line, number_at}
use Rattle.rules.specs.SolomonForm.{Finding, customer_fault, field_fault, number_before, fault_at, is_over, found_at, fields_from, line_offence, lines_from, judge_text}
use Rattle.rules.specs.declared.texts.Offence.{Offence}
use Rattle.solomon_form.specs.Reading.{LineRead, TextRead}

-- a line
module _ (text : List ℕ) (j : ℕ) where
  pub line_start : (at : ℕ) → at ≡ line_at text j → LineRead text j 0 at at
  unfolding field_at
  line_start at e = record { here = e; behind = λ n. absurd (n refl); rest = refl }

  -- the first field has none in front of it
  first_field : (place b c : ℕ) → field_fault text j 0 place b ≡ field_fault text j 0 place c
  unfolding field_fault customer_fault
  first_field place b c = refl

  module _ {place before : ℕ} {found : Finding} where
    fault_told : (i : ℕ) → LineRead text j i place before → found ≡ field_fault text j i place (number_at text before) → found ≡ fault_at text j i
    fault_told zero r e =
        e ∙ first_field place (number_at text before) (number_before text j 0) ∙ ap (λ (p : ℕ). field_fault text j 0 p (number_before text j 0)) r.here
    fault_told (suc i) r e =
        e ∙ ap (field_fault text j (suc i) place) (r.behind (λ z. omega arith)) ∙ ap (λ (p : ℕ). field_fault text j (suc i) p (number_before text j (suc i))) r.here

    module _ {i : ℕ} (r : LineRead text j i place before) (few : i < 8) (e : found ≡ field_fault text j i place (number_at text before)) where
      fields_on : result_and (found_at place found) (fields_from text j (8 - (i + 1)) (i + 1)) ≡ line_offence text j
      unfolding fields_from
      fields_on =
          let left : 8 - i ≡ suc (8 - (i + 1)) = omega arith in
          rw (fault_told i r e, r.here, add-one i) (rw (left, add-one i) at r.rest)

      pub line_fault : {offence : Offence} → found_at place found ≡ Err offence → Err offence ≡ line_offence text j
      line_fault h = rw h at fields_on

      pub line_next : {next : ℕ} {x : ⊤} → found_at place found ≡ Ok x → next ≡ next_field text place → LineRead text j (i + 1) next place
      unfolding field_at number_before
      line_next h en = record {
        here = rw (add-one i, ← r.here) en;
        behind = λ n. rw (add-one i, ← r.here) refl;
        rest = rw h at fields_on;
      }

  pub line_end : {i place before : ℕ} → LineRead text j i place before → 8 ≤ i → Ok tt ≡ line_offence text j
  unfolding fields_from
  line_end {i} r h = let e : 8 - i ≡ 0 = omega arith in rw e at r.rest

-- a text
module _ (text : List ℕ) where
  pub over_lines : (j : ℕ) {over : Bool} → over ≡ is_over text j → over ≡ true → 7 ≤ j
  unfolding is_over
  over_lines j {over} e h = go (leb 7 j) refl (sym e ∙ h)
    where
      go : (t : Bool) → leb 7 j ≡ t → (if t then leb (length text) (line_at text j) else false) ≡ true → 7 ≤ j
      go true et k = leb-true 7 j et
      go false et k = absurd (false≢true k)

  pub text_start : (at : ℕ) → at ≡ passed is_gap text 0 → TextRead text 0 at
  unfolding line_at judge_text
  text_start at e = record { here = e; rest = refl }

  -- what is found of the lines from line j on
  lines_over : (left j : ℕ) → is_over text j ≡ true → lines_from text left j ≡ Ok (j - 7)
  unfolding lines_from
  lines_over zero j o = rw o refl
  lines_over (suc left) j o = rw o refl

  lines_fault : (left j : ℕ) {offence : Offence} → is_over text j ≡ false → Err offence ≡ line_offence text j → lines_from text left j ≡ Err offence
  unfolding lines_from
  lines_fault zero j o e = rw (o, ← e) refl
  lines_fault (suc left) j o e = rw (o, ← e) refl

  module _ {j at : ℕ} (r : TextRead text j at) {over : Bool} (eo : over ≡ is_over text j) where
    pub text_over : over ≡ true → Ok (j - 7) ≡ judge_text text
    text_over h = sym (lines_over (247 - j) j (sym eo ∙ h)) ∙ r.rest

    module _ (h : over ≡ false) where
      pub text_fault : {offence : Offence} → Err offence ≡ line_offence text j → Err offence ≡ judge_text text
      text_fault e = sym (lines_fault (247 - j) j (sym eo ∙ h) e) ∙ r.rest

      pub text_next : {next : ℕ} {x : ⊤} → j < 247 → Ok x ≡ line_offence text j → next ≡ next_line text at → TextRead text (j + 1) next
      unfolding line_at lines_from
      text_next l e en =
          let left : 247 - j ≡ suc (247 - suc j) = omega arith in
          let there : is_over text j ≡ false = sym eo ∙ h in
          record { here = rw (add-one j, ← r.here) en; rest = rw (add-one j) (rw (left, there, ← e) at r.rest) }

      pub text_last : {x : ⊤} → 247 ≤ j → Ok x ≡ line_offence text j → Ok (j - 7) ≡ judge_text text
      unfolding lines_from
      text_last l e =
          let none : 247 - j ≡ 0 = omega arith in
          let there : is_over text j ≡ false = sym eo ∙ h in
          rw (none, there, ← e) at r.rest
