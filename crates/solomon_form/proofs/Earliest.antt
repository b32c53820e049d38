-- The first fault met is the earliest offence: none has an earlier byte, and at its byte none has a lower number. Assumes nothing.
use Rattle.std.specs.Prelude.{if◌then◌else◌, Ok, Err}
use Rattle.std.specs.Result.{result_and}
use Prim.Native.Nat.{ℕ, suc, ◌+◌, ◌-◌, ◌≤◌, ◌<◌}
use mathlib.Core.Path.{◌≡◌, refl, sym, ap, ap₂, subst, ◌∙◌}
use mathlib.Core.Bool.{Bool, true, false, false≢true}
use mathlib.Core.Logic.{◌⊎◌, inl, inr}
use mathlib.Core.List.{List}
use native.Mathlib.Decide.{ℕ_discrete}
use native.Mathlib.Omega.{arith}
use lib.ListN.{length}
use lib.Dec.{eqb, ltb, leb}
use borrow.Author.Tests.{leb-true, leb-false, le-leb}
use Rattle.rules.specs.Faults.{text_fault_number}
use Rattle.rules.specs.TextFields.{field_at, line_at, ends_line, is_number, number_at, is_word}
use Rattle.rules.specs.SolomonForm.{Finding, fine, plain_fault, range_fault, order_fault, end_fault, name_fault, word_fault, vehicle_word, customer_word, fleet_fault, is_unused, most_of}
use Rattle.rules.specs.SolomonForm.{least_of, customer_fault, beyond_fault, field_fault, number_before, place_of, fault_at, is_over, Offends, judge_text}
use Rattle.rules.specs.declared.faults.TextFault.{TextFault}
use Rattle.rules.specs.declared.faults.TextFault.TheVariants.{Form, Range}
use Rattle.rules.specs.declared.texts.Offence.{Offence}
use Rattle.text_fields.proofs.Places.{fields_rise, lines_rise, fields_before, number_later}
use Rattle.solomon_form.proofs.Judged.{TextRight, text_right, FirstFault}

-- what can be found of a field: nothing, a fault of its form, or a fault of its value where it is a number
data Faulty (is_number : Bool) : Finding → Type 0 where
  none : Faulty is_number fine
  form : Faulty is_number (Err Form)
  limit : is_number ≡ true → Faulty is_number (Err Range)

faulty_if : {b : Bool} (t : Bool) {x y : Finding} → Faulty b x → Faulty b y → Faulty b (if t then x else y)
faulty_if true f g = f
faulty_if false f g = g

module _ (text : List ℕ) (at : ℕ) where
  plain_faulty : Faulty (is_number text at) (plain_fault text at)
  unfolding plain_fault
  plain_faulty = faulty_if (is_number text at) none form

  -- what is said of a number
  number_faulty : (said : Finding) → (is_number text at ≡ true → Faulty (is_number text at) said) → Faulty (is_number text at) (result_and (plain_fault text at) said)
  unfolding plain_fault
  number_faulty said f = go (is_number text at) refl
    where
      go : (t : Bool) → is_number text at ≡ t → Faulty (is_number text at) (result_and (if t then fine else Err Form) said)
      go true e = f e
      go false e = form

  range_faulty : (least most : ℕ) → Faulty (is_number text at) (range_fault text at least most)
  unfolding range_fault
  range_faulty least most =
      number_faulty (if ltb (number_at text at) least then Err Range else if ltb most (number_at text at) then Err Range else fine)
      (λ e. faulty_if (ltb (number_at text at) least) (limit e) (faulty_if (ltb most (number_at text at)) (limit e) none))

  order_faulty : (k : ℕ) → Faulty (is_number text at) (order_fault text at k)
  unfolding order_fault
  order_faulty k = number_faulty (if eqb (number_at text at) k then fine else Err Form) (λ e. faulty_if (eqb (number_at text at) k) none form)

  -- a customer's number is a number
  order_number : (k : ℕ) → order_fault text at k ≡ fine → is_number text at ≡ true
  unfolding order_fault plain_fault
  order_number k e = go (is_number text at) e
    where
      go : (t : Bool) → result_and (if t then fine else Err Form) (if eqb (number_at text at) k then fine else Err Form) ≡ fine → t ≡ true
      go true h = refl
      go false h = cc

  end_faulty : Faulty (is_number text at) (end_fault text at)
  unfolding end_fault
  end_faulty = faulty_if (ends_line text at) none form

  word_faulty : (word : List ℕ) (i : ℕ) → Faulty (is_number text at) (word_fault text word i at)
  unfolding word_fault
  word_faulty word i = faulty_if (eqb i 0) (faulty_if (is_word text at word) none form) end_faulty

  beyond_faulty : (k i : ℕ) → Faulty (is_number text at) (beyond_fault text k i at)
  unfolding beyond_fault
  beyond_faulty k i = faulty_if (eqb i 0) (go (order_fault text at k) refl (order_faulty k)) none
    where
      go : (found : Finding) → order_fault text at k ≡ found → Faulty (is_number text at) found → Faulty (is_number text at) (result_and found (Err Range))
      go (Ok _) e f = limit (order_number k e)
      go (Err fault) e f = f

  field_faulty : (j i before : ℕ) → Faulty (is_number text at) (field_fault text j i at before)
  unfolding field_fault customer_fault fleet_fault name_fault
  field_faulty j i before =
      faulty_if (leb 247 j) (beyond_faulty (j - 6) i)
      (faulty_if (leb 6 j)
      (faulty_if (eqb i 0) (order_faulty (j - 6))
      (faulty_if (leb 7 i) end_faulty
      (faulty_if (is_unused (j - 6) i) plain_faulty (range_faulty (least_of i before) (most_of i)))))
      (faulty_if (eqb j 1) (word_faulty vehicle_word i)
      (faulty_if (eqb j 3)
      (faulty_if (eqb i 0) plain_faulty (faulty_if (eqb i 1) (range_faulty 1 100000) end_faulty))
      (faulty_if (eqb j 4) (word_faulty customer_word i)
      (faulty_if (eqb i 0) (faulty_if (ltb at (length text)) none form) none)))))

in_order_lem : (a b : ℕ) → (a < b) ⊎ ((a ≡ b) ⊎ (b < a))
in_order_lem a b = elim (ℕ_discrete a b) [
  | yes e ↦ inr (inl e)
  | no n ↦ go n (leb a b) refl
]
  where
    go : (a ≡ b → ⊥) → (t : Bool) → leb a b ≡ t → (a < b) ⊎ ((a ≡ b) ⊎ (b < a))
    go n true e = let h = leb-true a b e in inl (omega arith)
    go n false e = let h = leb-false a b e in inr (inr (omega arith))

-- a fault is of the form, or of the value of a number
fault_known : {b : Bool} {found : Finding} {fault : TextFault} → Faulty b found → found ≡ Err fault → (fault ≡ Form) ⊎ ((fault ≡ Range) × (b ≡ true))
fault_known none e = cc
fault_known form e = inl (cc)
fault_known (limit h) e = inr (cc, h)

-- what is said of another offence beside the one found
abbrev pub Later : ℕ → ℕ → ℕ → ℕ → Type 0
Later number place other byte = (place ≤ byte) × (place ≡ byte → number ≤ other)

-- a refusal of a text has number 17 or 18, and 17 is the lower
pub number_least : (fault : TextFault) → (text_fault_number fault ≡ 17) ⊎ (text_fault_number fault ≡ 18)
number_least Form = inl refl
number_least Range = inr refl

module _ (text : List ℕ) where
  known_at : (j i : ℕ) {fault : TextFault} → fault_at text j i ≡ Err fault → (fault ≡ Form) ⊎ ((fault ≡ Range) × (is_number text (place_of text j i) ≡ true))
  known_at j i e = fault_known (field_faulty text (place_of text j i) j i (number_before text j i)) e

  -- a field of a later line, or a later one of the same line, has no earlier place, and behind a number a later one
  later_line : (j i k m : ℕ) → j < k → place_of text j i ≤ place_of text k m
  unfolding field_at
  later_line j i k m h =
      omega (arith, fields_before text j i, lines_rise text (suc j) k h, fields_rise text (line_at text k) 0 m (omega arith))

  strictly : (j i k m : ℕ) → is_number text (place_of text j i) ≡ true → (j < k) ⊎ ((j ≡ k) × (i < m)) → place_of text j i < place_of text k m
  strictly j i k m e (inl h) = omega (arith, number_later text (line_at text j) i e, later_line j (suc i) k m h)
  strictly j i k m e (inr h) =
      subst (λ (l : ℕ). place_of text j i < place_of text l m) h.0
      (omega (arith, number_later text (line_at text j) i e, fields_rise text (line_at text j) (suc i) m h.1))

  no_earlier : (j i k m : ℕ) → (j < k) ⊎ ((j ≡ k) × (i < m)) → place_of text j i ≤ place_of text k m
  no_earlier j i k m (inl h) = later_line j i k m h
  no_earlier j i k m (inr h) =
      subst (λ (l : ℕ). place_of text j i ≤ place_of text l m) h.0 (fields_rise text (line_at text j) i m (omega (arith, h.1)))

  module _ {found : Offence} (f : FirstFault text found) where
    -- another offence stands in a later line, later in the same line, or it is the one found
    behind : {other byte : ℕ} (o : Offends text other byte)
        → ((f.line < o.line) ⊎ ((f.line ≡ o.line) × (f.field < o.field))) ⊎ ((f.line ≡ o.line) × (f.field ≡ o.field))
    behind o = elim (in_order_lem f.line o.line) [
      | inl before ↦ inl (inl before)
      | inr (inl same) ↦ elim (in_order_lem f.field o.field) [
        | inl less ↦ inl (inr (same, less))
        | inr (inl this) ↦ inr (same, this)
        | inr (inr more) ↦ absurd (unlike (sym o.wrong ∙ ap (λ (j : ℕ). fault_at text j o.field) (sym same) ∙ f.fields o.field more))
      ]
      | inr (inr after) ↦ absurd (unlike (sym o.wrong ∙ f.lines o.line o.field after o.looked))
    ]
      where
        unlike : {fault : TextFault} → Err fault ≡ fine → ⊥
        unlike e = cc

    apart : {other byte : ℕ} (o : Offends text other byte) → (f.line < o.line) ⊎ ((f.line ≡ o.line) × (f.field < o.field)) → found.place ≡ byte
        → text_fault_number found.fault ≤ other
    apart {other} {byte} o h e = elim (known_at f.line f.field f.wrong) [
      | inl first ↦ elim (number_least o.fault) [
        | inl least ↦ omega (arith, ap text_fault_number first, o.numbered)
        | inr greater ↦ omega (arith, ap text_fault_number first, o.numbered)
      ]
      | inr first ↦ absurd (omega (arith, strictly f.line f.field o.line o.field first.1 h, f.byte, o.byte))
    ]

    later : {other byte : ℕ} (o : Offends text other byte) → (f.line < o.line) ⊎ ((f.line ≡ o.line) × (f.field < o.field))
        → Later (text_fault_number found.fault) found.place other byte
    later o h = (omega (arith, no_earlier f.line f.field o.line o.field h, f.byte, o.byte), apart o h)

    this_one : {other byte : ℕ} (o : Offends text other byte) → f.line ≡ o.line → f.field ≡ o.field
        → Later (text_fault_number found.fault) found.place other byte
    this_one o same field =
        let place : place_of text f.line f.field ≡ place_of text o.line o.field = ap₂ (place_of text) same field in
        let said : fault_at text f.line f.field ≡ fault_at text o.line o.field = ap₂ (fault_at text) same field in
        let fault : found.fault ≡ o.fault = cc (f.wrong, o.wrong) in
        (omega (arith, f.byte, o.byte), λ e. omega (arith, ap text_fault_number fault, o.numbered))

    pub found_earliest : (other byte : ℕ) → Offends text other byte → Later (text_fault_number found.fault) found.place other byte
    found_earliest other byte o = elim (behind o) [
      | inl h ↦ later o h
      | inr h ↦ this_one o h.0 h.1
    ]

    pub found_offends : Offends text (text_fault_number found.fault) found.place
    found_offends = record {
      line = f.line;
      field = f.field;
      asked = f.asked;
      looked = f.looked;
      fault = found.fault;
      wrong = f.wrong;
      numbered = refl;
      byte = f.byte;
    }

  -- behind a line that is not there no other is
  over_later : (j k : ℕ) → is_over text j ≡ true → j ≤ k → is_over text k ≡ true
  unfolding is_over
  over_later j k o h = go (leb 7 j) refl o
    where
      go : (t : Bool) → leb 7 j ≡ t → (if t then leb (length text) (line_at text j) else false) ≡ true
          → (if leb 7 k then leb (length text) (line_at text k) else false) ≡ true
      go true et e =
          let enough : 7 ≤ k = omega (arith, leb-true 7 j et) in
          let past : length text ≤ line_at text k = omega (arith, leb-true (length text) (line_at text j) e, lines_rise text j k h) in
          rw (le-leb 7 k enough, le-leb (length text) (line_at text k) past) refl
      go false et e = absurd (false≢true e)

  -- a text without fault has no offence
  pub none_offends : (n : ℕ) → judge_text text ≡ Ok n → (number place : ℕ) → Offends text number place → ⊥
  none_offends n e number place o = elim (in_order_lem o.line (7 + n)) [
    | inl there ↦ fault_free there
    | inr (inl last) ↦ absurd (false≢true (sym o.asked ∙ ap (is_over text) last ∙ r.over))
    | inr (inr past) ↦ absurd (false≢true (sym o.asked ∙ over_later (7 + n) o.line r.over (omega arith)))
  ]
    where
      r : TextRight text n
      r = text_right text n e

      fault_free : o.line < 7 + n → ⊥
      fault_free h = let said = r.right o.line o.field h o.looked in let wrong = o.wrong in cc
