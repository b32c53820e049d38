-- What is found of a text: without a fault no line that is asked for or there has one, and there are at most 240 stops; else the first fault is
-- found, which no field in front of it has. Assumes nothing.
use Rattle.std.specs.Prelude.{if◌then◌else◌, ⊤, Result, Ok, Err}
use Rattle.std.specs.Result.{result_and}
use Prim.Native.Nat.{ℕ, zero, suc, ◌+◌, ◌-◌, ◌≤◌, ◌<◌}
use mathlib.Core.Path.{◌≡◌, refl, sym, ap, subst, ◌∙◌}
use mathlib.Core.Bool.{Bool, true, false}
use mathlib.Core.List.{List}
use native.Mathlib.Decide.{ℕ_discrete}
use native.Mathlib.Omega.{arith}
use Rattle.rules.specs.SolomonForm.{Finding, fine, order_fault, beyond_fault, field_fault, place_of, fault_at, is_over, found_at, fields_from, line_offence, lines_from, judge_text}
use Rattle.rules.specs.declared.faults.TextFault.TheVariants.{Range}
use Rattle.rules.specs.declared.texts.Offence.{Offence}
use Rattle.solomon_form.proofs.LineLaws.{over_lines}

-- the fields of line j from field i on
module _ (text : List ℕ) (j : ℕ) where
  fields_right : (left i : ℕ) → fields_from text j left i ≡ Ok tt → (k : ℕ) → i ≤ k → k < i + left → fault_at text j k ≡ fine
  unfolding fields_from
  fields_right zero i e k h l = absurd (omega arith)
  fields_right (suc left) i e k h l = go (fault_at text j i) refl (λ z m n. fields_right left (suc i) z k m n) e
    where
      go : (found : Finding) → fault_at text j i ≡ found → (fields_from text j left (suc i) ≡ Ok tt → suc i ≤ k → k < suc i + left → fault_at text j k ≡ fine)
          → result_and (found_at (place_of text j i) found) (fields_from text j left (suc i)) ≡ Ok tt → fault_at text j k ≡ fine
      go (Ok _) here rest z = elim (ℕ_discrete k i) [ yes same ↦ ap (fault_at text j) same ∙ here | no other ↦ rest z (omega arith) (omega arith) ]
      go (Err fault) here rest z = cc

  -- the first field at fault
  pub record FieldFound (found : Offence) (from most : ℕ) : Type 0 where
    pub field : ℕ
    pub wrong : fault_at text j field ≡ Err found.fault
    pub byte : place_of text j field ≡ found.place
    pub looked : field < most
    pub fields : (i : ℕ) → from ≤ i → i < field → fault_at text j i ≡ fine

  fields_found : (left i : ℕ) (found : Offence) → fields_from text j left i ≡ Err found → FieldFound found i (i + left)
  unfolding fields_from
  fields_found zero i found e = cc
  fields_found (suc left) i found e = go (fault_at text j i) refl (fields_found left (suc i) found) e
    where
      later : fault_at text j i ≡ fine → FieldFound found (suc i) (suc i + left) → FieldFound found i (i + suc left)
      later z f = record {
        field = f.field;
        wrong = f.wrong;
        byte = f.byte;
        looked = omega (arith, f.looked);
        fields = λ k h l. elim (ℕ_discrete k i) [ yes same ↦ ap (fault_at text j) same ∙ z | no other ↦ f.fields k (omega arith) l ];
      }

      go : (here : Finding) → fault_at text j i ≡ here → (fields_from text j left (suc i) ≡ Err found → FieldFound found (suc i) (suc i + left))
          → result_and (found_at (place_of text j i) here) (fields_from text j left (suc i)) ≡ Err found → FieldFound found i (i + suc left)
      go (Ok _) here rest z = later here (rest z)
      go (Err fault) here rest z =
          let same : record { fault = fault; place = place_of text j i } ≡ found = cc in
          record {
            field = i;
            wrong = here ∙ ap (λ (o : Offence). Err o.fault) same;
            byte = ap (λ (o : Offence). o.place) same;
            looked = omega arith;
            fields = λ k h l. absurd (omega arith);
          }

  line_right : line_offence text j ≡ Ok tt → (i : ℕ) → i < 8 → fault_at text j i ≡ fine
  line_right e i l = fields_right 8 0 e i (omega arith) (omega arith)

-- a stop past 240 is at fault
beyond_some : (text : List ℕ) → line_offence text 247 ≡ Ok tt → ⊥
unfolding field_fault beyond_fault
beyond_some text e = go (order_fault text (place_of text 247 0) (247 - 6)) (line_right text 247 e 0 (omega arith))
  where
    go : (found : Finding) → result_and found (Err Range) ≡ fine → ⊥
    go (Ok _) z = cc
    go (Err fault) z = cc

module _ (text : List ℕ) where
  -- the lines from line j on, none of which is at fault, end in front of line last
  record LinesRight (n left j : ℕ) : Type 0 where
    pub last : ℕ
    pub most : last ≤ j + left
    pub stops : n ≡ last - 7
    pub over : is_over text last ≡ true
    pub lines : (k : ℕ) → j ≤ k → k < last → line_offence text k ≡ Ok tt

  over_here : (n left j : ℕ) → is_over text j ≡ true → n ≡ j - 7 → LinesRight n left j
  over_here n left j o e = record { last = j; most = omega arith; stops = e; over = o; lines = λ k h l. absurd (omega arith) }

  right_next : (n left j : ℕ) → line_offence text j ≡ Ok tt → LinesRight n left (suc j) → LinesRight n (suc left) j
  right_next n left j z r = record {
    last = r.last;
    most = omega (arith, r.most);
    stops = r.stops;
    over = r.over;
    lines = λ k h l. elim (ℕ_discrete k j) [ yes same ↦ ap (line_offence text) same ∙ z | no other ↦ r.lines k (omega arith) l ];
  }

  lines_right : (left j n : ℕ) → j + left ≡ 247 → lines_from text left j ≡ Ok n → LinesRight n left j
  unfolding lines_from
  lines_right zero j n s e = go (is_over text j) (line_offence text j) refl refl e
    where
      go : (t : Bool) (found : Result ⊤ Offence) → is_over text j ≡ t → line_offence text j ≡ found
          → (if t then Ok (j - 7) else result_and found (Ok (j - 7))) ≡ Ok n → LinesRight n zero j
      go true found o f z = over_here n zero j o (cc)
      go false (Ok _) o f z =
          let end : j ≡ 247 = omega arith in
          absurd (beyond_some text (subst (λ (k : ℕ). line_offence text k ≡ Ok tt) end f))
      go false (Err found) o f z = cc
  lines_right (suc left) j n s e = go (is_over text j) (line_offence text j) refl refl (lines_right left (suc j) n (omega arith)) e
    where
      go : (t : Bool) (found : Result ⊤ Offence) → is_over text j ≡ t → line_offence text j ≡ found
          → (lines_from text left (suc j) ≡ Ok n → LinesRight n left (suc j))
          → (if t then Ok (j - 7) else result_and found (lines_from text left (suc j))) ≡ Ok n → LinesRight n (suc left) j
      go true found o f rest z = over_here n (suc left) j o (cc)
      go false (Ok _) o f rest z = right_next n left j f (rest z)
      go false (Err found) o f rest z = cc

  -- a text without fault, of n stops
  pub record TextRight (n : ℕ) : Type 0 where
    pub stops_most : n ≤ 240
    pub over : is_over text (7 + n) ≡ true
    pub right : (j i : ℕ) → j < 7 + n → i < 8 → fault_at text j i ≡ fine

  pub text_right : (n : ℕ) → judge_text text ≡ Ok n → TextRight n
  unfolding judge_text
  text_right n e =
      let r = lines_right 247 0 n refl e in
      let enough = over_lines text r.last (sym r.over) refl in
      let end : 7 + n ≡ r.last = omega (arith, r.stops) in
      record {
        stops_most = omega (arith, r.most);
        over = ap (is_over text) end ∙ r.over;
        right = λ j i l m. line_right text j (r.lines j (omega arith) (omega arith)) i m;
      }

  -- the first fault of the lines from line j on
  record LineFound (found : Offence) (j : ℕ) : Type 0 where
    pub line : ℕ
    pub asked : is_over text line ≡ false
    pub here : line_offence text line ≡ Err found
    pub lines : (k : ℕ) → j ≤ k → k < line → line_offence text k ≡ Ok tt

  found_next : (found : Offence) (j : ℕ) → line_offence text j ≡ Ok tt → LineFound found (suc j) → LineFound found j
  found_next found j z f = record {
    line = f.line;
    asked = f.asked;
    here = f.here;
    lines = λ k h l. elim (ℕ_discrete k j) [ yes same ↦ ap (line_offence text) same ∙ z | no other ↦ f.lines k (omega arith) l ];
  }

  fault_here : (found : Offence) (j : ℕ) → is_over text j ≡ false → line_offence text j ≡ Err found → LineFound found j
  fault_here found j o e = record { line = j; asked = o; here = e; lines = λ k h l. absurd (omega arith) }

  lines_found : (left j : ℕ) (found : Offence) → lines_from text left j ≡ Err found → LineFound found j
  unfolding lines_from
  lines_found zero j found e = go (is_over text j) (line_offence text j) refl refl e
    where
      go : (t : Bool) (line : Result ⊤ Offence) → is_over text j ≡ t → line_offence text j ≡ line
          → (if t then Ok (j - 7) else result_and line (Ok (j - 7))) ≡ Err found → LineFound found j
      go true line o f z = cc
      go false (Ok _) o f z = cc
      go false (Err first) o f z = fault_here found j o (cc)
  lines_found (suc left) j found e = go (is_over text j) (line_offence text j) refl refl (lines_found left (suc j) found) e
    where
      go : (t : Bool) (line : Result ⊤ Offence) → is_over text j ≡ t → line_offence text j ≡ line
          → (lines_from text left (suc j) ≡ Err found → LineFound found (suc j))
          → (if t then Ok (j - 7) else result_and line (lines_from text left (suc j))) ≡ Err found → LineFound found j
      go true line o f rest z = cc
      go false (Ok _) o f rest z = found_next found j f (rest z)
      go false (Err first) o f rest z = fault_here found j o (cc)

  -- the first fault of the text: its line and its field, and no fault in front of it
  pub record FirstFault (found : Offence) : Type 0 where
    pub line : ℕ
    pub field : ℕ
    pub asked : is_over text line ≡ false
    pub looked : field < 8
    pub wrong : fault_at text line field ≡ Err found.fault
    pub byte : place_of text line field ≡ found.place
    pub lines : (j i : ℕ) → j < line → i < 8 → fault_at text j i ≡ fine
    pub fields : (i : ℕ) → i < field → fault_at text line i ≡ fine

  pub first_fault : (found : Offence) → judge_text text ≡ Err found → FirstFault found
  unfolding judge_text
  first_fault found e =
      let f = lines_found 247 0 found e in
      let g = fields_found text f.line 8 0 found f.here in
      record {
        line = f.line;
        field = g.field;
        asked = f.asked;
        looked = g.looked;
        wrong = g.wrong;
        byte = g.byte;
        lines = λ j i l m. line_right text j (f.lines j (omega arith) l) i m;
        fields = λ i l. g.fields i (omega arith) l;
      }
