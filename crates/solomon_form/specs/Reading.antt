-- What holds while a line is read field by field, and a text line by line. Assumes nothing.
use Rattle.std.specs.Prelude.{ℕ, ◌-◌, ◌≡◌, List}
use Rattle.rules.specs.TextFields.{line_at, number_at}
use Rattle.rules.specs.SolomonForm.{place_of, number_before, fields_from, line_offence, lines_from, judge_text}

-- field i of line j comes next, behind the field at before where it is not the first, and no field in front of it is at fault
pub record LineRead (text : List ℕ) (j i place before : ℕ) : Type 0 where
  pub here : place ≡ place_of text j i
  pub behind : (i ≡ 0 → ⊥) → number_at text before ≡ number_before text j i
  pub rest : fields_from text j (8 - i) i ≡ line_offence text j

-- line j comes next, and no line in front of it is at fault
pub record TextRead (text : List ℕ) (j at : ℕ) : Type 0 where
  pub here : at ≡ line_at text j
  pub rest : lines_from text (247 - j) j ≡ judge_text text
