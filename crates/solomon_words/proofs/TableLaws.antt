-- Laws of reading the numbers of a text, line by line and field by field. Assumes nothing.
use Rattle.std.proofs.Common.{◌≡◌, ℕ, ◌+◌, ◌<◌, ◌≢◌, List, length, get_or, set, ap, ◌∙◌, add-one, arith, below_more, get_or-set_same, get_or-set_other}
use Rattle.rules.specs.TextFields.{is_gap, passed, field_at, line_at, next_field, next_line}
use Rattle.text_fields.specs.Runs.{held_at}
use Rattle.solomon_words.specs.Table.{Stored}

module _ (text : List ℕ) where
  pub line_first : {at : ℕ} → at ≡ passed is_gap text 0 → at ≡ line_at text 0
  unfolding line_at
  line_first e = e

  pub line_on : (j : ℕ) {at next : ℕ} → at ≡ line_at text j → next ≡ next_line text at → next ≡ line_at text (j + 1)
  unfolding line_at
  line_on j ea en = rw (add-one j, ← ea) en

  pub customer_on : (k : ℕ) {at next : ℕ} → at ≡ line_at text (6 + k) → next ≡ next_line text at → next ≡ line_at text (6 + (k + 1))
  customer_on k ea en = let e : 6 + k + 1 ≡ 6 + (k + 1) = omega arith in line_on (6 + k) ea en ∙ ap (line_at text) e

  pub field_on : (at i : ℕ) {place next : ℕ} → place ≡ field_at text at i → next ≡ next_field text place → next ≡ field_at text at (i + 1)
  unfolding field_at
  field_on at i ep en = rw (add-one i, ← ep) en

  -- one number more of a line, and one line more of the text
  pub number_more : (at i : ℕ) (numbers : List ℕ) {place held : ℕ} → ((k : ℕ) → k < i → get_or numbers k 0 ≡ held_at text (field_at text at k)) → i < length numbers
      → place ≡ field_at text at i → held ≡ held_at text place → (k : ℕ) → k < i + 1 → get_or (set numbers i held) k 0 ≡ held_at text (field_at text at k)
  number_more at i numbers s l ep eh =
      below_more _ _ (λ k h. let ne : k ≢ i = omega arith in rw get_or-set_other (s k h)) (rw get_or-set_same (eh ∙ ap (held_at text) ep))

  pub line_more : (k : ℕ) (customers : List (List ℕ)) (numbers : List ℕ) {at : ℕ} → Stored text customers k → k < length customers → at ≡ line_at text (6 + k)
      → ((i : ℕ) → i < 7 → get_or numbers i 0 ≡ held_at text (field_at text at i)) → Stored text (set customers k numbers) (k + 1)
  line_more k customers numbers s l ea same =
      below_more _ _
      (λ j h i m. let ne : j ≢ k = omega arith in rw get_or-set_other (s j h i m))
      (λ i m. rw get_or-set_same (rw ea at (same i m)))
