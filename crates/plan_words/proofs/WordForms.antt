-- What a plan word says, by its kind and number. Whoever reads a word uses these laws, and never the text of `word_of`. Assumes nothing.
use Rattle.std.proofs.Common.{Some, ◌≡◌, ℕ, ◌+◌, ◌<◌, Bool, true, eqb, sym, refl, ap, ◌∙◌, inl, inr, arith, eq-eqb, ne_eqb, eqb-true}
use borrow.Author.Tests.{eqb-false}
use Rattle.rules.specs.PlanWords.{Word, vehicle, stop, tip, rest, back, left, stray, kind_of, number_of, vehicle_kind, stop_kind, tip_kind, left_kind}
use Rattle.rules.specs.PlanWords.{vehicle_word, stop_word, tip_word, rest_word, back_word, left_word, word_of, same_word}
use Rattle.laws.proofs.Decided.{known}
use native.Mathlib.Decide.{ℕ_discrete}
use Rattle.plan_words.specs.Indexes.{IndexFrom}
use Rattle.plan_words.specs.Reading.{meaning}
use Rattle.plan_words.specs.declared.PlanWord.{PlanWord}

-- a word of each kind
module _ (w : ℕ) where
  pub vehicle_read : kind_of w ≡ vehicle_kind → word_of w ≡ vehicle (number_of w)
  unfolding word_of
  vehicle_read e = rw (ne_eqb w rest_word (λ q. omega arith), ne_eqb w back_word (λ q. omega arith), e)

  pub stop_read : kind_of w ≡ stop_kind → word_of w ≡ stop (number_of w)
  unfolding word_of
  stop_read e = rw e

  pub tip_read : kind_of w ≡ tip_kind → word_of w ≡ tip (number_of w)
  unfolding word_of
  tip_read e = rw e

  pub rest_read : w ≡ rest_word → word_of w ≡ rest
  unfolding word_of
  rest_read e = rw e

  pub back_read : w ≡ back_word → word_of w ≡ back
  unfolding word_of
  back_read e = rw e

  pub left_read : kind_of w ≡ left_kind → word_of w ≡ left (number_of w)
  unfolding word_of
  left_read e = rw (ne_eqb w rest_word (λ q. omega arith), ne_eqb w back_word (λ q. omega arith), e)

  pub stray_read : (w ≡ rest_word → ⊥) → (w ≡ back_word → ⊥) → (kind_of w ≡ vehicle_kind → ⊥) → (kind_of w ≡ stop_kind → ⊥)
      → (kind_of w ≡ tip_kind → ⊥) → (kind_of w ≡ left_kind → ⊥) → word_of w ≡ stray
  unfolding word_of
  stray_read r b v s t l = rw (ne_eqb _ _ s, ne_eqb _ _ t, ne_eqb _ _ r, ne_eqb _ _ b, ne_eqb _ _ v, ne_eqb _ _ l)

-- the word of a kind and a number of eight bits
module _ (k : ℕ) (h : k < 256) where
  pub vehicle_form : word_of (vehicle_word k) ≡ vehicle k
  vehicle_form = vehicle_read (vehicle_word k) (omega arith) ∙ ap vehicle (omega arith)

  pub stop_form_lem : word_of (stop_word k) ≡ stop k
  stop_form_lem = stop_read (stop_word k) (omega arith) ∙ ap stop (omega arith)

  pub tip_form_lem : word_of (tip_word k) ≡ tip k
  tip_form_lem = tip_read (tip_word k) (omega arith) ∙ ap tip (omega arith)

  pub left_form : word_of (left_word k) ≡ left k
  left_form = left_read (left_word k) (omega arith) ∙ ap left (omega arith)

-- and what it says once the code has made it
module _ (k : ℕ) {word : ℕ} (h : k < 256) where
  pub vehicle_made : word ≡ vehicle_word k → word_of word ≡ vehicle k
  vehicle_made e = ap word_of e ∙ vehicle_form k h

  pub stop_made : word ≡ stop_word k → word_of word ≡ stop k
  stop_made e = ap word_of e ∙ stop_form_lem k h

  pub tip_made : word ≡ tip_word k → word_of word ≡ tip k
  tip_made e = ap word_of e ∙ tip_form_lem k h

  pub left_made : word ≡ left_word k → word_of word ≡ left k
  left_made e = ap word_of e ∙ left_form k h

pub rest_form : word_of rest_word ≡ rest
rest_form = rest_read rest_word refl

pub back_form : word_of back_word ≡ back
back_form = back_read back_word refl

-- how a word can be taken apart
pub data Apart (w : ℕ) : Word → Type 0 where
  is_vehicle : (k : ℕ) → k < 256 → kind_of w ≡ vehicle_kind → word_of w ≡ vehicle k → Apart w (vehicle k)
  is_stop : (k : ℕ) → k < 256 → kind_of w ≡ stop_kind → word_of w ≡ stop k → Apart w (stop k)
  is_tip : (k : ℕ) → k < 256 → kind_of w ≡ tip_kind → word_of w ≡ tip k → Apart w (tip k)
  is_rest : w ≡ rest_word → word_of w ≡ rest → Apart w rest
  is_back : w ≡ back_word → word_of w ≡ back → Apart w back
  is_left : (k : ℕ) → k < 256 → kind_of w ≡ left_kind → word_of w ≡ left k → Apart w (left k)
  is_stray : word_of w ≡ stray → Apart w stray

-- the tests of the kinds, and what each tells once it holds
module _ (w : ℕ) where
  apart_vehicle : kind_of w ≡ vehicle_kind → Apart w (word_of w)
  apart_vehicle e = let r = vehicle_read w e in rw r (is_vehicle (number_of w) (omega arith) e r)

  apart_stop : kind_of w ≡ stop_kind → Apart w (word_of w)
  apart_stop e = let r = stop_read w e in rw r (is_stop (number_of w) (omega arith) e r)

  apart_tip : kind_of w ≡ tip_kind → Apart w (word_of w)
  apart_tip e = let r = tip_read w e in rw r (is_tip (number_of w) (omega arith) e r)

  apart_left : kind_of w ≡ left_kind → Apart w (word_of w)
  apart_left e = let r = left_read w e in rw r (is_left (number_of w) (omega arith) e r)

  pub apart : Apart w (word_of w)
  apart =
      go (ℕ_discrete w rest_word) (ℕ_discrete w back_word) (ℕ_discrete (kind_of w) vehicle_kind) (ℕ_discrete (kind_of w) stop_kind)
      (ℕ_discrete (kind_of w) tip_kind) (ℕ_discrete (kind_of w) left_kind)
    where
      go : Dec (w ≡ rest_word) → Dec (w ≡ back_word) → Dec (kind_of w ≡ vehicle_kind) → Dec (kind_of w ≡ stop_kind)
          → Dec (kind_of w ≡ tip_kind) → Dec (kind_of w ≡ left_kind) → Apart w (word_of w)
      go (yes e) b v s t l = let r = rest_read w e in rw r (is_rest e r)
      go (no r) (yes e) v s t l = let r = back_read w e in rw r (is_back e r)
      go (no r) (no b) (yes e) s t l = apart_vehicle e
      go (no r) (no b) (no v) (yes e) t l = apart_stop e
      go (no r) (no b) (no v) (no s) (yes e) l = apart_tip e
      go (no r) (no b) (no v) (no s) (no t) (yes e) = apart_left e
      go (no r) (no b) (no v) (no s) (no t) (no l) = let r = stray_read w r b v s t l in rw r (is_stray r)

-- a word that the code has taken apart
pub word_is : (w : ℕ) {read word : PlanWord} → meaning (Some read) ≡ word_of w → read ≡ word → word_of w ≡ meaning (Some word)
word_is w e is = sym e ∙ ap (λ (x : PlanWord). meaning (Some x)) is

-- a word by its distance from the first word of its kind
module _ (w r : ℕ) (h : r < 255) where
  pub stop_indexed : IndexFrom (stop_word 1) w r → word_of w ≡ stop (r + 1)
  stop_indexed e = let whole : w ≡ stop_word (r + 1) = omega arith in ap word_of whole ∙ stop_form_lem (r + 1) (omega arith)

  pub tip_indexed : IndexFrom (tip_word 1) w r → word_of w ≡ tip (r + 1)
  tip_indexed e = let whole : w ≡ tip_word (r + 1) = omega arith in ap word_of whole ∙ tip_form_lem (r + 1) (omega arith)

-- two words of the same kind and number are the same word
pub whole_same : (v w : ℕ) → kind_of v ≡ kind_of w → number_of v ≡ number_of w → v ≡ w
whole_same v w k n = omega arith
