-- A field compared with a word. Assumes nothing.
use Rattle.std.specs.Prelude.{if◌then◌else◌, Option, Some, None}
use Rattle.std.specs.Option.{MatchOption, UnwrapsOrElse}
use Prim.Native.Nat.{ℕ, zero, suc, ◌+◌, ◌-◌, ◌≤◌, ◌<◌}
use mathlib.Core.Path.{◌≡◌, refl, sym, ap, ◌∙◌}
use mathlib.Core.Bool.{Bool, true, false, ◌&&◌}
use mathlib.Core.List.{List, [], ◌∷◌}
use native.Mathlib.Omega.{arith}
use lib.Dec.{eqb, eqb-suc-suc, eqb-suc-zero, eqb-zero-suc}
use lib.ListN.{length, take, drop, drop_of_length-le, length-drop}
use lib.Pointwise.{pointwise}
use denote.Ref.{Bor}
use mathlib.Core.Logic.{◌⊎◌}
use lib.Seq.{take-nil}
use Rattle.std.specs.List.{prefix_len, slice_range}
use Rattle.std.proofs.lemmas.List.Sums.{prefix_len-le-length}
use Rattle.text_fields.proofs.Passing.{passed_counts}
use Rattle.rules.specs.TextFields.{is_field_byte, passed, starts_with, is_word}

-- the first n bytes are the word's if the word has n bytes and they begin with it
compared : (bs word : List ℕ) (n : ℕ) → n ≤ length bs → pointwise eqb (take n bs) word ≡ (if eqb n (length word) then starts_with bs word else false)
unfolding starts_with
compared [] [] zero h = refl
compared [] (w ∷ word) zero h = rw (eqb-zero-suc (length word)) refl
compared (b ∷ bs) [] zero h = refl
compared (b ∷ bs) (w ∷ word) zero h = rw (eqb-zero-suc (length word)) refl
compared [] word (suc n) h = absurd (omega arith)
compared (b ∷ bs) [] (suc n) h = rw (eqb-suc-zero n) refl
compared (b ∷ bs) (w ∷ word) (suc n) h = rw (eqb-suc-suc n (length word)) (go (eqb b w) (eqb n (length word)) (compared bs word n (omega arith)))
  where
    go : (t u : Bool) → pointwise eqb (take n bs) word ≡ (if u then starts_with bs word else false)
        → (t && pointwise eqb (take n bs) word) ≡ (if u then (if t then starts_with bs word else false) else false)
    go true u e = e
    go false true e = refl
    go false false e = refl

module _ (text word : List ℕ) (at : ℕ) {end : ℕ} (behind : end ≡ passed is_field_byte text at) where
  passed_bytes : end - at ≡ prefix_len is_field_byte (drop at text)
  passed_bytes = omega (arith, behind, passed_counts is_field_byte text at)

  word_compared : (field : List ℕ) → field ≡ take (end - at) (drop at text) → pointwise eqb field word ≡ is_word text at word
  unfolding is_word
  word_compared field e =
      let few : end - at ≤ length (drop at text) = rw passed_bytes (prefix_len-le-length is_field_byte (drop at text)) in
      rw (e, ← behind) (compared (drop at text) word (end - at) few)

  -- the bytes of the field, and none behind the text's end
  pub word_told : (got : Option (Bor (List ℕ))) (field : Bor (List ℕ)) {told : Bool} → at ≤ end
      → MatchOption got ((end < at) ⊎ (length text < end)) (λ x. (at ≤ end) × (end ≤ length text) × (x.now ≡ slice_range text at end) × (length x.now + at ≡ end))
      → UnwrapsOrElse got (λ r. r.now ≡ []) field → told ≡ pointwise eqb field.now word → told ≡ is_word text at word
  word_told None field later missing empty e =
      let past : length text ≤ at = omega (arith, length-drop at text, passed_bytes, prefix_len-le-length is_field_byte (drop at text)) in
      e ∙ word_compared field.now (rw (drop_of_length-le text past, empty) (sym (take-nil (end - at))))
  word_told (Some x) field later given same e = e ∙ word_compared field.now (ap (λ (b : Bor (List ℕ)). b.now) same ∙ given.2)
