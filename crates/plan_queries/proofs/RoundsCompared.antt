-- The words that count, and two lists of them compared.
-- Assumes nothing.
use Rattle.std.specs.Prelude.{if◌then◌else◌}
use Rattle.std.specs.Cmp.Lexicographic.{slice_cmp}
use Rattle.std.proofs.lemmas.Map.Text.{is_eq-slice_cmp}
use Rattle.std.proofs.Common.{nat_cmp, bytes_eq, is_eq, inl, inr, eqb, eq-eqb, ne_eqb, eqb-true}
use Rattle.std.specs.declared.cmp.Ordering.{Ordering}
use Rattle.std.specs.List.{filter}
use Prim.Native.Nat.{ℕ}
use mathlib.Core.Path.{◌≡◌, refl, ap, ap₂, ◌∙◌}
use mathlib.Core.Bool.{Bool, true, false, ◌&&◌}
use mathlib.Core.List.{List, [], ◌∷◌}
use borrow.Author.Tests.{eqb-false}
use Rattle.laws.proofs.Decided.{known}
use Rattle.rules.specs.PlanWords.{kind_of, number_of, word_of, same_word}
use Rattle.rules.specs.SameRounds.{is_visit, counts, counted, same_words}
use Rattle.plan_words.proofs.WordForms.{whole_same}

-- words are the same where kind and number are
same_whole : (v w : ℕ) → eqb v w ≡ same_word v w
unfolding same_word
same_whole v w =
    elim (known (eqb v w)) [
      | inl e ↦ let q = eqb-true v w e in rw (q, eq-eqb (kind_of w) (kind_of w) refl, eq-eqb (number_of w) (number_of w) refl, eq-eqb w w refl) refl
      | inr n ↦
          elim (known (eqb (kind_of v) (kind_of w))) [
            | inr k ↦ rw (n, k) refl
            | inl k ↦
                rw (
                  n,
                  k,
                  ne_eqb (number_of v) (number_of w) (λ q. eqb-false v w n (whole_same v w (eqb-true (kind_of v) (kind_of w) k) q)),
                ) refl
          ]
    ]

same_equal : (xs ys : List ℕ) → bytes_eq xs ys ≡ same_words xs ys
unfolding same_words
same_equal [] [] = refl
same_equal [] (y ∷ ys) = refl
same_equal (x ∷ xs) [] = refl
same_equal (x ∷ xs) (y ∷ ys) = go (eqb x y) (same_whole x y) (same_equal xs ys)
  where
    go : (b : Bool) {c r s : Bool} → b ≡ c → r ≡ s → (b && r) ≡ (if c then s else false)
    go true e h = rw (← e, h) refl
    go false e h = rw (← e) refl

filter_counted : (ws : List ℕ) → filter (λ w. counts is_visit (word_of w)) ws ≡ counted is_visit ws
unfolding counted
filter_counted [] = refl
filter_counted (w ∷ ws) = go (counts is_visit (word_of w)) (filter_counted ws)
  where
    go : (b : Bool) {xs ys : List ℕ} → xs ≡ ys → (if b then w ∷ xs else xs) ≡ (if b then w ∷ ys else ys)
    go true e = ap (λ zs. w ∷ zs) e
    go false e = e

-- the words that count, compared in order
pub counted_same : (first second : List ℕ) {order : Ordering}
    → order ≡ slice_cmp nat_cmp (filter (λ w. counts is_visit (word_of w)) first) (filter (λ w. counts is_visit (word_of w)) second)
    → is_eq order ≡ same_words (counted is_visit first) (counted is_visit second)
counted_same first second e = ap is_eq e ∙ is_eq-slice_cmp (filter (λ w. counts is_visit (word_of w)) first) (filter (λ w. counts is_visit (word_of w)) second)
    ∙ ap₂ bytes_eq (filter_counted first) (filter_counted second)
    ∙ same_equal (counted is_visit first) (counted is_visit second)
