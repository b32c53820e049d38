-- Where one vehicle's words stand: what the first E word and the first A word of a number tell.
-- Assumes nothing.
use Rattle.std.specs.Prelude.{if◌then◌else◌, Option, Some, None, MatchOption, cond}
use Rattle.std.specs.List.{position, position_from}
use Rattle.std.proofs.lemmas.Iterator.Adapters.{position_from-zero}
use Prim.Native.Nat.{ℕ, suc, ◌+◌, ◌-◌, ◌≤◌}
use mathlib.Core.Path.{◌≡◌, refl, sym, ap, ◌∙◌}
use mathlib.Core.Bool.{Bool, true, false}
use mathlib.Core.List.{List, [], ◌∷◌}
use native.Mathlib.Numerals.{add-one}
use native.Mathlib.Omega.{arith}
use lib.ListN.{length, drop}
use Rattle.rules.specs.Answers.{given, refused}
use Rattle.rules.specs.PlanWords.{word_of}
use Rattle.rules.specs.VehiclePlace.{is_vehicle, is_back, words_to_back, place_from}

-- the words up to the first E
back_from : (ws : List ℕ) (i : ℕ)
    → MatchOption (position_from (λ w. is_back (word_of w)) i ws) (words_to_back ws ≡ length ws) (λ j. (j + 1 ≡ i + words_to_back ws) × (words_to_back ws ≤ length ws))
unfolding words_to_back
back_from [] i = refl
back_from (w ∷ ws) i = go (is_back (word_of w)) (position_from (λ w. is_back (word_of w)) (i + 1) ws) (back_from ws (i + 1))
  where
    go : (b : Bool) (o : Option ℕ) → MatchOption o (words_to_back ws ≡ length ws) (λ j. (j + 1 ≡ (i + 1) + words_to_back ws) × (words_to_back ws ≤ length ws))
        → MatchOption (cond b (Some i) o) ((if b then 1 else suc (words_to_back ws)) ≡ suc (length ws)) (λ j. (j + 1 ≡ i + (if b then 1 else suc (words_to_back ws))) × ((if b then 1 else suc (words_to_back ws)) ≤ suc (length ws)))
    go true o h = (omega arith, omega arith)
    go false None h = omega (arith, h)
    go false (Some j) h = (omega (arith, h.0), omega (arith, h.1))

module _ (ws : List ℕ) {first : Option ℕ} (e : first ≡ position (λ w. is_back (word_of w)) ws) where
  whole : first ≡ position_from (λ w. is_back (word_of w)) 0 ws
  whole = e ∙ position_from-zero (λ w. is_back (word_of w)) ws

  pub part_ends : (j : ℕ) → first ≡ Some j → (j + 1 ≡ words_to_back ws) × (words_to_back ws ≤ length ws)
  part_ends j q =
      let t : (j + 1 ≡ 0 + words_to_back ws) × (words_to_back ws ≤ length ws) = rw (sym whole ∙ q) at (back_from ws 0) in
      (omega (arith, t.0), t.1)

  pub part_cut : first ≡ None → words_to_back ws ≡ length ws
  part_cut q = rw (sym whole ∙ q) at (back_from ws 0)

-- the vehicles, one word after the other
module _ (number : ℕ) where
  place_at : (ws : List ℕ) (i : ℕ)
      → MatchOption (position_from (λ w. is_vehicle number (word_of w)) i ws) (refused 15 number ≡ place_from number ws i)
      (λ j. (i ≤ j) × (given (j ∷ words_to_back (drop (j - i) ws) ∷ []) ≡ place_from number ws i))
  unfolding place_from
  place_at [] i = refl
  place_at (w ∷ ws) i = go (is_vehicle number (word_of w)) (position_from (λ w. is_vehicle number (word_of w)) (i + 1) ws) (place_at ws (i + 1))
    where
      go : (b : Bool) (o : Option ℕ)
          → MatchOption o (refused 15 number ≡ place_from number ws (i + 1)) (λ j. (i + 1 ≤ j) × (given (j ∷ words_to_back (drop (j - (i + 1)) ws) ∷ []) ≡ place_from number ws (i + 1)))
          → MatchOption (cond b (Some i) o) (refused 15 number ≡ (if b then given (i ∷ words_to_back (w ∷ ws) ∷ []) else place_from number ws (suc i)))
          (λ j. (i ≤ j) × (given (j ∷ words_to_back (drop (j - i) (w ∷ ws)) ∷ []) ≡ (if b then given (i ∷ words_to_back (w ∷ ws) ∷ []) else place_from number ws (suc i))))
      go true o h =
          let none : i - i ≡ 0 = omega arith in
          (omega arith, ap (λ (k : ℕ). given (i ∷ words_to_back (drop k (w ∷ ws)) ∷ [])) none)
      go false None h = h ∙ ap (place_from number ws) (add-one i)
      go false (Some j) h =
          let later : j - i ≡ suc (j - (i + 1)) = omega (arith, h.0) in
          (omega (arith, h.0), ap (λ (k : ℕ). given (j ∷ words_to_back (drop k (w ∷ ws)) ∷ [])) later ∙ h.1 ∙ ap (place_from number ws) (add-one i))

  module _ (ws : List ℕ) {first : Option ℕ} (e : first ≡ position (λ w. is_vehicle number (word_of w)) ws) where
    all : first ≡ position_from (λ w. is_vehicle number (word_of w)) 0 ws
    all = e ∙ position_from-zero (λ w. is_vehicle number (word_of w)) ws

    pub place_found : (j : ℕ) {n : ℕ} → first ≡ Some j → n ≡ words_to_back (drop j ws) → given (j ∷ n ∷ []) ≡ place_from number ws 0
    place_found j {n} q en =
        let t : (0 ≤ j) × (given (j ∷ words_to_back (drop (j - 0) ws) ∷ []) ≡ place_from number ws 0) = rw (sym all ∙ q) at (place_at ws 0) in
        let same : j - 0 ≡ j = omega arith in
        rw (en) (rw same at t.1)

    pub place_none : first ≡ None → refused 15 number ≡ place_from number ws 0
    place_none q = rw (sym all ∙ q) at (place_at ws 0)
