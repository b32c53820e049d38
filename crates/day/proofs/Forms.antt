-- What the word at an index holds, part by part: head, tips, stops, legs.
-- Assumes nothing.
use Rattle.std.specs.Prelude.{if◌then◌else◌}
use Prim.Native.Nat.{ℕ, ◌+◌, ◌-◌, ◌*◌, ◌/◌, ◌%◌, ◌<◌, ◌≤◌}
use mathlib.Core.Path.{◌≡◌, ap, ◌∙◌}
use native.Mathlib.Nat.{mul-le-mul, mul-le-mul_right, suc-mul, mul-add-div_right, mul-add-mod_self_right, div-eq_of_lt, mod-eq_of_lt}
use native.Mathlib.Omega.{arith}
use lib.Dec.{eqb}
use borrow.Author.Tests.{lt-ltb, le-ltb, eq-eqb, ne_eqb}
use Rattle.rules.specs.DayFile.{lone, window, leg, stay, places_of, tips_end, legs_at, words_of, head_form, tip_form, stop_form, leg_form, form_at}
use Rattle.rules.specs.Fields.{leg_index}

pub head_form_lem : (d n i : ℕ) → i < 7 → form_at d n i ≡ head_form i
unfolding form_at
head_form_lem d n i h = rw (lt-ltb i 7 h)

-- the words of tip k + 1
module _ (d n k : ℕ) (h : k < d) where
  tip_form_lem : (j : ℕ) → j < 2 → form_at d n (7 + 2 * k + j) ≡ tip_form (2 * k + j)
  unfolding form_at
  tip_form_lem j l =
      let off : (7 + 2 * k + j) - 7 ≡ 2 * k + j = omega arith in
      rw (le-ltb (7 + 2 * k + j) 7 (omega arith), lt-ltb (7 + 2 * k + j) (tips_end d) (omega arith), off)

  pub tip_window_form : (i : ℕ) → i ≡ 7 + 2 * k → form_at d n i ≡ window 5
  unfolding tip_form
  tip_window_form i e =
      let at : i ≡ 7 + 2 * k + 0 = omega arith in
      rw at (tip_form_lem 0 (omega arith) ∙ rw (eq-eqb ((2 * k + 0) % 2) 0 (omega arith)))

  pub tip_service_form : (i : ℕ) → i ≡ 7 + 2 * k → form_at d n (i + 1) ≡ lone 7 0 240
  unfolding tip_form
  tip_service_form i e = rw e (tip_form_lem 1 (omega arith) ∙ rw (ne_eqb ((2 * k + 1) % 2) 0 (λ z. omega arith)))

-- the words of stop k + 1
module _ (d n k : ℕ) (h : k < n) where
  stop_form_lem : (j : ℕ) → j < 3 → form_at d n (tips_end d + 3 * k + j) ≡ stop_form (3 * k + j)
  unfolding form_at
  stop_form_lem j l =
      let i = tips_end d + 3 * k + j in
      let off : i - tips_end d ≡ 3 * k + j = omega arith in
      rw (le-ltb i 7 (omega arith), le-ltb i (tips_end d) (omega arith), lt-ltb i (legs_at d n) (omega arith), off)

  pub stop_window_form : (i : ℕ) → i ≡ tips_end d + 3 * k → form_at d n i ≡ window 5
  unfolding stop_form
  stop_window_form i e =
      let at : i ≡ tips_end d + 3 * k + 0 = omega arith in
      rw at (stop_form_lem 0 (omega arith) ∙ rw (eq-eqb ((3 * k + 0) % 3) 0 (omega arith)))

  pub stop_service_form : (i : ℕ) → i ≡ tips_end d + 3 * k → form_at d n (i + 1) ≡ lone 7 0 240
  unfolding stop_form
  stop_service_form i e =
      rw e (stop_form_lem 1 (omega arith) ∙ rw (ne_eqb ((3 * k + 1) % 3) 0 (λ z. omega arith), eq-eqb ((3 * k + 1) % 3) 1 (omega arith)))

  pub stop_quantity_form : (i : ℕ) → i ≡ tips_end d + 3 * k → form_at d n (i + 2) ≡ lone 8 0 100000
  unfolding stop_form
  stop_quantity_form i e =
      rw e (stop_form_lem 2 (omega arith) ∙ rw (ne_eqb ((3 * k + 2) % 3) 0 (λ z. omega arith), ne_eqb ((3 * k + 2) % 3) 1 (λ z. omega arith)))

-- the legs of a day are few
pub legs_few : (d n : ℕ) → d < 16 → n < 256 → places_of d n * places_of d n ≤ 90000
legs_few d n h g =
    let few : places_of d n ≤ 300 = omega arith in
    mul-le-mul few few

-- row p, column q of a square stands below its size
pub square_below : (p q s : ℕ) → p < s → q < s → p * s + q < s * s
square_below p q s hp hq = omega (arith, mul-le-mul_right s hp, suc-mul p s)

-- a whole row stands below it too
pub row_below : (p s : ℕ) → p < s → p * s + s ≤ s * s
row_below p s h = omega (arith, mul-le-mul_right s h, suc-mul p s)

pub row_of : (p q s : ℕ) → q < s → (p * s + q) / s ≡ p
row_of p q s h = mul-add-div_right (omega arith) p q ∙ ap (λ (k : ℕ). p + k) (div-eq_of_lt h) ∙ omega arith

pub column_of : (p q s : ℕ) → q < s → (p * s + q) % s ≡ q
column_of p q s h = mul-add-mod_self_right p s q ∙ mod-eq_of_lt h

-- the leg from place p to place q
pub leg_form_lem : (d n p q : ℕ) → q < places_of d n → form_at d n (leg_index d n p q) ≡ (if eqb p q then stay else leg)
unfolding form_at leg_form
leg_form_lem d n p q h =
    let i = leg_index d n p q in
    let off : i - legs_at d n ≡ p * places_of d n + q = omega arith in
    rw (le-ltb i 7 (omega arith), le-ltb i (tips_end d) (omega arith), le-ltb i (legs_at d n) (omega arith), off, row_of p q (places_of d n) h, column_of p q (places_of d n) h)

-- it stands within the file
pub leg_inside_lem : (d n p q : ℕ) → p < places_of d n → q < places_of d n → leg_index d n p q < words_of d n
leg_inside_lem d n p q hp hq = omega (arith, square_below p q (places_of d n) hp hq)
