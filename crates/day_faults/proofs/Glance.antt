-- A row that is right at a glance has no word at fault. Assumes nothing.
use Rattle.std.specs.Prelude.{Ok, if◌then◌else◌, fold}
use Prim.Native.Nat.{ℕ, zero, suc, ◌+◌, ◌-◌, ◌<◌, ◌≤◌}
use mathlib.Core.Path.{◌≡◌, refl, sym, ap, ◌∙◌}
use mathlib.Core.List.{List, [], ◌∷◌}
use mathlib.Core.Bool.{Bool, true, false, ◌&&◌}
use native.Mathlib.Omega.{arith}
use lib.ListN.{length, get_or, take, drop, length-drop}
use lib.Seq.{length-take-le}
use lib.Dec.{eqb, leb}
use borrow.Author.Tests.{eqb-true, leb-true}
use Rattle.std.proofs.lemmas.List.{get_or-take, get_or-drop}
use Rattle.rules.specs.DayFile.{leg, stay, places_of, words_of, fault_of}
use Rattle.laws.proofs.Tests.{both_true}
use Rattle.day.proofs.WordFaults.{leg_in_range, stay_right}
use Rattle.day_faults.specs.Judging.{judged_from, row_at}
use Rattle.day_faults.specs.Rows.{is_leg, InRange, RowRight}
use Rattle.day_faults.proofs.Judged.{leg_judged, row_inside, row_next}

-- a fold that is right was right before, and finds each word in range
still_right : (row : List ℕ) (before : Bool) → fold (λ right word. right && is_leg word) before row ≡ true → before ≡ true
still_right [] before e = e
still_right (w ∷ row) before e = (both_true before (is_leg w) (still_right row (before && is_leg w) e)).0

fold_range : (row : List ℕ) (before : Bool) → fold (λ right word. right && is_leg word) before row ≡ true → (k : ℕ) → k < length row
    → (2415919104 ≤ get_or row k 0) × (get_or row k 0 ≤ 2510356479)
fold_range [] before e k h = absurd (omega arith)
fold_range (w ∷ row) before e zero h =
    let here = both_true (leb 2415919104 w) (leb w 2510356479) (both_true before (is_leg w) (still_right row (before && is_leg w) e)).1 in
    (leb-true _ _ here.0, leb-true _ _ here.1)
fold_range (w ∷ row) before e (suc k) h = fold_range row (before && is_leg w) e k (omega arith)

pub fold_in_range : (row : List ℕ) → fold (λ right word. right && is_leg word) true row ≡ true → InRange row
fold_in_range row e = record { least = λ k h. (fold_range row true e k h).0; most = λ k h. (fold_range row true e k h).1 }

-- the legs from a place
abbrev pub row_of : ℕ → ℕ → List ℕ → ℕ → List ℕ
row_of d n day from = take (places_of d n) (drop (row_at d n from) day)

module _ (d n : ℕ) (day : List ℕ) (from : ℕ) (long : length day ≡ words_of d n) (h : from < places_of d n) (right : RowRight (row_of d n day from) from) where
  row_long : length (row_of d n day from) ≡ places_of d n
  row_long = length-take-le (places_of d n) (drop (row_at d n from) day) (simp length-drop (omega (arith, row_inside d n day from long h)))

  row_word : (to : ℕ) → to < places_of d n → get_or (row_of d n day from) to 0 ≡ get_or day (row_at d n from + to) 0
  row_word to l = get_or-take (places_of d n) (drop (row_at d n from) day) to 0 l ∙ get_or-drop (row_at d n from) day to 0

  -- no leg has a fault
  leg_right : (to : ℕ) → to < places_of d n → fault_of (if eqb from to then stay else leg) (get_or day (row_at d n from + to) 0) ≡ 0
  leg_right to l = rw (← row_word to l) (go (eqb from to) refl)
    where
      go : (own : Bool) → eqb from to ≡ own → fault_of (if own then stay else leg) (get_or (row_of d n day from) to 0) ≡ 0
      go true e =
          let still : get_or (row_of d n day from) to 0 ≡ 2415919104 = ap (λ (k : ℕ). get_or (row_of d n day from) k 0) (sym (eqb-true from to e)) ∙ right.still in
          rw still (sym (stay_right 2415919104 refl refl))
      go false e = sym (leg_in_range _ (right.legs.least to (omega (arith, row_long))) (right.legs.most to (omega (arith, row_long))))

  row_passes : (m to : ℕ) → to + m ≡ places_of d n → judged_from d n day (row_at d n from + to) ≡ judged_from d n day (row_at d n from + places_of d n)
  row_passes zero to e = ap (λ (k : ℕ). judged_from d n day (row_at d n from + k)) (omega arith)
  row_passes (suc m) to e =
      let next : row_at d n from + to + 1 ≡ row_at d n from + (to + 1) = omega arith in
      leg_judged d n day from to (row_at d n from + to) (row_at d n from + to) (Ok tt) (Ok tt) (sym (leg_right to (omega arith))) refl refl refl long h (omega arith)
      ∙ ap (judged_from d n day) next ∙ row_passes m (to + 1) (omega arith)

  all_pass : judged_from d n day (row_at d n from) ≡ judged_from d n day (row_at d n (from + 1))
  all_pass =
      let first : row_at d n from ≡ row_at d n from + 0 = omega arith in
      ap (judged_from d n day) first ∙ row_passes (places_of d n) 0 (omega arith) ∙ ap (judged_from d n day) (row_next d n from)

pub glance_passes : (d n : ℕ) (day : List ℕ) (from start wide : ℕ) → RowRight (take (start + wide - start) (drop start day)) from → start ≡ row_at d n from + 0
    → wide ≡ places_of d n → length day ≡ words_of d n → from < places_of d n → judged_from d n day (row_at d n from) ≡ judged_from d n day (row_at d n (from + 1))
glance_passes d n day from start wide right e q long h =
    let begin : start ≡ row_at d n from = omega (arith, e) in
    let row : start + wide - start ≡ places_of d n = omega (arith, q) in
    all_pass d n day from long h (rw (row, begin) at right)
