-- The words of a day whose numbers are within their limits are an accepted day of one tip. Assumes nothing.
use Rattle.std.specs.Prelude.{if◌then◌else◌}
use Prim.Native.Nat.{ℕ, suc, ◌+◌, ◌-◌, ◌*◌, ◌/◌, ◌%◌, ◌≤◌, ◌<◌}
use mathlib.Core.Path.{◌≡◌, refl, sym, ap, subst, ◌∙◌}
use mathlib.Core.Bool.{Bool, true, false}
use mathlib.Core.List.{List, [], ◌∷◌}
use native.Mathlib.Omega.{arith}
use lib.ListN.{length, get_or, drop, length-drop}
use lib.Seq.{get_or-drop}
use lib.Dec.{eqb, ltb}
use borrow.Author.Tests.{eq-eqb, ne_eqb, le-ltb, eqb-true, ltb-true, ltb-false}
use Rattle.rules.specs.Answers.{given}
use Rattle.rules.specs.DayFile.{lone, window, leg, stay, places_of, legs_at, words_of, head_form, tip_form, stop_form, leg_form, form_at, fault_of, judge_from, judge_sized, judge_day}
use Rattle.rules.specs.SolomonDay.{root_up_to, root, lone_word, window_word, leg_word_of, squares, hours_word, head_word, tip_word, stop_word, way_word, day_word, day_words}
use Rattle.day.proofs.WordFaults.{lone_right, window_right, leg_right, stay_right}
use Rattle.laws.proofs.Listed.{length_listed, get_listed}
use Rattle.solomon_words.specs.Table.{CustomerFit, Fit}
use Rattle.solomon_words.proofs.LegLaws.{minutes_most_lem, distance_most, squares_most}
use Rattle.solomon.proofs.DayWords.{row_few, column_few}

-- the words by themselves
lone_word_lem : (kind least most v : ℕ) → v < 134217728 → least ≤ v → v ≤ most → fault_of (lone kind least most) (lone_word kind v) ≡ 0
lone_word_lem kind least most v s l m = sym (lone_right (lone_word kind v) kind least most (omega arith) (omega arith) (omega arith))

window_word_lem : (kind a b : ℕ) → a ≤ b → b ≤ 1440 → fault_of (window kind) (window_word kind a b) ≡ 0
window_word_lem kind a b l m = sym (window_right (window_word kind a b) kind (omega arith) (omega arith) (omega arith))

leg_word_lem : (s : ℕ) → s ≤ 2000000 → fault_of leg (leg_word_of (root s) (root (100 * s))) ≡ 0
leg_word_lem s h =
    let a = minutes_most_lem s h in
    let b = distance_most s h in
    sym (leg_right (leg_word_of (root s) (root (100 * s))) (omega arith) (omega arith))

leg_none : leg_word_of (root 0) (root (100 * 0)) ≡ 2415919104
unfolding root root_up_to
leg_none = refl

stay_word : fault_of stay (leg_word_of (root 0) (root (100 * 0))) ≡ 0
stay_word = rw leg_none (sym (stay_right 2415919104 refl refl))

module _ (number : ℕ → ℕ → ℕ) where
  hours_word_lem : (k : ℕ) → CustomerFit number k → fault_of (window 5) (hours_word number k) ≡ 0
  hours_word_lem k f = window_word_lem 5 (number k 4) (number k 5) f.order f.due

  squares_none : (a : ℕ) → squares number a a ≡ 0
  squares_none a =
      let x : number a 1 - number a 1 + (number a 1 - number a 1) ≡ 0 = omega arith in
      let y : number a 2 - number a 2 + (number a 2 - number a 2) ≡ 0 = omega arith in
      rw (x, y) refl

  module _ (load n : ℕ) (f : Fit number load n) where
    head_right : (i : ℕ) → 0 < i → fault_of (head_form i) (head_word number load n i) ≡ 0
    unfolding head_form head_word
    head_right i h = rw (ne_eqb i 0 (λ z. omega arith)) (go (eqb i 1) (eqb i 2) (eqb i 3) (eqb i 4) (eqb i 5))
      where
        go : (a b c d e : Bool)
            → fault_of
            (if a then lone 2 1 100000 else if b then lone 3 1 1000000 else if c then lone 4 1 240 else if d then window 5 else if e then window 6 else lone 7 0 240)
            (if a then lone_word 2 load else if b then lone_word 3 1000000 else if c then lone_word 4 240 else if d then hours_word number 0 else if e then window_word 6 1440 1440 else lone_word 7 0)
            ≡ 0
        go true b c d e = let m = f.load_most in lone_word_lem 2 1 100000 load (omega arith) f.load_least m
        go false true c d e = lone_word_lem 3 1 1000000 1000000 (omega arith) (omega arith) (omega arith)
        go false false true d e = lone_word_lem 4 1 240 240 (omega arith) (omega arith) (omega arith)
        go false false false true e = hours_word_lem 0 (f.customers 0 (omega arith))
        go false false false false true = window_word_lem 6 1440 1440 (omega arith) (omega arith)
        go false false false false false = lone_word_lem 7 0 240 0 (omega arith) (omega arith) (omega arith)

    tip_right : (j : ℕ) → fault_of (tip_form j) (tip_word number j) ≡ 0
    unfolding tip_form tip_word
    tip_right j = go (eqb (j % 2) 0)
      where
        go : (a : Bool) → fault_of (if a then window 5 else lone 7 0 240) (if a then hours_word number 0 else lone_word 7 0) ≡ 0
        go true = hours_word_lem 0 (f.customers 0 (omega arith))
        go false = lone_word_lem 7 0 240 0 (omega arith) (omega arith) (omega arith)

    stop_right : (j : ℕ) → j < 3 * n → fault_of (stop_form j) (stop_word number j) ≡ 0
    unfolding stop_form stop_word
    stop_right j h = go (eqb (j % 3) 0) (eqb (j % 3) 1)
      where
        k : ℕ
        k = 1 + j / 3

        few : k ≤ n
        few = omega arith

        go : (a b : Bool) → fault_of (if a then window 5 else if b then lone 7 0 240 else lone 8 0 100000)
            (if a then hours_word number k else if b then lone_word 7 (number k 6) else lone_word 8 (number k 3)) ≡ 0
        go true b = hours_word_lem k (f.customers k few)
        go false true = let m = (f.stops k (omega arith) few).service in lone_word_lem 7 0 240 (number k 6) (omega arith) (omega arith) m
        go false false = let m = (f.stops k (omega arith) few).demand in lone_word_lem 8 0 100000 (number k 3) (omega arith) (omega arith) m

    way_right : (j : ℕ) → j < places_of 1 n * places_of 1 n
        → fault_of (leg_form (places_of 1 n) j) (way_word number (j / places_of 1 n - 1) (j % places_of 1 n - 1)) ≡ 0
    unfolding leg_form
    way_right j h = go (eqb row column) refl
      where
        row : ℕ
        row = j / places_of 1 n

        column : ℕ
        column = j % places_of 1 n

        go : (t : Bool) → eqb row column ≡ t → fault_of (if t then stay else leg) (way_word number (row - 1) (column - 1)) ≡ 0
        go true e =
            let same : squares number (row - 1) (column - 1) ≡ 0 =
            ap (λ (p : ℕ). squares number (row - 1) (p - 1)) (sym (eqb-true row column e)) ∙ squares_none (row - 1) in
            subst (λ (s : ℕ). fault_of stay (leg_word_of (root s) (root (100 * s))) ≡ 0) (sym same) stay_word
        go false e =
            leg_word_lem (squares number (row - 1) (column - 1))
            (squares_most number (row - 1) (column - 1) (f.customers (row - 1) (row_few n j h)) (f.customers (column - 1) (column_few n j)))

    word_right : (i : ℕ) → 0 < i → i < words_of 1 n → fault_of (form_at 1 n i) (day_word number load n i) ≡ 0
    unfolding form_at day_word
    word_right i h l = go (ltb i 7) (ltb i 9) (ltb i (legs_at 1 n)) refl refl
      where
        go : (a b c : Bool) → ltb i 9 ≡ b → ltb i (legs_at 1 n) ≡ c
            → fault_of
            (if a then head_form i else if b then tip_form (i - 7) else if c then stop_form (i - 9) else leg_form (places_of 1 n) (i - legs_at 1 n))
            (if a then head_word number load n i else if b then tip_word number (i - 7) else if c then stop_word number (i - 9)
            else way_word number ((i - legs_at 1 n) / places_of 1 n - 1) ((i - legs_at 1 n) % places_of 1 n - 1))
            ≡ 0
        go true b c eb ec = head_right i h
        go false true c eb ec = tip_right (i - 7)
        go false false true eb ec = stop_right (i - 9) (omega (arith, ltb-true i (legs_at 1 n) ec, ltb-false i 9 eb))
        go false false false eb ec = way_right (i - legs_at 1 n) (omega (arith, ltb-false i (legs_at 1 n) ec))

-- words without fault are accepted
rest_right : (d n : ℕ) (ws : List ℕ) (i : ℕ) → ((k : ℕ) → k < length ws → fault_of (form_at d n (i + k)) (get_or ws k 0) ≡ 0)
    → judge_from d n ws i ≡ given (n ∷ d ∷ [])
unfolding judge_from
rest_right d n [] i f = refl
rest_right d n (w ∷ ws) i f =
    let here : fault_of (form_at d n i) w ≡ 0 = subst (λ (j : ℕ). fault_of (form_at d n j) w ≡ 0) (omega arith) (f 0 (omega arith)) in
    rw (eq-eqb (fault_of (form_at d n i) w) 0 here)
    (rest_right d n ws (suc i) (λ k l. subst (λ (j : ℕ). fault_of (form_at d n j) (get_or ws k 0) ≡ 0) (omega arith) (f (suc k) (omega arith))))

-- a day of one tip and n stops whose later words are accepted
day_accepted : (day : List ℕ) (n : ℕ) → length day ≡ words_of 1 n → get_or day 0 0 ≡ 268435456 + (256 + n) → n ≤ 240
    → {x : List ℕ} → judge_from 1 n (drop 1 day) 1 ≡ x → judge_day day ≡ x
unfolding judge_day judge_sized
day_accepted day n el ew h k =
    let long : 7 ≤ length day = omega arith in
    let kind : get_or day 0 0 / 4096 ≡ 65536 = omega arith in
    let tips : get_or day 0 0 / 256 % 16 ≡ 1 = omega arith in
    let stops : get_or day 0 0 % 256 ≡ n = omega arith in
    rw (le-ltb _ _ long, eq-eqb _ _ kind, tips, stops, le-ltb _ _ h, eq-eqb _ _ el) k

-- the day as a whole
module _ (number : ℕ → ℕ → ℕ) (load n : ℕ) where
  pub day_long : length (day_words number load n) ≡ words_of 1 n
  day_long = length_listed (day_word number load n) (words_of 1 n)

  pub day_at : (i : ℕ) → i < words_of 1 n → get_or (day_words number load n) i 0 ≡ day_word number load n i
  day_at i h = get_listed (day_word number load n) (words_of 1 n) i h

  pub day_first : get_or (day_words number load n) 0 0 ≡ 268435456 + (256 + n)
  unfolding day_word head_word
  day_first = day_at 0 (omega arith)

  pub words_accepted : Fit number load n → judge_day (day_words number load n) ≡ given (n ∷ 1 ∷ [])
  words_accepted f = day_accepted (day_words number load n) n day_long day_first f.stops_most rest
    where
      right : (k : ℕ) → k < length (drop 1 (day_words number load n)) → fault_of (form_at 1 n (1 + k)) (get_or (drop 1 (day_words number load n)) k 0) ≡ 0
      right k l =
          let h : 1 + k < words_of 1 n = omega (arith, day_long, length-drop 1 (day_words number load n)) in
          subst (λ (w : ℕ). fault_of (form_at 1 n (1 + k)) w ≡ 0) (sym (get_or-drop 1 (day_words number load n) k 0 ∙ day_at (1 + k) h))
          (word_right number load n f (1 + k) (omega arith) h)

      rest : judge_from 1 n (drop 1 (day_words number load n)) 1 ≡ given (n ∷ 1 ∷ [])
      rest = rest_right 1 n (drop 1 (day_words number load n)) 1 right
