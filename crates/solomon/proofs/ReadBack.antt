-- What the day of a text says, field by field, under the names of document 01: each is what the text says. Assumes nothing.
use Prim.Native.Nat.{ℕ, ◌+◌, ◌-◌, ◌*◌, ◌≤◌, ◌<◌}
use mathlib.Core.Path.{◌≡◌, refl, sym, ap, ◌∙◌}
use mathlib.Core.List.{List}
use native.Mathlib.Omega.{arith}
use Rattle.rules.specs.DayFile.{lone_number, window_opening, window_closing, minutes_of, distance_of, legs_at, words_of}
use Rattle.rules.specs.Fields.{word_at, tips, stops, load_limit, day_limit, stop_limit, window_index, opening, closing}
use Rattle.rules.specs.Fields.{rest_opening, rest_closing, rest_minutes, service, quantity, stop_place, leg_index, leg_minutes, leg_distance}
use Rattle.rules.specs.SolomonDay.{root, lone_word, window_word, squares, hours_word, head_word, tip_word, way_word, day_word, day_words}
use Rattle.day.proofs.Readers.{stop_index}
use Rattle.day.proofs.Forms.{square_below}
use Rattle.solomon_words.specs.Table.{CustomerFit, Fit}
use Rattle.solomon.proofs.Accepted.{day_at, day_first}
use Rattle.solomon_words.proofs.FrontLaws.{front_stop, stop_hours, stop_service, stop_demand}
use Rattle.solomon_words.proofs.LegLaws.{minutes_most_lem, distance_most, squares_most}
use Rattle.solomon_words.proofs.WayLaws.{day_way}

-- a word of a kind gives back what it was made of
lone_back : (kind v : ℕ) {w : ℕ} → w ≡ lone_word kind v → v < 134217728 → lone_number w ≡ v
lone_back kind v e h = omega arith

opens_back : (kind opens closes : ℕ) {w : ℕ} → w ≡ window_word kind opens closes → opens ≤ closes → closes ≤ 1440 → window_opening w ≡ opens
opens_back kind opens closes e h l = omega arith

closes_back : (kind opens closes : ℕ) {w : ℕ} → w ≡ window_word kind opens closes → opens ≤ closes → closes ≤ 1440 → window_closing w ≡ closes
closes_back kind opens closes e h l = omega arith

module _ (number : ℕ → ℕ → ℕ) (load n : ℕ) (f : Fit number load n) where
  day : List ℕ
  day = day_words number load n

  at : (i : ℕ) → i < words_of 1 n → {w : ℕ} → day_word number load n i ≡ w → word_at day i ≡ w
  unfolding day
  at i h e = day_at number load n i h ∙ e

  -- one tip, n stops
  pub tips_back : tips (day_words number load n) ≡ 1
  tips_back = let few = f.stops_most in let first = day_first number load n in omega arith

  pub stops_back : stops (day_words number load n) ≡ n
  stops_back = let few = f.stops_most in let first = day_first number load n in omega arith

  -- the head
  pub load_back : load_limit (day_words number load n) ≡ load
  unfolding day day_word head_word
  load_back = let most = f.load_most in lone_back 2 load (at 1 (omega arith) refl) (omega arith)

  pub day_limit_back : day_limit (day_words number load n) ≡ 1000000
  unfolding day day_word head_word
  day_limit_back = lone_back 3 1000000 (at 2 (omega arith) refl) (omega arith)

  pub stop_limit_back : stop_limit (day_words number load n) ≡ 240
  unfolding day day_word head_word
  stop_limit_back = lone_back 4 240 (at 3 (omega arith) refl) (omega arith)

  depot : CustomerFit number 0
  depot = f.customers 0 (omega arith)

  pub depot_opens : opening (day_words number load n) 0 ≡ number 0 4
  unfolding day day_word head_word window_index
  depot_opens = opens_back 5 (number 0 4) (number 0 5) (at 4 (omega arith) refl) depot.order depot.due

  pub depot_closes : closing (day_words number load n) 0 ≡ number 0 5
  unfolding day day_word head_word window_index
  depot_closes = closes_back 5 (number 0 4) (number 0 5) (at 4 (omega arith) refl) depot.order depot.due

  pub rest_opens : rest_opening (day_words number load n) ≡ 1440
  unfolding day day_word head_word
  rest_opens = opens_back 6 1440 1440 (at 5 (omega arith) refl) (omega arith) (omega arith)

  pub rest_closes : rest_closing (day_words number load n) ≡ 1440
  unfolding day day_word head_word
  rest_closes = closes_back 6 1440 1440 (at 5 (omega arith) refl) (omega arith) (omega arith)

  pub rest_minutes_lem : rest_minutes (day_words number load n) ≡ 0
  unfolding day day_word head_word
  rest_minutes_lem = lone_back 7 0 (at 6 (omega arith) refl) (omega arith)

  -- the tip
  tip_at : window_index (tips (day_words number load n)) 1 ≡ 7
  unfolding window_index
  tip_at = rw tips_back refl

  pub tip_opens : opening (day_words number load n) 1 ≡ number 0 4
  unfolding day day_word tip_word
  tip_opens = rw tip_at (opens_back 5 (number 0 4) (number 0 5) (at 7 (omega arith) refl) depot.order depot.due)

  pub tip_closes : closing (day_words number load n) 1 ≡ number 0 5
  unfolding day day_word tip_word
  tip_closes = rw tip_at (closes_back 5 (number 0 4) (number 0 5) (at 7 (omega arith) refl) depot.order depot.due)

  pub tip_service : service (day_words number load n) 1 ≡ 0
  unfolding day day_word tip_word
  tip_service = rw tip_at (lone_back 7 0 (at 8 (omega arith) refl) (omega arith))

  -- a stop
  module _ (k : ℕ) (some : 1 ≤ k) (few : k ≤ n) where
    stop_at : window_index (tips (day_words number load n)) (stop_place (day_words number load n) k) ≡ 6 + 3 * k
    stop_at = rw tips_back (stop_index 1 k (omega arith))

    hours_at : word_at day (6 + 3 * k) ≡ hours_word number k
    hours_at =
        at (6 + 3 * k) (omega arith)
        (sym (front_stop number load n (6 + 3 * k) (omega arith) (omega arith) (omega arith)
        (stop_hours number (6 + 3 * k - 9) {k = k} (omega arith) (omega arith) refl)))

    service_at : word_at day (7 + 3 * k) ≡ lone_word 7 (number k 6)
    service_at =
        at (7 + 3 * k) (omega arith)
        (sym (front_stop number load n (7 + 3 * k) (omega arith) (omega arith) (omega arith)
        (stop_service number (7 + 3 * k - 9) {k = k} (λ z. omega arith) (omega arith) (omega arith) refl)))

    demand_at : word_at day (8 + 3 * k) ≡ lone_word 8 (number k 3)
    demand_at =
        at (8 + 3 * k) (omega arith)
        (sym (front_stop number load n (8 + 3 * k) (omega arith) (omega arith) (omega arith)
        (stop_demand number (8 + 3 * k - 9) {k = k} (λ z. omega arith) (λ z. omega arith) (omega arith) refl)))

    customer : CustomerFit number k
    customer = f.customers k few

    pub stop_opens : opening (day_words number load n) (stop_place (day_words number load n) k) ≡ number k 4
    unfolding day
    stop_opens = rw stop_at (opens_back 5 (number k 4) (number k 5) hours_at customer.order customer.due)

    pub stop_closes : closing (day_words number load n) (stop_place (day_words number load n) k) ≡ number k 5
    unfolding day
    stop_closes = rw stop_at (closes_back 5 (number k 4) (number k 5) hours_at customer.order customer.due)

    pub stop_minutes : service (day_words number load n) (stop_place (day_words number load n) k) ≡ number k 6
    unfolding day
    stop_minutes =
        let most = (f.stops k some few).service in
        let e : 6 + 3 * k + 1 ≡ 7 + 3 * k = omega arith in
        rw (stop_at, e) (lone_back 7 (number k 6) service_at (omega arith))

    pub stop_kg : quantity (day_words number load n) (stop_place (day_words number load n) k) ≡ number k 3
    unfolding day
    stop_kg =
        let most = (f.stops k some few).demand in
        let e : 6 + 3 * k + 2 ≡ 8 + 3 * k = omega arith in
        rw (stop_at, e) (lone_back 8 (number k 3) demand_at (omega arith))

  -- a leg
  module _ (p q : ℕ) (from : p < 2 + n) (to : q < 2 + n) where
    leg_at : word_at day (leg_index (tips (day_words number load n)) (stops (day_words number load n)) p q) ≡ way_word number (p - 1) (q - 1)
    leg_at =
        let e : leg_index 1 n p q ≡ legs_at 1 n + (p * (2 + n) + q) = omega arith in
        rw (tips_back, stops_back, e) (at (legs_at 1 n + (p * (2 + n) + q)) (omega (arith, square_below p q (2 + n) from to)) (day_way number load n p q to))

    sum_few : squares number (p - 1) (q - 1) ≤ 2000000
    sum_few = squares_most number (p - 1) (q - 1) (f.customers (p - 1) (omega arith)) (f.customers (q - 1) (omega arith))

    pub leg_minutes_lem : leg_minutes (day_words number load n) p q ≡ root (squares number (p - 1) (q - 1))
    unfolding day
    leg_minutes_lem =
        let a = minutes_most_lem (squares number (p - 1) (q - 1)) sum_few in
        let b = distance_most (squares number (p - 1) (q - 1)) sum_few in
        ap minutes_of leg_at ∙ omega arith

    pub leg_distance_lem : leg_distance (day_words number load n) p q ≡ root (100 * squares number (p - 1) (q - 1))
    unfolding day
    leg_distance_lem =
        let a = minutes_most_lem (squares number (p - 1) (q - 1)) sum_few in
        let b = distance_most (squares number (p - 1) (q - 1)) sum_few in
        ap distance_of leg_at ∙ omega arith
