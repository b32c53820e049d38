-- The numbers of a text without fault are within a day file's limits, and so is the table that they are read into. Assumes nothing.
use Rattle.std.specs.Prelude.{if◌then◌else◌, Ok, Err}
use Rattle.std.specs.Result.{result_and}
use Prim.Native.Nat.{ℕ, ◌+◌, ◌-◌, ◌*◌, ◌≤◌, ◌<◌}
use mathlib.Core.Path.{◌≡◌, refl}
use mathlib.Core.Bool.{Bool, true, false}
use mathlib.Core.List.{List}
use native.Mathlib.Omega.{arith}
use lib.Dec.{eqb, ltb}
use borrow.Author.Tests.{ltb-false, ne_eqb, le-leb, lt-leb}
use Rattle.rules.specs.TextFields.{number_at}
use Rattle.rules.specs.SolomonForm.{Finding, fine, plain_fault, range_fault, fleet_fault, is_unused, most_of, least_of, customer_fault, field_fault, place_of, number_before}
use Rattle.rules.specs.SolomonDay.{customer_number, capacity}
use Rattle.rules.specs.declared.faults.TextFault.TheVariants.{Range}
use Rattle.text_fields.specs.Runs.{held_at}
use Rattle.text_fields.proofs.Numbers.{held_most}
use Rattle.solomon_form.proofs.Judged.{TextRight}
use Rattle.solomon_words.specs.Table.{cell, Stored, CustomerFit, StopFit, Fit, Same}

-- a number in its range
range_holds : (text : List ℕ) (at least most : ℕ) → range_fault text at least most ≡ fine → (least ≤ number_at text at) × (number_at text at ≤ most)
unfolding range_fault
range_holds text at least most e = go (plain_fault text at) (ltb (number_at text at) least) (ltb most (number_at text at)) refl refl e
  where
    go : (plain : Finding) (b c : Bool) → ltb (number_at text at) least ≡ b → ltb most (number_at text at) ≡ c
        → result_and plain (if b then Err Range else if c then Err Range else fine) ≡ fine → (least ≤ number_at text at) × (number_at text at ≤ most)
    go (Ok _) true c eb ec e = cc
    go (Ok _) false true eb ec e = cc
    go (Ok _) false false eb ec e = (ltb-false (number_at text at) least eb, ltb-false most (number_at text at) ec)
    go (Err fault) b c eb ec e = cc

-- the line of customer k, whose number i is used
ranged : (text : List ℕ) (k i at before : ℕ) → k ≤ 240 → 0 < i → i < 7 → is_unused k i ≡ false → field_fault text (6 + k) i at before ≡ fine
    → range_fault text at (least_of i before) (most_of i) ≡ fine
unfolding field_fault customer_fault
ranged text k i at before few some seven used e =
    let customer : 6 + k - 6 ≡ k = omega arith in
    rw (
      lt-leb 247 (6 + k) (omega arith),
      le-leb 6 (6 + k) (omega arith),
      ne_eqb i 0 (λ z. omega arith),
      lt-leb 7 i seven,
      customer,
      used,
    ) at e

-- the depot's demand and service are not used; all else is
used_place : (k i : ℕ) → (i ≡ 3 → ⊥) → (i ≡ 6 → ⊥) → is_unused k i ≡ false
unfolding is_unused
used_place k i n3 n6 = go (eqb k 0)
  where
    go : (t : Bool) → (if t then (if eqb i 3 then true else eqb i 6) else false) ≡ false
    go true = rw (ne_eqb i 3 n3, ne_eqb i 6 n6) refl
    go false = refl

used_stop : (k i : ℕ) → 1 ≤ k → is_unused k i ≡ false
unfolding is_unused
used_stop k i h = rw (ne_eqb k 0 (λ z. omega arith)) refl

module _ (text : List ℕ) (n : ℕ) (t : TextRight text n) where
  within : (k i : ℕ) → k ≤ n → 0 < i → i < 7 → is_unused k i ≡ false
      → (least_of i (number_before text (6 + k) i) ≤ customer_number text k i) × (customer_number text k i ≤ most_of i)
  unfolding customer_number
  within k i h some seven used =
      range_holds text (place_of text (6 + k) i) (least_of i (number_before text (6 + k) i)) (most_of i)
      (ranged text k i (place_of text (6 + k) i) (number_before text (6 + k) i) (omega (arith, t.stops_most)) some seven used (t.right (6 + k) i (omega arith) (omega arith)))

  text_customer : (k : ℕ) → k ≤ n → CustomerFit (customer_number text) k
  unfolding most_of least_of number_before customer_number
  text_customer k h = record {
    across = (within k 1 h (omega arith) (omega arith) (used_place k 1 (λ z. omega arith) (λ z. omega arith))).1;
    upward = (within k 2 h (omega arith) (omega arith) (used_place k 2 (λ z. omega arith) (λ z. omega arith))).1;
    order = (within k 5 h (omega arith) (omega arith) (used_place k 5 (λ z. omega arith) (λ z. omega arith))).0;
    due = (within k 5 h (omega arith) (omega arith) (used_place k 5 (λ z. omega arith) (λ z. omega arith))).1;
  }

  text_stop : (k : ℕ) → 1 ≤ k → k ≤ n → StopFit (customer_number text) k
  unfolding most_of
  text_stop k some h = record {
    demand = (within k 3 h (omega arith) (omega arith) (used_stop k 3 some)).1;
    service = (within k 6 h (omega arith) (omega arith) (used_stop k 6 some)).1;
  }

  text_load : (1 ≤ capacity text) × (capacity text ≤ 100000)
  unfolding field_fault fleet_fault capacity
  text_load = range_holds text (place_of text 3 1) 1 100000 (t.right 3 1 (omega arith) (omega arith))

  pub text_fits : Fit (customer_number text) (capacity text) n
  text_fits = record {
    stops_most = t.stops_most;
    load_least = text_load.0;
    load_most = text_load.1;
    customers = text_customer;
    stops = text_stop;
  }

  module _ (customers : List (List ℕ)) (s : Stored text customers (n + 1)) where
    exact : (k i most : ℕ) → k ≤ n → i < 7 → most < 1000000 → customer_number text k i ≤ most → cell customers k i ≡ customer_number text k i
    unfolding customer_number
    exact k i most h l few m = held_most text (place_of text (6 + k) i) (s k (omega arith) i l) most few m

    pub table_same : Same n (cell customers) (customer_number text)
    table_same = record {
      across = λ k h. exact k 1 1000 h (omega arith) (omega arith) (text_customer k h).across;
      upward = λ k h. exact k 2 1000 h (omega arith) (omega arith) (text_customer k h).upward;
      opens = λ k h. exact k 4 1440 h (omega arith) (omega arith) (omega (arith, (text_customer k h).order, (text_customer k h).due));
      closes = λ k h. exact k 5 1440 h (omega arith) (omega arith) (text_customer k h).due;
      demand = λ k some h. exact k 3 100000 h (omega arith) (omega arith) (text_stop k some h).demand;
      service = λ k some h. exact k 6 240 h (omega arith) (omega arith) (text_stop k some h).service;
    }

    pub load_same : {held : ℕ} → held ≡ held_at text (place_of text 3 1) → held ≡ capacity text
    unfolding capacity
    load_same e = held_most text (place_of text 3 1) e 100000 (omega arith) text_load.1

    pub table_fits : {load : ℕ} → load ≡ capacity text → Fit (cell customers) load n
    table_fits {load} e = record {
      stops_most = t.stops_most;
      load_least = rw e text_load.0;
      load_most = rw e text_load.1;
      customers = λ k h. record {
        across = rw (table_same.across k h) (text_customer k h).across;
        upward = rw (table_same.upward k h) (text_customer k h).upward;
        order = rw (table_same.opens k h, table_same.closes k h) (text_customer k h).order;
        due = rw (table_same.closes k h) (text_customer k h).due;
      };
      stops = λ k some h. record {
        demand = rw (table_same.demand k some h) (text_stop k some h).demand;
        service = rw (table_same.service k some h) (text_stop k some h).service;
      };
    }
