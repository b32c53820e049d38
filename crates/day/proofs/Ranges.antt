-- The ranges of an accepted day: what `Accepted` says, from no word being at fault.
-- Assumes nothing.
use Rattle.std.specs.Prelude.{if◌then◌else◌}
use Prim.Native.Nat.{ℕ, ◌+◌, ◌-◌, ◌*◌, ◌%◌, ◌<◌, ◌≤◌}
use mathlib.Core.Path.{◌≡◌, refl, sym, subst, ◌∙◌}
use mathlib.Core.List.{List}
use mathlib.Core.Bool.{Bool, true, false}
use native.Mathlib.Decide.{dec_le, ℕ_discrete}
use native.Mathlib.Omega.{arith}
use lib.ListN.{length}
use lib.Dec.{eqb}
use borrow.Author.Tests.{eq-eqb}
use Rattle.rules.specs.DayFile.{Form, lone, window, leg, stay, head_form, form_at, fault_of}
use Rattle.rules.specs.Fields.{word_at, tips, stops, places, stop_place, window_index, opening, closing, service, leg_index, leg_word, leg_minutes, IsAccepted}
use Rattle.day.specs.Accepted.{Accepted}
use Rattle.day.proofs.Answered.{Faultless, given_faultless}
use Rattle.day.proofs.Forms.{head_form_lem, tip_window_form, tip_service_form, stop_window_form, stop_service_form, stop_quantity_form, leg_form_lem, leg_inside_lem}
use Rattle.day.proofs.Readers.{tip_index, stop_index}
use Rattle.day.proofs.WordFaults.{lone_range, window_range, leg_range, stay_range}

module _ (day : List ℕ) (f : Faultless day (tips day) (stops day)) where
  -- a word whose form is known has no fault of that form
  right_as : (form : Form) (i : ℕ) → 0 < i → i < length day → form_at (tips day) (stops day) i ≡ form → fault_of form (word_at day i) ≡ 0
  right_as form i h g e = rw e at (f.right i h g)

  head_right : (form : Form) (i : ℕ) → 0 < i → i < 7 → head_form i ≡ form → fault_of form (word_at day i) ≡ 0
  head_right form i h g e = right_as form i h (omega (arith, f.long)) (head_form_lem (tips day) (stops day) i g ∙ e)

  -- the words of a tip and of a stop are of their form, and so in range
  module _ (k : ℕ) (h : 0 < k) (g : k ≤ tips day) where
    tip_window_right : fault_of (window 5) (word_at day (window_index (tips day) k)) ≡ 0
    tip_window_right =
        rw (tip_index (tips day) k h g)
        (right_as (window 5) (5 + 2 * k) (omega arith) (omega (arith, f.long)) (tip_window_form (tips day) (stops day) (k - 1) (omega arith) (5 + 2 * k) (omega arith)))

    tip_service_right : fault_of (lone 7 0 240) (word_at day (window_index (tips day) k + 1)) ≡ 0
    tip_service_right =
        rw (tip_index (tips day) k h g)
        (right_as (lone 7 0 240) (5 + 2 * k + 1) (omega arith) (omega (arith, f.long)) (tip_service_form (tips day) (stops day) (k - 1) (omega arith) (5 + 2 * k) (omega arith)))

  module _ (k : ℕ) (h : 0 < k) (g : k ≤ stops day) where
    abbrev at : ℕ
    at = 4 + 2 * tips day + 3 * k

    stop_window_right : fault_of (window 5) (word_at day (window_index (tips day) (stop_place day k))) ≡ 0
    stop_window_right =
        rw (stop_index (tips day) k h)
        (right_as (window 5) at (omega arith) (omega (arith, f.long)) (stop_window_form (tips day) (stops day) (k - 1) (omega arith) at (omega arith)))

    stop_service_right : fault_of (lone 7 0 240) (word_at day (window_index (tips day) (stop_place day k) + 1)) ≡ 0
    stop_service_right =
        rw (stop_index (tips day) k h)
        (right_as (lone 7 0 240) (at + 1) (omega arith) (omega (arith, f.long)) (stop_service_form (tips day) (stops day) (k - 1) (omega arith) at (omega arith)))

    stop_quantity_right : fault_of (lone 8 0 100000) (word_at day (window_index (tips day) (stop_place day k) + 2)) ≡ 0
    stop_quantity_right =
        rw (stop_index (tips day) k h)
        (right_as (lone 8 0 100000) (at + 2) (omega arith) (omega (arith, f.long)) (stop_quantity_form (tips day) (stops day) (k - 1) (omega arith) at (omega arith)))

  -- a place is the depot, a tip or a stop
  by_place : (P : ℕ → Type 0) → P 0 → ((k : ℕ) → 0 < k → k ≤ tips day → P k) → ((k : ℕ) → 0 < k → k ≤ stops day → P (stop_place day k))
      → (place : ℕ) → place < places day → P place
  by_place P depot tip stop place h = go (ℕ_discrete place 0) (dec_le place (tips day))
    where
      go : Dec (place ≡ 0) → Dec (place ≤ tips day) → P place
      go (yes z) t = subst P (sym z) depot
      go (no z) (yes t) = tip place (omega arith) t
      go (no z) (no t) =
          let e : tips day + (place - tips day) ≡ place = omega arith in
          subst P e (stop (place - tips day) (omega arith) (omega arith))

  depot_right : fault_of (window 5) (word_at day (window_index (tips day) 0)) ≡ 0
  unfolding window_index head_form
  depot_right = head_right (window 5) 4 (omega arith) (omega arith) refl

  window_in_range : (place : ℕ) → place < places day → (opening day place ≤ closing day place) × (closing day place ≤ 1440)
  window_in_range place h =
      window_range 5 _ (by_place (λ p. fault_of (window 5) (word_at day (window_index (tips day) p)) ≡ 0) depot_right tip_window_right stop_window_right place h)

  service_in_range : (place : ℕ) → 0 < place → place < places day → service day place ≤ 240
  service_in_range place h g =
      by_place (λ p. 0 < p → service day p ≤ 240) (λ z. absurd (omega arith))
      (λ k z l _. (lone_range 7 0 240 _ (tip_service_right k z l)).1) (λ k z l _. (lone_range 7 0 240 _ (stop_service_right k z l)).1) place g h

  -- a leg, and one from a place to itself
  leg_right : (p q : ℕ) → p < places day → q < places day → fault_of (if eqb p q then stay else leg) (leg_word day p q) ≡ 0
  leg_right p q h g =
      right_as (if eqb p q then stay else leg) (leg_index (tips day) (stops day) p q) (omega arith)
      (omega (arith, f.long, leg_inside_lem (tips day) (stops day) p q h g)) (leg_form_lem (tips day) (stops day) p q g)

  stay_right : (p : ℕ) → p < places day → leg_word day p p % 268435456 ≡ 0
  stay_right p h = stay_range _ (rw (eq-eqb p p refl) at (leg_right p p h h))

  minutes_in_range : (p q : ℕ) → p < places day → q < places day → leg_minutes day p q ≤ 1440
  minutes_in_range p q h g = go (eqb p q) refl
    where
      go : (b : Bool) → eqb p q ≡ b → leg_minutes day p q ≤ 1440
      go false e = leg_range _ (rw e at (leg_right p q h g))
      go true e = let w : leg_word day p q % 268435456 ≡ 0 = stay_range _ (rw e at (leg_right p q h g)) in omega arith

  ranges : Accepted day
  unfolding head_form
  ranges =
      let load = lone_range 2 1 100000 _ (head_right (lone 2 1 100000) 1 (omega arith) (omega arith) refl) in
      let kg = lone_range 3 1 1000000 _ (head_right (lone 3 1 1000000) 2 (omega arith) (omega arith) refl) in
      let visits = lone_range 4 1 240 _ (head_right (lone 4 1 240) 3 (omega arith) (omega arith) refl) in
      let rest = window_range 6 _ (head_right (window 6) 5 (omega arith) (omega arith) refl) in
      record {
        stops_most = f.stops_most;
        tips_least = f.tips_some;
        tips_most = omega arith;
        long = f.long;
        load_least = load.0;
        load_most = load.1;
        day_least = kg.0;
        day_most = kg.1;
        visits_least = visits.0;
        visits_most = visits.1;
        rest_order = rest.0;
        rest_end = rest.1;
        rest_most = (lone_range 7 0 240 _ (head_right (lone 7 0 240) 6 (omega arith) (omega arith) refl)).1;
        window_order = λ place h. (window_in_range place h).0;
        window_end = λ place h. (window_in_range place h).1;
        service_most = service_in_range;
        quantity_most = λ k h g. (lone_range 8 0 100000 _ (stop_quantity_right k h g)).1;
        minutes_most = minutes_in_range;
        stay_minutes = λ p h. omega (arith, stay_right p h);
        stay_distance = λ p h. omega (arith, stay_right p h);
        leg_inside = λ p q h g. omega (arith, f.long, leg_inside_lem (tips day) (stops day) p q h g);
      }

-- an accepted day has every range of document 01
pub accepted_ranges : (day : List ℕ) → IsAccepted day → Accepted day
accepted_ranges day e = ranges day (given_faultless day (stops day) (tips day) e)
