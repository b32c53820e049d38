-- The pairs of the trial list, one after the other: one law for each way through the functions that look for the next. The day may be any
-- list of words.
-- Assumes nothing.
use Rattle.std.specs.Prelude.{Option, Some, None}
use Prim.Native.Nat.{ℕ, zero, suc, ◌+◌, ◌*◌, ◌-◌, ◌≤◌, ◌<◌}
use mathlib.Core.Path.{◌≡◌, refl, sym, ap, ◌∙◌}
use mathlib.Core.Bool.{false}
use mathlib.Core.List.{List, [], ◌∷◌, ◌++◌, append_assoc}
use mathlib.Core.Logic.{inl, inr}
use native.Mathlib.Numerals.{add-one}
use native.Mathlib.Omega.{arith}
use lib.Dec.{eqb, ltb}
use lib.ListN.{length, get_or, drop_of_length-le, get_or-eq_default}
use lib.Seq.{drop-cons}
use borrow.Author.Tests.{eq-eqb, ne_eqb, eqb-true, eqb-false, ltb-true, ltb-false}
use Rattle.rules.specs.Fields.{stops}
use Rattle.rules.specs.Plan.{Round}
use Rattle.rules.specs.Neighbours.{neighbours}
use Rattle.rules.specs.Edits.{before, after, swap, Trial, on_one, on_two}
use Rattle.rules.specs.TrialList.{each, rising, pair_trials}
use Rattle.neighbours.proofs.NeighbourLaws.{neighbours_are}
use Rattle.laws.proofs.Decided.{known}
use Rattle.laws.proofs.Lists.{every_at}
use Rattle.trial_list.specs.Listing.{Goes, NumberAt, next_rank, halfway, next_stop, PairTells, no_trial, last_trial, first_trial, ListingOf, Step, pair_part}
use Rattle.trial_list.specs.TrialRest.{listed_trial, pair_on, from_half, neighbours_from, stops_from, pair_rest}
use Rattle.trial_list.specs.declared.listing.Listed.{Listed}
use Rattle.trial_list.specs.declared.pairs.Half.{Half}
use Rattle.trial_list.specs.declared.pairs.Half.TheVariants as Halves
use Rattle.trial_list.specs.declared.pairs.PairPlace.{PairPlace}
use Rattle.trial_list.specs.declared.listing.Trial as Code
use Rattle.trial_list.specs.declared.listing.Listing.{Listing}
use Rattle.trial_list.proofs.Passing.{none_some, goes_past, goes_with}

-- a number of a table
pub number_none : {k : ℕ} {o : Option ℕ} → NumberAt k o → o ≡ None → 0 ≡ k
number_none a e = rw e at a.number_is

pub number_some : {k x : ℕ} {o : Option ℕ} → NumberAt k o → o ≡ Some x → (x ≡ k) × (0 < x)
number_some a e = (rw e at a.number_is, (rw e at a.some).0)

half_none : (half : Half) → from_half {A = Trial} half [] ≡ []
unfolding from_half
half_none Halves.First = refl
half_none Halves.Second = refl

-- what is said of a pair, by the vehicles of its stops
module _ (i j one two : ℕ) (p : PairPlace) (r : Listed PairPlace) where
  pub loose_one : one ≡ 0 → r.trial ≡ None → r.next ≡ next_rank p → PairTells (pair_on i j one two) p r
  unfolding pair_on
  loose_one e f n = no_trial r f (rw (eq-eqb one 0 e) (half_none p.half)) n

  pub loose_two : (one ≡ 0 → ⊥) → two ≡ 0 → r.trial ≡ None → r.next ≡ next_rank p → PairTells (pair_on i j one two) p r
  unfolding pair_on
  loose_two h e f n = no_trial r f (rw (ne_eqb one 0 h, eq-eqb two 0 e) (half_none p.half)) n

  module _ (a : 0 < one) (b : 0 < two) where
    apart_one : eqb one 0 ≡ false
    apart_one = ne_eqb one 0 (λ e. omega arith)

    apart_two : eqb two 0 ≡ false
    apart_two = ne_eqb two 0 (λ e. omega arith)

    pub tells_no_second : (one ≡ two → ⊥) → p.half ≡ Halves.Second → r.trial ≡ None → r.next ≡ next_rank p → PairTells (pair_on i j one two) p r
    unfolding pair_on from_half
    tells_no_second d s f n = no_trial r f (rw (s, apart_one, apart_two, ne_eqb one two d) refl) n

    pub tells_swap : {m : Code.Trial} → (one ≡ two → ⊥) → p.half ≡ Halves.First → r.trial ≡ Some m → listed_trial m ≡ on_two (swap i j) one two
        → r.next ≡ next_rank p → PairTells (pair_on i j one two) p r
    unfolding pair_on from_half
    tells_swap {m} d s f e n = last_trial r m f (rw (s, apart_one, apart_two, ne_eqb one two d, e) refl) n

    pub tells_after : {m : Code.Trial} → one ≡ two → p.half ≡ Halves.Second → r.trial ≡ Some m → listed_trial m ≡ on_one (after i j) one
        → r.next ≡ next_rank p → PairTells (pair_on i j one two) p r
    unfolding pair_on from_half
    tells_after {m} d s f e n = last_trial r m f (rw (s, apart_one, apart_two, eq-eqb one two d, e) refl) n

    pub tells_before : {m : Code.Trial} → one ≡ two → p.half ≡ Halves.First → r.trial ≡ Some m → listed_trial m ≡ on_one (before i j) one
        → r.next ≡ halfway p → PairTells (pair_on i j one two) p r
    unfolding pair_on
    tells_before {m} d s f e n = first_trial r m (on_one (after i j) one) f s (rw (apart_one, apart_two, eq-eqb one two d, e) refl) n

-- where a pair goes on: at the same stop, and at the next rank where it has no trial
tells_next : {trials : List Trial} {p : PairPlace} (r : Listed PairPlace) → PairTells trials p r
    → (r.next.stop ≡ p.stop) × (r.trial ≡ None → r.next ≡ next_rank p)
tells_next r (no_trial _ f e n) = (ap (λ (q : PairPlace). q.stop) n, λ _. n)
tells_next r (last_trial _ m f e n) = (ap (λ (q : PairPlace). q.stop) n, λ _. n)
tells_next r (first_trial _ m o f s e n) = (ap (λ (q : PairPlace). q.stop) n, λ t. absurd (none_some t f))

-- a neighbour is no 0, and behind the last there is 0
rank_within : (day : List ℕ) (K i rank : ℕ) → (get_or (neighbours day K i) rank 0 ≡ 0 → ⊥) → rank < length (neighbours day K i)
rank_within day K i rank n = elim (known (ltb rank (length (neighbours day K i)))) [
  | inl e ↦ ltb-true _ _ e
  | inr e ↦ absurd (n (get_or-eq_default (neighbours day K i) 0 (ltb-false _ _ e)))
]

rank_beyond : (day : List ℕ) (K i rank : ℕ) → get_or (neighbours day K i) rank 0 ≡ 0 → length (neighbours day K i) ≤ rank
rank_beyond day K i rank z = elim (known (ltb rank (length (neighbours day K i)))) [
  | inl e ↦ absurd (omega (arith, (every_at (λ j. (1 ≤ j) × (j ≤ stops day)) (neighbours day K i) rank 0 (neighbours_are day K i).known (ltb-true _ _ e)).0))
  | inr e ↦ ltb-false _ _ e
]

-- the pairs of a plan
module _ (day : List ℕ) (K : ℕ) (rounds : List Round) where
  all_neighbours : (i : ℕ) (js : List ℕ) → neighbours_from rounds i Halves.First js ≡ each (pair_trials rounds i) js
  unfolding neighbours_from from_half each
  all_neighbours i [] = refl
  all_neighbours i (j ∷ js) = refl

  pub all_stops : (i more : ℕ) → stops_from day K rounds i 0 Halves.First more ≡ rising (λ i. each (pair_trials rounds i) (neighbours day K i)) i more
  unfolding stops_from rising
  all_stops i zero = refl
  all_stops i (suc more) = rw (all_neighbours i (neighbours day K i)) refl

  -- behind the last stop there is none
  pub pairs_over : (p : PairPlace) → stops day < p.stop → pair_rest day K rounds p ≡ []
  unfolding pair_rest stops_from
  pairs_over p h =
      let e : suc (stops day) - p.stop ≡ 0 = omega arith in
      rw e refl

  module _ (p : PairPlace) (within : p.stop ≤ stops day) where
    rank_over : length (neighbours day K p.stop) ≤ p.rank → pair_rest day K rounds p ≡ pair_rest day K rounds (next_stop p)
    unfolding pair_rest stops_from neighbours_from
    rank_over h =
        let here : suc (stops day) - p.stop ≡ suc (stops day - p.stop) = omega arith in
        let next : suc (stops day) - (p.stop + 1) ≡ stops day - p.stop = omega arith in
        rw (here, next, drop_of_length-le (neighbours day K p.stop) h, all_stops (p.stop + 1) (stops day - p.stop), add-one p.stop) refl

    -- a neighbour
    rank_at : p.rank < length (neighbours day K p.stop)
        → pair_rest day K rounds p
        ≡ from_half p.half (pair_trials rounds p.stop (get_or (neighbours day K p.stop) p.rank 0)) ++ pair_rest day K rounds (next_rank p)
    unfolding pair_rest stops_from neighbours_from
    rank_at h =
        let here : suc (stops day) - p.stop ≡ suc (stops day - p.stop) = omega arith in
        rw (here, drop-cons (neighbours day K p.stop) p.rank 0 h, append_assoc, all_neighbours p.stop, add-one p.rank) refl

  pair_goes : (p : PairPlace) (r : Listed PairPlace) → p.stop ≤ stops day → p.rank < length (neighbours day K p.stop)
      → PairTells (pair_trials rounds p.stop (get_or (neighbours day K p.stop) p.rank 0)) p r → Goes (pair_rest day K rounds) p r
  unfolding from_half
  pair_goes p r within h (no_trial _ f e n) = goes_past f (rw (rank_at p within h, e, n) refl)
  pair_goes p r within h (last_trial _ m f e n) = goes_with f (rw (rank_at p within h, e, n) refl)
  pair_goes p r within h (first_trial _ m o f s e n) = goes_with f (rw (rank_at p within h, s, n, rank_at (halfway p) within h, e) refl)

-- by the tables
module _ (t : Listing) (p : PairPlace) (r : Listed PairPlace) (h : ListingOf t) (stop_first : 1 ≤ p.stop) (stop_within : p.stop ≤ t.stops) where
  its_stop : (s : ListingOf t) → p.stop ≤ stops s.day
  its_stop s = omega (arith, s.stops_is)

  -- the next stop
  stop_over : ((s : ListingOf t) → length (neighbours s.day t.k p.stop) ≤ p.rank) → r.trial ≡ None → r.next ≡ next_stop p → Step pair_part t p r
  stop_over l f n =
      record {
        goes = λ s. goes_past f (rw (rank_over s.day t.k s.rounds p (its_stop s) (l s), n) refl);
        fits = rw n (omega arith);
        falls = λ _. rw n (omega (arith, h.close));
      }

  pub ranks_over : t.k ≤ p.rank → r.trial ≡ None → r.next ≡ next_stop p → Step pair_part t p r
  ranks_over l = stop_over (λ s. omega (arith, (neighbours_are s.day t.k p.stop).few))

  module _ (rank_few : p.rank < t.k) (j : ℕ) (ej : j ≡ get_or t.neighbours.now (50 * p.stop + p.rank) 0) where
    its_neighbour : (s : ListingOf t) → j ≡ get_or (neighbours s.day t.k p.stop) p.rank 0
    its_neighbour s = ej ∙ s.table_is.rows p.stop p.rank stop_first (its_stop s) rank_few

    pub neighbours_over : j ≡ 0 → r.trial ≡ None → r.next ≡ next_stop p → Step pair_part t p r
    neighbours_over z = stop_over (λ s. rank_beyond s.day t.k p.stop p.rank (sym (its_neighbour s) ∙ z))

    -- a pair, by the vehicles of its stops
    same_pair : (s : ListingOf t) (i j : ℕ) → 1 ≤ i → i ≤ stops s.day → 1 ≤ j → j ≤ stops s.day
        → pair_on i j (get_or t.vehicles.now i 0) (get_or t.vehicles.now j 0) ≡ pair_trials s.rounds i j
    unfolding pair_on pair_trials
    same_pair s i j a b c d = rw (s.surveyed.routed i a b, s.surveyed.routed j c d) refl

    pub pair_steps : (one two : ℕ) → 0 < j → one ≡ get_or t.vehicles.now p.stop 0 → two ≡ get_or t.vehicles.now j 0 → PairTells (pair_on p.stop j one two) p r → Step pair_part t p r
    pair_steps one two n eo et tells =
        record {
          goes = λ s.
              let e = its_neighbour s in
              let inside = rank_within s.day t.k p.stop p.rank (λ x. omega (arith, e, x)) in
              let stop = every_at (λ j. (1 ≤ j) × (j ≤ stops s.day)) (neighbours s.day t.k p.stop) p.rank 0 (neighbours_are s.day t.k p.stop).known inside in
              let same = same_pair s p.stop (get_or (neighbours s.day t.k p.stop) p.rank 0) stop_first (its_stop s) stop.0 stop.1 in
              pair_goes s.day t.k s.rounds p r (its_stop s) inside (rw (eo, et, e, same) at tells);
          fits = rw (tells_next r tells).0 stop_first;
          falls = λ f. rw ((tells_next r tells).1 f) (omega (arith, h.close));
        }

    -- a pair of which one stop is on no vehicle
    module _ (n : 0 < j) {o : Option ℕ} (e : o ≡ None) (f : r.trial ≡ None) (next : r.next ≡ next_rank p) where
      pub one_loose : NumberAt (get_or t.vehicles.now p.stop 0) o → Step pair_part t p r
      one_loose a = pair_steps 0 (get_or t.vehicles.now j 0) n (number_none a e) refl (loose_one p.stop j 0 (get_or t.vehicles.now j 0) p r refl f next)

      pub two_loose : NumberAt (get_or t.vehicles.now j 0) o → Step pair_part t p r
      two_loose a = elim (known (eqb (get_or t.vehicles.now p.stop 0) 0)) [
        | inl z ↦ pair_steps (get_or t.vehicles.now p.stop 0) 0 n refl (number_none a e) (loose_one p.stop j (get_or t.vehicles.now p.stop 0) 0 p r (eqb-true _ _ z) f next)
        | inr z ↦ pair_steps (get_or t.vehicles.now p.stop 0) 0 n refl (number_none a e) (loose_two p.stop j (get_or t.vehicles.now p.stop 0) 0 p r (eqb-false _ _ z) refl f next)
      ]
