-- The trial list from a cursor on: the first cursor's rest is the whole list, the next trial of the rest is that of its pairs or else of its
-- tips, and what a trial of the list names. The day may be any list of words.
-- Assumes nothing.
use Rattle.std.specs.Prelude.{None}
use Prim.Native.Nat.{ℕ, suc, ◌-◌, ◌≤◌}
use mathlib.Core.Path.{◌≡◌, refl, sym, ap, ◌∙◌}
use mathlib.Core.List.{List, [], ◌∷◌, ◌++◌}
use native.Mathlib.Omega.{arith}
use Rattle.rules.specs.Lists.{Every}
use Rattle.rules.specs.Fields.{stops, tips, IsAccepted}
use Rattle.rules.specs.Plan.{Round, plan_words, Known}
use Rattle.rules.specs.Edits.{Trial}
use Rattle.rules.specs.TrialList.{stop_trials, trial_list}
use Rattle.day.proofs.Ranges.{accepted_ranges}
use Rattle.neighbours.specs.Tables.{TableOf}
use Rattle.edits.specs.EditWords.{Named, EditKnown, EditSmall}
use Rattle.edits.specs.declared.Edit as Code
use Rattle.edits.specs.declared.Edit.TheVariants as Edits
use Rattle.trial_list.specs.Listing.{NextListed, pair_part, tip_part, PlanTables, CursorFits, Answers}
use Rattle.trial_list.specs.Survey.{Surveyed}
use Rattle.trial_list.specs.TrialRest.{listed_trial, pair_rest, tip_rest, rest_of, list_start}
use Rattle.trial_list.specs.declared.listing.Cursor.{Cursor}
use Rattle.trial_list.specs.declared.listing.Listed.{Listed}
use Rattle.trial_list.specs.declared.pairs.PairPlace.{PairPlace}
use Rattle.trial_list.specs.declared.tips.TipPlace.{TipPlace}
use Rattle.trial_list.specs.declared.listing.Listing.{Listing}
use Rattle.trial_list.specs.declared.listing.Trial as Made
use Rattle.trial_list.proofs.LaidLaws.{start_next}
use Rattle.trial_list.proofs.Listed.{listed_all}
use Rattle.trial_list.proofs.PairRests.{all_stops}
use Rattle.trial_list.specs.Shapes.{Shaped, Valid, moved_before, moved_after, swapped, removed, replaced}
use Rattle.trial_list.proofs.Shapes.{shaped_few}
use Rattle.trial_list.proofs.TipRests.{all_vehicles}

-- the first cursor
pub whole_list : (day : List ℕ) (K : ℕ) (rounds : List Round) → rest_of day K rounds list_start ≡ trial_list day K rounds
unfolding rest_of trial_list pair_rest stop_trials
whole_list day K rounds =
    let e : suc (stops day) - 1 ≡ stops day = omega arith in
    rw (e, all_stops day K rounds 1 (stops day), all_vehicles day rounds 0) refl

-- the list can begin with any plan
pub start_fits : {day starts vehicles distances : List ℕ} {count : ℕ} (rounds : List Round) → Surveyed day rounds starts vehicles distances count → CursorFits starts count list_start
start_fits rounds v =
    record {
      first = omega arith;
      tip_fits = λ l. omega (arith, start_next {lefts = []} (record { text = refl; starting = v.starting }) {v = 0} (omega (arith, v.counted)));
    }

module _ (stop_count tip_count K : ℕ) (table starts vehicles plan : List ℕ) (count : ℕ) where
  -- the tables of a plan that trials find and leave
  unfoldable pub plan_tables : (day : List ℕ) (rounds : List Round) (lefts distances : List ℕ) → stop_count ≡ stops day → tip_count ≡ tips day → IsAccepted day → K ≤ 50 → Shaped day rounds
      → TableOf day K table → Surveyed day rounds starts vehicles distances count → plan ≡ plan_words rounds lefts → PlanTables stop_count tip_count K table starts vehicles plan count
  plan_tables day rounds lefts distances stops_is tips_is accepted close shaped table_is surveyed text =
      let most = (accepted_ranges day accepted).stops_most in
      record {
        day = day;
        rounds = rounds;
        lefts = lefts;
        distances = distances;
        stops_is = stops_is;
        tips_is = tips_is;
        most = most;
        close = close;
        known = shaped.known;
        few = omega (arith, shaped_few day rounds shaped, most);
        table_is = table_is;
        surveyed = surveyed;
        text = text;
      }

-- the next trial of the list is that of its pairs, or else of its tips
module _ (t : Listing) (c : Cursor) (r : Listed Cursor) (a : Listed PairPlace) (fits : CursorFits t.starts.now t.count c) (pair : NextListed pair_part t c.pairs a) where
  pub lists_pair : (a.trial ≡ None → ⊥) → r.trial ≡ a.trial → r.next ≡ record { pairs = a.next; tips = c.tips } → Answers t c r
  unfolding rest_of
  lists_pair f m n =
      record {
        tells = λ s.
            let others = tip_rest s.day s.rounds c.tips in
            record {
              some = λ k e. ap (λ (ms : List Trial). ms ++ others) ((pair.tells s).some k (sym m ∙ e)) ∙ rw n refl;
              none = λ e. absurd (f (sym m ∙ e));
            };
        fits = rw n (record { first = pair.fits; tip_fits = fits.tip_fits });
      }

  pub lists_tip : (b : Listed TipPlace) → a.trial ≡ None → NextListed tip_part t c.tips b
      → r.trial ≡ b.trial → r.next ≡ record { pairs = a.next; tips = b.next } → Answers t c r
  unfolding rest_of
  lists_tip b f tip m n =
      record {
        tells = λ s.
            let none_left = (pair.tells s).none f in
            record {
              some = λ k e. rw (none_left.0, n, none_left.1) ((tip.tells s).some k (sym m ∙ e));
              none = λ e. rw (none_left.0, n, none_left.1) ((tip.tells s).none (sym m ∙ e));
            };
        fits = rw n (record { first = pair.fits; tip_fits = tip.fits });
      }

-- what a trial names: stops and tips of the day
pub record Names (day : List ℕ) (m : Made.Trial) : Type 0 where
  pub known : EditKnown day m.edit
  pub small : EditSmall m.edit

module _ (day : List ℕ) where
  known_small : (e : Code.Edit) → stops day ≤ 240 → EditKnown day e → EditSmall e
  unfolding Known
  known_small (Edits.Before i j) m h = (omega (arith, h.0.1), omega (arith, h.1.1))
  known_small (Edits.After i j) m h = (omega (arith, h.0.1), omega (arith, h.1.1))
  known_small (Edits.Swap i j) m h = (omega (arith, h.0.1), omega (arith, h.1.1))
  known_small (Edits.Remove at) m h = tt
  known_small (Edits.Replace at x) m h = omega (arith, h.1)

  module _ (rounds : List Round) where
    valid_named : (m : Trial) → Valid day rounds m → Named day m.edit
    valid_named _ (moved_before i j number apart a b) = (a.known, b.known)
    valid_named _ (moved_after i j number apart a b) = (a.known, b.known)
    valid_named _ (swapped i j number other apart distinct a b) = (a.known, b.known)
    valid_named _ (removed at number a b) = tt
    valid_named _ (replaced at x number k a b) = k

    pub valid_names : (m : Made.Trial) → stops day ≤ 240 → Valid day rounds (listed_trial m) → Names day m
    valid_names m most h =
        let known = valid_named (listed_trial m) h in
        record { known = known; small = known_small m.edit most known }

    -- every trial from the first cursor on may be made, and so it stays from cursor to cursor
    pub start_valid : (K : ℕ) → Shaped day rounds → Every (Valid day rounds) (rest_of day K rounds list_start)
    start_valid K s = rw (whole_list day K rounds) (listed_all day rounds s K)

    pub next_valid : (K : ℕ) (c next : Cursor) (m : Made.Trial) → rest_of day K rounds c ≡ listed_trial m ∷ rest_of day K rounds next → Every (Valid day rounds) (rest_of day K rounds c)
        → Valid day rounds (listed_trial m) × Every (Valid day rounds) (rest_of day K rounds next)
    unfolding Every
    next_valid K c next m e h = rw e at h
