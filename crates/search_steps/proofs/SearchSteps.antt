-- One step of the search, but for the making of a trial: a list is at its end, the budget is gone, or a trial is listed. Assumes nothing.
use Rattle.std.specs.Prelude.{Some, None}
use Prim.Native.Nat.{ℕ, ◌+◌, ◌-◌, ◌≤◌, ◌<◌}
use mathlib.Core.Path.{◌≡◌, refl, sym, ◌∙◌}
use mathlib.Core.Bool.{Bool, true, false, true≢false}
use mathlib.Core.Logic.{inl, inr}
use mathlib.Core.List.{List, ◌∷◌}
use native.Mathlib.Omega.{arith}
use lib.Dec.{eqb}
use lib.ListN.{length, take, drop}
use borrow.Author.Tests.{eqb-true, eqb-false}
use Rattle.rules.specs.Lists.{Every}
use Rattle.rules.specs.Fields.{stops, tips, IsAccepted}
use Rattle.rules.specs.Build.{greedy_lefts}
use Rattle.rules.specs.Attempts.{attempt}
use Rattle.rules.specs.Search.{run, trial_lists, searched}
use Rattle.day.proofs.Ranges.{accepted_ranges}
use Rattle.neighbours.specs.Tables.{TableOf}
use Rattle.neighbours.proofs.NeighbourTable.{table_fewer}
use Rattle.laws.proofs.Decided.{known}
use Rattle.trial_list.specs.Listing.{PlanTables, ListAnswer}
use Rattle.trial_list.specs.Shapes.{Valid}
use Rattle.trial_list.specs.TrialRest.{rest_of, list_start, listed_trial}
use Rattle.trial_list.specs.declared.listing.Cursor.{Cursor}
use Rattle.trial_list.specs.declared.listing.Listed.{Listed}
use Rattle.trial_list.specs.declared.listing.Trial as Code
use Rattle.trial_list.proofs.ListRests.{plan_tables, start_fits, start_valid, next_valid, valid_names, Names}
use Rattle.search_laws.proofs.Searching.{run_nil, run_next, loop_spent}
use Rattle.tracks.specs.declared.plan_tables.Tables.{Tables}
use Rattle.search_steps.specs.Searches.{SetsFit, k_at, last_k, Going, is_going, is_settled, Searching, next_list, StepsTo, NextTrial}
use Rattle.search_steps.specs.declared.steps.Search.{Search}
use Rattle.search_steps.specs.declared.steps.Standing.{Standing}
use Rattle.search_steps.specs.declared.steps.Standing.TheVariants as Standings
use Rattle.search_steps.proofs.SetLaws.{lists_at, lists_past}
use Rattle.search_steps.proofs.TakeOverLaws.{slice_is}

-- the search goes on with a plan held
module _ {day Ks : List ℕ} {budget : ℕ} {table plan : List ℕ} {tables : Tables} {s : Search}
    (ok : IsAccepted day) (fit : SetsFit Ks) (t : TableOf day (last_k Ks) table)
    (h : Searching day Ks budget plan tables s) (g : is_going s.standing ≡ true) where
  -- the K at hand
  abbrev K : ℕ
  K = k_at Ks s.stage

  pub at_hand : s.stage < length Ks
  at_hand = (h.going g).staged

  within : K ≤ last_k Ks
  within = fit.greatest s.stage at_hand

  -- the tables of the plan held
  pub held_tables : PlanTables (stops day) (tips day) K table tables.starts tables.vehicles (take (s.words - 0) (drop 0 plan)) s.count
  held_tables =
      plan_tables (stops day) (tips day) K table tables.starts tables.vehicles (take (s.words - 0) (drop 0 plan)) s.count day h.rounds (greedy_lefts day) tables.distances refl refl ok
      (omega (arith, within, fit.most)) h.held.plan_at.shaped (table_fewer t K within) h.held.surveyed (slice_is h.held.plan_at)

  -- the search ends
  ends : record { plan = h.rounds; trials = s.made; settled = false } ≡ searched day Ks budget
      → Searching day Ks budget plan tables (record s { standing = Standings.Spent })
  ends e =
      record { rounds = h.rounds; held = h.held; drives = h.drives; within = h.within; going = λ n. absurd (true≢false (sym n)); done = λ _. e }

  module _ {l : Listed Cursor} (a : ListAnswer (stops day) (tips day) K table tables.starts tables.vehicles (take (s.words - 0) (drop 0 plan)) s.count s.cursor l) where
    -- the list at hand is at its end
    module _ (f : l.trial ≡ None) where
      behind : run (trial_lists day Ks) (attempt day (greedy_lefts day)) (budget - s.made) h.rounds (trial_lists day (drop (s.stage + 1) Ks) h.rounds) s.made
          ≡ searched day Ks budget
      unfolding plan_tables held_tables
      behind =
          let rest = ((a.tells held_tables).none f).0 in
          let same = (h.going g).same in
          sym (run_next (trial_lists day Ks) (attempt day (greedy_lefts day)) (budget - s.made) h.rounds _ s.made) ∙ rw rest at same

      -- behind the last the search is settled
      settles : length Ks ≤ s.stage + 1 → record { plan = h.rounds; trials = s.made; settled = true } ≡ searched day Ks budget
      settles last =
          sym (run_nil (trial_lists day Ks) (attempt day (greedy_lefts day)) (budget - s.made) h.rounds s.made)
          ∙ rw (lists_past day Ks h.rounds (s.stage + 1) last) at behind

      -- else that of the next K begins
      begins : s.stage + 1 < length Ks → Going day Ks budget tables.starts h.rounds (record s { stage = s.stage + 1; cursor = list_start; standing = Standings.Going })
      begins more =
          record {
            staged = more;
            fits = start_fits h.rounds h.held.surveyed;
            valid = start_valid day h.rounds (k_at Ks (s.stage + 1)) h.held.plan_at.shaped;
            same = rw (lists_at day Ks h.rounds (s.stage + 1) more) behind;
          }

      list_is : StepsTo day Ks budget plan tables s (next_list Ks s)
      list_is = elim (known (eqb (s.stage + 1) (length Ks))) [
        | inl y ↦ rw (y, g) (
          record {
            rounds = h.rounds;
            held = h.held;
            drives = h.drives;
            within = h.within;
            going = λ n. absurd (true≢false (sym n));
            done = λ _. settles (omega (arith, eqb-true (s.stage + 1) (length Ks) y));
          },
          omega (arith, at_hand),
        )
        | inr n ↦
            let more : s.stage + 1 < length Ks = omega (arith, at_hand, eqb-false (s.stage + 1) (length Ks) n) in
            rw (n, g) (
              record {
                rounds = h.rounds;
                held = h.held;
                drives = h.drives;
                within = h.within;
                going = λ _. begins more;
                done = λ y. absurd (true≢false y);
              },
              omega (arith, more),
            )
      ]

      pub list_ends : {r : Search} → r ≡ next_list Ks s → StepsTo day Ks budget plan tables s r
      list_ends e = rw e list_is

    -- a trial is listed
    module _ {m : Code.Trial} (f : l.trial ≡ Some m) where
      next_is_lem : rest_of day K h.rounds s.cursor ≡ listed_trial m ∷ rest_of day K h.rounds l.next
      unfolding plan_tables held_tables
      next_is_lem = (a.tells held_tables).some m f

      -- but the budget is gone
      pub ends_spent : s.made ≡ budget → StepsTo day Ks budget plan tables s (record s { standing = Standings.Spent })
      ends_spent b =
          let same = (h.going g).same in
          let spent = loop_spent (trial_lists day Ks) (attempt day (greedy_lefts day)) budget h.rounds (listed_trial m) (rest_of day K h.rounds l.next) _ s.made b in
          rw g (ends (sym spent ∙ rw next_is_lem at same), omega (arith, at_hand))

      -- it may be made
      next_may : Valid day h.rounds (listed_trial m) × Every (Valid day h.rounds) (rest_of day K h.rounds l.next)
      next_may = next_valid day h.rounds K s.cursor l.next m next_is_lem (h.going g).valid

      pub next_trial : (s.made ≡ budget → ⊥) → NextTrial day Ks budget plan tables s m l.next
      next_trial b =
          record {
            rounds = h.rounds;
            held = h.held;
            drives = h.drives;
            left = omega (arith, b, h.within);
            on = g;
            staged = at_hand;
            ms = next_is_lem;
            valid = next_may.1;
            may_be = next_may.0;
            fits = a.fits;
            same = (h.going g).same;
          }

-- the stops and tips that a listed trial names
module _ {day Ks : List ℕ} {budget : ℕ} {plan : List ℕ} {tables : Tables} {s : Search} {m : Code.Trial} {next : Cursor} (ok : IsAccepted day)
    (h : NextTrial day Ks budget plan tables s m next) where
  pub trial_names : Names day m
  trial_names = valid_names day h.rounds m (accepted_ranges day ok).stops_most h.may_be

-- whether the search goes on
pub is_on : {x : Standing} → x ≡ Standings.Going → is_going x ≡ true
is_on e = rw e refl

pub is_off : {x : Standing} → (x ≡ Standings.Going → ⊥) → is_going x ≡ false
is_off {x = Standings.Going} n = absurd (n refl)
is_off {x = Standings.Spent} n = refl
is_off {x = Standings.Settled} n = refl

-- whether its plan is settled
pub settled_by : {x : Standing} {b : Bool} → (b ≡ true → x ≡ Standings.Settled) → (b ≡ false → x ≡ Standings.Settled → ⊥) → b ≡ is_settled x
settled_by {b = true} y n = rw (y refl) refl
settled_by {x = Standings.Going} {b = false} y n = refl
settled_by {x = Standings.Spent} {b = false} y n = refl
settled_by {x = Standings.Settled} {b = false} y n = absurd (n refl refl)
