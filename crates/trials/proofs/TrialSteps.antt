-- A trial that is listed is made: it gives no plan, or its plan is kept. Assumes nothing.
use Rattle.std.specs.Prelude.{Option, Some, None}
use Prim.Native.Nat.{ℕ, ◌+◌, ◌-◌, ◌<◌}
use mathlib.Core.Path.{◌≡◌, sym, ◌∙◌}
use mathlib.Core.Bool.{true≢false}
use mathlib.Core.List.{List}
use native.Mathlib.Omega.{arith}
use lib.ListN.{length, take, drop}
use Rattle.rules.specs.Fields.{IsAccepted}
use Rattle.rules.specs.Plan.{Round}
use Rattle.rules.specs.Build.{greedy_lefts}
use Rattle.rules.specs.Edits.{Trial}
use Rattle.rules.specs.Attempts.{attempt}
use Rattle.rules.specs.Search.{trial_lists}
use Rattle.trial_list.specs.TrialRest.{rest_of, list_start, listed_trial}
use Rattle.trial_list.specs.declared.listing.Cursor.{Cursor}
use Rattle.trial_list.specs.declared.listing.Trial as Code
use Rattle.trial_list.proofs.ListRests.{start_fits, start_valid}
use Rattle.candidates.proofs.ShapeKept.{valid_shaped}
use Rattle.tracks.specs.declared.plan_tables.Held.{Held}
use Rattle.tracks.specs.declared.plan_tables.Tables.{Tables}
use Rattle.attempts.specs.Tries.{Made, SomeMade, Kept, TriedAs}
use Rattle.search_laws.proofs.KeptTrials.{attempt_kept}
use Rattle.search_laws.proofs.Searching.{loop_none, loop_some}
use Rattle.search_steps.specs.Searches.{PlanAt, SomePlanAt, TakesOver, k_at, StepsTo, Ahead, NextTrial}
use Rattle.search_steps.specs.declared.steps.Search.{Search}
use Rattle.search_steps.specs.declared.steps.Standing.TheVariants as Standings
use Rattle.search_steps.proofs.SetLaws.{fewer_trials, lists_at}
use Rattle.search_steps.proofs.TakeOverLaws.{slice_is}
use Rattle.trials.specs.Improvements.{AfterTrial}

-- a trial that is listed, and what comes of it
module _ {day Ks : List ℕ} {budget : ℕ} {plan : List ℕ} {tables : Tables} {s : Search} (m : Code.Trial) {next : Cursor} (ok : IsAccepted day)
    (h : NextTrial day Ks budget plan tables s m next) where
  trial_made : Made day (take (s.words - 0) (drop 0 plan)) tables (listed_trial m) s.count s.distance h.rounds
  trial_made =
      let v = h.held.surveyed in
      record {
        measured = record {
          trying = record { shaped = h.held.plan_at.shaped; valid = h.may_be; laid = record { text = slice_is h.held.plan_at; starting = v.starting } };
          tracked = h.held.tracked;
          driven = v.driven;
        };
        counted = v.counted;
        drives = h.drives;
      }

  pub some_made : SomeMade day (take (s.words - 0) (drop 0 plan)) tables (listed_trial m) s.count s.distance
  some_made = record { rounds = h.rounds; made = trial_made }

  pub after_made : {work : List ℕ} (r : Option Held)
      → ((rounds : List Round) → Made day (take (s.words - 0) (drop 0 plan)) tables (listed_trial m) s.count s.distance rounds
      → TriedAs day (listed_trial m) rounds work r)
      → AfterTrial day Ks budget work plan tables s next r
  after_made r y = record { m = listed_trial m; ahead = h; tried_as = y h.rounds trial_made }

-- a trial was made
module _ {day Ks : List ℕ} {budget : ℕ} {work plan : List ℕ} {tables : Tables} {s : Search} {next : Cursor} {tried : Option Held}
    (after : AfterTrial day Ks budget work plan tables s next tried) where
  abbrev h : Ahead day Ks budget plan tables s after.m next
  h = after.ahead

  -- what is left behind it
  abbrev rest : List Trial
  rest = rest_of day (k_at Ks s.stage) h.rounds next

  abbrev later : List (List Trial)
  later = trial_lists day (drop (s.stage + 1) Ks) h.rounds

  -- no plan is kept, and the list goes on
  pub goes_on_lem : tried ≡ None → StepsTo day Ks budget plan tables s (record s { made = s.made + 1; cursor = next })
  goes_on_lem k =
      let turn =
      loop_none (trial_lists day Ks) (attempt day (greedy_lefts day)) budget h.rounds after.m rest later s.made h.left (rw k at after.tried_as) in
      rw h.on (
        record {
          rounds = h.rounds;
          held = h.held;
          drives = h.drives;
          within = omega (arith, h.left);
          going = λ _. record { staged = h.staged; fits = h.fits; valid = h.valid; same = sym turn ∙ rw h.ms at h.same };
          done = λ n. absurd (true≢false (sym h.on ∙ n));
        },
        fewer_trials Ks s.stage s.stage h.left h.staged,
      )

  -- the trial's plan, which is kept
  module _ {held : Held} (k : tried ≡ Some held) where
    kept : Kept day after.m h.rounds work held
    kept = rw k at after.tried_as

    plan_at : PlanAt day work held.words kept.q
    plan_at =
        let given = (attempt_kept day (greedy_lefts day) h.rounds after.m kept.q kept.is).given in
        record { shaped = valid_shaped day h.rounds kept.q after.m h.held.plan_at.shaped h.may_be given; fits = kept.fits; text = kept.text }

    pub kept_plan : SomePlanAt day work held.words
    kept_plan = record { rounds = kept.q; plan_at = plan_at }

    pub keeps_plan : {now : List ℕ} {made : Tables} {count : ℕ} {first : Cursor}
        → TakesOver day work held.words now made count → first ≡ list_start → StepsTo day Ks budget now made s
        (record { words = held.words; count = count; distance = held.distance; made = s.made + 1; stage = 0; cursor = first; standing = Standings.Going })
    keeps_plan f n =
        let a = kept in
        let p = plan_at in
        let over = f a.q p in
        let turn =
        loop_some (trial_lists day Ks) (attempt day (greedy_lefts day)) budget h.rounds a.q after.m rest later s.made h.left a.is in
        let some : 0 < length Ks = omega (arith, h.staged) in
        rw h.on (
          record {
            rounds = a.q;
            held = over;
            drives = a.distance;
            within = omega (arith, h.left);
            going = λ _. record {
              staged = some;
              fits = rw n (start_fits a.q over.surveyed);
              valid = rw n (start_valid day a.q (k_at Ks 0) p.shaped);
              same = rw (n, lists_at day Ks a.q 0 some) (sym turn ∙ rw h.ms at h.same);
            };
            done = λ n. absurd (true≢false n);
          },
          fewer_trials Ks s.stage 0 h.left h.staged,
        )
