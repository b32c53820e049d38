-- The search begins with the greedy plan. Assumes nothing.
use Prim.Native.Nat.{ℕ, ◌-◌, ◌<◌}
use mathlib.Core.Path.{◌≡◌}
use mathlib.Core.Bool.{true≢false}
use mathlib.Core.List.{List}
use native.Mathlib.Omega.{arith}
use lib.ListN.{length, take, drop}
use Rattle.rules.specs.Build.{greedy_rounds, greedy_lefts}
use Rattle.rules.specs.Attempts.{distance_of, attempt}
use Rattle.rules.specs.Search.{trial_lists, searched}
use Rattle.trial_list.specs.TrialRest.{list_start}
use Rattle.trial_list.specs.declared.listing.Cursor.{Cursor}
use Rattle.trial_list.proofs.ListRests.{start_fits, start_valid}
use Rattle.search_laws.proofs.Searching.{loop_start}
use Rattle.tracks.specs.declared.plan_tables.Tables.{Tables}
use Rattle.search_steps.specs.Searches.{PlanAt, MakesTables, k_at, Searching}
use Rattle.search_steps.specs.declared.steps.Standing.TheVariants as Standings
use Rattle.search_steps.proofs.SetLaws.{lists_at}
use Rattle.search_steps.proofs.TakeOverLaws.{taken_over}

-- the greedy plan is held
pub begins : {day plan : List ℕ} {tables : Tables} {words count distance : ℕ} {first : Cursor} → PlanAt day plan words (greedy_rounds day)
    → MakesTables day (take (words - 0) (drop 0 plan)) tables count → distance ≡ distance_of day (greedy_rounds day)
    → first ≡ list_start → (Ks : List ℕ) (budget : ℕ) → 0 < length Ks
    → Searching day Ks budget plan tables (record { words = words; count = count; distance = distance; made = 0; stage = 0; cursor = first; standing = Standings.Going })
unfolding searched
begins {day} p f far n Ks budget some =
    let over = taken_over p f in
    record {
      rounds = greedy_rounds day;
      held = over;
      drives = far;
      within = omega arith;
      going = λ _. record {
        staged = some;
        fits = rw n (start_fits (greedy_rounds day) over.surveyed);
        valid = rw n (start_valid day (greedy_rounds day) (k_at Ks 0) p.shaped);
        same = rw (n, lists_at day Ks (greedy_rounds day) 0 some) (loop_start (trial_lists day Ks) (attempt day (greedy_lefts day)) budget (greedy_rounds day));
      };
      done = λ n. absurd (true≢false n);
    }
