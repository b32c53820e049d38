-- The plan that the search hands over. Assumes nothing.
use Prim.Native.Nat.{ℕ, ◌-◌}
use mathlib.Core.Path.{◌≡◌, sym, ap, ◌∙◌}
use mathlib.Core.Bool.{false}
use mathlib.Core.List.{List, ◌++◌, append-nil}
use lib.ListN.{length, take, drop, replicate}
use lib.Seq.{drop-length}
use Rattle.rules.specs.Plan.{plan_words}
use Rattle.rules.specs.Build.{greedy_lefts}
use Rattle.tracks.specs.declared.plan_tables.Tables.{Tables}
use Rattle.search_steps.specs.Searches.{is_going, Searching}
use Rattle.search_steps.specs.declared.steps.Search.{Search}
use Rattle.search_steps.proofs.TakeOverLaws.{plan_words_lem}
use Rattle.trials.specs.Improvements.{Improved}

-- the plan is handed over
pub improved : {day Ks : List ℕ} {budget : ℕ} {plan now : List ℕ} {tables : Tables} {s : Search} → Searching day Ks budget plan tables s → is_going s.standing ≡ false
    → now ≡ (take s.words plan ++ replicate (length plan - s.words) 0) ++ drop (length plan) plan → length now ≡ length plan → Improved day Ks budget now s
improved {day} {plan = plan} {now = now} {s = s} h e x n =
    record {
      rounds = h.rounds;
      is = h.done e;
      count = plan_words_lem h.held.plan_at;
      distance = h.drives;
      text =
          x ∙ ap (λ (ws : List ℕ). (take s.words plan ++ replicate (length plan - s.words) 0) ++ ws) (drop-length plan)
          ∙ append-nil (take s.words plan ++ replicate (length plan - s.words) 0)
          ∙ ap (λ (ws : List ℕ). ws ++ replicate (length plan - s.words) 0) h.held.plan_at.text
          ∙ ap (λ (k : ℕ). plan_words h.rounds (greedy_lefts day) ++ replicate (k - s.words) 0) (sym n);
    }
