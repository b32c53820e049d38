-- A trial of the search that was made, and the plan that the search hands over, as the code has them. Assumes nothing.
use Rattle.std.specs.Prelude.{ℕ, ◌-◌, ◌≡◌, List, Option, ◌++◌, length, replicate}
use Rattle.rules.specs.Plan.{Round, plan_words}
use Rattle.rules.specs.Build.{greedy_lefts}
use Rattle.rules.specs.Edits.{Trial}
use Rattle.rules.specs.Attempts.{distance_of}
use Rattle.rules.specs.Search.{searched}
use Rattle.trial_list.specs.declared.listing.Cursor.{Cursor}
use Rattle.attempts.specs.Tries.{TriedAs}
use Rattle.tracks.specs.declared.plan_tables.Held.{Held}
use Rattle.tracks.specs.declared.plan_tables.Tables.{Tables}
use Rattle.search_steps.specs.Searches.{is_settled, Ahead}
use Rattle.search_steps.specs.declared.steps.Search.{Search}

-- a trial that was listed and could be made was made
pub record AfterTrial (day Ks : List ℕ) (budget : ℕ) (work plan : List ℕ) (tables : Tables) (s : Search) (next : Cursor) (tried : Option Held) : Type 0 where
  pub m : Trial
  pub ahead : Ahead day Ks budget plan tables s m next
  pub tried_as : TriedAs day m ahead.rounds work tried

-- the plan that the search hands over fills the buffer, with zeros behind it
pub record Improved (day Ks : List ℕ) (budget : ℕ) (plan : List ℕ) (r : Search) : Type 0 where
  pub rounds : List Round
  pub is : record { plan = rounds; trials = r.made; settled = is_settled r.standing } ≡ searched day Ks budget
  pub count : r.words ≡ length (plan_words rounds (greedy_lefts day))
  pub distance : r.distance ≡ distance_of day rounds
  pub text : plan ≡ plan_words rounds (greedy_lefts day) ++ replicate (length plan - r.words) 0
