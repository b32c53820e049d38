-- The plan that a trial gives while it is written, as the code has it. It serves the contracts of the functions that make trials.
-- Assumes nothing.
use Rattle.std.specs.Prelude as Code
use Rattle.std.specs.Prelude.{ℕ, ◌+◌, ◌*◌, ◌≤◌, ◌<◌, ◌≡◌, Bool, true, List, [], length, get_or, take, if◌then◌else◌}
use Rattle.std.proofs.Math.Option.{Option, none, some}
use Rattle.rules.specs.Lists.{Every}
use Rattle.rules.specs.Plan.{Round, round_words, rounds_words, plan_words, stops_on, Known}
use Rattle.rules.specs.Build.{greedy_lefts}
use Rattle.rules.specs.Edits.{Edit, Trial, changed}
use Rattle.rules.specs.Attempts.{walked_again, retried, tried_from, tried}
use Rattle.laws.specs.Buffer.{Wrote}
use Rattle.trial_list.specs.Shapes.{Shaped, Valid}
use Rattle.trial_list.specs.Survey.{Laid, VehicleIn}

-- these are the words of a vehicle, and there is room for them and for what they become
pub record Roundable (day : List ℕ) (e : Edit) (touched : Bool) (number : ℕ) (words part : List ℕ) (tasks : Round) : Type 0 where
  pub are : words ≡ round_words number tasks
  pub known : Every (Known day) tasks
  pub edited : touched ≡ true → Every (Known day) (changed e 0 tasks)
  pub same : touched ≡ true → length (stops_on (changed e 0 tasks)) ≡ length (stops_on tasks)
  pub few : length (stops_on tasks) ≤ 240
  pub room : length words ≤ length part
  pub more : 3 + 2 * length (stops_on tasks) ≤ length part

pub record SomeRoundable (day : List ℕ) (e : Edit) (touched : Bool) (number : ℕ) (words part : List ℕ) : Type 0 where
  pub tasks : Round
  pub roundable : Roundable day e touched number words part tasks
  pub ends : 2 ≤ length words

-- a vehicle of the candidate: its words stand at the front of the part
pub record RoundDone (number : ℕ) (o : Option Round) (p part : List ℕ) (words : ℕ) : Type 0 where
  pub done : Round
  pub is : o ≡ some done
  pub text : Wrote (round_words number done) p part words

-- or the trial has failed on it
abbrev pub RoundBy : ℕ → Option Round → List ℕ → List ℕ → Code.Option ℕ → Type 0
RoundBy number o p part Code.None = o ≡ none
RoundBy number o p part (Code.Some words) = RoundDone number o p part words

pub record RoundAs (number : ℕ) (o : Option Round) (p part : List ℕ) (words : Code.Option ℕ) : Type 0 where
  pub size : length part ≡ length p
  pub written : RoundBy number o p part words

-- so a vehicle is written, walked again where it is touched, whatever tasks have these words
abbrev pub WritesRound : List ℕ → Edit → Bool → ℕ → List ℕ → List ℕ → List ℕ → Code.Option ℕ → Type 0
WritesRound day e touched number words part now r =
    (tasks : Round) → Roundable day e touched number words part tasks
    → RoundAs number (if touched then walked_again day (changed e 0 tasks) else some tasks) part now r

-- the plan held, its words, where its vehicles start, and a trial of it that may be made
pub record Trying (day plan starts : List ℕ) (m : Trial) (rounds : List Round) : Type 0 where
  pub shaped : Shaped day rounds
  pub valid : Valid day rounds m
  pub laid : Laid plan starts rounds (greedy_lefts day)

pub record SomeTrying (day plan starts : List ℕ) (m : Trial) (count : ℕ) : Type 0 where
  pub rounds : List Round
  pub trying : Trying day plan starts m rounds
  pub counted : count ≡ length rounds
  pub few : count ≤ 240
  pub table : length starts ≡ 256
  pub ends : get_or starts count 0 ≤ length plan

-- and there is room for what vehicle v becomes
pub record SomeNext (day plan starts : List ℕ) (m : Trial) (v : ℕ) (part : List ℕ) : Type 0 where
  pub rounds : List Round
  pub trying : Trying day plan starts m rounds
  pub inside : v < length rounds
  pub vehicle : VehicleIn plan starts v
  pub room : 5 * length (stops_on (get_or rounds v [])) ≤ length part

-- so vehicle v is written, whatever vehicles have these words
abbrev pub WritesNext : List ℕ → List ℕ → List ℕ → Trial → ℕ → List ℕ → List ℕ → Code.Option ℕ → Type 0
WritesNext day plan starts m v part now r =
    (rounds : List Round) → Trying day plan starts m rounds → v < length rounds → 5 * length (stops_on (get_or rounds v [])) ≤ length part
    → RoundAs (v + 1) (retried day m (v + 1) (get_or rounds v [])) part now r

-- the first v vehicles of the candidate are written
pub record Written (day : List ℕ) (m : Trial) (rounds : List Round) (p part : List ℕ) (v at : ℕ) : Type 0 where
  pub done : List Round
  pub is : tried_from day m 0 (take v rounds) ≡ some done
  pub text : Wrote (rounds_words 0 done) p part at

-- they all are, or the trial has failed
abbrev pub RoundsBy : List ℕ → Trial → List Round → List ℕ → List ℕ → ℕ → Code.Option ℕ → Type 0
RoundsBy day m rounds p part count Code.None = tried day rounds m ≡ none
RoundsBy day m rounds p part count (Code.Some words) = Written day m rounds p part count words

pub record RoundsAs (day : List ℕ) (m : Trial) (rounds : List Round) (p part : List ℕ) (count : ℕ) (words : Code.Option ℕ) : Type 0 where
  pub size : length part ≡ length p
  pub written : RoundsBy day m rounds p part count words

-- whatever vehicles have these words
abbrev pub WritesRounds : List ℕ → List ℕ → List ℕ → Trial → ℕ → List ℕ → List ℕ → Code.Option ℕ → Type 0
WritesRounds day plan starts m count p part r =
    (rounds : List Round) → Trying day plan starts m rounds → count ≡ length rounds → RoundsAs day m rounds p part count r

-- the candidate: the plan's words stand at the front of the part
pub record CandidatePlan (day : List ℕ) (m : Trial) (rounds : List Round) (p part : List ℕ) (words : ℕ) : Type 0 where
  pub q : List Round
  pub is : tried day rounds m ≡ some q
  pub text : Wrote (plan_words q (greedy_lefts day)) p part words

-- or the trial has failed
abbrev pub CandidateBy : List ℕ → Trial → List Round → List ℕ → List ℕ → Code.Option ℕ → Type 0
CandidateBy day m rounds p part Code.None = tried day rounds m ≡ none
CandidateBy day m rounds p part (Code.Some words) = CandidatePlan day m rounds p part words

pub record CandidateAs (day : List ℕ) (m : Trial) (rounds : List Round) (p part : List ℕ) (words : Code.Option ℕ) : Type 0 where
  pub size : length part ≡ length p
  pub written : CandidateBy day m rounds p part words

-- whatever vehicles have these words
abbrev pub WritesCandidate : List ℕ → List ℕ → List ℕ → Trial → ℕ → List ℕ → List ℕ → Code.Option ℕ → Type 0
WritesCandidate day plan starts m count p part r =
    (rounds : List Round) → Trying day plan starts m rounds → count ≡ length rounds → CandidateAs day m rounds p part r
