-- A plan that is taken over from the working buffer: its words and its tables. Assumes nothing.
use Prim.Native.Nat.{ℕ, ◌-◌, ◌*◌, ◌≤◌}
use mathlib.Core.Path.{◌≡◌, sym, ap, ◌∙◌}
use mathlib.Core.List.{List}
use native.Mathlib.Omega.{arith}
use lib.ListN.{length, take, drop}
use lib.Seq.{length-take-le}
use Rattle.rules.specs.Fields.{stops, IsAccepted}
use Rattle.rules.specs.Plan.{Round, plan_words}
use Rattle.rules.specs.Build.{greedy_lefts}
use Rattle.laws.specs.Buffer.{Wrote}
use Rattle.laws.proofs.Buffer.{over_front}
use Rattle.day.proofs.Ranges.{accepted_ranges}
use Rattle.trial_list.specs.Shapes.{Shaped}
use Rattle.trial_list.specs.Survey.{PlanOf, SomePlan, SurveysAll}
use Rattle.trial_list.proofs.Shapes.{shaped_few, shaped_length}
use Rattle.candidates.proofs.CopyLaws.{front_part}
use Rattle.tracks.specs.Tables.{SomeTrackable, TracksIn}
use Rattle.tracks.proofs.TrackableLaws.{shaped_trackable, some_trackable}
use Rattle.tracks.specs.declared.plan_tables.Tables.{Tables}
use Rattle.search_steps.specs.Searches.{PlanAt, SomePlanAt, SomeHeld, MakesTables, TakenOver, TakesOver}

-- the vehicles of a plan that trials work on, for its tables
held_of : {day plan : List ℕ} {rounds : List Round} → IsAccepted day → Shaped day rounds → plan ≡ plan_words rounds (greedy_lefts day) → PlanOf day plan rounds (greedy_lefts day)
held_of {day} {rounds = rounds} ok h e =
    record { text = e; known = h.known; few = omega (arith, shaped_few day rounds h, (accepted_ranges day ok).stops_most) }

module _ {day buffer : List ℕ} {words : ℕ} {rounds : List Round} (h : PlanAt day buffer words rounds) where
  -- how many words it has
  pub plan_words_lem : words ≡ length (plan_words rounds (greedy_lefts day))
  plan_words_lem = sym (length-take-le words buffer h.fits) ∙ ap length h.text

  words_most : {room : ℕ} → 5 * stops day ≤ room → words ≤ room
  words_most l = omega (arith, plan_words_lem, shaped_length day rounds h.shaped)

  pub slice_is : take (words - 0) (drop 0 buffer) ≡ plan_words rounds (greedy_lefts day)
  slice_is = front_part words buffer ∙ h.text

  slice_size : length (take (words - 0) (drop 0 buffer)) ≡ words
  slice_size = ap length slice_is ∙ sym plan_words_lem

  -- copied, it stands at the front of the plan's buffer
  copied : {p plan : List ℕ} → 5 * stops day ≤ length p
      → Wrote (take (words - 0) (drop 0 buffer)) p plan (length (take (words - 0) (drop 0 buffer))) → PlanAt day plan words rounds
  copied {p = p} l w =
      let ws = take (words - 0) (drop 0 buffer) in
      record {
        shaped = h.shaped;
        fits = omega (arith, words_most l, w.size);
        text = ap (take words) w.text ∙ over_front ws p words slice_size ∙ slice_is;
      }

  -- the words of a plan that trials work on
  pub some_held : SomeHeld day (take (words - 0) (drop 0 buffer))
  some_held = record { rounds = rounds; shaped = h.shaped; text = slice_is }

module _ {day plan : List ℕ} (ok : IsAccepted day) (s : SomeHeld day plan) where
  pub held_short : length plan ≤ 1200
  held_short = omega (arith, ap length s.text, shaped_length day s.rounds s.shaped, (accepted_ranges day ok).stops_most)

  pub held_plan : SomePlan day plan
  held_plan = record { rounds = s.rounds; lefts = greedy_lefts day; plan_of = held_of ok s.shaped s.text }

  pub held_trackable : {room : ℕ} {starts vehicles distances : List ℕ} {count : ℕ} → 5 * stops day ≤ room
      → SurveysAll day plan starts vehicles distances count → SomeTrackable day plan starts room count
  held_trackable l f = some_trackable ok s.shaped (f s.rounds (greedy_lefts day) (held_of ok s.shaped s.text)) s.text l

-- its tables are made
pub tables_made : {day plan : List ℕ} {tables : Tables} {room count : ℕ} → IsAccepted day
    → 5 * stops day ≤ room
    → SurveysAll day plan tables.starts tables.vehicles tables.distances count → TracksIn day plan tables.starts room count tables.tracks → MakesTables day plan tables count
tables_made {day} ok l f g rounds shaped text =
    let s = f rounds (greedy_lefts day) (held_of ok shaped text) in
    record { surveyed = s; tracked = g rounds (greedy_lefts day) (shaped_trackable ok shaped s text l) s.counted }

-- the plan held, with its tables
pub taken_over : {day plan : List ℕ} {tables : Tables} {words count : ℕ} {rounds : List Round} → PlanAt day plan words rounds
    → MakesTables day (take (words - 0) (drop 0 plan)) tables count → TakenOver day plan words rounds tables count
taken_over h f = let t = f _ h.shaped (slice_is h) in record { plan_at = h; surveyed = t.surveyed; tracked = t.tracked }

-- the plan is taken over from the working buffer
module _ {day work : List ℕ} {words : ℕ} (p : List ℕ) (room : 5 * stops day ≤ length p) where
  pub copy_fits : SomePlanAt day work words → length (take (words - 0) (drop 0 work)) ≤ length p
  copy_fits s = omega (arith, slice_size s.plan_at, words_most s.plan_at room)

  module _ {plan : List ℕ} (w : Wrote (take (words - 0) (drop 0 work)) p plan (length (take (words - 0) (drop 0 work)))) where
    pub copied_fits : SomePlanAt day work words → words ≤ length plan
    copied_fits s = (copied s.plan_at room w).fits

    pub copied_held : SomePlanAt day work words → SomeHeld day (take (words - 0) (drop 0 plan))
    copied_held s = some_held (copied s.plan_at room w)

    pub takes_over : {tables : Tables} {count : ℕ}
        → MakesTables day (take (words - 0) (drop 0 plan)) tables count
        → TakesOver day work words plan tables count
    takes_over f rounds h = taken_over (copied h room w) f
