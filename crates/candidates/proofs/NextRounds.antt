-- One vehicle of the plan that a trial gives: where its words stand, what it becomes and that there is room for it. Assumes nothing.
use Rattle.std.specs.Prelude.{Option, if◌then◌else◌}
use Prim.Native.Nat.{ℕ, ◌+◌, ◌-◌, ◌*◌, ◌≤◌, ◌<◌}
use mathlib.Core.Path.{◌≡◌, sym, ap, ◌∙◌}
use mathlib.Core.Bool.{Bool, ◌||◌}
use mathlib.Core.List.{List, [], ◌∷◌}
use mathlib.Core.Option.{some}
use native.Mathlib.Omega.{arith}
use lib.Dec.{eqb}
use lib.ListN.{length, length-append, get_or, take, drop}
use Rattle.rules.specs.Lists.{Every}
use Rattle.rules.specs.Fields.{stops, IsAccepted}
use Rattle.rules.specs.Plan.{Round, round_words, stops_on, stops_on_all, Known}
use Rattle.rules.specs.Edits.{Trial, touches, changed}
use Rattle.rules.specs.Attempts.{walked_again, retried}
use Rattle.laws.proofs.Lists.{every_at}
use Rattle.day.proofs.Ranges.{accepted_ranges}
use Rattle.plan_laws.proofs.Theorems.{round_length}
use Rattle.greedy_laws.specs.Rooms.{Room}
use Rattle.trial_list.specs.Survey.{VehicleIn}
use Rattle.trial_list.proofs.LaidLaws.{vehicle_in, round_are}
use Rattle.trial_list.proofs.Shapes.{each_vehicle, shaped_few, shaped_length, shaped_stops}
use Rattle.candidates.specs.Candidates.{Roundable, SomeRoundable, RoundAs, Trying, SomeNext}
use Rattle.candidates.proofs.RoundLists.{cut_whole, stops_parts}
use Rattle.candidates.proofs.Remade.{Suited, valid_suits}

module _ {day plan starts : List ℕ} {m : Trial} {rounds : List Round} (t : Trying day plan starts m rounds) where
  pub few_vehicles : length rounds ≤ stops day
  few_vehicles = shaped_few day rounds t.shaped

  few_accepted : IsAccepted day → length rounds ≤ 240
  few_accepted ok = omega (arith, few_vehicles, (accepted_ranges day ok).stops_most)

  -- where the words of one stand, and where those of all end
  pub vehicle_stands : IsAccepted day → {v : ℕ} → v < length rounds → VehicleIn plan starts v
  vehicle_stands ok l = vehicle_in t.laid l (few_accepted ok)

  pub plan_short : length plan ≤ 5 * stops day
  plan_short = omega (arith, ap length t.laid.text, shaped_length day rounds t.shaped)

module _ {day plan starts : List ℕ} {m : Trial} {rounds : List Round} (t : Trying day plan starts m rounds) {v : ℕ} (l : v < length rounds) where
  abbrev tasks : Round
  tasks = get_or rounds v []

  suited : Suited day m (v + 1) tasks
  suited = each_vehicle (Suited day m) 0 rounds v (v + 1) l (omega arith) (valid_suits day rounds m t.valid)

  -- it is busy, it has room, and it has few stops
  busy : 0 < length (stops_on tasks)
  busy = every_at (λ ts. 0 < length (stops_on ts)) rounds v [] t.shaped.busy l

  pub stops_here : length (stops_on tasks) ≤ stops day
  unfolding stops_on_all
  stops_here =
      omega (
        arith,
        shaped_stops day rounds t.shaped,
        ap (λ (xs : List Round). length (stops_on_all xs)) (cut_whole rounds v l),
        stops_parts (take v rounds) (tasks ∷ drop (v + 1) rounds),
        length-append (stops_on tasks) (stops_on_all (drop (v + 1) rounds)),
      )

  pub round_able : {touched : Bool} {part words : List ℕ} → IsAccepted day → 5 * length (stops_on tasks) ≤ length part → touched ≡ touches m (v + 1) → words ≡ round_words (v + 1) tasks
      → Roundable day m.edit touched (v + 1) words part tasks
  round_able ok h e w =
      let known = every_at (Every (Known day)) rounds v [] t.shaped.known l in
      let room = every_at Room rounds v [] t.shaped.rooms l in
      record {
        are = w;
        known = known;
        edited = λ y. (suited.touched (sym e ∙ y) known).known;
        same = λ y. (suited.touched (sym e ∙ y) known).count;
        few = omega (arith, stops_here, (accepted_ranges day ok).stops_most);
        room = omega (arith, h, busy, room.size, ap length w, round_length (v + 1) tasks);
        more = omega (arith, h, busy);
      }

  pub round_retried : {touched : Bool} {part now : List ℕ} {r : Option ℕ} → touched ≡ touches m (v + 1)
      → RoundAs (v + 1) (if touched then walked_again day (changed m.edit 0 tasks) else some tasks) part now r
      → RoundAs (v + 1) (retried day m (v + 1) tasks) part now r
  unfolding retried
  round_retried e w = rw e at w

pub is_touches : (m : Trial) (number : ℕ) {b : Bool} → b ≡ (eqb number m.one || eqb number m.other) → b ≡ touches m number
unfolding touches
is_touches m number e = e

-- the vehicle before it is written
pub some_roundable : {day plan starts : List ℕ} {m : Trial} {v : ℕ} {part words : List ℕ} {touched : Bool} (s : SomeNext day plan starts m v part) → IsAccepted day
    → touched ≡ touches m (v + 1) → words ≡ take (get_or starts (v + 1) 0 - get_or starts v 0) (drop (get_or starts v 0) plan)
    → SomeRoundable day m.edit touched (v + 1) words part
some_roundable {v = v} s ok e w =
    let words = w ∙ round_are s.trying.laid s.inside in
    record {
      tasks = get_or s.rounds v [];
      roundable = round_able s.trying s.inside ok s.room e words;
      ends = omega (arith, ap length words, round_length (v + 1) (get_or s.rounds v []));
    }
