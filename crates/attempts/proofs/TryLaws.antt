-- One trial of the plan held: the touched vehicles walked again, and what is known when they drive no less. Assumes nothing.
use Prim.Native.Nat.{ℕ, ◌+◌, ◌-◌, ◌*◌, ◌≤◌, ◌<◌}
use mathlib.Core.Path.{◌≡◌, refl, sym, ap, subst}
use mathlib.Core.Bool.{true}
use mathlib.Core.List.{List, [], map}
use native.Mathlib.Omega.{arith}
use lib.ListN.{length, length-map, get_or, take, drop}
use Rattle.rules.specs.Fields.{stops, IsAccepted}
use Rattle.rules.specs.Plan.{Round, task_word}
use Rattle.rules.specs.Edits.{Trial, touches}
use Rattle.day.proofs.Ranges.{accepted_ranges}
use Rattle.spans.specs.Span.{Outside}
use Rattle.onward.specs.Behind.{BehindOf}
use Rattle.walks.specs.Rewalks.{Walkable}
use Rattle.trial_list.proofs.LaidLaws.{start_next, vehicle_inside, round_are, words_are}
use Rattle.candidates.specs.Candidates.{Trying}
use Rattle.candidates.proofs.NextRounds.{plan_short, round_able, stops_here}
use Rattle.tracks.specs.Before.{BeforeOf}
use Rattle.tracks.specs.Measure.{Measurable}
use Rattle.tracks.specs.Tables.{TrackedIn}
use Rattle.tracks.specs.declared.plan_tables.Tracks.{Tracks}
use Rattle.tracks.proofs.TableLaws.{first_is_lem}

-- the tasks of vehicle v stand one behind its start and one before its end
module _ {day plan starts : List ℕ} {m : Trial} {rounds : List Round} (t : Trying day plan starts m rounds) {v : ℕ} (l : v < length rounds) where
  pub retry_walkable : {work : List ℕ} → IsAccepted day → 5 * stops day ≤ length work → touches m (v + 1) ≡ true
      → Walkable day m.edit (take (get_or starts (v + 1) 0 - 1 - (get_or starts v 0 + 1)) (drop (get_or starts v 0 + 1) plan)) work (get_or rounds v [])
  retry_walkable {work} ok h y =
      let able = round_able t l {touched = true} {part = work} ok (omega (arith, stops_here t l)) (sym y) (round_are t.laid l) in
      record {
        are = words_are t.laid l;
        known = able.known;
        edited = able.edited refl;
        few = omega (arith, able.same refl, able.few);
        room = omega (arith, able.same refl, able.more);
      }

  -- what the tables say of it
  pub retry_measurable : {work : List ℕ} {tracks : Tracks} {first last : ℕ} → IsAccepted day → 5 * stops day ≤ length work → touches m (v + 1) ≡ true → TrackedIn day rounds tracks
      → Outside m.edit (get_or rounds v []) first last
      → Measurable day m.edit (take (get_or starts (v + 1) 0 - 1 - (get_or starts v 0 + 1)) (drop (get_or starts v 0 + 1) plan)) work (get_or starts v 0 + 1)
      tracks.before tracks.behind first last (get_or rounds v [])
  retry_measurable {work} {tracks} ok h y k o =
      let able = round_able t l {touched = true} {part = work} ok (omega (arith, stops_here t l)) (sym y) (round_are t.laid l) in
      record {
        cuttable = record {
          walkable = retry_walkable ok h y;
          outside = o;
          rows = subst (λ (n : ℕ). BehindOf day tracks.behind n (get_or rounds v [])) (sym (first_is_lem t.laid l)) (k.tracked.onward v l);
        };
        same = able.same refl;
        walked = subst (λ (n : ℕ). BeforeOf day tracks.before n (get_or rounds v [])) (sym (first_is_lem t.laid l)) (k.tracked.walked v l);
      }

  -- its words are few
  pub retry_short : {words : List ℕ} → IsAccepted day → words ≡ map task_word (get_or rounds v []) → get_or starts v 0 + 1 + length words ≤ 1200
  retry_short ok are =
      omega (arith, start_next t.laid l, vehicle_inside t.laid l, plan_short t, (accepted_ranges day ok).stops_most, ap length are, length-map (get_or rounds v []) task_word)
