-- The tables of all vehicles of a plan: the rows of one vehicle more.
-- Assumes nothing.
use Prim.Native.Nat.{ℕ, ◌+◌, ◌-◌, ◌≤◌, ◌<◌}
use mathlib.Core.Path.{◌≡◌, refl, sym, ap, ◌∙◌, subst}
use mathlib.Core.List.{List, []}
use mathlib.Core.Logic.{inl}
use native.Mathlib.Decide.{ℕ_discrete}
use native.Mathlib.Omega.{arith}
use lib.ListN.{length, length-map, get_or, take, drop}
use Rattle.std.specs.Prelude.{Option}
use Rattle.rules.specs.Lists.{Every}
use Rattle.rules.specs.Plan.{Round, task_word, Known}
use Rattle.laws.proofs.Lists.{every_at}
use Rattle.onward.specs.Behind.{BehindOf, RoundTo, SomeRoundTo, FillsBehind}
use Rattle.onward.specs.declared.Onward.{Onward}
use Rattle.onward.specs.declared.TheConstants.{ROWS}
use Rattle.trial_list.specs.Survey.{Laid}
use Rattle.trial_list.proofs.LaidLaws.{behind, starts_rise, start_next, tasks_text, vehicle_in, vehicle_inside, words_are}
use Rattle.tracks.specs.Before.{VehicleTasks, BeforeOf, FilledBefore}
use Rattle.tracks.specs.Tables.{first_task, Trackable, SomeTrackable, TracksIn, SomeVehicle, TracksOne, TracksVehicle}
use Rattle.tracks.specs.declared.before.Row.{Row}
use Rattle.tracks.specs.declared.plan_tables.Tracks.{Tracks}

-- the first task of vehicle v, counted from 0, stands behind its A word
pub first_is_lem : {plan starts : List ℕ} {rounds : List Round} {lefts : List ℕ} → Laid plan starts rounds lefts → {v : ℕ} → v < length rounds
    → get_or starts v 0 + 1 ≡ first_task rounds v
first_is_lem h {v} l = ap (λ (n : ℕ). n + 1) (h.starting.at v (omega arith))

-- the vehicle itself
module _ {day plan starts : List ℕ} {room : ℕ} {rounds : List Round} {lefts : List ℕ} (t : Trackable day plan starts room rounds lefts) {v : ℕ} (l : v < length rounds) where
  abbrev laid : Laid plan starts rounds lefts
  laid = t.laid

  -- where its tasks stand in the plan, from the one behind its A word to its E word
  placed : RoundTo day plan (get_or starts v 0 + 1) (get_or starts (v + 1) 0 - 1) (get_or rounds v []) (behind laid l)
  placed =
      record {
        round_at = record { text = tasks_text laid l; known = every_at (Every (Known day)) rounds v [] t.known l };
        ends = omega (arith, start_next laid l);
      }

  -- as the code asks for it
  pub vehicle_placed : SomeRoundTo day plan (get_or starts v 0 + 1) (get_or starts (v + 1) 0 - 1)
  vehicle_placed = record { tasks = get_or rounds v []; rest = _; round_to = placed }

  -- it can be walked
  pub vehicle_walks : {part : List ℕ} → room ≡ length part
      → VehicleTasks day (take (get_or starts (v + 1) 0 - 1 - (get_or starts v 0 + 1)) (drop (get_or starts v 0 + 1) plan)) part (get_or rounds v [])
  vehicle_walks h =
      record { are = words_are laid l; known = placed.round_at.known; few = (t.fits v l).few; room = omega (arith, (t.fits v l).words) }

  -- its rows are within the tables
  pub vehicle_short : get_or starts v 0 + 1 + length (take (get_or starts (v + 1) 0 - 1 - (get_or starts v 0 + 1)) (drop (get_or starts v 0 + 1) plan)) < ROWS
  vehicle_short =
      omega (
        arith,
        ap length (words_are laid l),
        length-map (get_or rounds v []) task_word,
        start_next laid l,
        vehicle_inside laid l,
        t.short,
      )

  -- its rows are filled
  pub vehicle_tracked : {before walks : List (Option Row)} {behind onwards : List Onward} {part now : List ℕ} → room ≡ length part
      → FilledBefore day (take (get_or starts (v + 1) 0 - 1 - (get_or starts v 0 + 1)) (drop (get_or starts v 0 + 1) plan)) (get_or starts v 0 + 1) before walks part now
      → FillsBehind day plan (get_or starts v 0 + 1) (get_or starts (v + 1) 0 - 1) behind onwards → TracksOne day rounds v before walks behind onwards
  vehicle_tracked {walks = walks} {onwards = onwards} h f g =
      let tasks = get_or rounds v [] in
      let here = first_is_lem laid l in
      record {
        walked = subst (λ (n : ℕ). BeforeOf day walks n tasks) here (f.rows tasks (vehicle_walks h));
        onward = subst (λ (n : ℕ). BehindOf day onwards n tasks) here (g.rows tasks _ placed);
        walked_kept = λ at m. f.kept at (omega (arith, here));
        onward_kept = λ at m. g.others at (inl (omega (arith, here)));
      }

-- the first v vehicles have their rows
pub record Tracking (day : List ℕ) (rounds : List Round) (v : ℕ) (before : List (Option Row)) (behind : List Onward) : Type 0 where
  pub walked : (u : ℕ) → u < v → BeforeOf day before (first_task rounds u) (get_or rounds u [])
  pub onward : (u : ℕ) → u < v → BehindOf day behind (first_task rounds u) (get_or rounds u [])

-- one vehicle more
tracking_next : (day : List ℕ) (rounds : List Round) (v : ℕ) (before walks : List (Option Row)) (behind onwards : List Onward) → v < length rounds → Tracking day rounds v before behind
    → TracksOne day rounds v before walks behind onwards → Tracking day rounds (v + 1) walks onwards
tracking_next day rounds v before walks behind onwards l t o =
    record {
      walked = λ u h. elim (ℕ_discrete u v) [
        | yes e ↦ subst (λ (n : ℕ). BeforeOf day walks (first_task rounds n) (get_or rounds n [])) (sym e) o.walked
        | no e ↦ λ i m.
            let within : u < v = omega (arith, e) in
            rw (o.walked_kept (first_task rounds u + i) (omega (arith, starts_rise rounds u v within (omega arith)))) (t.walked u within i m)
      ];
      onward = λ u h. elim (ℕ_discrete u v) [
        | yes e ↦ subst (λ (n : ℕ). BehindOf day onwards (first_task rounds n) (get_or rounds n [])) (sym e) o.onward
        | no e ↦
            let within : u < v = omega (arith, e) in
            record { row = λ i m. o.onward_kept (first_task rounds u + i) (omega (arith, starts_rise rounds u v within (omega arith))) ∙ (t.onward u within).row i m }
      ];
    }

-- so it is for whatever vehicles the plan has
pub record TracksTo (day plan starts : List ℕ) (room count v : ℕ) (tracks : Tracks) (work : List ℕ) : Type 0 where
  pub work_size : length work ≡ room
  pub each : (rounds : List Round) (lefts : List ℕ) → Trackable day plan starts room rounds lefts → count ≡ length rounds
      → Tracking day rounds v tracks.before tracks.behind

-- before the first vehicle
pub tracks_start : (day plan starts : List ℕ) (count : ℕ) (tracks : Tracks) (work : List ℕ) → TracksTo day plan starts (length work) count 0 tracks work
tracks_start day plan starts count tracks work =
    record {
      work_size = refl;
      each = λ rounds lefts t e. record { walked = λ u h. absurd (omega arith); onward = λ u h. absurd (omega arith) };
    }

module _ {day plan starts : List ℕ} {room count v : ℕ} {tracks : Tracks} {work : List ℕ} (s : TracksTo day plan starts room count v tracks work) where
  -- vehicle v is one of the plan's
  pub tracks_vehicle : SomeTrackable day plan starts room count → v < count → SomeVehicle day plan starts (length work) v
  tracks_vehicle some l =
      record {
        rounds = some.rounds;
        lefts = some.lefts;
        trackable = subst (λ (n : ℕ). Trackable day plan starts n some.rounds some.lefts) (sym s.work_size) some.trackable;
        inside = omega (arith, some.counted);
        vehicle = vehicle_in some.trackable.laid (omega (arith, some.counted)) some.trackable.few;
        short = some.trackable.short;
      }

  -- one vehicle more
  pub tracks_next : {after : Tracks} {worked : List ℕ} → v < count → length worked ≡ length work
      → TracksVehicle day plan starts (length work) v tracks after → TracksTo day plan starts room count (v + 1) after worked
  tracks_next {after} l d o =
      record {
        work_size = d ∙ s.work_size;
        each = λ rounds lefts t e.
            tracking_next day rounds v tracks.before after.before tracks.behind after.behind (omega arith) (s.each rounds lefts t e)
            (o rounds lefts (subst (λ (n : ℕ). Trackable day plan starts n rounds lefts) (sym s.work_size) t) (omega arith));
      }

  -- all vehicles have their rows
  pub tracks_end : count ≤ v → TracksIn day plan starts room count tracks
  tracks_end l = λ rounds lefts t e. record {
    tracked = record {
      walked = λ u h. (s.each rounds lefts t e).walked u (omega arith);
      onward = λ u h. (s.each rounds lefts t e).onward u (omega arith);
      before_size = tracks.before_size;
      behind_size = tracks.behind_size;
      spots_size = tracks.spots_size;
    };
  }
