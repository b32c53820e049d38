-- The way back of a vehicle that is walked again. Assumes nothing.
use Prim.Native.Nat.{ℕ, ◌+◌, ◌-◌, ◌≤◌, ◌<◌}
use mathlib.Core.Path.{◌≡◌, sym, ap, ◌∙◌, refl, subst}
use mathlib.Core.List.{List, [], ◌∷◌, ◌++◌, map}
use mathlib.Core.Option as maybe
use mathlib.Core.Option.{none, some, none-ne-some}
use native.Mathlib.Omega.{arith}
use lib.ListN.{length, set, get_or}
use Rattle.std.specs.Prelude.{Option, Some, None}
use Rattle.rules.specs.Lists.{Every}
use Rattle.rules.specs.Fields.{leg_distance}
use Rattle.rules.specs.PlanWords.{vehicle_word, back_word}
use Rattle.rules.specs.Plan.{Round, task_word, round_words, stops_on, Known}
use Rattle.rules.specs.Lawful.{distance_from}
use Rattle.rules.specs.Build.{Truck, fresh}
use Rattle.rules.specs.Edits.{Edit, changed}
use Rattle.rules.specs.Attempts.{walk_on, walk_home, done_by, walked_again}
use Rattle.rules.specs.declared.walk.Trip.{Trip}
use Rattle.laws.specs.Buffer.{Wrote}
use Rattle.laws.proofs.Buffer.{wrote_put, wrote_same}
use Rattle.walks.specs.Cabs.{Start, at_depot, Standing, failed, on_road, SomeStanding, Drives}
use Rattle.walks.specs.Rewalks.{WalksTask, Walkable, Midway, Through, SomeDone, Back, BackAs, ComesBack, Again, AgainAs, WalkedAs}
use Rattle.walks.specs.declared.cabs.Cab.{Cab}
use Rattle.walks.specs.declared.vehicle.Walked.{Walked}
use Rattle.walks.proofs.CabLaws.{standing_fewer, standing_space, some_standing}
use Rattle.walks.proofs.MidwayLaws.{midway_fails, midway_size, midway_done, midway_whole}
use Rattle.walks.proofs.WalkLaws.{stands_goes, stands_failed, some_served}
use Rattle.walks.proofs.Walking.{walked_on, walked_home, walked_distance}

-- the vehicle before its way back, where the trial has not failed, and on it
pub standing_done : {day : List ℕ} {start : Start} {most : ℕ} {p part : List ℕ} {v : Truck} {c : Cab} → Standing day start most 0 p part v c → SomeDone day part (Some c)
standing_done s = record { start = _; most = _; p = _; o = some _; stands = on_road _ _ s }

module _ {day part : List ℕ} {o : Option Cab} where
  pub done_standing : {c : Cab} → SomeDone day part o → o ≡ Some c → SomeStanding day 0 part c
  done_standing s q = let t = rw q at s.stands in some_standing (omega arith) (stands_goes s.o t).standing

  pub back_standing : {now : List ℕ} {c b : Cab} → SomeDone day part o → Drives day 0 part c (λ v. walk_home day (some v)) now (Some b) → o ≡ Some c → SomeStanding day 0 now b
  back_standing s d q = some_served _ (done_standing s q) d

  -- the trial has failed before the way back
  pub back_failed : {r : Option Walked} → o ≡ None → r ≡ None → ComesBack day part o part r
  unfolding walk_home
  back_failed q e start most p u h =
      let f = stands_failed u (rw q at h) in
      rw e (record { size = f.1; back = rw f.0 refl })

  -- or it fails on it
  pub back_fails : {now : List ℕ} {c : Cab} {r : Option Walked} → Drives day 0 part c (λ v. walk_home day (some v)) now None → r ≡ None → o ≡ Some c → ComesBack day part o now r
  back_fails d e q start most p u h =
      let t = stands_goes u (rw q at h) in
      let f = stands_failed (walk_home day (some t.v)) (d start most 0 p t.v (standing_fewer (omega arith) t.standing)) in
      rw e (record { size = f.1; back = ap (walk_home day) t.is ∙ f.0 })

  -- the vehicle is back
  pub back_comes : {now : List ℕ} {c b : Cab} {leg : ℕ} (r : Walked) → Drives day 0 part c (λ v. walk_home day (some v)) now (Some b)
      → leg ≡ leg_distance day b.trip.place 0 → r.words ≡ b.at + 1 → r.distance ≡ b.trip.distance + leg → o ≡ Some c → ComesBack day part o now (Some r)
  back_comes {b = b} r d k n l q start most p u h =
      let t = stands_goes u (rw q at h) in
      let f = stands_goes (walk_home day (some t.v)) (d start most 0 p t.v (standing_fewer (omega arith) t.standing)) in
      record {
        size = f.standing.text.size;
        back = record {
          v = f.v;
          is = ap (walk_home day) t.is ∙ f.is;
          cab = b;
          standing = f.standing;
          words = n;
          distance =
              l ∙ ap (λ (x : ℕ). b.trip.distance + x) k ∙ ap (λ (x : Trip). x.distance + leg_distance day x.place 0) f.standing.riding.trip_is;
        };
      }

-- how far a vehicle that is back drives
home_drives : (day : List ℕ) (tasks : Round) (o : maybe.Option Truck) (u : Truck) → Every (Known day) tasks → walk_on day tasks (some (fresh day [])) ≡ o → walk_home day o ≡ some u
    → u.trip.distance + leg_distance day u.trip.place 0 ≡ distance_from day 0 u.tasks
unfolding walk_home
home_drives day tasks none u k e h = absurd (none-ne-some u h)
home_drives day tasks (some v) u k e h = walked_distance day tasks u (walked_home day tasks v u (walked_on day tasks v k e) h)

pub again_by : (day : List ℕ) (tasks : Round) (u : Truck) {distance : ℕ} → Every (Known day) tasks → walk_home day (walk_on day tasks (some (fresh day []))) ≡ some u
    → distance ≡ u.trip.distance + leg_distance day u.trip.place 0 → Again day tasks distance
unfolding walked_again done_by
again_by day tasks u k h d =
    record { done = u.tasks; is = ap done_by h; drives = d ∙ home_drives day tasks (walk_on day tasks (some (fresh day []))) u k refl h }

pub again_none : (day : List ℕ) (tasks : Round) → walk_home day (walk_on day tasks (some (fresh day []))) ≡ none → walked_again day tasks ≡ none
unfolding walked_again done_by
again_none day tasks h = ap done_by h

-- what a vehicle that was walked again comes to, once it is back
pub again_back : (day : List ℕ) (tasks : Round) {start : Start} {most : ℕ} {p part : List ℕ} (o : maybe.Option Truck) (r : Option Walked) → Every (Known day) tasks
    → walk_on day tasks (some (fresh day [])) ≡ o → BackAs day start most p part o r → AgainAs day tasks r
again_back day tasks o None k e b = again_none day tasks (ap (walk_home day) e ∙ b.back)
again_back day tasks o (Some r) k e b = again_by day tasks b.back.v k (ap (walk_home day) e ∙ b.back.is) b.back.distance

-- all of a vehicle's tasks, changed and walked again
abbrev whole : List ℕ → Edit → Round → maybe.Option Truck
whole day e tasks = walk_on day (changed e 0 tasks) (some (fresh day []))

module _ {day : List ℕ} {e : Edit} {number : ℕ} {words p part : List ℕ} {tasks : Round} (h : Walkable day e words p tasks) {i : ℕ} {c : Cab} where
  -- a task on which the trial fails, and the end of the tasks
  pub task_fails : i < length words → (d : ℕ) → Midway day e (at_depot number) p part tasks i c → {now : List ℕ}
      → WalksTask day e i part c (get_or words i d) now None → Through day e number p now tasks None
  task_fails l d m g =
      record { stands = rw (midway_fails h l d m g) (failed (midway_size h l d m g)) }

  pub tasks_done : length words ≤ i → Midway day e (at_depot number) p part tasks i c → Through day e number p part tasks (Some c)
  tasks_done l m = record { stands = rw (midway_whole h l m) (on_road m.v c (midway_done h l m)) }

module _ {day : List ℕ} {e : Edit} {number : ℕ} {words p part : List ℕ} {tasks : Round} (h : Walkable day e words p tasks) where
  module _ {c : Option Cab} (m : Through day e number p part tasks c) where
    -- there is a vehicle before its way back, or the trial has failed among the tasks
    pub through_done : SomeDone day part c
    through_done = record { start = at_depot number; most = _; p = p; o = whole day e tasks; stands = m.stands }

    came : {mid : List ℕ} {r : Option Walked} → ComesBack day part c mid r → BackAs day (at_depot number) (length (stops_on (changed e 0 tasks))) p mid (whole day e tasks) r
    came b = b (at_depot number) _ p (whole day e tasks) m.stands

    -- the trial has failed, among the tasks or on the way back
    pub walked_failed : {mid : List ℕ} → ComesBack day part c mid None → WalkedAs day number (changed e 0 tasks) p mid None
    walked_failed b = record { size = (came b).size; written = again_none day (changed e 0 tasks) (came b).back }

    module _ {mid : List ℕ} {r : Walked} (b : ComesBack day part c mid (Some r)) where
      abbrev u : Back day (at_depot number) (length (stops_on (changed e 0 tasks))) p mid (whole day e tasks) r
      u = (came b).back

      -- there is room for the E word
      pub back_room : (1 ≤ r.words) × (r.words ≤ length mid)
      back_room = (omega (arith, u.words), omega (arith, u.words, (standing_space u.standing).inside))

      pub walked_back : {now : List ℕ} → now ≡ set mid (r.words - 1) back_word → WalkedAs day number (changed e 0 tasks) p now (Some r)
      unfolding round_words again_by
      walked_back {now} w =
          let k : r.words - 1 ≡ u.cab.at = omega (arith, u.words) in
          let text : Wrote (vehicle_word number ∷ map task_word u.v.tasks) p mid u.cab.at =
          subst (λ (ts : Round). Wrote (vehicle_word number ∷ map task_word ts) p mid u.cab.at) (sym u.standing.tasks) u.standing.text in
          let put : Wrote (vehicle_word number ∷ (map task_word u.v.tasks ++ (back_word ∷ []))) p (set mid u.cab.at back_word) (u.cab.at + 1) =
          wrote_put text back_word (omega (arith, (standing_space u.standing).inside, u.standing.text.size)) in
          let same : now ≡ set mid u.cab.at back_word = w ∙ ap (λ (i : ℕ). set mid i back_word) k in
          record {
            size = ap length same ∙ put.size;
            written = record {
              again = again_by day (changed e 0 tasks) u.v h.edited u.is u.distance;
              text = subst (λ (x : List ℕ). Wrote (vehicle_word number ∷ (map task_word u.v.tasks ++ (back_word ∷ []))) p x r.words) (sym same)
                  (wrote_same put refl (sym u.words));
            };
          }

  -- there is a vehicle before its way back
  pub through_some : {c : Cab} → Through day e number p part tasks (Some c) → SomeStanding day 0 part c
  through_some m = done_standing (through_done m) refl

  -- the trial has failed among the tasks
  pub through_fails : Through day e number p part tasks None → WalkedAs day number (changed e 0 tasks) p part None
  through_fails m = walked_failed m (back_failed refl refl)
