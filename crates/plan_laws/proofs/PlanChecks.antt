-- A plan put together: the check of vehicles, then of F words, gives the totals. What a plan needs for that is its form and that each
-- vehicle is clear by itself. Assumes nothing.
use Prim.Native.Nat.{ℕ, suc, ◌+◌, ◌≤◌, ◌<◌}
use mathlib.Core.Path.{◌≡◌, refl, ap, ◌∙◌}
use mathlib.Core.Bool.{false}
use mathlib.Core.List.{List, [], ◌∷◌, ◌++◌, map, append_assoc}
use native.Mathlib.Omega.{arith}
use lib.ListN.{length, length-append}
use borrow.Author.Tests.{lt-ltb, le-ltb}
use Rattle.rules.specs.Answers.{given}
use Rattle.rules.specs.Lists.{Every, mem, unmet, total, Rising}
use Rattle.rules.specs.Fields.{stops}
use Rattle.rules.specs.PlanWords.{left, left_word}
use Rattle.rules.specs.Plan.{serve, empty, lunch, Round, round_words, rounds_words, plan_words, stops_on, stops_on_all, Known, Formed}
use Rattle.rules.specs.Cargo.{cargo_fault}
use Rattle.rules.specs.Trip.{leaving}
use Rattle.rules.specs.Check.{well_formed, met_again, met_after, tally_after, Walk, start, walk_after, finished, check_from, check_words}
use Rattle.laws.specs.Lists.{collect, Fresh}
use Rattle.laws.proofs.Fresh.{collect_append, every_append, fresh_first, fresh_second, fresh_length, once_fresh, once_all, unmet_most}
use Rattle.plan_laws.specs.Vehicles.{Clear, trip_home, walk_round, walk_rounds}
use Rattle.plan_laws.proofs.Passing.{Passes, word_passes}
use Rattle.plan_laws.proofs.RoundChecks.{within_true, round_check}
use Rattle.plan_laws.proofs.RoundWalks.{after_round, after_rounds}
use Rattle.plan_laws.proofs.SameReading.{check_read}
use Rattle.plan_words.proofs.WordForms.{left_form}

-- the vehicles of a plan, one behind the other
pub rounds_check : (day : List ℕ) (s : Walk) (before : ℕ) (rounds : List Round) (behind : List ℕ) (i : ℕ) → s.tally.inside ≡ false → s.tally.last ≡ 0
    → s.tally.vehicles ≡ before → before + length rounds < 256 → Every (Every (Known day)) rounds → Fresh s.met (stops_on_all rounds)
    → Every (Clear day) rounds → Every (λ tasks. 0 < length (stops_on tasks)) rounds
    → check_from day (rounds_words before rounds ++ behind) i s ≡ check_from day behind (i + length (rounds_words before rounds)) (walk_rounds day s rounds)
unfolding Every rounds_words stops_on_all walk_rounds
rounds_check day s before [] behind i e l n v h f c b = ap (λ (j : ℕ). check_from day behind j s) (omega arith)
rounds_check day s before (tasks ∷ rounds) behind i e l n v h f c b =
    let words = round_words (suc before) tasks in
    let others = rounds_words (suc before) rounds in
    let r = after_round day s tasks in
    let old = fresh_first s.met (stops_on tasks) (stops_on_all rounds) f in
    let new = fresh_second s.met (stops_on tasks) (stops_on_all rounds) f in
    let first : check_from day (words ++ (others ++ behind)) i s ≡ check_from day (others ++ behind) (i + length words) (walk_round day s tasks) =
    rw (← n) (round_check day s tasks (rounds_words (suc s.tally.vehicles) rounds ++ behind) i e l (omega arith) h.0 old c.0 b.0) in
    ap (λ (ws : List ℕ). check_from day ws i s) (append_assoc words others behind)
    ∙ first
    ∙ rounds_check day (walk_round day s tasks) (suc before) rounds behind (i + length words) r.outside (r.last ∙ l) (omega (arith, r.vehicles))
    (omega arith) h.1 (rw r.met new) c.1 b.1
    ∙ ap (λ (j : ℕ). check_from day behind j (walk_rounds day (walk_round day s tasks) rounds)) (omega (arith, length-append words others))

-- a stop left out passes, behind the vehicles
left_passes : (day : List ℕ) (s : Walk) (k : ℕ) → s.tally.inside ≡ false → s.tally.last < k → k ≤ stops day → mem k s.met ≡ false → Passes day s (left k)
unfolding well_formed met_again cargo_fault
left_passes day s k e r h f =
    record { formed = rw (e, within_true (stops day) k (omega arith) h, lt-ltb s.tally.last k r); new = f; cargo = refl; trip = refl }

-- the stops left out: none is missing then
pub lefts_check : (day : List ℕ) (s : Walk) (lefts : List ℕ) (i : ℕ) → s.tally.inside ≡ false → Rising s.tally.last lefts
    → Every (λ k. k ≤ stops day) lefts → Fresh s.met lefts → unmet (stops day) (collect s.met lefts) ≡ 0
    → check_from day (map left_word lefts) i s ≡ given (s.tally.distance ∷ s.tally.vehicles ∷ s.tally.served ∷ [])
unfolding Every Rising Fresh collect check_from finished tally_after met_after
lefts_check day s [] i e r h f z = rw (e, le-ltb 0 (unmet (stops day) s.met) (omega arith))
lefts_check day s (k ∷ lefts) i e r h f z =
    word_passes day (left_word k) (map left_word lefts) i s (left k) (left_form k (omega (arith, h.0))) (left_passes day s k e r.0 h.0 f.0)
    ∙ lefts_check day (walk_after day s (left k)) lefts (suc i) e r.1 h.1 f.1 z

-- each vehicle has a stop, so there are no more vehicles than stops
pub busy_rounds : (rounds : List Round) → Every (λ tasks. 0 < length (stops_on tasks)) rounds → length rounds ≤ length (stops_on_all rounds)
unfolding Every stops_on_all
busy_rounds [] b = omega arith
busy_rounds (tasks ∷ rounds) b = omega (arith, length-append (stops_on tasks) (stops_on_all rounds), busy_rounds rounds b.1)

-- the stops of known tasks are stops of the day
known_stops : (day : List ℕ) (tasks : Round) → Every (Known day) tasks → Every (λ k. (1 ≤ k) × (k ≤ stops day)) (stops_on tasks)
unfolding Every Known stops_on
known_stops day [] h = tt
known_stops day (serve k ∷ tasks) h = (h.0, known_stops day tasks h.1)
known_stops day (empty k ∷ tasks) h = known_stops day tasks h.1
known_stops day (lunch ∷ tasks) h = known_stops day tasks h.1

pub known_all : (day : List ℕ) (rounds : List Round) → Every (Every (Known day)) rounds → Every (λ k. (1 ≤ k) × (k ≤ stops day)) (stops_on_all rounds)
unfolding Every stops_on_all
known_all day [] h = tt
known_all day (tasks ∷ rounds) h = every_append (λ k. (1 ≤ k) × (k ≤ stops day)) (stops_on tasks) (stops_on_all rounds) (known_stops day tasks h.0) (known_all day rounds h.1)

-- so are the stops left out
left_stops : (day : List ℕ) (from : ℕ) (lefts : List ℕ) → Rising from lefts → Every (λ k. k ≤ stops day) lefts → Every (λ k. (1 ≤ k) × (k ≤ stops day)) lefts
unfolding Every Rising
left_stops day from [] r h = tt
left_stops day from (k ∷ lefts) r h = ((omega arith, h.0), left_stops day k lefts r.1 h.1)

-- what a plan's form says of its stops: each is new in its turn, none is missing, and the vehicles can be counted in eight bits
module _ (day plan : List ℕ) (rounds : List Round) (lefts : List ℕ) (f : Formed day plan rounds lefts) where
  abbrev named : List ℕ
  named = stops_on_all rounds ++ lefts

  named_stops : Every (λ k. (1 ≤ k) × (k ≤ stops day)) named
  named_stops = every_append (λ k. (1 ≤ k) × (k ≤ stops day)) (stops_on_all rounds) lefts (known_all day rounds f.known) (left_stops day 0 lefts f.rising f.others)

  pub named_fresh : Fresh [] named
  named_fresh = once_fresh (stops day) named named_stops f.once

  pub none_missing : unmet (stops day) (collect [] named) ≡ 0
  none_missing = once_all (stops day) named named_fresh f.once

  pub few_rounds : length rounds < 256
  few_rounds =
      omega (arith, busy_rounds rounds f.busy, fresh_length (stops day) [] named named_stops named_fresh, unmet_most (stops day) [], length-append (stops_on_all rounds) lefts)

  -- a plan whose form is right and whose vehicles are clear is answered with its totals
  pub plan_check : Every (Clear day) rounds
      → check_words day plan ≡ given (total (λ tasks. (trip_home day (leaving day) tasks).distance) rounds ∷ length rounds ∷ length (stops_on_all rounds) ∷ [])
  unfolding check_words plan_words
  plan_check c =
      let s = walk_rounds day (start day) rounds in
      let r = after_rounds day (start day) rounds refl in
      let both = fresh_second [] (stops_on_all rounds) lefts named_fresh in
      let missing : unmet (stops day) (collect s.met lefts) ≡ 0 = rw (r.met, ← collect_append) none_missing in
      let distance : s.tally.distance ≡ total (λ tasks. (trip_home day (leaving day) tasks).distance) rounds = omega (arith, r.distance) in
      let vehicles : s.tally.vehicles ≡ length rounds = omega (arith, r.vehicles) in
      let served : s.tally.served ≡ length (stops_on_all rounds) = omega (arith, r.served) in
      rw (le-ltb 4096 (length plan) f.short)
      (check_read day plan (plan_words rounds lefts) 0 (start day) f.text
      ∙ rounds_check day (start day) 0 rounds (map left_word lefts) 0 refl refl refl (omega (arith, few_rounds)) f.known (fresh_first [] (stops_on_all rounds) lefts named_fresh) c f.busy
      ∙ lefts_check day s lefts (0 + length (rounds_words 0 rounds)) r.outside (rw r.last f.rising) f.others (rw r.met both) missing
      ∙ rw (distance, vehicles, served))
