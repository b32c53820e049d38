-- The tables of a plan while its vehicles are read one behind the other.
-- Assumes nothing.
use Rattle.std.specs.Prelude.{if◌then◌else◌, replicate}
use Rattle.std.proofs.lemmas.List.{get_or-replicate, length-replicate}
use Prim.Native.Nat.{ℕ, suc, ◌+◌, ◌-◌, ◌≤◌, ◌<◌}
use mathlib.Core.Path.{◌≡◌, refl, sym, ap, ◌∙◌}
use mathlib.Core.Bool.{Bool, true, false, true≢false}
use mathlib.Core.List.{List, [], ◌∷◌, map}
use mathlib.Core.Logic.{inl, inr}
use native.Mathlib.Decide.{ℕ_discrete, dec_lt}
use native.Mathlib.Numerals.{add-one}
use native.Mathlib.Omega.{arith}
use lib.Dec.{ltb}
use lib.ListN.{length, get_or, take, drop, set, length-set, length-drop, drop_of_length-le, get_or-eq_default}
use lib.Seq.{take_all, drop-cons, drop_at}
use borrow.Author.Tests.{lt-ltb, ltb-true, ltb-false}
use Rattle.rules.specs.Lists.{Every, mem}
use Rattle.rules.specs.PlanWords.{vehicle_word, stop_word, left_word}
use Rattle.rules.specs.Plan.{Round, round_words, rounds_words, plan_words, stops_on, Known}
use Rattle.rules.specs.Lawful.{distance_from}
use Rattle.rules.specs.TrialList.{vehicle_from, vehicle_of}
use Rattle.laws.proofs.Decided.{known}
use Rattle.laws.proofs.Lists.{entries_next, every_at}
use Rattle.laws.proofs.Tests.{both_true}
use Rattle.laws.specs.Plan.{RoundAt}
use Rattle.plan_words.proofs.WordForms.{vehicle_made}
use Rattle.trial_list.specs.Survey.{PlanOf, SomePlan, SurveysAll, SomeRound, first_of, vehicle_then, EndsAll, is_vehicle}
use Rattle.trial_list.specs.declared.survey.Driven.{Driven}
use Rattle.trial_list.proofs.LaidLaws.{starts_next, others, placed_words, placed_inside, placed_tasks}
use Rattle.trial_list.proofs.WordsRead.{vehicle_low}
use Rattle.trial_list.proofs.RideLaws.{word_at, first_some, first_none, first_zero}

-- zeros alone
abbrev zeros : ℕ → List ℕ
zeros n = replicate n 0

pub all_zeros : (n : ℕ) {vehicles : List ℕ} → vehicles ≡ zeros n → (k : ℕ) → get_or vehicles k 0 ≡ 0
all_zeros n e k = ap (λ (xs : List ℕ). get_or xs k 0) e ∙ go (dec_lt k n)
  where
    go : Dec (k < n) → get_or (zeros n) k 0 ≡ 0
    go (yes l) = get_or-replicate n k 0 0 l
    go (no g) =
        let size : length (zeros n) ≡ n = length-replicate n 0 in
        get_or-eq_default (zeros n) 0 (omega (arith, size, g))

-- an A word is there, or not
vehicle_yes : (plan : List ℕ) (at : ℕ) → is_vehicle plan at ≡ true → (at < length plan) × (get_or plan at 0 < stop_word 0)
vehicle_yes plan at e = let b = both_true _ _ e in (ltb-true _ _ b.0, vehicle_low _ b.1)

vehicle_there : (plan : List ℕ) (at k : ℕ) → k < 256 → at < length plan → get_or plan at 0 ≡ vehicle_word k → is_vehicle plan at ≡ false → ⊥
vehicle_there plan at k h l w e = true≢false (sym (rw (lt-ltb at (length plan) l, vehicle_made k h w) refl) ∙ e)

-- the first vehicle of a stop, with those behind
first_then : (b : Bool) (x number y : ℕ) → 0 < number → first_of (first_of x (if b then number else 0)) y ≡ first_of x (if b then number else y)
first_then b x number y h = go b (ℕ_discrete x 0)
  where
    go : (b : Bool) → Dec (x ≡ 0) → first_of (first_of x (if b then number else 0)) y ≡ first_of x (if b then number else y)
    go true (yes e) = rw (e, first_none number) (first_some number y (λ z. omega arith))
    go false (yes e) = rw (e, first_none 0) refl
    go b (no n) = rw (first_some x (if b then number else 0) n, first_some x y n, first_some x (if b then number else y) n) refl

routed_next : (v number k x : ℕ) (tasks : Round) (todo : List Round) → number ≡ suc v
    → first_of (vehicle_then number tasks x k) (vehicle_from (suc v) k todo) ≡ first_of x (vehicle_from v k (tasks ∷ todo))
unfolding vehicle_then vehicle_from
routed_next v number k x tasks todo e = rw e (first_then (mem k (stops_on tasks)) x (suc v) (vehicle_from (suc v) k todo) (omega arith))

first_end : (v k x : ℕ) → first_of x (vehicle_from v k []) ≡ x
unfolding vehicle_from
first_end v k x = first_zero x

-- so many vehicles are read: they end at a place, the tables say what is known of them, and the stops of the others are to be marked
pub record Surveying (day : List ℕ) (rounds : List Round) (starts vehicles distances : List ℕ) (v at : ℕ) : Type 0 where
  pub among : v ≤ length rounds
  pub placed : at ≡ length (rounds_words 0 (take v rounds))
  pub starting : (u : ℕ) → u < v → get_or starts u 0 ≡ length (rounds_words 0 (take u rounds))
  pub driven : (u : ℕ) → u < v → get_or distances u 0 ≡ distance_from day 0 (get_or rounds u [])
  pub routed : (k : ℕ) → first_of (get_or vehicles k 0) (vehicle_from v k (drop v rounds)) ≡ vehicle_of rounds k

-- so it is for whatever vehicles the plan has, and the tables have room
pub record Surveys (day plan starts vehicles distances : List ℕ) (v at : ℕ) : Type 0 where
  pub few : v ≤ 240
  pub within : at ≤ length plan
  pub starts_size : length starts ≡ 256
  pub vehicles_size : length vehicles ≡ 256
  pub distances_size : length distances ≡ 256
  pub each : (rounds : List Round) (lefts : List ℕ) → PlanOf day plan rounds lefts → Surveying day rounds starts vehicles distances v at

pub surveys_start : {day plan : List ℕ} (starts vehicles distances cleared : List ℕ) → SomePlan day plan
    → length starts ≡ 256 → length vehicles ≡ 256 → length distances ≡ 256
    → ((k : ℕ) → get_or cleared k 0 ≡ 0) → length cleared ≡ length vehicles → Surveys day plan starts cleared distances 0 0
unfolding rounds_words first_of
surveys_start starts vehicles distances cleared some a b c clear size = record {
  few = omega arith;
  within = omega arith;
  starts_size = a;
  vehicles_size = size ∙ b;
  distances_size = c;
  each = λ rounds lefts h. record {
    among = omega arith;
    placed = refl;
    starting = λ u l. absurd (omega arith);
    driven = λ u l. absurd (omega arith);
    routed = λ k. rw (clear k) refl;
  };
}

module _ {day plan : List ℕ} {rounds : List Round} {lefts starts vehicles distances : List ℕ} {v at : ℕ} (h : PlanOf day plan rounds lefts)
    (s : Surveying day rounds starts vehicles distances v at) where
  -- an A word stands there exactly where there is a vehicle more
  no_vehicle : length rounds ≤ v → is_vehicle plan at ≡ true → ⊥
  unfolding plan_words
  no_vehicle l t =
      let end : length (rounds_words 0 rounds) ≡ at = sym (rw (take_all v rounds l) at s.placed) in
      go lefts (ap (drop at) h.text ∙ drop_at (rounds_words 0 rounds) (map left_word lefts) at end)
    where
      go : (ks : List ℕ) → drop at plan ≡ map left_word ks → ⊥
      go [] e = omega (arith, (vehicle_yes plan at t).0, ap length e, length-drop at plan)
      go (k ∷ ks) e = omega (arith, (vehicle_yes plan at t).1, (word_at plan at (left_word k) (map left_word ks) e).word)

  is_vehicle_lem : is_vehicle plan at ≡ true → v < length rounds
  is_vehicle_lem t = elim (known (ltb v (length rounds))) [ inl y ↦ ltb-true _ _ y | inr n ↦ absurd (no_vehicle (ltb-false _ _ n) t) ]

  is_end : is_vehicle plan at ≡ false → length rounds ≤ v
  unfolding round_words
  is_end t = elim (known (ltb v (length rounds))) [
    | inl y ↦
        let l : v < length rounds = ltb-true _ _ y in
        let w = word_at plan at _ _ (placed_words rounds lefts h.text s.placed l) in
        absurd (vehicle_there plan at (v + 1) (omega (arith, h.few)) w.within w.word t)
    | inr n ↦ ltb-false _ _ n
  ]

  -- the vehicle that is next, and where its words end
  its_round : v < length rounds → RoundAt day plan (at + 1) (get_or rounds v []) (others rounds lefts v)
  its_round l = record { text = placed_tasks rounds lefts h.text s.placed l; known = every_at (Every (Known day)) rounds v [] h.known l }

  module _ {number : ℕ} {after : List ℕ} {d : Driven} (l : v < length rounds) (numbered : number ≡ v + 1)
      (ends : EndsAll day plan (at + 1) number vehicles after d) where
    its_end : (at < d.end) × (d.end ≤ length plan)
    its_end = let e = (ends _ _ (its_round l)).ends in (omega arith, omega (arith, placed_inside rounds lefts h.text s.placed l))

    surveying_next : length starts ≡ 256 → length distances ≡ 256
        → Surveying day rounds (set starts v at) after (set distances v d.distance) (v + 1) d.end
    surveying_next a c =
        let e = ends _ _ (its_round l) in
        record {
          among = omega arith;
          placed = omega (arith, e.ends, s.placed, starts_next rounds v l);
          starting = entries_next (λ u x. x ≡ length (rounds_words 0 (take u rounds))) starts v at (omega (arith, h.few)) s.placed s.starting;
          driven = entries_next (λ u x. x ≡ distance_from day 0 (get_or rounds u [])) distances v d.distance (omega (arith, h.few)) e.drives s.driven;
          routed = λ j.
              rw (e.marks j, add-one v)
              (routed_next v number j (get_or vehicles j 0) (get_or rounds v []) (drop (suc v) rounds) (numbered ∙ add-one v)
              ∙ (rw (drop-cons rounds v [] l) at (s.routed j)));
        }

-- the next word is tested, and the plan is known to have vehicles
module _ {day plan : List ℕ} (some : SomePlan day plan) {starts vehicles distances : List ℕ} {v at : ℕ}
    (s : Surveys day plan starts vehicles distances v at) {b : Bool} (tested : b ≡ is_vehicle plan at) where
  this : Surveying day some.rounds starts vehicles distances v at
  this = s.each some.rounds some.lefts some.plan_of

  one_more : b ≡ true → v < length some.rounds
  one_more t = is_vehicle_lem some.plan_of this (sym tested ∙ t)

  pub surveys_round : b ≡ true → SomeRound day plan (at + 1)
  surveys_round t = record { tasks = _; rest = _; round_at = its_round some.plan_of this (one_more t) }

  module _ {number : ℕ} {after : List ℕ} {d : Driven} (t : b ≡ true) (numbered : number ≡ v + 1) (ends : EndsAll day plan (at + 1) number vehicles after d)
      (size : length after ≡ length vehicles) where
    pub surveys_less : length plan - d.end < length plan - at
    surveys_less = let e = its_end some.plan_of this (one_more t) numbered ends in omega arith

    pub surveys_next : Surveys day plan (set starts v at) after (set distances v d.distance) (v + 1) d.end
    surveys_next = record {
      few = omega (arith, one_more t, some.plan_of.few);
      within = (its_end some.plan_of this (one_more t) numbered ends).1;
      starts_size = length-set starts v at ∙ s.starts_size;
      vehicles_size = size ∙ s.vehicles_size;
      distances_size = length-set distances v d.distance ∙ s.distances_size;
      each = λ rounds lefts h.
          let e = s.each rounds lefts h in
          surveying_next h e (is_vehicle_lem h e (sym tested ∙ t)) numbered ends s.starts_size s.distances_size;
    }

  pub surveys_end : b ≡ false → SurveysAll day plan (set starts v at) vehicles distances v
  surveys_end t rounds lefts h =
      let e = s.each rounds lefts h in
      let counted : v ≡ length rounds = omega (arith, e.among, is_end h e (sym tested ∙ t)) in
      record {
        counted = counted;
        starting = record {
          at = λ u l.
              entries_next (λ u x. x ≡ length (rounds_words 0 (take u rounds))) starts v at
              (omega (arith, s.few, s.starts_size)) e.placed e.starting u (omega arith);
          size = length-set starts v at ∙ s.starts_size;
        };
        routed = λ k a b. sym (first_end v k (get_or vehicles k 0)) ∙ (rw (drop_of_length-le rounds {i = v} (omega arith)) at (e.routed k));
        driven = λ u l. e.driven u (omega arith);
        vehicles_size = s.vehicles_size;
        distances_size = s.distances_size;
      }
