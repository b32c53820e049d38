-- The tips of the trial list, one after the other: one law for each way through the functions that look for the next. The day may be any
-- list of words.
-- Assumes nothing.
use Rattle.std.specs.Prelude.{if◌then◌else◌, Option, Some, None}
use Prim.Native.Nat.{ℕ, suc, ◌+◌, ◌-◌, ◌≤◌, ◌<◌}
use mathlib.Core.Path.{◌≡◌, refl, sym, ap, ◌∙◌}
use mathlib.Core.List.{List, [], ◌∷◌, ◌++◌, append_assoc}
use mathlib.Core.Logic.{inl, inr}
use native.Mathlib.Numerals.{add-one}
use native.Mathlib.Omega.{arith}
use lib.Dec.{eqb, ltb}
use lib.ListN.{length, get_or, drop, drop_of_length-le, get_or-eq_default}
use lib.Seq.{drop-cons}
use borrow.Author.Tests.{eq-eqb, ne_eqb, eqb-true, eqb-false, ltb-true, ltb-false}
use Rattle.rules.specs.Lists.{Every}
use Rattle.rules.specs.Fields.{tips}
use Rattle.rules.specs.PlanWords.{tip, word_of}
use Rattle.rules.specs.Plan.{Task, serve, empty, lunch, Round, word_for, Known}
use Rattle.rules.specs.Edits.{remove, replace, on_one}
use Rattle.rules.specs.TrialList.{rising, other_tip, task_trials, round_trials, tip_trials}
use Rattle.trial_list.specs.declared.listing.Trial as Code
use Rattle.trial_list.specs.declared.listing.Listing.{Listing}
use Rattle.laws.proofs.Decided.{known}
use Rattle.laws.proofs.Lists.{every_at}
use Rattle.trial_list.specs.Listing.{Goes, at_tip, next_task, next_vehicle, TipTells, tells_no_tip, tells_tip, TipFits, ListingOf, SomeTip, Step, tip_part}
use Rattle.trial_list.specs.Survey.{Laid, VehicleIn}
use Rattle.trial_list.specs.TrialRest.{listed_trial, tip_from, task_from, tasks_from, tip_rest}
use Rattle.trial_list.specs.declared.listing.Listed.{Listed}
use Rattle.trial_list.specs.declared.tips.TipPlace.{TipPlace}
use Rattle.trial_list.proofs.LaidLaws.{start_next, vehicle_in, vehicle_inside, task_word_lem}
use Rattle.trial_list.proofs.Passing.{none_some, goes_past, goes_with}
use Rattle.plan_laws.proofs.RoundChecks.{task_form}

-- the trials of one tip
module _ (most number t y : ℕ) where
  from_removal : tip_from most number t y None ≡ on_one (remove t) number ∷ tip_from most number t y (Some 1)
  unfolding tip_from
  from_removal = let e : suc most - 1 ≡ most = omega arith in rw e refl

  from_over : (x : ℕ) → most < x → tip_from most number t y (Some x) ≡ []
  unfolding tip_from rising
  from_over x h = let e : suc most - x ≡ 0 = omega arith in rw e refl

  from_here : (x : ℕ) → x ≤ most → tip_from most number t y (Some x) ≡ other_tip number t y x ++ tip_from most number t y (Some (x + 1))
  unfolding tip_from rising
  from_here x h =
      let e : suc most - x ≡ suc (most - x) = omega arith in
      let f : suc most - (x + 1) ≡ most - x = omega arith in
      rw (e, f, add-one x) refl

  from_same : (x : ℕ) → x ≡ y → tip_from most number t y (Some x) ≡ tip_from most number t y (Some (x + 1))
  unfolding other_tip
  from_same x e = elim (known (ltb most x)) [
    | inl l ↦ from_over x (ltb-true most x l) ∙ sym (from_over (x + 1) (omega (arith, ltb-true most x l)))
    | inr l ↦ from_here x (ltb-false most x l) ∙ rw (eq-eqb x y e) refl
  ]

  from_other : (x : ℕ) → x ≤ most → (x ≡ y → ⊥) → tip_from most number t y (Some x) ≡ on_one (replace t x) number ∷ tip_from most number t y (Some (x + 1))
  unfolding other_tip
  from_other x h n = from_here x h ∙ rw (ne_eqb x y n) refl

  -- the tip itself is passed over
  from_next : (x k : ℕ) → k ≡ (if eqb x y then x + 1 else x) → (k ≡ y → ⊥) × (tip_from most number t y (Some x) ≡ tip_from most number t y (Some k))
  from_next x k e = elim (known (eqb x y)) [
    | inl b ↦ let f : k ≡ x + 1 = rw b at e in let same = eqb-true x y b in (λ z. omega arith, rw f (from_same x same))
    | inr b ↦ let f : k ≡ x = rw b at e in (rw f (eqb-false x y b), rw f refl)
  ]

-- what is said of a tip
module _ (most y : ℕ) (q : TipPlace) (r : Listed TipPlace) where
  pub tells_removal : {m : Code.Trial} → q.tip ≡ None → r.trial ≡ Some m → listed_trial m ≡ on_one (remove q.task) (q.vehicle + 1) → r.next ≡ at_tip q 1
      → TipTells most y q r
  tells_removal {m} e f t n = tells_tip r m 1 f (rw (e, t, add-one q.vehicle) (from_removal most (suc q.vehicle) q.task y)) n

  module _ {x k : ℕ} (e : q.tip ≡ Some x) (g : k ≡ (if eqb x y then x + 1 else x)) where
    pub tells_other : {m : Code.Trial} → k ≤ most → r.trial ≡ Some m → listed_trial m ≡ on_one (replace q.task k) (q.vehicle + 1) → r.next ≡ at_tip q (k + 1)
        → TipTells most y q r
    tells_other {m} h f t n =
        let s = from_next most (suc q.vehicle) q.task y x k g in
        tells_tip r m (k + 1) f (rw e (s.1 ∙ rw (t, add-one q.vehicle) (from_other most (suc q.vehicle) q.task y k h s.0))) n

    pub tells_none : most < k → r.trial ≡ None → r.next ≡ next_task q → TipTells most y q r
    tells_none h f n =
        let s = from_next most (suc q.vehicle) q.task y x k g in
        tells_no_tip r f (rw e (s.1 ∙ from_over most (suc q.vehicle) q.task y k h)) n

-- the tips of a plan
module _ (day : List ℕ) (rounds : List Round) where
  all_trials : (number t : ℕ) (task : Task) → task_from (tips day) number t None task ≡ task_trials day number t task
  unfolding task_from tip_from task_trials
  all_trials number t (serve k) = refl
  all_trials number t (empty y) = refl
  all_trials number t lunch = refl

  all_tasks : (number t : ℕ) (tasks : Round) → tasks_from day number t None tasks ≡ round_trials day number t tasks
  unfolding tasks_from round_trials
  all_tasks number t [] = refl
  all_tasks number t (task ∷ tasks) = rw (all_trials number t task) refl

  -- behind the last vehicle there is none
  pub tips_over : (q : TipPlace) → length rounds ≤ q.vehicle → tip_rest day rounds q ≡ []
  unfolding tip_rest tasks_from tip_trials
  tips_over q h = rw (get_or-eq_default rounds [] h, drop_of_length-le rounds {i = suc q.vehicle} (omega arith), drop_of_length-le {A = Task} [] {i = q.task} (omega arith)) refl

  pub all_vehicles : (v : ℕ) → tip_rest day rounds (record { vehicle = v; task = 0; tip = None }) ≡ tip_trials day v (drop v rounds)
  unfolding tip_rest tip_trials
  all_vehicles v = elim (known (ltb v (length rounds))) [
    | inl e ↦ rw (drop-cons rounds v [] (ltb-true _ _ e), all_tasks (suc v) 0 (get_or rounds v [])) refl
    | inr e ↦ tips_over (record { vehicle = v; task = 0; tip = None }) (ltb-false _ _ e) ∙ rw (drop_of_length-le rounds (ltb-false _ _ e)) refl
  ]

  module _ (q : TipPlace) where
    abbrev its : Round
    its = get_or rounds q.vehicle []

    tasks_over : length its ≤ q.task → tip_rest day rounds q ≡ tip_rest day rounds (next_vehicle q)
    unfolding tip_rest tasks_from
    tasks_over h =
        rw (drop_of_length-le its h)
        (sym (all_vehicles (q.vehicle + 1) ∙ ap (λ (v : ℕ). tip_trials day v (drop v rounds)) (add-one q.vehicle)))

    task_at : q.task < length its
        → tip_rest day rounds q ≡ task_from (tips day) (suc q.vehicle) q.task q.tip (get_or its q.task lunch) ++ tip_rest day rounds (next_task q)
    unfolding tip_rest tasks_from
    task_at h = rw (drop-cons its q.task lunch h, append_assoc, add-one q.task, all_tasks (suc q.vehicle) (suc q.task)) refl

-- a word that is no tip's has no trials, and a tip's word has its own
idle_word : (most number t : ℕ) (x : Option ℕ) (task : Task) → ((y : ℕ) → word_for task ≡ tip y → ⊥) → task_from most number t x task ≡ []
unfolding task_from
idle_word most number t x (serve k) o = refl
idle_word most number t x (empty y) o = absurd (o y refl)
idle_word most number t x lunch o = refl

tip_word_lem : (most number t y : ℕ) (x : Option ℕ) (task : Task) → word_for task ≡ tip y → task_from most number t x task ≡ tip_from most number t y x
unfolding task_from
tip_word_lem most number t y x (serve k) e = absurd cc
tip_word_lem most number t y x (empty k) e = let same : k ≡ y = cc in rw same refl
tip_word_lem most number t y x lunch e = absurd cc

-- by the tables
module _ (t : Listing) (s : ListingOf t) where
  among : {v : ℕ} → v < t.count → v < length s.rounds
  among h = omega (arith, s.surveyed.counted)

  laid : Laid t.plan.now t.starts.now s.rounds s.lefts
  laid = record { text = s.text; starting = s.surveyed.starting }

  -- where a vehicle's words end, and that they stand within the plan
  end_at : {v : ℕ} → v < t.count → get_or t.starts.now (v + 1) 0 ≡ get_or t.starts.now v 0 + length (get_or s.rounds v []) + 2
  end_at h = start_next laid (among h)

  end_within : {v : ℕ} → v < t.count → get_or t.starts.now (v + 1) 0 ≤ length t.plan.now
  end_within h = vehicle_inside laid (among h)

  pub its_vehicle : {v : ℕ} → v < t.count → VehicleIn t.plan.now t.starts.now v
  its_vehicle h = vehicle_in laid (among h) (omega (arith, s.surveyed.counted, s.few))

  module _ (q : TipPlace) (h : q.vehicle < t.count) (l : q.task < length (get_or s.rounds q.vehicle [])) where
    abbrev task : Task
    task = get_or (get_or s.rounds q.vehicle []) q.task lunch

    is_known : Known s.day task
    is_known =
        every_at (Known s.day) (get_or s.rounds q.vehicle []) q.task lunch
        (every_at (Every (Known s.day)) s.rounds q.vehicle [] s.known (among h)) l

    -- a task without trials
    passes : (r : Listed TipPlace) → task_from (tips s.day) (suc q.vehicle) q.task q.tip task ≡ [] → r.trial ≡ None → r.next ≡ next_task q
        → Goes (tip_rest s.day s.rounds) q r
    passes r e f n = goes_past f (rw (task_at s.day s.rounds q l, e, n) refl)

    -- a tip
    tip_goes : (y : ℕ) (r : Listed TipPlace) → ((x : Option ℕ) → task_from (tips s.day) (suc q.vehicle) q.task x task ≡ tip_from (tips s.day) (suc q.vehicle) q.task y x)
        → TipTells (tips s.day) y q r → Goes (tip_rest s.day s.rounds) q r
    tip_goes y r same (tells_no_tip _ f e n) = passes r (same q.tip ∙ e) f n
    tip_goes y r same (tells_tip _ m x f e n) =
        goes_with f (rw (task_at s.day s.rounds q l, same q.tip, e, n, task_at s.day s.rounds (at_tip q x) l, same (Some x)) refl)

-- one step over the tips
module _ (t : Listing) (q : TipPlace) (r : Listed TipPlace) (some : SomeTip t q) (a b : ℕ) (ea : a ≡ get_or t.starts.now q.vehicle 0) (eb : b ≡ get_or t.starts.now (q.vehicle + 1) 0) where
  pub vehicle_ends : a + 1 + q.task + 1 ≡ b → r.trial ≡ None → r.next ≡ next_vehicle q → Step tip_part t q r
  vehicle_ends e f n =
      record {
        goes = λ s. goes_past f (rw (tasks_over s.day s.rounds q (omega (arith, end_at t s some.within)), n) refl);
        fits = rw n (λ l. omega (arith, end_at t some.tables l));
        falls = λ _. rw n (omega (arith, end_within t some.tables some.within));
      }

  -- at a task
  module _ (w : ℕ) (more : a + 1 + q.task + 1 ≡ b → ⊥) (ew : w ≡ get_or t.plan.now (a + 1 + q.task) 0) where
    inside : (s : ListingOf t) → q.task < length (get_or s.rounds q.vehicle [])
    inside s = omega (arith, some.fits, end_at t s some.within)

    its_word : (s : ListingOf t) → word_of w ≡ word_for (task t s q some.within (inside s))
    its_word s =
        ap word_of
        (ew ∙ ap (λ (k : ℕ). get_or t.plan.now (k + 1 + q.task) 0) ea ∙ task_word_lem (laid t s) (among t s some.within) q.task (inside s))
        ∙ task_form s.day (task t s q some.within (inside s)) (is_known t s q some.within (inside s))

    -- the next task fits, and there are fewer words behind it
    next_fits : r.next ≡ next_task q → TipFits t.starts.now t.count r.next
    next_fits n = rw n (λ l. omega (arith, some.fits))

    next_falls : r.next ≡ next_task q → tip_part.left t r.next < tip_part.left t q
    next_falls n = rw n (omega (arith, some.fits, end_within t some.tables some.within))

    -- it is no tip
    pub idle_passes : ((y : ℕ) → word_of w ≡ tip y → ⊥) → r.trial ≡ None → r.next ≡ next_task q → Step tip_part t q r
    idle_passes idle f n =
        record {
          goes = λ s.
              passes t s q some.within (inside s) r
              (idle_word (tips s.day) (suc q.vehicle) q.task q.tip (task t s q some.within (inside s)) (λ y e. idle y (its_word s ∙ e))) f n;
          fits = next_fits n;
          falls = λ _. next_falls n;
        }

    -- it is one
    tells_fits : (y : ℕ) → TipTells t.tips y q r → TipFits t.starts.now t.count r.next
    tells_fits y (tells_no_tip _ e n m) = next_fits m
    tells_fits y (tells_tip _ m x e n f) = rw f (λ l. some.fits)

    tells_next : (y : ℕ) → TipTells t.tips y q r → r.trial ≡ None → r.next ≡ next_task q
    tells_next y (tells_no_tip _ e n m) f = m
    tells_next y (tells_tip _ m x e n g) f = absurd (none_some f e)

    pub tip_steps : (y : ℕ) → word_of w ≡ tip y → TipTells t.tips y q r → Step tip_part t q r
    tip_steps y e tells =
        record {
          goes = λ s.
              tip_goes t s q some.within (inside s) y r
              (λ x. tip_word_lem (tips s.day) (suc q.vehicle) q.task y x (task t s q some.within (inside s)) (sym (its_word s) ∙ e))
              (rw s.tips_is at tells);
          fits = tells_fits y tells;
          falls = λ f. next_falls (tells_next y tells f);
        }
