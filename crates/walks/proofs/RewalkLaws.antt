-- A vehicle's words changed and walked again, word by word. Assumes nothing.
use Prim.Native.Nat.{ℕ, ◌+◌, ◌≤◌, ◌<◌}
use mathlib.Core.Path.{◌≡◌, refl, sym, ap, ◌∙◌, subst}
use mathlib.Core.Bool.{Bool, true, false, true≢false}
use mathlib.Core.List.{List, [], ◌∷◌, ◌++◌}
use mathlib.Core.Option as maybe
use mathlib.Core.Option.{some}
use native.Mathlib.Omega.{arith}
use lib.ListN.{length, length-append}
use Rattle.std.specs.Prelude.{Option, Some, None}
use Rattle.rules.specs.Fields.{stops, tips}
use Rattle.rules.specs.PlanWords.{Word, vehicle, stop, tip, rest, back, left, stray, stop_word, tip_word, word_of}
use Rattle.rules.specs.Plan.{Task, serve, empty, Round, task_word, stops_on, Known}
use Rattle.rules.specs.Build.{Truck, resting}
use Rattle.rules.specs.Attempts.{walk_task, walk_next, walk_on}
use Rattle.laws.proofs.Plan.{stops_append}
use Rattle.plan_words.specs.Reading.{task_said}
use Rattle.plan_words.proofs.WordForms.{stray_read, stop_form_lem, tip_form_lem}
use Rattle.plan_words.proofs.TaskWords.{task_told}
use Rattle.edits.specs.EditWords.{Means, a_stop, a_tip, Makes, makes_none, makes_one, makes_two}
use Rattle.edits.specs.declared.Change.TheVariants.{Gone, One, Two}
use Rattle.walks.specs.Cabs.{failed, on_road, SomeStanding, Drives}
use Rattle.walks.specs.Rewalks.{Walks, MeansTasks, nothing, one_task, SomeWord, WalksWord, WalksChange, SomeChange}
use Rattle.walks.specs.declared.cabs.Cab.{Cab}
use Rattle.walks.proofs.CabLaws.{standing_fewer, stands_fewer, some_standing, on_road_lem}
use Rattle.walks.proofs.WalkLaws.{stands_goes, stands_failed}
use Rattle.walks.proofs.Walking.{failed_on}

-- what a word that is walked means, once it is taken apart
means_said : {day : List ℕ} {w : ℕ} {task : Task} → Means day w task → task ≡ task_said (word_of w)
unfolding task_word
means_said {day} (a_stop k n) = task_told day (stop_word k) (serve k) n refl
means_said {day} (a_tip x n) = task_told day (tip_word x) (empty x) n refl

means_known : {day : List ℕ} {w : ℕ} {task : Task} → Means day w task → Known day task
means_known (a_stop k n) = n
means_known (a_tip x n) = n

-- word 0 says nothing
no_word : word_of 0 ≡ stray
no_word = stray_read 0 (λ q. omega (arith, q)) (λ q. omega (arith, q)) (λ q. omega (arith, q)) (λ q. omega (arith, q)) (λ q. omega (arith, q)) (λ q. omega (arith, q))

pub record StopWord (day : List ℕ) (k : ℕ) (tasks : Round) : Type 0 where
  pub is : tasks ≡ serve k ∷ []
  pub first : 0 < k
  pub within : k ≤ stops day

known_stop : {day : List ℕ} {k : ℕ} {task : Task} → task ≡ serve k → Known day (serve k) → StopWord day k (task ∷ [])
unfolding Known
known_stop e n = record { is = ap (λ (t : Task). t ∷ []) e; first = omega (arith, n.0); within = n.1 }

pub means_stop : {day : List ℕ} {w k : ℕ} {tasks : Round} → MeansTasks day w tasks → word_of w ≡ stop k → StopWord day k tasks
means_stop {k = k} nothing l = let z : stray ≡ stop k = sym no_word ∙ l in cc
means_stop {day} (one_task w task m) l = let e = means_said m ∙ ap task_said l in known_stop e (subst (Known day) e (means_known m))

pub record TipWord (day : List ℕ) (x : ℕ) (tasks : Round) : Type 0 where
  pub is : tasks ≡ empty x ∷ []
  pub first : 0 < x
  pub within : x ≤ tips day

known_tip : {day : List ℕ} {x : ℕ} {task : Task} → task ≡ empty x → Known day (empty x) → TipWord day x (task ∷ [])
unfolding Known
known_tip e n = record { is = ap (λ (t : Task). t ∷ []) e; first = omega (arith, n.0); within = n.1 }

pub means_tip : {day : List ℕ} {w x : ℕ} {tasks : Round} → MeansTasks day w tasks → word_of w ≡ tip x → TipWord day x tasks
means_tip {x = x} nothing l = let z : stray ≡ tip x = sym no_word ∙ l in cc
means_tip {day} (one_task w task m) l = let e = means_said m ∙ ap task_said l in known_tip e (subst (Known day) e (means_known m))

-- a word of another kind is not walked
abbrev pub is_walked : Word → Bool
is_walked (vehicle k) = false
is_walked (stop k) = true
is_walked (tip k) = true
is_walked rest = false
is_walked back = false
is_walked (left k) = false
is_walked stray = false

pub means_walked : {day : List ℕ} {w : ℕ} {task : Task} → Means day w task → is_walked (word_of w) ≡ true
unfolding Known
means_walked (a_stop k n) = ap is_walked (stop_form_lem k (omega (arith, n.1)))
means_walked (a_tip x n) = ap is_walked (tip_form_lem x (omega (arith, n.1)))

-- word 0, the one word of another kind that is asked of: the vehicle is as it was, and so is a trial that has failed
pub word_other : {day part : List ℕ} {c r : Option Cab} {w : ℕ} → is_walked (word_of w) ≡ false → r ≡ c → WalksWord day part c w part r
unfolding walk_on
word_other f q start most more p o tasks nothing s = rw q (stands_fewer (omega arith) s)
word_other f q start most more p o tasks (one_task w task m) s = absurd (true≢false (sym (means_walked m) ∙ f))

-- a trial that has failed stays so
pub word_failed : {day part : List ℕ} {c r : Option Cab} {w : ℕ} → c ≡ None → r ≡ None → WalksWord day part c w part r
word_failed {day} q e start most more p o tasks m s = let f = stands_failed o (rw q at s) in rw (e, f.0, failed_on day tasks) (failed f.1)

-- the vehicle before a word
pub word_standing : {day part : List ℕ} {c : Option Cab} {b : Cab} {w : ℕ} (s : SomeWord day part c w) → c ≡ Some b → SomeStanding day (length (stops_on s.tasks)) part b
word_standing s q = let t = rw q at s.stands in some_standing (omega arith) (stands_goes s.o t).standing

one_stop : {tasks : Round} {k : ℕ} → tasks ≡ serve k ∷ [] → length (stops_on tasks) ≡ 1
unfolding stops_on
one_stop e = rw e refl

pub stop_standing : {day part : List ℕ} {c : Cab} {k : ℕ} {tasks : Round} → StopWord day k tasks → SomeStanding day (length (stops_on tasks)) part c → SomeStanding day 1 part c
stop_standing t s = some_standing (omega (arith, one_stop t.is, s.enough)) s.standing

-- a stop and a tip, behind a rest where one is due
pub word_stop : {day part mid now : List ℕ} {c r : Option Cab} {b e : Cab} {w k : ℕ} → Drives day 0 part b (λ v. some (resting day v)) mid (Some e) → word_of w ≡ stop k
    → Drives day 1 mid e (λ v. walk_task day v (serve k)) now r → c ≡ Some b → WalksWord day part c w now r
unfolding walk_on walk_next
word_stop f l h q start most more p o tasks m s =
    let t = means_stop m l in
    let g = stands_goes o (rw q at s) in
    let u = on_road_lem (f start most (1 + more) p g.v (standing_fewer (omega (arith, one_stop t.is)) g.standing)) in
    rw (t.is, g.is) (h start most more p (resting _ g.v) u)

pub word_tip : {day part mid now : List ℕ} {c r : Option Cab} {b e : Cab} {w x : ℕ} → Drives day 0 part b (λ v. some (resting day v)) mid (Some e) → word_of w ≡ tip x
    → Drives day 0 mid e (λ v. walk_task day v (empty x)) now r → c ≡ Some b → WalksWord day part c w now r
unfolding walk_on walk_next
word_tip f l h q start most more p o tasks m s =
    let t = means_tip m l in
    let g = stands_goes o (rw q at s) in
    let u = on_road_lem (f start most more p g.v (standing_fewer (omega arith) g.standing)) in
    rw (t.is, g.is) (h start most more p (resting _ g.v) (standing_fewer (omega arith) u))

-- two parts of what is walked
pub walk_append : (day : List ℕ) (xs ys : Round) (o : maybe.Option Truck) → walk_on day (xs ++ ys) o ≡ walk_on day ys (walk_on day xs o)
unfolding walk_on
walk_append day [] ys o = refl
walk_append day (task ∷ xs) ys o = walk_append day xs ys (walk_next day task o)

pub stops_both : (xs ys : Round) → length (stops_on (xs ++ ys)) ≡ length (stops_on xs) + length (stops_on ys)
stops_both xs ys = ap length (stops_append xs ys) ∙ length-append (stops_on xs) (stops_on ys)

module _ {day part : List ℕ} {c : Cab} (xs ys : Round) where
  -- the trial fails on the first part, or both are walked
  pub walks_failed : {now : List ℕ} → Walks day part c xs now None → Walks day part c (xs ++ ys) now None
  walks_failed f start most more p v s =
      let d = stands_failed (walk_on day xs (some v)) (f start most (length (stops_on ys) + more) p v (standing_fewer (omega (arith, stops_both xs ys)) s)) in
      rw (walk_append day xs ys (some v), d.0, failed_on day ys) (failed d.1)

  pub walks_both : {mid now : List ℕ} {e : Cab} {r : Option Cab} → Walks day part c xs mid (Some e) → Walks day mid e ys now r → Walks day part c (xs ++ ys) now r
  walks_both f g start most more p v s =
      let d = stands_goes (walk_on day xs (some v)) (f start most (length (stops_on ys) + more) p v (standing_fewer (omega (arith, stops_both xs ys)) s)) in
      rw (walk_append day xs ys (some v), d.is) (g start most more p d.v d.standing)

  -- there is still a vehicle between them
  pub some_between : {mid : List ℕ} {e : Cab} → Walks day part c xs mid (Some e) → SomeStanding day (length (stops_on (xs ++ ys))) part c
      → SomeStanding day (length (stops_on ys)) mid e
  some_between f s =
      let d = stands_goes (walk_on day xs (some s.v)) (f s.start s.most (length (stops_on ys)) s.p s.v (standing_fewer (omega (arith, stops_both xs ys, s.enough)) s.standing)) in
      some_standing (omega arith) d.standing

-- the word of one task, of a vehicle
pub some_word : {day part : List ℕ} {c : Cab} {w : ℕ} {task : Task} → Means day w task → SomeStanding day (length (stops_on (task ∷ []))) part c → SomeWord day part (Some c) w
some_word m s =
    record {
      start = s.start;
      most = s.most;
      more = 0;
      p = s.p;
      o = some s.v;
      tasks = _;
      means = one_task _ _ m;
      stands = on_road s.v _ (standing_fewer (omega (arith, s.enough)) s.standing);
    }

pub word_walks : {day part now : List ℕ} {c : Cab} {w : ℕ} {task : Task} {r : Option Cab} → Means day w task → WalksWord day part (Some c) w now r
    → Walks day part c (task ∷ []) now r
word_walks m h start most more p v s = h start most more p (some v) _ (one_task _ _ m) (on_road v _ s)

-- what a word has become
module _ {day part : List ℕ} {c : Cab} where
  pub change_none : WalksChange day part c Gone part (Some c)
  unfolding walk_on
  change_none tasks makes_none start most more p v s = on_road v c (standing_fewer (omega arith) s)

  pub change_one : {w : ℕ} {now : List ℕ} {r : Option Cab} → WalksWord day part (Some c) w now r → WalksChange day part c (One w) now r
  change_one h tasks (makes_one w task m) = word_walks m h

  pub change_failed : {v w : ℕ} {now : List ℕ} → WalksWord day part (Some c) v now None → WalksChange day part c (Two v w) now None
  change_failed h tasks (makes_two v w first second a b) = walks_failed (first ∷ []) (second ∷ []) (word_walks a h)

  pub change_two : {v w : ℕ} {mid now : List ℕ} {e : Cab} {r : Option Cab} → WalksWord day part (Some c) v mid (Some e) → WalksWord day mid (Some e) w now r
      → WalksChange day part c (Two v w) now r
  change_two h g tasks (makes_two v w first second a b) = walks_both (first ∷ []) (second ∷ []) (word_walks a h) (word_walks b g)

-- before each word there is a vehicle
module _ {day part : List ℕ} {c : Cab} where
  made_one : {w : ℕ} (tasks : Round) → Makes day (One w) tasks → SomeStanding day (length (stops_on tasks)) part c → SomeWord day part (Some c) w
  made_one tasks (makes_one w task m) s = some_word m s

  made_first : {v w : ℕ} (tasks : Round) → Makes day (Two v w) tasks → SomeStanding day (length (stops_on tasks)) part c → SomeWord day part (Some c) v
  made_first tasks (makes_two v w first second a b) s =
      some_word a (some_standing (omega (arith, stops_both (first ∷ []) (second ∷ []), s.enough)) s.standing)

  made_second : {v w : ℕ} {mid : List ℕ} {e : Cab} (tasks : Round) → Makes day (Two v w) tasks → SomeStanding day (length (stops_on tasks)) part c
      → WalksWord day part (Some c) v mid (Some e) → SomeWord day mid (Some e) w
  made_second tasks (makes_two v w first second a b) s h = some_word b (some_between (first ∷ []) (second ∷ []) (word_walks a h) s)

  pub some_one : {w : ℕ} → SomeChange day part c (One w) → SomeWord day part (Some c) w
  some_one s = made_one s.tasks s.makes s.stands

  pub some_first : {v w : ℕ} → SomeChange day part c (Two v w) → SomeWord day part (Some c) v
  some_first s = made_first s.tasks s.makes s.stands

  pub some_second : {v w : ℕ} {mid : List ℕ} {e : Cab} → SomeChange day part c (Two v w) → WalksWord day part (Some c) v mid (Some e) → SomeWord day mid (Some e) w
  some_second s h = made_second s.tasks s.makes s.stands h
