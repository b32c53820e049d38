-- Outside of the span of an edit stands no task that it changes. Assumes nothing.
use Rattle.std.specs.Prelude.{if◌then◌else◌, Option, Some}
use Prim.Native.Nat.{ℕ, zero, suc, ◌+◌, ◌-◌, ◌≤◌, ◌<◌}
use mathlib.Core.Path.{◌≡◌, refl, sym, ap, ◌∙◌}
use mathlib.Core.Bool.{Bool, true, false}
use mathlib.Core.List.{List, [], ◌∷◌, map}
use native.Mathlib.Omega.{arith}
use lib.ListN.{length, length-map, length-drop, get_or, take, drop, drop_of_length-le, take-append-drop}
use lib.Seq.{split_at, length-take-le, take-take, drop-drop}
use borrow.Author.Tests.{eq-eqb, ne_eqb}
use Rattle.rules.specs.Lists.{times}
use Rattle.rules.specs.PlanWords.{stop_word}
use Rattle.rules.specs.Plan.{serve, empty, lunch, Round, task_word, stops_on}
use Rattle.rules.specs.Edits.{Edit, before, after, swap, remove, replace, change_stop, change_tip, change, changed}
use Rattle.laws.proofs.Lists.{times_append}
use Rattle.laws.proofs.Plan.{stops_append}
use Rattle.edits.specs.Kept.{kept}
use Rattle.spans.specs.Span.{Outside, Single, PlaceOf, Holds, whole, stands, Covers}

-- tasks of which the edit changes none
all_kept : (e : Edit) (t : ℕ) (tasks : Round) → ((k : ℕ) → 1 ≤ times k (stops_on tasks) → change_stop e k ≡ serve k ∷ [])
    → ((n x : ℕ) → t ≤ n → n < t + length tasks → change_tip e n x ≡ empty x ∷ []) → changed e t tasks ≡ kept tasks
unfolding changed change kept stops_on times
all_kept e t [] f g = refl
all_kept e t (serve k ∷ tasks) f g =
    let here : change_stop e k ≡ serve k ∷ [] = f k (rw (eq-eqb k k refl) (omega arith)) in
    rw (here, all_kept e (suc t) tasks (λ j h. f j (omega arith)) (λ n x a b. g n x (omega arith) (omega arith)))
all_kept e t (empty y ∷ tasks) f g =
    let here : change_tip e t y ≡ empty y ∷ [] = g t y (omega arith) (omega arith) in
    rw (here, all_kept e (suc t) tasks f (λ n x a b. g n x (omega arith) (omega arith)))
all_kept e t (lunch ∷ tasks) f g = all_kept e (suc t) tasks f (λ n x a b. g n x (omega arith) (omega arith))

-- the task that a stop's word is of
stop_at : (tasks : Round) (at k : ℕ) → k < 256 → at < length tasks → get_or (map task_word tasks) at 0 ≡ stop_word k → get_or tasks at lunch ≡ serve k
unfolding task_word
stop_at [] at k s l e = absurd (omega arith)
stop_at (serve x ∷ tasks) zero k s l e = ap serve (omega (arith, e))
stop_at (empty x ∷ tasks) zero k s l e = absurd (omega (arith, e))
stop_at (lunch ∷ tasks) zero k s l e = absurd (omega (arith, e))
stop_at (task ∷ tasks) (suc at) k s l e = stop_at tasks at k s (omega arith) e

-- a stop stands in the two parts of the tasks as often as in all
times_split : (k n : ℕ) (tasks : Round) → times k (stops_on (take n tasks)) + times k (stops_on (drop n tasks)) ≡ times k (stops_on tasks)
times_split k n tasks =
    sym (times_append k (stops_on (take n tasks)) (stops_on (drop n tasks)))
    ∙ ap (times k) (sym (stops_append (take n tasks) (drop n tasks)))
    ∙ ap (λ (ts : Round). times k (stops_on ts)) (take-append-drop n tasks)

-- a stop that stands once at most stands at no other place
module _ (k : ℕ) (tasks : Round) (at : ℕ) (l : at < length tasks) (is : get_or tasks at lunch ≡ serve k) (once : times k (stops_on tasks) ≤ 1) where
  times_parts : times k (stops_on tasks) ≡ times k (stops_on (take at tasks)) + (1 + times k (stops_on (drop (suc at) tasks)))
  unfolding stops_on times
  times_parts =
      ap (λ (ts : Round). times k (stops_on ts)) (split_at tasks at lunch l)
      ∙ ap (times k) (stops_append (take at tasks) (get_or tasks at lunch ∷ drop (suc at) tasks))
      ∙ times_append k (stops_on (take at tasks)) (stops_on (get_or tasks at lunch ∷ drop (suc at) tasks))
      ∙ rw (is, eq-eqb k k refl) refl

  none_ahead : (first : ℕ) → first ≤ at → times k (stops_on (take first tasks)) ≡ 0
  none_ahead first h = omega (arith, times_parts, times_split k first (take at tasks), ap (λ (ts : Round). times k (stops_on ts)) (take-take first at tasks h))

  none_behind : (i : ℕ) → at < i → times k (stops_on (drop i tasks)) ≡ 0
  none_behind i h =
      let whole : suc at + (i - suc at) ≡ i = omega arith in
      let rest = drop-drop (i - suc at) (suc at) tasks ∙ ap (λ (n : ℕ). drop n tasks) whole in
      omega (arith, times_parts, times_split k (i - suc at) (drop (suc at) tasks), ap (λ (ts : Round). times k (stops_on ts)) rest)

-- a stop stands nowhere outside of a span
record Clear (k : ℕ) (tasks : Round) (first last : ℕ) : Type 0 where
  pub ahead : times k (stops_on (take first tasks)) ≡ 0
  pub behind : (i : ℕ) → last < i → times k (stops_on (drop i tasks)) ≡ 0

-- because it stands nowhere
none_clear : (k : ℕ) (tasks : Round) (first last : ℕ) → times k (stops_on tasks) ≡ 0 → Clear k tasks first last
none_clear k tasks first last z = record { ahead = omega (arith, times_split k first tasks); behind = λ i h. omega (arith, times_split k i tasks) }

-- because the span has its word
holds_clear : (tasks : Round) (k : ℕ) {words : List ℕ} {first last : ℕ} → words ≡ map task_word tasks → k < 256 → times k (stops_on tasks) ≤ 1 → Holds words k first last
    → Clear k tasks first last
unfolding stops_on times
holds_clear tasks k w s o (whole a b) =
    record {
      ahead = rw a refl;
      behind = λ i h.
          let l : length tasks ≤ i = omega (arith, ap length w, length-map tasks task_word) in
          ap (λ (ts : Round). times k (stops_on ts)) (drop_of_length-le tasks l);
    }
holds_clear tasks k w s o (stands at l e a b) =
    let below : at < length tasks = omega (arith, ap length w, length-map tasks task_word) in
    let is : get_or tasks at lunch ≡ serve k = stop_at tasks at k s below (sym (ap (λ (ws : List ℕ). get_or ws at 0) w) ∙ e) in
    record { ahead = none_ahead k tasks at below is o _ a; behind = λ i h. none_behind k tasks at below is o i (omega arith) }

-- such a span begins within the tasks
holds_within : (tasks : Round) {words : List ℕ} {k first last : ℕ} → words ≡ map task_word tasks → Holds words k first last → first ≤ length tasks
holds_within tasks w (whole a b) = omega arith
holds_within tasks w (stands at l e a b) = omega (arith, ap length w, length-map tasks task_word)

-- a stop that stands somewhere is none that stands nowhere
other_stop : (i k : ℕ) (ks : List ℕ) → times i ks ≡ 0 → 1 ≤ times k ks → k ≡ i → ⊥
other_stop i k ks z h e = omega (arith, ap (λ (j : ℕ). times j ks) e)

-- an edit of two stops
module _ (e : Edit) (i j : ℕ) (stops : (k : ℕ) → (k ≡ i → ⊥) → (k ≡ j → ⊥) → change_stop e k ≡ serve k ∷ []) (tips : (n x : ℕ) → change_tip e n x ≡ empty x ∷ []) where
  -- where neither stands, nothing changes
  two_kept : (t : ℕ) (tasks : Round) → times i (stops_on tasks) ≡ 0 → times j (stops_on tasks) ≡ 0 → changed e t tasks ≡ kept tasks
  two_kept t tasks a b = all_kept e t tasks (λ k h. stops k (other_stop i k (stops_on tasks) a h) (other_stop j k (stops_on tasks) b h)) (λ n x _ _. tips n x)

  -- and so outside of a span
  two_outside : (tasks : Round) {first last : ℕ} → first ≤ length tasks → Clear i tasks first last → Clear j tasks first last → Outside e tasks first last
  two_outside tasks {first} l a b =
      record {
        within = l;
        ahead = two_kept 0 (take first tasks) a.ahead b.ahead;
        behind = λ n h. two_kept n (drop n tasks) (a.behind n h) (b.behind n h);
      }

  -- that has both words
  both_held : (tasks : Round) {words : List ℕ} {first last : ℕ} → words ≡ map task_word tasks → i < 256 → j < 256 → times i (stops_on tasks) ≤ 1 → times j (stops_on tasks) ≤ 1
      → Holds words i first last → Holds words j first last → Outside e tasks first last
  both_held tasks w a b o p h g = two_outside tasks (holds_within tasks w h) (holds_clear tasks i w a o h) (holds_clear tasks j w b p g)

-- what an interchange leaves as it is
swap_stop : (i j k : ℕ) → (k ≡ i → ⊥) → (k ≡ j → ⊥) → change_stop (swap i j) k ≡ serve k ∷ []
unfolding change_stop
swap_stop i j k a b = rw (ne_eqb k i a, ne_eqb k j b) refl

-- the span of each edit, from the words that the code has found
module _ (i j : ℕ) (tasks : Round) {words : List ℕ} {first last : ℕ} (w : words ≡ map task_word tasks) (iSmall : i < 256) (jSmall : j < 256) where
  pub before_span : (here : Bool) → Single (before i j) here tasks → Holds words i first last → Holds words j first last → Outside (before i j) tasks first last
  unfolding Single change_stop change_tip
  before_span here s h g = both_held (before i j) i j (λ k a b. rw (ne_eqb k j b, ne_eqb k i a) refl) (λ n x. refl) tasks w iSmall jSmall s.0 s.1 h g

  pub after_span : (here : Bool) → Single (after i j) here tasks → Holds words i first last → Holds words j first last → Outside (after i j) tasks first last
  unfolding Single change_stop change_tip
  after_span here s h g = both_held (after i j) i j (λ k a b. rw (ne_eqb k j b, ne_eqb k i a) refl) (λ n x. refl) tasks w iSmall jSmall s.0 s.1 h g

  pub swap_span : (here : Bool) → Single (swap i j) here tasks → Holds words (if here then i else j) first last → Outside (swap i j) tasks first last
  unfolding Single change_tip
  swap_span true s h =
      two_outside (swap i j) i j (swap_stop i j) (λ n x. refl) tasks (holds_within tasks w h) (holds_clear tasks i w iSmall s.0 h) (none_clear j tasks first last s.1)
  swap_span false s h =
      two_outside (swap i j) i j (swap_stop i j) (λ n x. refl) tasks (holds_within tasks w h) (none_clear i tasks first last s.1) (holds_clear tasks j w jSmall s.0 h)

-- an edit of a tip
module _ (e : Edit) (at : ℕ) (stops : (k : ℕ) → change_stop e k ≡ serve k ∷ []) (tips : (n x : ℕ) → (n ≡ at → ⊥) → change_tip e n x ≡ empty x ∷ []) where
  tip_outside : (tasks : Round) {words : List ℕ} {first last : ℕ} → words ≡ map task_word tasks → Covers words at first last → Outside e tasks first last
  tip_outside tasks {words} {first} {last} w c =
      let long : length words ≡ length tasks = omega (arith, ap length w, length-map tasks task_word) in
      let front : length (take first tasks) ≡ first = length-take-le first tasks (omega (arith, c.within)) in
      record {
        within = omega (arith, c.within);
        ahead = all_kept e 0 (take first tasks) (λ k h. stops k) (λ n x a b. tips n x (λ q. omega (arith, c.ahead)));
        behind = λ i h. all_kept e i (drop i tasks) (λ k g. stops k) (λ n x a b. tips n x (λ q. past i h n a b q));
      }
    where
      past : (i : ℕ) → last < i → (n : ℕ) → i ≤ n → n < i + length (drop i tasks) → n ≡ at → ⊥
      past i h n a b q =
          let below : last < length words = omega (arith, ap length w, length-map tasks task_word, length-drop i tasks) in
          omega (arith, c.behind below)

-- the span of each
module _ (at : ℕ) (tasks : Round) {words : List ℕ} {first last : ℕ} (w : words ≡ map task_word tasks) (c : Covers words at first last) where
  pub remove_span : Outside (remove at) tasks first last
  unfolding change_stop change_tip
  remove_span = tip_outside (remove at) at (λ k. refl) (λ n x h. rw (ne_eqb n at h) refl) tasks w c

  pub replace_span : (x : ℕ) → Outside (replace at x) tasks first last
  unfolding change_stop change_tip
  replace_span x = tip_outside (replace at x) at (λ k. refl) (λ n y h. rw (ne_eqb n at h) refl) tasks w c

-- a place that was found lies in the span
pub place_held : {words : List ℕ} {k place first last : ℕ} {choice : Option ℕ} → PlaceOf words k choice → choice ≡ Some place → first ≤ place → place ≤ last
    → Holds words k first last
place_held {words} {k} {place} p e a b = let found : PlaceOf words k (Some place) = rw e at p in stands place found.0 found.1 a b
