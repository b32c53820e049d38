-- The rows of one vehicle, written from its E word backwards.
-- Assumes nothing.
use Prim.Native.Nat.{ℕ, suc, ◌+◌, ◌-◌, ◌*◌, ◌≤◌, ◌<◌}
use mathlib.Core.Path.{◌≡◌, refl, sym, ap, ◌∙◌}
use mathlib.Core.List.{List, ◌∷◌, map}
use mathlib.Core.Logic.{◌⊎◌, inl, inr}
use native.Mathlib.Decide.{ℕ_discrete}
use native.Mathlib.Omega.{arith}
use lib.ListN.{length, get_or, set, drop, length-drop, length-append, length-map, length-set, get_or-append}
use lib.Seq.{drop-cons, drop-length, get_or-drop, get_or-set_same, get_or-set_other}
use Rattle.rules.specs.Fields.{places}
use Rattle.rules.specs.PlanWords.{back_word, word_of}
use Rattle.rules.specs.Plan.{Task, lunch, Round, task_word, Known}
use Rattle.laws.proofs.Lists.{every_at, get_map}
use Rattle.plan_words.specs.Reading.{task_said}
use Rattle.plan_words.proofs.TaskWords.{task_told}
use Rattle.onward.specs.Behind.{homeward, task_first, onward_of, SomeTaskWord, RoundTo, SomeRoundTo, FillsBehind}
use Rattle.onward.specs.declared.TheConstants.{ROWS}
use Rattle.onward.specs.declared.Onward.{Onward}
use Rattle.onward.proofs.OnwardLaws.{onward_bounds}

-- the vehicle stands within the plan
round_inside : {day plan : List ℕ} {from end : ℕ} {tasks : Round} {rest : List ℕ} → RoundTo day plan from end tasks rest → end < length plan
round_inside {day} {plan} {from} {end} {tasks} {rest} h =
    omega (arith, h.ends, ap length h.round_at.text, length-drop from plan, length-append (map task_word tasks) (back_word ∷ rest), length-map tasks task_word)

-- the word of a task of the vehicle
round_word : {day plan : List ℕ} {from end : ℕ} {tasks : Round} {rest : List ℕ} → RoundTo day plan from end tasks rest → (i : ℕ) → i < length tasks
    → get_or plan (from + i) 0 ≡ task_word (get_or tasks i lunch)
round_word {day} {plan} {from} {end} {tasks} {rest} h i l =
    sym (get_or-drop from plan i 0) ∙ ap (λ (ws : List ℕ). get_or ws i 0) h.round_at.text
    ∙ get_or-append (map task_word tasks) (back_word ∷ rest) 0 i (omega (arith, length-map tasks task_word)) ∙ get_map task_word tasks i 0 lunch l

-- the rows from a place on are right for these tasks, and what is left there is known
pub record Filled (day : List ℕ) (behind : List Onward) (from at : ℕ) (o : Onward) (tasks : Round) : Type 0 where
  pub here : (i : ℕ) → from + i ≡ at → o ≡ onward_of day (drop i tasks)
  pub rows : (i : ℕ) → at ≤ from + i → i ≤ length tasks → get_or behind (from + i) homeward ≡ onward_of day (drop i tasks)

-- a row outside is none of the vehicle's
outside : {q p from end : ℕ} → (q < from) ⊎ (end < q) → from ≤ p → p ≤ end → q ≡ p → ⊥
outside (inl l) low high e = omega arith
outside (inr l) low high e = omega arith

-- a row is written and the rows from it on are right, whatever the tasks are; the rows outside are as they were
pub record Filling (day plan : List ℕ) (from end : ℕ) (before behind : List Onward) (at : ℕ) (o : Onward) : Type 0 where
  pub low : from ≤ at
  pub high : at ≤ end
  pub size : length behind ≡ ROWS
  pub each : (tasks : Round) (rest : List ℕ) → RoundTo day plan from end tasks rest → Filled day behind from at o tasks
  pub others : (q : ℕ) → (q < from) ⊎ (end < q) → get_or behind q homeward ≡ get_or before q homeward

-- the row of the E word
filled_start : (day : List ℕ) (before : List Onward) (from end : ℕ) (tasks : Round) → end ≡ from + length tasks → end < length before
    → Filled day (set before end homeward) from end homeward tasks
unfolding onward_of
filled_start day before from end tasks ends l =
    record {
      here = left;
      rows = λ i k m.
          let e : from + i ≡ end = omega (arith, ends) in
          ap (λ (j : ℕ). get_or (set before end homeward) j homeward) e ∙ get_or-set_same before end homeward homeward l ∙ left i e;
    }
  where
    left : (i : ℕ) → from + i ≡ end → homeward ≡ onward_of day (drop i tasks)
    left i e =
        let q : i ≡ length tasks = omega (arith, ends) in
        sym (ap (λ (j : ℕ). onward_of day (drop j tasks)) q ∙ ap (onward_of day) (drop-length tasks))

-- one row more, before the others
filled_next : (day : List ℕ) (behind : List Onward) (from at p : ℕ) (o r : Onward) (tasks : Round) → Filled day behind from at o tasks → p < length behind → at ≡ p + 1
    → p < from + length tasks → ((i : ℕ) → from + i ≡ p → r ≡ task_first day (get_or tasks i lunch) o) → Filled day (set behind p r) from p r tasks
unfolding onward_of
filled_next day behind from at p o r tasks f inside e l puts =
    record {
      here = left;
      rows = λ i h m. elim (ℕ_discrete (from + i) p) [
        | yes q ↦ ap (λ (j : ℕ). get_or (set behind p r) j homeward) q ∙ get_or-set_same behind p r homeward inside ∙ left i q
        | no q ↦ get_or-set_other behind p (from + i) r homeward q ∙ f.rows i (omega (arith, q)) m
      ];
    }
  where
    left : (i : ℕ) → from + i ≡ p → r ≡ onward_of day (drop i tasks)
    left i q =
        puts i q ∙ ap (task_first day (get_or tasks i lunch)) (f.here (suc i) (omega arith))
        ∙ sym (ap (onward_of day) (drop-cons tasks i lunch (omega arith)))

-- what the code asks for where a row is written
pub record Writes (day plan : List ℕ) (p : ℕ) (o : Onward) : Type 0 where
  pub word : SomeTaskWord day (get_or plan p 0)
  pub inside : p < length plan
  pub next : o.next < places day
  pub few : o.distance ≤ 65535 * length plan

module _ {day plan : List ℕ} {from end : ℕ} (some : SomeRoundTo day plan from end) where
  pub filling_inside : (from ≤ end) × (end < length plan)
  filling_inside = (omega (arith, some.round_to.ends), round_inside some.round_to)

  pub filling_start : (before : List Onward) (o : Onward) → length before ≡ ROWS → end < length before → o ≡ homeward
      → Filling day plan from end (set before end o) (set before end o) end o
  filling_start before o h l e =
      rw e (record {
        low = filling_inside.0;
        high = omega arith;
        size = length-set before end homeward ∙ h;
        each = λ tasks rest t. filled_start day before from end tasks t.ends l;
        others = λ q z. refl;
      })

  module _ {before behind : List Onward} {at : ℕ} {o : Onward} (f : Filling day plan from end before behind at o) where
    pub filling_writes : (p : ℕ) → from ≤ p → at ≡ p + 1 → Writes day plan p o
    filling_writes p low e =
        let t = some.round_to in
        let i = p - from in
        let here : from + i ≡ p = omega arith in
        let within : i < length some.tasks = omega (arith, t.ends, f.high) in
        let b = onward_bounds day some.tasks (suc i) t.round_at.known in
        let is : o ≡ onward_of day (drop (suc i) some.tasks) = (f.each some.tasks some.rest t).here (suc i) (omega arith) in
        record {
          word = record {
            task = get_or some.tasks i lunch;
            known = every_at (Known day) some.tasks i lunch t.round_at.known within;
            is = sym (ap (λ (j : ℕ). get_or plan j 0) here) ∙ round_word t i within;
          };
          inside = omega (arith, round_inside t, f.high);
          next = rw is b.next;
          few = rw is (omega (arith, b.distance, t.ends, round_inside t));
        }

    pub filling_next : (p : ℕ) (r : Onward) → from ≤ p → p < length behind → at ≡ p + 1 → r ≡ task_first day (task_said (word_of (get_or plan p 0))) o
        → Filling day plan from end before (set behind p r) p r
    filling_next p r low inside e puts =
        record {
          low = low;
          high = omega (arith, f.high);
          size = length-set behind p r ∙ f.size;
          each = λ tasks rest t. filled_next day behind from at p o r tasks (f.each tasks rest t) inside e (omega (arith, t.ends, f.high)) (first tasks rest t);
          others = λ q l. get_or-set_other behind p q r homeward (outside l low (omega (arith, f.high))) ∙ f.others q l;
        }
      where
        first : (tasks : Round) (rest : List ℕ) → RoundTo day plan from end tasks rest → (i : ℕ) → from + i ≡ p → r ≡ task_first day (get_or tasks i lunch) o
        first tasks rest t i q =
            let within : i < length tasks = omega (arith, t.ends, f.high) in
            let known = every_at (Known day) tasks i lunch t.round_at.known within in
            let told = task_told day (get_or plan p 0) (get_or tasks i lunch) known (sym (ap (λ (j : ℕ). get_or plan j 0) q) ∙ round_word t i within) in
            puts ∙ sym (ap (λ (task : Task). task_first day task o) told)

    pub filling_end : (first : List Onward) (r : Onward) → at ≤ from → before ≡ set first end r → FillsBehind day plan from end first behind
    filling_end first r l e =
        record {
          rows = λ tasks rest t. record { row = λ i m. (f.each tasks rest t).rows i (omega arith) m };
          others = λ q h.
              f.others q h ∙ ap (λ (xs : List Onward). get_or xs q homeward) e ∙ get_or-set_other first end q r homeward (outside h filling_inside.0 (omega arith));
        }
