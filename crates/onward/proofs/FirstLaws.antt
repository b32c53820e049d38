-- A task in front of what is left of a vehicle, word by word as the code does it.
-- Assumes nothing.
use Prim.Native.Nat.{ℕ, ◌-◌, ◌≤◌, ◌<◌}
use mathlib.Core.Path.{◌≡◌, refl, ap, ◌∙◌, subst}
use mathlib.Core.List.{List}
use native.Mathlib.Omega.{arith}
use borrow.Author.Tests.{le-leb, lt-leb, eq-eqb, ne_eqb}
use Rattle.rules.specs.Fields.{tips, stops, stop_place, load_limit, quantity}
use Rattle.rules.specs.PlanWords.{stop, tip, word_of}
use Rattle.rules.specs.Plan.{serve, empty, Known}
use Rattle.plan_words.specs.Reading.{task_said}
use Rattle.plan_words.proofs.TaskWords.{task_told}
use Rattle.onward.specs.Behind.{distance_onward, stop_first, tip_first, SomeTaskWord}
use Rattle.onward.specs.declared.Onward.{Onward}

-- what is left, by its four parts
abbrev onward : ℕ → ℕ → ℕ → ℕ → Onward
onward least most next distance = record { least = least; most = most; next = next; distance = distance }

-- a stop that fits on top, and one that does not
module _ (day : List ℕ) (o : Onward) (k : ℕ) {q place distance : ℕ} (kg : q ≡ quantity day (stop_place day k)) (at : place ≡ stop_place day k)
    (far : distance ≡ distance_onward day place o) where
  pub stop_fits : {least : ℕ} → least ≡ o.least - q → q ≤ o.most → onward least (o.most - q) place distance ≡ stop_first day k o
  unfolding stop_first
  stop_fits e h = rw (e, far, kg, at, le-leb (quantity day (stop_place day k)) o.most (rw kg at h)) refl

  pub stop_over : {r : Onward} → o.most < q → r ≡ onward 1 0 place distance → r ≡ stop_first day k o
  unfolding stop_first
  stop_over h e = e ∙ rw (far, at, lt-leb (quantity day (stop_place day k)) o.most (rw kg at h)) refl

-- a tip behind which no load is asked for, and one behind which there is
module _ (day : List ℕ) (o : Onward) (x : ℕ) {distance : ℕ} (far : distance ≡ distance_onward day x o) where
  pub tip_empties : {r : Onward} {limit : ℕ} → limit ≡ load_limit day → o.least ≡ 0 → r ≡ onward 1 0 x distance
      → onward r.least limit r.next r.distance ≡ tip_first day x o
  unfolding tip_first
  tip_empties e h f = rw (f, e, far, eq-eqb o.least 0 h) refl

  pub tip_over : {r : Onward} → (o.least ≡ 0 → ⊥) → r ≡ onward 1 0 x distance → r ≡ tip_first day x o
  unfolding tip_first
  tip_over h e = e ∙ rw (far, ne_eqb o.least 0 h) refl

-- the number of a known stop's word, and of a known tip's
known_stop : (day : List ℕ) (k : ℕ) → Known day (serve k) → (0 < k) × (k ≤ stops day)
unfolding Known
known_stop day k n = (omega (arith, n.0), n.1)

known_tip : (day : List ℕ) (x : ℕ) → Known day (empty x) → x ≤ tips day
unfolding Known
known_tip day x n = n.1

module _ (day : List ℕ) (w k : ℕ) (s : SomeTaskWord day w) where
  pub stop_number : word_of w ≡ stop k → (0 < k) × (k ≤ stops day)
  stop_number e = known_stop day k (subst (Known day) (task_told day w s.task s.known s.is ∙ ap task_said e) s.known)

  pub tip_number : word_of w ≡ tip k → k ≤ tips day
  tip_number e = known_tip day k (subst (Known day) (task_told day w s.task s.known s.is ∙ ap task_said e) s.known)
