-- The keys of a stop's neighbours: what a key comes to, and the pass over all keys for the least above the last one.
-- Assumes nothing.
use Rattle.std.specs.Prelude.{if◌then◌else◌, min, fold, Option, Some, None}
use Rattle.std.specs.Option.{unwrap_or}
use Prim.Native.Nat.{ℕ, zero, suc, ◌+◌, ◌*◌, ◌≤◌, ◌<◌}
use mathlib.Core.Path.{◌≡◌, refl, sym, ap, ◌∙◌}
use mathlib.Core.Bool.{Bool, true, false, not, ◌&&◌}
use mathlib.Core.List.{List, [], ◌∷◌}
use mathlib.Core.Logic.{inl, inr}
use native.Mathlib.Nat.{eq-or-lt_of_le}
use native.Mathlib.Numerals.{add-one}
use native.Mathlib.Omega.{arith}
use lib.Dec.{eqb, leb, ltb}
use lib.ListN.{length, get_or, set, length-set, take}
use lib.Seq.{take_all}
use Rattle.std.proofs.lemmas.List.Sums.{fold_more}
use borrow.Author.Tests.{ltb-true, ltb-false}
use Rattle.std.proofs.Math.Nat.{min-eq_left, min-eq_right}
use Rattle.rules.specs.Fields.{stops, stop_place, service}
use Rattle.rules.specs.Neighbours.{between, compatible, neighbour_key}
use Rattle.laws.proofs.Lists.{entries_next}
use Rattle.day.specs.Layout.{WindowOf, LegOf}
use Rattle.day.specs.declared.fields.Leg.{Leg}
use Rattle.day.specs.declared.fields.Window.{Window}
use Rattle.neighbours.specs.Tables.{no_key, key_or_none, KeysTo, key_above, best_above, least_above}

-- the test of a neighbour, by what is read; and its key
pub compatible_by : (day : List ℕ) (i j : ℕ) (here there : Window) (v away : ℕ) → WindowOf day (stop_place day i) here → WindowOf day (stop_place day j) there
    → v ≡ service day (stop_place day i) → away ≡ between day i j
    → (not (eqb i j) && (leb there.opening (here.closing + v + away) && leb (here.opening + v + away) there.closing)) ≡ compatible day i j
unfolding compatible
compatible_by day i j here there v away h t e l = rw (h.opens, h.closes, t.opens, t.closes, e, l) refl

pub key_is : (day : List ℕ) (i j : ℕ) {b : Bool} {p q : ℕ} (leg : Leg) → b ≡ compatible day i j → b ≡ true → LegOf day p q leg
    → p ≡ stop_place day i → q ≡ stop_place day j
    → Some (leg.minutes * 256 + j) ≡ (if compatible day i j then Some (neighbour_key day i j) else None)
unfolding neighbour_key
key_is day i j leg tested t l e f = rw (← tested, t, l.takes, e, f) refl

-- a key, or what stands for none
pub key_by : (day : List ℕ) (i j : ℕ) {choice : Option ℕ} {key : ℕ} → choice ≡ (if compatible day i j then Some (neighbour_key day i j) else None)
    → key ≡ unwrap_or choice no_key → key ≡ key_or_none day i j
unfolding key_or_none
key_by day i j e k = k ∙ rw e (go (compatible day i j))
  where
    go : (b : Bool) → unwrap_or (if b then Some (neighbour_key day i j) else None) no_key ≡ (if b then neighbour_key day i j else no_key)
    go true = refl
    go false = refl

-- one key more
pub keys_next : (day : List ℕ) (i n : ℕ) (keys : List ℕ) (x : ℕ) → KeysTo day i n keys → n < stops day → x ≡ key_or_none day i (n + 1)
    → KeysTo day i (n + 1) (set keys n x)
keys_next day i n keys x k l e =
    let next = entries_next (λ j y. y ≡ key_or_none day i (suc j)) keys n x (omega (arith, k.size)) (e ∙ ap (key_or_none day i) (add-one n)) k.each in
    record { size = length-set keys n x ∙ k.size; each = λ j l. next j (omega arith) }

-- a key above the last one that the pass finds
pub record Found (last : ℕ) (keys : List ℕ) (x : ℕ) : Type 0 where
  pub at : ℕ
  pub within : at < length keys
  pub here : get_or keys at 0 ≡ x
  pub above : last < x

-- what the pass comes to from some best so far
pub record IsBest (last best : ℕ) (keys : List ℕ) (x : ℕ) : Type 0 where
  pub most : x ≤ best
  pub found : x < best → Found last keys x
  pub minimal : (j : ℕ) → j < length keys → last < get_or keys j 0 → x ≤ get_or keys j 0

-- one key of the pass
data Step (last best key : ℕ) : ℕ → Type 0 where
  keeps : (last < key → best ≤ key) → Step last best key best
  takes : last < key → key < best → Step last best key key

one_step : (last best key : ℕ) → Step last best key (best_above last best key)
unfolding best_above
one_step last best key = go (ltb last key) refl
  where
    lesser : last < key → (b : Bool) → ltb key best ≡ b → Step last best key (min best key)
    lesser h true e = rw (min-eq_right {n = key} {m = best} (omega (arith, ltb-true key best e))) (takes h (ltb-true key best e))
    lesser h false e = rw (min-eq_left (ltb-false key best e)) (keeps (λ _. ltb-false key best e))

    go : (b : Bool) → ltb last key ≡ b → Step last best key (if b then min best key else best)
    go true e = lesser (ltb-true last key e) (ltb key best) refl
    go false e = keeps (λ h. absurd (omega (arith, ltb-false last key e)))

module _ (last key : ℕ) (keys : List ℕ) {x : ℕ} where
  later : Found last keys x → Found last (key ∷ keys) x
  later f = record { at = suc f.at; within = omega (arith, f.within); here = f.here; above = f.above }

  minimal_of : {next : ℕ} → x ≤ next → (last < key → next ≤ key) → ((j : ℕ) → j < length keys → last < get_or keys j 0 → x ≤ get_or keys j 0)
      → (j : ℕ) → j < length (key ∷ keys) → last < get_or (key ∷ keys) j 0 → x ≤ get_or (key ∷ keys) j 0
  minimal_of a h m zero l g = omega (arith, h g)
  minimal_of a h m (suc j) l g = m j (omega arith) g

  best_step : (best : ℕ) {next : ℕ} → Step last best key next → IsBest last next keys x → IsBest last best (key ∷ keys) x
  best_step best (keeps f) h = record { most = h.most; found = λ l. later (h.found l); minimal = minimal_of h.most f h.minimal }
  best_step best (takes f g) h = record {
    most = omega (arith, h.most);
    found = λ l. elim (eq-or-lt_of_le h.most) [
      | inl e ↦ record { at = 0; within = omega arith; here = sym e; above = omega arith }
      | inr q ↦ later (h.found q)
    ];
    minimal = minimal_of h.most (λ _. omega arith) h.minimal;
  }

best_is : (last best : ℕ) (keys : List ℕ) → IsBest last best keys (fold (best_above last) best keys)
best_is last best [] = record { most = omega arith; found = λ l. absurd (omega arith); minimal = λ j l. absurd (omega arith) }
best_is last best (key ∷ keys) = best_step last key keys best (one_step last best key) (best_is last (best_above last best key) keys)

pub least_key_is : (last : ℕ) (keys : List ℕ) → IsBest last no_key keys (least_above last keys)
unfolding least_above
least_key_is last keys = best_is last no_key keys

-- the pass, key by key
pub above_none : (last : ℕ) (keys : List ℕ) → no_key ≡ least_above last (take 0 keys)
unfolding least_above
above_none last keys = refl

best_by : (last best key : ℕ) → best ≤ no_key → min best (key_above last key) ≡ best_above last best key
unfolding key_above best_above
best_by last best key h = go (ltb last key)
  where
    go : (b : Bool) → min best (if b then key else no_key) ≡ (if b then min best key else best)
    go true = refl
    go false = min-eq_left h

pub above_next : (last : ℕ) (keys : List ℕ) (i best above next : ℕ) → i < length keys → best ≤ no_key → best ≡ least_above last (take i keys)
    → above ≡ key_above last (get_or keys i 0) → next ≡ min best above → next ≡ least_above last (take (i + 1) keys)
unfolding least_above
above_next last keys i best above next l h e a n =
    n ∙ ap (min best) a ∙ best_by last best (get_or keys i 0) h
    ∙ ap (λ (b : ℕ). best_above last b (get_or keys i 0)) e ∙ sym (fold_more (best_above last) no_key keys i 0 l)

pub above_all : (last : ℕ) (keys : List ℕ) (i best : ℕ) → best ≡ least_above last (take i keys) → length keys ≤ i → best ≡ least_above last keys
above_all last keys i best e l = e ∙ ap (least_above last) (take_all i keys l)
