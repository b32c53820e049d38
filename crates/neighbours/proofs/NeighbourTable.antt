-- The neighbours by their keys: the least key above the last one is that of the next neighbour, and the rows of the table are the lists.
-- Assumes nothing.
use Prim.Native.Nat.{ℕ, zero, suc, ◌+◌, ◌%◌, ◌≤◌, ◌<◌}
use mathlib.Core.Path.{◌≡◌, refl, sym, ap, ◌∙◌}
use mathlib.Core.Bool.{true}
use mathlib.Core.List.{List, ◌∷◌}
use mathlib.Core.Logic.{inl, inr}
use native.Mathlib.Nat.{eq-zero-or-pos, eq-or-lt_of_le}
use native.Mathlib.Omega.{arith}
use native.Mathlib.Numerals.{add-one}
use lib.Dec.{eqb}
use lib.ListN.{length, get_or, set, take}
use lib.Seq.{get_or-take}
use borrow.Author.Tests.{eq-eqb, ne_eqb}
use Rattle.rules.specs.Tests.{least}
use Rattle.laws.specs.Least.{IsLeast}
use Rattle.rules.specs.Fields.{stops}
use Rattle.rules.specs.Neighbours.{compatible, neighbour_key, behind, next_neighbour, neighbours_after, neighbours}
use Rattle.laws.proofs.Lists.{entries_next}
use Rattle.laws.proofs.Decided.{known}
use Rattle.laws.proofs.Least.{least_is, least_only}
use Rattle.neighbours.specs.Tables.{TableOf, RowOf, no_key, key_or_none, KeysOf, least_above, key_after, stop_of_key, RowBy}
use Rattle.neighbours.proofs.KeyLaws.{Found, IsBest, least_key_is}
use Rattle.neighbours.proofs.NeighbourLaws.{behind_both, is_behind, neighbours_stop, neighbours_more}

-- every key is less than what stands for none, and shows its stop
key_below : (day : List ℕ) (i j : ℕ) → j < 256 → neighbour_key day i j < no_key
unfolding neighbour_key
key_below day i j h = omega arith

key_stop : (day : List ℕ) (i j : ℕ) → j < 256 → neighbour_key day i j % 256 ≡ j
unfolding neighbour_key
key_stop day i j h = omega arith

keys_apart : (day : List ℕ) (i j k : ℕ) → j < 256 → k < j → neighbour_key day i j ≤ neighbour_key day i k → neighbour_key day i j < neighbour_key day i k
unfolding neighbour_key
keys_apart day i j k h g l = omega arith

-- a compatible stop has its key; what has a key below the one for none is compatible
key_found : (day : List ℕ) (i j : ℕ) → compatible day i j ≡ true → key_or_none day i j ≡ neighbour_key day i j
unfolding key_or_none
key_found day i j e = rw e refl

key_compatible : (day : List ℕ) (i j : ℕ) → key_or_none day i j < no_key → compatible day i j ≡ true
unfolding key_or_none
key_compatible day i j h = elim (known (compatible day i j)) [ inl e ↦ e | inr e ↦ absurd (omega (arith, rw e at h)) ]

-- what the least key above the last one tells of the next neighbour
record Joins (day : List ℕ) (i last x : ℕ) : Type 0 where
  pub stop : next_neighbour day i last ≡ stop_of_key x
  pub none : next_neighbour day i last ≡ 0 → x ≡ no_key
  pub some : (next_neighbour day i last ≡ 0 → ⊥) → neighbour_key day i (next_neighbour day i last) ≡ x

module _ (day : List ℕ) (i : ℕ) (keys : List ℕ) (few : stops day ≤ 240) (k : KeysOf day i keys) where
  -- each stop has its key in the pass
  key_at : (j : ℕ) → 0 < j → j ≤ stops day → (at : ℕ) × (j ≡ suc at) × (at < length keys) × (get_or keys at 0 ≡ key_or_none day i j)
  key_at zero p l = absurd (omega arith)
  key_at (suc at) p l = (at, refl, omega (arith, k.size), k.each at (omega arith))

  none_behind : (last x : ℕ) → IsBest last no_key keys x → x ≡ no_key → IsLeast (behind day i last) (neighbour_key day i) (stops day) 0
  none_behind last x h e = record {
    within = omega arith;
    none = λ _ j p l. elim (known (behind day i last j)) [
      | inl t ↦
          let b = behind_both day i last j t in
          let a = key_at j p l in
          let here : get_or keys a.0 0 ≡ neighbour_key day i j = a.3 ∙ key_found day i j b.0 in
          absurd (omega (arith, h.minimal a.0 a.2 (omega (arith, here, b.1)), here, key_below day i j (omega arith)))
      | inr t ↦ t
    ];
    passes = λ z. absurd (omega arith);
    minimal = λ z. absurd (omega arith);
    lowest = λ z. absurd (omega arith);
  }

  module _ (last x : ℕ) (h : IsBest last no_key keys x) (l : x < no_key) where
    abbrev found : Found last keys x
    found = h.found l

    abbrev stop : ℕ
    stop = suc found.at

    stop_within : stop ≤ stops day
    stop_within = omega (arith, found.within, k.size)

    found_compatible : compatible day i stop ≡ true
    found_compatible = key_compatible day i stop (omega (arith, k.each found.at (omega (arith, found.within, k.size)), found.here))

    found_key : neighbour_key day i stop ≡ x
    found_key = sym (key_found day i stop found_compatible) ∙ sym (k.each found.at (omega (arith, found.within, k.size))) ∙ found.here

    found_behind : IsLeast (behind day i last) (neighbour_key day i) (stops day) stop
    found_behind = record {
      within = stop_within;
      none = λ z. absurd (omega arith);
      passes = λ _. is_behind day i last stop found_compatible (omega (arith, found.above, found_key));
      minimal = λ _ j p g t. least_of_lem j p g t;
      lowest = λ _ j p g t. keys_apart day i stop j (omega (arith, stop_within)) g (least_of_lem j p (omega (arith, stop_within)) t);
    }
      where
        least_of_lem : (j : ℕ) → 0 < j → j ≤ stops day → behind day i last j ≡ true → neighbour_key day i stop ≤ neighbour_key day i j
        least_of_lem j p g t =
            let b = behind_both day i last j t in
            let a = key_at j p g in
            let here : get_or keys a.0 0 ≡ neighbour_key day i j = a.3 ∙ key_found day i j b.0 in
            omega (arith, h.minimal a.0 a.2 (omega (arith, here, b.1)), here, found_key)

  joins : (last : ℕ) → Joins day i last (least_above last keys)
  unfolding next_neighbour stop_of_key
  joins last = go (least_above last keys) (least_key_is last keys)
    where
      only : {j : ℕ} → IsLeast (behind day i last) (neighbour_key day i) (stops day) j → least (behind day i last) (neighbour_key day i) (stops day) ≡ j
      only = least_only (behind day i last) (neighbour_key day i) (stops day) _ _ (least_is (behind day i last) (neighbour_key day i) (stops day))

      go : (x : ℕ) → IsBest last no_key keys x → Joins day i last x
      go x h = elim (eq-or-lt_of_le h.most) [
        | inl e ↦
            let q = only (none_behind last x h e) in
            record { stop = rw (eq-eqb x no_key e) q; none = λ _. e; some = λ n. absurd (n q) }
        | inr l ↦
            let q = only (found_behind last x h l) in
            record {
              stop = rw (ne_eqb x no_key (λ e. omega arith)) (q ∙ sym (ap (λ (y : ℕ). y % 256) (sym (found_key last x h l)) ∙ key_stop day i (stop last x h l) (omega (arith, stop_within last x h l))));
              none = λ z. absurd (omega arith);
              some = λ n. ap (neighbour_key day i) q ∙ found_key last x h l;
            }
      ]

  -- nothing is above what stands for none
  above_no_key : least_above no_key keys ≡ no_key
  above_no_key = let h = least_key_is no_key keys in elim (eq-or-lt_of_le h.most) [ inl e ↦ e | inr l ↦ absurd (omega (arith, (h.found l).above)) ]

  -- the first step of many
  after_first : (last r : ℕ) → key_after keys last (suc r) ≡ key_after keys (least_above last keys) r
  unfolding key_after
  after_first last zero = refl
  after_first last (suc r) = ap (λ (x : ℕ). least_above x keys) (after_first last r)

  after_none : (r : ℕ) → key_after keys no_key r ≡ no_key
  unfolding key_after
  after_none zero = refl
  after_none (suc r) = ap (λ (x : ℕ). least_above x keys) (after_none r) ∙ above_no_key

  neighbours_by : (K last r : ℕ) → r < K → get_or (neighbours_after day i K last) r 0 ≡ stop_of_key (key_after keys last (suc r))
  unfolding stop_of_key key_after
  neighbours_by zero last r h = absurd (omega arith)
  neighbours_by (suc more) last r h = elim (eq-zero-or-pos (next_neighbour day i last)) [
    | inl z ↦
        rw (neighbours_stop day i last more z)
        (sym (ap stop_of_key (after_first last r ∙ ap (λ (x : ℕ). key_after keys x r) ((joins last).none z) ∙ after_none r)))
    | inr l ↦ rw (neighbours_more day i last more l) (go l (neighbours_by more (neighbour_key day i (next_neighbour day i last))) r h)
  ]
    where
      key : ℕ
      key = neighbour_key day i (next_neighbour day i last)

      go : 0 < next_neighbour day i last
          → ((s : ℕ) → s < more → get_or (neighbours_after day i more key) s 0 ≡ stop_of_key (key_after keys key (suc s)))
          → (r : ℕ) → r < suc more → get_or (next_neighbour day i last ∷ neighbours_after day i more key) r 0 ≡ stop_of_key (key_after keys last (suc r))
      go l rest zero h = (joins last).stop
      go l rest (suc r) h =
          rest r (omega arith)
          ∙ ap (λ (x : ℕ). stop_of_key (key_after keys x (suc r))) ((joins last).some (λ e. omega arith))
          ∙ sym (ap stop_of_key (after_first last (suc r)))

-- the next key, and a row as it is written
pub key_first : (keys : List ℕ) → 0 ≡ key_after keys 0 0
unfolding key_after
key_first keys = refl

pub key_next : (keys : List ℕ) (r last : ℕ) {next : ℕ} → last ≡ key_after keys 0 r → next ≡ least_above last keys → next ≡ key_after keys 0 (r + 1)
unfolding key_after
key_next keys r last e h = rw (add-one, key_after) (h ∙ ap (λ (x : ℕ). least_above x keys) e)

pub row_none : (keys row : List ℕ) → RowBy keys 0 row
row_none keys row = record { each = λ s l. absurd (omega arith) }

pub row_next : (keys row : List ℕ) (r last x : ℕ) → RowBy keys r row → r < length row → last ≡ key_after keys 0 (r + 1) → x ≡ stop_of_key last
    → RowBy keys (r + 1) (set row r x)
row_next keys row r last x w l e f =
    let next = entries_next (λ s y. y ≡ stop_of_key (key_after keys 0 (suc s))) row r x l (f ∙ ap stop_of_key (e ∙ ap (key_after keys 0) (add-one r))) w.each in
    record { each = λ s h. next s (omega arith) }

pub row_all : (keys row : List ℕ) (r k : ℕ) → RowBy keys r row → k ≤ r → RowBy keys k row
row_all keys row r k w h = record { each = λ s l. w.each s (omega arith) }

-- the row by the keys of stop i is the row of its neighbours
pub row_of : (day : List ℕ) (K i : ℕ) (keys row : List ℕ) → stops day ≤ 240 → KeysOf day i keys → RowBy keys K row → length row ≡ K → RowOf day i K row
unfolding neighbours
row_of day K i keys row few k w size = record { size = size; each = λ r h. w.each r h ∙ sym (neighbours_by day i keys few k K 0 r h) }

-- the first K of more neighbours are the neighbours for K
fewer_after : (day : List ℕ) (i K more last : ℕ) → K ≤ more → neighbours_after day i K last ≡ take K (neighbours_after day i more last)
unfolding neighbours_after
fewer_after day i zero more last h = refl
fewer_after day i (suc K) zero last h = absurd (omega arith)
fewer_after day i (suc K) (suc more) last h = elim (known (eqb (next_neighbour day i last) 0)) [
  | inl e ↦ rw (e, neighbours_after) refl
  | inr e ↦ rw (e, neighbours_after)
      (ap (λ (js : List ℕ). next_neighbour day i last ∷ js) (fewer_after day i K more (neighbour_key day i (next_neighbour day i last)) (omega arith)))
]

-- so that a table serves every smaller K
pub table_fewer : {day : List ℕ} {more : ℕ} {table : List ℕ} → TableOf day more table → (K : ℕ) → K ≤ more → TableOf day K table
unfolding neighbours
table_fewer {day} {more} t K h = record {
  size = t.size;
  rows = λ i r p l g. t.rows i r p l (omega arith)
      ∙ sym (ap (λ (js : List ℕ). get_or js r 0) (fewer_after day i K more 0 h) ∙ get_or-take K (neighbours day more i) r 0 g);
}
