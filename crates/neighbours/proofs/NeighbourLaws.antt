-- The neighbours of a stop are the first K compatible stops in the order of (minutes, number). The day may be any list of words.
-- Assumes nothing.
use Prim.Native.Nat.{ℕ, zero, suc, ◌≤◌, ◌<◌}
use mathlib.Core.Path.{◌≡◌, refl, sym, ap, ◌∙◌}
use mathlib.Core.Bool.{true, true≢false}
use mathlib.Core.List.{List, [], ◌∷◌, map, Memᴰ}
use mathlib.Core.Logic.{◌⊎◌, inl, inr}
use native.Mathlib.Nat.{eq-zero-or-pos, eq-or-lt_of_le}
use native.Mathlib.Omega.{arith}
use lib.Dec.{ltb}
use lib.ListN.{length}
use borrow.Author.Tests.{eq-eqb, ne_eqb, ltb-true, lt-ltb}
use Rattle.rules.specs.Lists.{Every, Rising}
use Rattle.laws.specs.Least.{IsLeast}
use Rattle.rules.specs.Fields.{stops}
use Rattle.rules.specs.Neighbours.{compatible, neighbour_key, behind, next_neighbour, neighbours_after, neighbours}
use Rattle.neighbours.specs.Neighbourhoods.{AreNeighbours}
use Rattle.laws.proofs.Least.{least_is}
use Rattle.laws.proofs.Tests.{both_true}

module _ (day : List ℕ) (i : ℕ) where
  -- the next one behind a key, and how the list goes on
  module _ (last : ℕ) where
    next_least : IsLeast (behind day i last) (neighbour_key day i) (stops day) (next_neighbour day i last)
    unfolding next_neighbour
    next_least = least_is (behind day i last) (neighbour_key day i) (stops day)

    pub next_within : next_neighbour day i last ≤ stops day
    next_within = next_least.within

    pub behind_both : (j : ℕ) → behind day i last j ≡ true → (compatible day i j ≡ true) × (last < neighbour_key day i j)
    unfolding behind
    behind_both j e =
        let b = both_true (compatible day i j) (ltb last (neighbour_key day i j)) e in
        (b.0, ltb-true last (neighbour_key day i j) b.1)

    pub is_behind : (j : ℕ) → compatible day i j ≡ true → last < neighbour_key day i j → behind day i last j ≡ true
    unfolding behind
    is_behind j c l = rw (c, lt-ltb last (neighbour_key day i j) l)

    pub neighbours_stop : (more : ℕ) → next_neighbour day i last ≡ 0 → neighbours_after day i (suc more) last ≡ []
    unfolding neighbours_after
    neighbours_stop more e = rw (eq-eqb (next_neighbour day i last) 0 e, neighbours_after)

    pub neighbours_more : (more : ℕ) → 0 < next_neighbour day i last
        → neighbours_after day i (suc more) last ≡ next_neighbour day i last ∷ neighbours_after day i more (neighbour_key day i (next_neighbour day i last))
    unfolding neighbours_after
    neighbours_more more l = rw (ne_eqb (next_neighbour day i last) 0 (λ e. omega arith), neighbours_after)

  -- two stops of one key are one
  key_stop : (j k : ℕ) → j ≤ stops day → k ≤ stops day → neighbour_key day i j ≡ neighbour_key day i k → j ≡ k
  unfolding neighbour_key
  key_stop j k a b e = omega arith

  -- those behind a key
  pub record Behind (K last : ℕ) (js : List ℕ) : Type 0 where
    pub few : length js ≤ K
    pub known : Every (λ j. (1 ≤ j) × (j ≤ stops day)) js
    pub suited : Every (λ j. compatible day i j ≡ true) js
    pub in_order : Rising last (map (neighbour_key day i) js)
    pub nearest : (j : ℕ) → 1 ≤ j → j ≤ stops day → compatible day i j ≡ true → last < neighbour_key day i j
        → Memᴰ j js ⊎ ((length js ≡ K) × Every (λ k. neighbour_key day i k < neighbour_key day i j) js)

  behind_none : (last : ℕ) → Behind 0 last []
  unfolding Every Rising
  behind_none last = record { few = omega arith; known = tt; suited = tt; in_order = tt; nearest = λ j a b c l. inr (refl, tt) }

  behind_stop : (more last : ℕ) → next_neighbour day i last ≡ 0 → Behind (suc more) last []
  unfolding Every Rising
  behind_stop more last e =
      record {
        few = omega arith;
        known = tt;
        suited = tt;
        in_order = tt;
        nearest = λ j a b c l. absurd (true≢false (sym (is_behind last j c l) ∙ (next_least last).none e j a b));
      }

  behind_more : (more last : ℕ) (js : List ℕ) → 0 < next_neighbour day i last → Behind more (neighbour_key day i (next_neighbour day i last)) js
      → Behind (suc more) last (next_neighbour day i last ∷ js)
  unfolding Every Rising
  behind_more more last js l h =
      let next = next_neighbour day i last in
      record {
        few = omega (arith, h.few);
        known = ((l, next_within last), h.known);
        suited = ((behind_both last next ((next_least last).passes l)).0, h.suited);
        in_order = ((behind_both last next ((next_least last).passes l)).1, h.in_order);
        nearest = λ j a b c g. elim (eq-or-lt_of_le ((next_least last).minimal l j a b (is_behind last j c g))) [
          | inl e ↦ inl (Memᴰ.head (sym (key_stop next j (next_within last) b e)))
          | inr s ↦ elim (h.nearest j a b c s) [ inl m ↦ inl (Memᴰ.tail m) | inr p ↦ inr (ap suc p.0, (s, p.1)) ]
        ];
      }

  neighbours_behind : (more last : ℕ) → Behind more last (neighbours_after day i more last)
  unfolding neighbours_after
  neighbours_behind zero last = behind_none last
  neighbours_behind (suc more) last = elim (eq-zero-or-pos (next_neighbour day i last)) [
    | inl e ↦ rw (neighbours_stop last more e) (behind_stop more last e)
    | inr l ↦ rw (neighbours_more last more l)
        (behind_more more last (neighbours_after day i more (neighbour_key day i (next_neighbour day i last))) l
        (neighbours_behind more (neighbour_key day i (next_neighbour day i last))))
  ]

pub neighbours_are : (day : List ℕ) (K i : ℕ) → AreNeighbours day K i (neighbours day K i)
unfolding neighbours neighbour_key
neighbours_are day K i =
    let h = neighbours_behind day i K 0 in
    record { few = h.few; known = h.known; suited = h.suited; in_order = h.in_order; nearest = λ j a b c. h.nearest j a b c (omega arith) }
