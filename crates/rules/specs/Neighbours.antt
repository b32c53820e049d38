-- The neighbours of a stop: document 01, "Trials". Assumes nothing.
use Rattle.std.specs.Prelude.{ℕ, zero, suc, ◌+◌, ◌*◌, Bool, true, false, not, ◌&&◌, List, [], ◌∷◌, leb, ltb, eqb}
use Rattle.rules.specs.Tests.{least}
use Rattle.rules.specs.Fields.{stops, stop_place, opening, closing, service, leg_minutes}

-- t from i to j
abbrev pub between : List ℕ → ℕ → ℕ → ℕ
between day i j = leg_minutes day (stop_place day i) (stop_place day j)

-- "other stops j with E_j ≤ L_i + V_i + t and E_i + V_i + t ≤ L_j"
unfoldable pub compatible : List ℕ → ℕ → ℕ → Bool
compatible day i j =
    not (eqb i j)
    && (leb (opening day (stop_place day j)) (closing day (stop_place day i) + service day (stop_place day i) + between day i j)
    && leb (opening day (stop_place day i) + service day (stop_place day i) + between day i j) (closing day (stop_place day j)))

-- "the K least t, ties lowest number": by minutes, then by number, which is below 256
unfoldable pub neighbour_key : List ℕ → ℕ → ℕ → ℕ
neighbour_key day i j = between day i j * 256 + j

-- compatible, and behind the last one
unfoldable pub behind : List ℕ → ℕ → ℕ → ℕ → Bool
behind day i last j = compatible day i j && ltb last (neighbour_key day i j)

-- the next neighbour, 0 for none
unfoldable pub next_neighbour : List ℕ → ℕ → ℕ → ℕ
next_neighbour day i last = least (behind day i last) (neighbour_key day i) (stops day)

-- at most so many neighbours behind the last one
unfoldable pub neighbours_after : List ℕ → ℕ → ℕ → ℕ → List ℕ
neighbours_after day i zero last = []
neighbours_after day i (suc more) last =
    elim (eqb (next_neighbour day i last) 0) [
      | true ↦ []
      | false ↦ next_neighbour day i last ∷ neighbours_after day i more (neighbour_key day i (next_neighbour day i last))
    ]

-- "the K least t", in order
unfoldable pub neighbours : List ℕ → ℕ → ℕ → List ℕ
neighbours day K i = neighbours_after day i K 0
