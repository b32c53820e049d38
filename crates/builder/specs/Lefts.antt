-- The words of the stops that no vehicle routes while they are written, by what they say. It serves the contracts of this crate's own functions. Assumes nothing.
use Rattle.std.specs.Prelude.{ℕ, zero, suc, ◌<◌, ◌≡◌, Bool, false, List, [], ◌∷◌, ◌++◌, map, if◌then◌else◌}
use Rattle.rules.specs.PlanWords.{left}
use Rattle.rules.specs.Build.{remaining}
use Rattle.laws.specs.Marks.{marked}
use Rattle.marks.specs.declared.Marks.{Marks}
use Rattle.plan_words.specs.Said.{Said}
use Rattle.greedy_laws.specs.States.{unrouted}

-- the marked ones of the r numbers from k on, rising
unfoldable pub listed : (ℕ → Bool) → ℕ → ℕ → List ℕ
listed m k zero = []
listed m k (suc r) = if m k then k ∷ listed m (suc k) r else listed m (suc k) r

-- the first marked stops are said at the front of the part, which was p, and the marks are those of the others; all were the marks at first
pub record Leaving (n : ℕ) (p : List ℕ) (all : ℕ → Bool) (part : List ℕ) (at : ℕ) (m : Marks) : Type 0 where
  pub written : List ℕ
  pub text : Said (map left written) p part at
  pub whole : written ++ listed (marked m.words) 1 n ≡ listed all 1 n
  pub low : marked m.words 0 ≡ false
  pub high : (j : ℕ) → n < j → marked m.words j ≡ false

-- the stops still to be routed are said at the front of the part
abbrev pub LeavesAll : List ℕ → Marks → List ℕ → ℕ → Type 0
LeavesAll part m now end =
    (n : ℕ) (taken : List ℕ) → n < 256 → marked m.words ≡ unrouted n taken → Said (map left (remaining taken 1 n)) part now end

-- the part, which stood so at first, now stands so
abbrev pub LeavesOn : List ℕ → Marks → List ℕ → ℕ → Marks → Type 0
LeavesOn part first now at m =
    (n : ℕ) (taken : List ℕ) → n < 256 → marked first.words ≡ unrouted n taken → Leaving n part (marked first.words) now at m
