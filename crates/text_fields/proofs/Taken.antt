-- What `take_while` gives passes its test. Assumes nothing.
use mathlib.Core.Path.{◌≡◌}
use mathlib.Core.Bool.{Bool, true, false}
use denote.Param.Members.{Mut}
use denote.Ref.{Bor}
use Rattle.std.specs.Prelude.{Option, Some, None}
use Rattle.std.specs.Bool.{MatchBool}
use Rattle.std.specs.Option.{MatchOption}
use Rattle.std.specs.Fn.{CalledAt}

-- a step that gives x: the source gave it, and the test told that it passes
pub taken_passes : {A F : Type 0} {g : Mut F (Bor A × Unit {0}) Bool} {test : A → Bool} {x : A} {f q : F} (done : Bool) (D N Y E : Type 0) (B : Option A → Type 0)
    → MatchBool done ((Some x ≡ None) × D) ((o : Option A) × B o × MatchOption o ((Some x ≡ None) × N)
    (λ y. (b : Bool) × CalledAt g f y b q × MatchBool b ((Some x ≡ Some y) × Y) ((Some x ≡ None) × E)))
    → ((y : A) (b : Bool) → CalledAt g f y b q → b ≡ test y) → true ≡ test x
taken_passes {A} {F} {g} {test} {x} {f} {q} done D N Y E B step told = go done step
  where
    Given : Option A → Type 0
    Given o = MatchOption o ((Some x ≡ None) × N) (λ y. (b : Bool) × CalledAt g f y b q × MatchBool b ((Some x ≡ Some y) × Y) ((Some x ≡ None) × E))

    passes : (o : Option A) → Given o → true ≡ test x
    passes None h = let e = h.0 in cc
    passes (Some y) (true, called, m) = let e = m.0 in let k = told y true called in cc
    passes (Some y) (false, called, m) = let e = m.0 in cc

    go : (done : Bool) → MatchBool done ((Some x ≡ None) × D) ((o : Option A) × B o × Given o) → true ≡ test x
    go true h = let e = h.0 in cc
    go false h = passes h.0 h.2
