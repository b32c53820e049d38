-- A trial that is kept gives a lawful, shorter plan. Assumes nothing.
use Prim.Native.Nat.{ℕ, ◌<◌}
use mathlib.Core.Path.{◌≡◌, refl, ap, ◌∙◌}
use mathlib.Core.Bool.{true, ◌&&◌}
use mathlib.Core.List.{List}
use mathlib.Core.Option.{Option, none, some, some-injective, none-ne-some}
use lib.Dec.{ltb}
use borrow.Author.Tests.{ltb-true}
use Rattle.rules.specs.Plan.{Round}
use Rattle.rules.specs.Edits.{Trial}
use Rattle.rules.specs.Attempts.{tried, distance_of, is_lawful, kept_if, attempt}
use Rattle.laws.proofs.Tests.{both_true, only_first}

-- a trial that is kept: the plan that it gives, lawful and shorter
pub record IsKept (day lefts : List ℕ) (rounds : List Round) (m : Trial) (q : List Round) : Type 0 where
  pub given : tried day rounds m ≡ some q
  pub shorter : distance_of day q < distance_of day rounds
  pub lawful : is_lawful day lefts q ≡ true

kept_some : (day lefts : List ℕ) (rounds : List Round) (m : Trial) (q : List Round) (o : Option (List Round)) → tried day rounds m ≡ o
    → kept_if day lefts rounds o ≡ some q → IsKept day lefts rounds m q
unfolding kept_if
kept_some day lefts rounds m q none t e = absurd (none-ne-some q e)
kept_some day lefts rounds m q (some r) t e =
    let p = only_first (ltb (distance_of day r) (distance_of day rounds) && is_lawful day lefts r) (none-ne-some q) e in
    let same : r ≡ q = some-injective _ _ p.1 in
    let both = both_true (ltb (distance_of day r) (distance_of day rounds)) (is_lawful day lefts r) p.0 in
    record { given = t ∙ ap some same; shorter = ltb-true _ _ (rw same at both.0); lawful = rw same at both.1 }

pub attempt_kept : (day lefts : List ℕ) (rounds : List Round) (m : Trial) (q : List Round) → attempt day lefts rounds m ≡ some q → IsKept day lefts rounds m q
unfolding attempt
attempt_kept day lefts rounds m q = kept_some day lefts rounds m q (tried day rounds m) refl
