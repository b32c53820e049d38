-- Places that are passed over up to the next trial, of whatever part of the list they are. Assumes nothing.
use Rattle.std.specs.Prelude.{Option, Some, None, is_some}
use mathlib.Core.Path.{◌≡◌, refl, sym, ap, ◌∙◌}
use mathlib.Core.Bool.{Bool, true, false, true≢false}
use mathlib.Core.List.{List, [], ◌∷◌}
use Rattle.rules.specs.Edits.{Trial}
use Rattle.trial_list.specs.Listing.{Goes, Tells}
use Rattle.trial_list.specs.TrialRest.{listed_trial}
use Rattle.trial_list.specs.declared.listing.Listed.{Listed}
use Rattle.trial_list.specs.declared.listing.Trial as Code

-- a list passes on, or goes on with a trial
pub none_some : {A : Type 0} {o : Option A} {m : A} → o ≡ None → o ≡ Some m → ⊥
none_some e f = cc

pub some_same : {A : Type 0} {o : Option A} {m n : A} → o ≡ Some m → o ≡ Some n → m ≡ n
some_same e f = cc

-- by the test
pub some_tested : {A : Type 0} (o : Option A) {b : Bool} → b ≡ is_some o → b ≡ true → o ≡ None → ⊥
some_tested None t e f = true≢false (sym e ∙ t)
some_tested (Some x) t e f = none_some f refl

pub none_tested : {A : Type 0} (o : Option A) {b : Bool} → b ≡ is_some o → b ≡ false → o ≡ None
none_tested None t e = refl
none_tested (Some x) t e = absurd (true≢false (sym t ∙ e))

module _ {P : Type 0} {rest : P → List Trial} {at : P} {r : Listed P} where
  pub goes_past : r.trial ≡ None → rest at ≡ rest r.next → Goes rest at r
  goes_past f e = record { some = λ m t. absurd (none_some f t); none = λ _. e }

  pub goes_with : {m : Code.Trial} → r.trial ≡ Some m → rest at ≡ listed_trial m ∷ rest r.next → Goes rest at r
  goes_with {m} f e = record { some = λ n t. rw (some_same f t) at e; none = λ t. absurd (none_some t f) }

-- so many places are passed over, whatever the tables are, up to one with a trial or to the end
module _ {S P : Type 0} (rest : S → P → List Trial) (first : P) where
  abbrev pub Passed : P → Type 0
  Passed at = (s : S) → rest s first ≡ rest s at

  module _ {at : P} {r : Listed P} (h : Passed at) where
    pub next_none : ((s : S) → rest s at ≡ []) → r.trial ≡ None → r.next ≡ at → (s : S) → Tells (rest s) first r
    next_none over f n = λ s. record { some = λ m t. absurd (none_some f t); none = λ t. (h s ∙ over s, ap (rest s) n ∙ over s) }
