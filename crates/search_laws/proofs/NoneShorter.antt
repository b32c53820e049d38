-- No trial listed for a plan is kept exactly when "none gives a lawful, shorter plan". Assumes nothing.
use Prim.Native.Nat.{ℕ, ◌<◌}
use mathlib.Core.Path.{◌≡◌, refl, sym, ◌∙◌}
use mathlib.Core.Bool.{true}
use mathlib.Core.List.{List, Memᴰ}
use mathlib.Core.Logic.{◌↔◌, inl, inr}
use mathlib.Core.Option.{none, some, none-ne-some}
use native.Mathlib.Omega.{arith}
use lib.Dec.{ltb}
use borrow.Author.Tests.{lt-ltb, ltb-true, ltb-false}
use Rattle.rules.specs.Fields.{IsAccepted}
use Rattle.rules.specs.Plan.{Round, plan_words}
use Rattle.rules.specs.Lawful.{Lawful}
use Rattle.rules.specs.Check.{check_plan}
use Rattle.rules.specs.Edits.{Trial}
use Rattle.rules.specs.TrialList.{trial_list}
use Rattle.rules.specs.Attempts.{tried, distance_of, is_lawful, kept_if, attempt}
use Rattle.rules.specs.Search.{in_turn, trial_lists}
use Rattle.rules.specs.Demands.{NoneShorter}
use Rattle.laws.proofs.Decided.{known, known_option}
use Rattle.plan_laws.proofs.Theorems.{lawful_iff}
use Rattle.search_laws.proofs.KeptTrials.{attempt_kept}
use Rattle.search_laws.proofs.Searching.{in_turn_mem, in_turn_of}

module _ (day lefts : List ℕ) (a : IsAccepted day) where
  -- on an accepted day the check calls vehicles lawful exactly when they are
  pub check_lawful : (rounds : List Round) → (is_lawful day lefts rounds ≡ true) ↔ Lawful day (plan_words rounds lefts)
  unfolding is_lawful check_plan
  check_lawful rounds =
      let told = lawful_iff day (plan_words rounds lefts) in
      (λ e. (told.0 (rw a e)).1, λ l. rw a at (told.1 (a, l)))

  -- a trial that gives a lawful, shorter plan is kept
  keeps_shorter : (rounds other : List Round) (m : Trial) → tried day rounds m ≡ some other → Lawful day (plan_words other lefts)
      → distance_of day other < distance_of day rounds → attempt day lefts rounds m ≡ some other
  unfolding attempt kept_if
  keeps_shorter rounds other m t l h = rw (t, lt-ltb (distance_of day other) (distance_of day rounds) h, (check_lawful other).1 l) refl

  -- a plan's trials for these K: none is kept exactly when none gives a lawful, shorter plan
  module _ (Ks : List ℕ) (rounds : List Round) where
    no_shorter : ((m : Trial) → Memᴰ m (in_turn (trial_lists day Ks rounds)) → attempt day lefts rounds m ≡ none) → NoneShorter day Ks rounds lefts
    no_shorter n = record {
      none = λ K k m i other t l. elim (known (ltb (distance_of day other) (distance_of day rounds))) [
        | inl h ↦ absurd (none-ne-some other
            (sym (n m (in_turn_mem (trial_list day) Ks K rounds m k i)) ∙ keeps_shorter rounds other m t l (ltb-true _ _ h)))
        | inr h ↦ ltb-false _ _ h
      ];
    }

    not_kept : NoneShorter day Ks rounds lefts → (m : Trial) → Memᴰ m (in_turn (trial_lists day Ks rounds)) → attempt day lefts rounds m ≡ none
    not_kept n m i = elim (known_option (attempt day lefts rounds m)) [
      | inl e ↦ e
      | inr s ↦
          let k = attempt_kept day lefts rounds m s.0 s.1 in
          let j = in_turn_of (trial_list day) Ks rounds m i in
          absurd (omega (arith, n.none j.0 j.1 m j.2 s.0 k.given ((check_lawful s.0).0 k.lawful), k.shorter))
    ]

    pub none_shorter : ((m : Trial) → Memᴰ m (in_turn (trial_lists day Ks rounds)) → attempt day lefts rounds m ≡ none) ↔ NoneShorter day Ks rounds lefts
    none_shorter = (no_shorter, not_kept)
