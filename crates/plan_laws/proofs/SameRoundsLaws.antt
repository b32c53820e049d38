-- Same rounds: the call answers 1 exactly on two lawful plans whose vehicles visit the same stops in order, and 0 exactly on two other
-- lawful plans. Assumes nothing.
use Rattle.std.specs.Prelude.{if◌then◌else◌}
use Prim.Native.Nat.{ℕ}
use mathlib.Core.Path.{◌≡◌, refl, sym, ap, ◌∙◌}
use mathlib.Core.Bool.{Bool, true, false, false≢true}
use mathlib.Core.List.{List, [], ◌∷◌}
use mathlib.Core.Logic.{◌↔◌}
use native.Mathlib.Omega.{arith}
use lib.ListN.{length, get_or}
use Rattle.rules.specs.Answers.{given, is_given}
use Rattle.rules.specs.Lists.{mem}
use Rattle.rules.specs.Fields.{IsAccepted}
use Rattle.rules.specs.Lawful.{Lawful}
use Rattle.rules.specs.Check.{check_plan}
use Rattle.rules.specs.SameRounds.{is_visit, SameBy, counted, same_words, behind, second_answer, same_rounds}
use Rattle.laws.proofs.Tests.{only_first, only_second}
use Rattle.plan_laws.proofs.CountedWords.{same_counted_lem}
use Rattle.plan_laws.proofs.LawfulIff.{lawful_iff}
use Rattle.plan_laws.proofs.Numbers.{refused_by, check_numbers}

-- the call on two plans
module _ (day first second : List ℕ) where
  -- 1 for the same words that count, 0 for others
  abbrev verdict : ℕ
  verdict = if same_words (counted is_visit first) (counted is_visit second) then 1 else 0

  -- it is answered on two lawful plans of an accepted day, and on no others
  both_answered : IsAccepted day → Lawful day first → Lawful day second → same_rounds day first second ≡ given (verdict ∷ [])
  unfolding same_rounds second_answer
  both_answered a one two = rw ((lawful_iff day first).1 (a, one), (lawful_iff day second).1 (a, two))

  second_given : (v : ℕ) → second_answer day first second ≡ given (v ∷ []) → (is_given (check_plan day second) ≡ true) × (verdict ≡ v)
  unfolding second_answer mem
  second_given v e = go (is_given (check_plan day second)) refl e
    where
      go : (b : Bool) → is_given (check_plan day second) ≡ b → (if b then given (verdict ∷ []) else behind (length first) (check_plan day second)) ≡ given (v ∷ [])
          → (is_given (check_plan day second) ≡ true) × (verdict ≡ v)
      go true x q = (x, ap (λ (xs : List ℕ). get_or xs 1 0) q)
      go false x q =
          let none : get_or (check_plan day second) 0 0 ≡ 0 = ap (λ (xs : List ℕ). get_or xs 0 0) q in
          absurd (false≢true (rw none at (refused_by (check_numbers day second) x)))

  first_given : (v : ℕ) → same_rounds day first second ≡ given (v ∷ []) → (is_given (check_plan day first) ≡ true) × (second_answer day first second ≡ given (v ∷ []))
  unfolding same_rounds
  first_given v e = go (is_given (check_plan day first)) refl e
    where
      go : (b : Bool) → is_given (check_plan day first) ≡ b → (if b then second_answer day first second else check_plan day first) ≡ given (v ∷ [])
          → (is_given (check_plan day first) ≡ true) × (second_answer day first second ≡ given (v ∷ []))
      go true x q = (x, q)
      go false x q = absurd (false≢true (sym x ∙ ap is_given q))

  -- what an answer tells
  record Compared (v : ℕ) : Type 0 where
    accepted : IsAccepted day
    one : Lawful day first
    two : Lawful day second
    answer : verdict ≡ v

  compared : (v : ℕ) → same_rounds day first second ≡ given (v ∷ []) → Compared v
  compared v e =
      let f = first_given v e in
      let s = second_given v f.1 in
      let l = (lawful_iff day first).0 f.0 in
      record { accepted = l.0; one = l.1; two = ((lawful_iff day second).0 s.0).1; answer = s.1 }

  -- the call answers 1 exactly on two lawful plans of an accepted day that have the same rounds
  pub same_iff : (same_rounds day first second ≡ given (1 ∷ [])) ↔ (IsAccepted day × SameBy is_visit day first second)
  same_iff = (
    λ e.
        let c = compared 1 e in
        let same = (only_first (same_words (counted is_visit first) (counted is_visit second)) (λ z. omega arith) c.answer).0 in
        (c.accepted, record { one = c.one; two = c.two; same = (same_counted_lem is_visit day first second c.one c.two).0 same }),
    λ h.
        let s = h.1 in
        both_answered h.0 s.one s.two ∙ rw ((same_counted_lem is_visit day first second s.one s.two).1 s.same),
  )

  -- and 0 exactly on two that have not
  pub different_iff : (same_rounds day first second ≡ given (0 ∷ [])) ↔ (IsAccepted day × Lawful day first × Lawful day second × (SameBy is_visit day first second → ⊥))
  different_iff = (
    λ e.
        let c = compared 0 e in
        let other = (only_second (same_words (counted is_visit first) (counted is_visit second)) (λ z. omega arith) c.answer).0 in
        (c.accepted, c.one, c.two, λ s. false≢true (sym other ∙ (same_counted_lem is_visit day first second s.one s.two).1 s.same)),
    λ h. both_answered h.0 h.1 h.2 ∙ go (same_words (counted is_visit first) (counted is_visit second)) refl h.1 h.2 h.3,
  )
    where
      go : (b : Bool) → same_words (counted is_visit first) (counted is_visit second) ≡ b → Lawful day first → Lawful day second → (SameBy is_visit day first second → ⊥)
          → given ((if b then 1 else 0) ∷ []) ≡ given (0 ∷ [])
      go true x one two n = absurd (n (record { one = one; two = two; same = (same_counted_lem is_visit day first second one two).0 x }))
      go false x one two n = refl
