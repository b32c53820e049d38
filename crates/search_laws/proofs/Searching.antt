-- The facts of the budgeted search: counts within the budget, settled exactly when, never longer, and how many trials settle.
-- Assumes nothing.
use Prim.Native.Nat.{ℕ, zero, suc, ◌+◌, ◌-◌, ◌*◌, ◌≤◌, ◌<◌}
use mathlib.Core.Path.{◌≡◌, refl, sym, ap, ◌∙◌}
use mathlib.Core.Logic.{◌↔◌, inl, inr}
use mathlib.Core.Bool.{Bool, true, false, true≢false}
use mathlib.Core.Option.{Option, none, some}
use mathlib.Core.List.Memᴰ
use mathlib.Core.List.{List, [], ◌∷◌, ◌++◌, map, append-nil, Memᴰ}
use lib.Seq.{append_snoc}
use native.Mathlib.Omega.{arith}
use native.Mathlib.Numerals.{add-one}
use native.Mathlib.Nat.{mul-le-mul_right, suc-add, sub-zero}
use lib.ListN.{length, length-append}
use Rattle.rules.specs.Lists.{total}
use Rattle.rules.specs.Search.{Result, in_turn, run, improve, Held, start, kept}
use Rattle.search_laws.specs.Outcomes.{Outcome}
use Rattle.laws.proofs.Decided.{known_option}

module _ {P M : Type 0} (lists : P → List (List M)) (attempt : P → M → Option P) where
  -- The steps, for a loop of the code: behind the last list, at the end of a list, and with a trial to make.
  pub run_nil : (b : ℕ) (p : P) (c : ℕ) → run lists attempt b p [] c ≡ record { plan = p; trials = c; settled = true }
  unfolding run
  run_nil zero p c = refl
  run_nil (suc b) p c = refl

  pub run_next : (b : ℕ) (p : P) (later : List (List M)) (c : ℕ) → run lists attempt b p ([] ∷ later) c ≡ run lists attempt b p later c
  unfolding run
  run_next zero p later c = refl
  run_next (suc b) p later c = refl

  pub run_none : (b : ℕ) (p : P) (m : M) (ms : List M) (later : List (List M)) (c : ℕ) → attempt p m ≡ none
      → run lists attempt (suc b) p ((m ∷ ms) ∷ later) c ≡ run lists attempt b p (ms ∷ later) (suc c)
  unfolding run
  run_none b p m ms later c e = rw (e, run)

  pub run_some : (b : ℕ) (p q : P) (m : M) (ms : List M) (later : List (List M)) (c : ℕ) → attempt p m ≡ some q
      → run lists attempt (suc b) p ((m ∷ ms) ∷ later) c ≡ run lists attempt b q (lists q) (suc c)
  unfolding run
  run_some b p q m ms later c e = rw (e, run)

  pub loop_start : (B : ℕ) (p : P) → run lists attempt (B - 0) p (lists p) 0 ≡ improve lists attempt B p
  unfolding improve
  loop_start B p = rw sub-zero

  -- The same for a loop that counts up: B is the budget and c the trials made.
  pub loop_none : (B : ℕ) (p : P) (m : M) (ms : List M) (later : List (List M)) (c : ℕ) → c < B → attempt p m ≡ none
      → run lists attempt (B - c) p ((m ∷ ms) ∷ later) c ≡ run lists attempt (B - (c + 1)) p (ms ∷ later) (c + 1)
  loop_none B p m ms later c h e = let k : B - c ≡ suc (B - (c + 1)) = omega arith in rw (k, run_none (B - (c + 1)) p m ms later c e, add-one)

  pub loop_some : (B : ℕ) (p q : P) (m : M) (ms : List M) (later : List (List M)) (c : ℕ) → c < B → attempt p m ≡ some q
      → run lists attempt (B - c) p ((m ∷ ms) ∷ later) c ≡ run lists attempt (B - (c + 1)) q (lists q) (c + 1)
  loop_some B p q m ms later c h e = let k : B - c ≡ suc (B - (c + 1)) = omega arith in rw (k, run_some (B - (c + 1)) p q m ms later c e, add-one)

  pub loop_spent : (B : ℕ) (p : P) (m : M) (ms : List M) (later : List (List M)) (c : ℕ) → c ≡ B
      → run lists attempt (B - c) p ((m ∷ ms) ∷ later) c ≡ record { plan = p; trials = c; settled = false }
  unfolding run
  loop_spent B p m ms later c h = let k : B - c ≡ 0 = omega arith in rw (k, run)

  length_split : (p : P) (done ms : List M) → in_turn (lists p) ≡ done ++ ms → length (in_turn (lists p)) ≡ length done + length ms
  length_split p done ms e = ap length e ∙ length-append done ms

  outcome_settled : (p₀ : P) (B : ℕ) (p : P) (c : ℕ) (done : List M) (at : ℕ) → Held lists attempt p₀ p at → in_turn (lists p) ≡ done ++ []
      → ((x : M) → Memᴰ x done → attempt p x ≡ none) → c ≡ at + length done → c ≤ B → Outcome lists attempt p₀ B (record { plan = p; trials = c; settled = true })
  outcome_settled p₀ B p c done at r e n k h = record {
    at = at;
    held = r;
    since = omega arith;
    within = h;
    whole = λ _. omega (arith, length_split p done [] e);
    none_kept = λ _ m i. n m (rw (e, append-nil) at i);
    spent = λ x. absurd (true≢false x);
    missed = λ x. absurd (true≢false x);
  }

  none_more : (p : P) (done : List M) (m : M) → ((x : M) → Memᴰ x done → attempt p x ≡ none) → attempt p m ≡ none
      → (x : M) → Memᴰ x (done ++ (m ∷ [])) → attempt p x ≡ none
  none_more p done m n e x i = elim (Memᴰ.append_cases done i) [ inl j ↦ n x j | inr j ↦ ap (attempt p) (Memᴰ.eq_of_singleton j) ∙ e ]

  run_outcome : (p₀ : P) (B b : ℕ) (p : P) (mss : List (List M)) (c : ℕ) (done : List M) (at : ℕ) → Held lists attempt p₀ p at
      → in_turn (lists p) ≡ done ++ in_turn mss → ((x : M) → Memᴰ x done → attempt p x ≡ none) → c ≡ at + length done → B ≡ c + b
      → Outcome lists attempt p₀ B (run lists attempt b p mss c)
  unfolding run in_turn
  run_outcome p₀ B zero p [] c done at r e n k h = outcome_settled p₀ B p c done at r e n k (omega arith)
  run_outcome p₀ B zero p ([] ∷ later) c done at r e n k h = run_outcome p₀ B zero p later c done at r e n k h
  run_outcome p₀ B zero p ((m ∷ ms) ∷ later) c done at r e n k h = record {
    at = at;
    held = r;
    since = omega arith;
    within = omega arith;
    whole = λ x. absurd (true≢false (sym x));
    none_kept = λ x. absurd (true≢false (sym x));
    spent = λ _. omega arith;
    missed = λ _. omega (arith, length_split p done (m ∷ (ms ++ in_turn later)) e);
  }
  run_outcome p₀ B (suc b) p [] c done at r e n k h = outcome_settled p₀ B p c done at r e n k (omega arith)
  run_outcome p₀ B (suc b) p ([] ∷ later) c done at r e n k h = run_outcome p₀ B (suc b) p later c done at r e n k h
  run_outcome p₀ B (suc b) p ((m ∷ ms) ∷ later) c done at r e n k h = elim (known_option (attempt p m)) [
    | inl f ↦ rw (run_none b p m ms later c f)
        (run_outcome p₀ B b p (ms ∷ later) (suc c) (done ++ (m ∷ [])) at r (e ∙ sym (append_snoc done m (ms ++ in_turn later))) (none_more p done m n f)
        (omega (arith, length-append done (m ∷ []))) (omega arith))
    | inr s ↦ rw (run_some b p s.0 m ms later c s.1)
        (run_outcome p₀ B b s.0 (lists s.0) (suc c) [] (at + length done + 1) (kept done m (ms ++ in_turn later) r e n s.1) refl
        (λ x i. absurd (Memᴰ.not-nil i)) (omega arith) (omega arith))
  ]

  pub outcome : (b : ℕ) (p : P) → Outcome lists attempt p b (improve lists attempt b p)
  unfolding improve
  outcome b p = run_outcome p b b p (lists p) 0 [] 0 start refl (λ x i. absurd (Memᴰ.not-nil i)) (omega arith) (omega arith)

  -- Settled is said exactly when every trial listed for the plan was made within the budget and none gives a lawful, shorter plan.
  pub settled_iff : (b : ℕ) (p₀ : P) (r : Result P) (o : Outcome lists attempt p₀ b r)
      → (r.settled ≡ true) ↔ ((o.at + length (in_turn (lists r.plan)) ≤ b) × ((m : M) → Memᴰ m (in_turn (lists r.plan)) → attempt r.plan m ≡ none))
  settled_iff b p₀ r o = (λ s. (omega (arith, o.whole s), o.none_kept s), λ h. by_cases r.settled refl h.0)
    where
      by_cases : (s : Bool) → r.settled ≡ s → o.at + length (in_turn (lists r.plan)) ≤ b → r.settled ≡ true
      by_cases true e h = e
      by_cases false e h = absurd (omega (arith, o.spent e, o.missed e))

  module _ (I : P → Type 0) (keeps : (p q : P) (m : M) → Memᴰ m (in_turn (lists p)) → I p → attempt p m ≡ some q → I q) where
    -- What every kept trial of the list keeps holds of the plan that is handed over.
    pub held_keeps : {p₀ q : P} {c : ℕ} → I p₀ → Held lists attempt p₀ q c → I q
    held_keeps i start = i
    held_keeps i (kept {p = p} {q = q} done m rest r e n f) =
        keeps p q m (rw e (Memᴰ.append_right done (Memᴰ.head refl))) (held_keeps i r) f

    pub result_keeps : (b : ℕ) (p : P) → I p → I (improve lists attempt b p).plan
    result_keeps b p i = held_keeps i (outcome b p).held

  module _ (dist : P → ℕ) (shorter : (p q : P) (m : M) → attempt p m ≡ some q → dist q < dist p) where
    -- No trial lengthens the plan, whatever is left of the list.
    pub run_dist : (b : ℕ) (p : P) (mss : List (List M)) (c : ℕ) → dist (run lists attempt b p mss c).plan ≤ dist p
    unfolding run
    run_dist zero p [] c = omega arith
    run_dist zero p ([] ∷ later) c = run_dist zero p later c
    run_dist zero p ((m ∷ ms) ∷ later) c = omega arith
    run_dist (suc b) p [] c = omega arith
    run_dist (suc b) p ([] ∷ later) c = run_dist (suc b) p later c
    run_dist (suc b) p ((m ∷ ms) ∷ later) c = elim (known_option (attempt p m)) [
      | inl f ↦ rw (run_none b p m ms later c f) (run_dist b p (ms ∷ later) (suc c))
      | inr t ↦ rw (run_some b p t.0 m ms later c t.1) (omega (arith, run_dist b t.0 (lists t.0) (suc c), shorter p t.0 m t.1))
    ]

    pub improve_dist : (b : ℕ) (p : P) → dist (improve lists attempt b p).plan ≤ dist p
    unfolding improve
    improve_dist b p = run_dist b p (lists p) 0

    -- A larger budget never lengthens the plan.
    run_more : (b e : ℕ) (p : P) (mss : List (List M)) (c : ℕ) → dist (run lists attempt (b + e) p mss c).plan ≤ dist (run lists attempt b p mss c).plan
    unfolding run
    run_more zero e p [] c = rw run_nil (omega arith)
    run_more zero e p ([] ∷ later) c = rw (run_next (0 + e) p later c) (run_more zero e p later c)
    run_more zero e p ((m ∷ ms) ∷ later) c = run_dist (0 + e) p ((m ∷ ms) ∷ later) c
    run_more (suc b) e p [] c = rw (run_nil (suc b + e) p c) (omega arith)
    run_more (suc b) e p ([] ∷ later) c = rw (run_next (suc b + e) p later c) (run_more (suc b) e p later c)
    run_more (suc b) e p ((m ∷ ms) ∷ later) c = elim (known_option (attempt p m)) [
      | inl f ↦ rw (suc-add, run_none (b + e) p m ms later c f, run_none b p m ms later c f) (run_more b e p (ms ∷ later) (suc c))
      | inr t ↦ rw (suc-add, run_some (b + e) p t.0 m ms later c t.1, run_some b p t.0 m ms later c t.1)
          (run_more b e t.0 (lists t.0) (suc c))
    ]

    pub more_budget : (b b' : ℕ) (p : P) → b ≤ b' → dist (improve lists attempt b' p).plan ≤ dist (improve lists attempt b p).plan
    unfolding improve
    more_budget b b' p h = let k : b' ≡ b + (b' - b) = omega arith in rw k (run_more b (b' - b) p (lists p) 0)

    -- Each kept trial is paid by a shorter plan and at most all trials listed for the plan before it.
    module _ (I : P → Type 0) (keeps : (p q : P) (m : M) → Memᴰ m (in_turn (lists p)) → I p → attempt p m ≡ some q → I q)
        (L : ℕ) (bound : (p : P) → I p → length (in_turn (lists p)) ≤ L) where
      held_paid : {p₀ q : P} {c : ℕ} → I p₀ → Held lists attempt p₀ q c → c + dist q * L ≤ dist p₀ * L
      held_paid i start = omega arith
      held_paid i (kept {p = p} {q = q} done m rest r e n f) =
          omega (arith, held_paid i r, length_split p done (m ∷ rest) e, bound p (held_keeps I keeps i r), mul-le-mul_right L (shorter p q m f))

      pub settles : (b : ℕ) (p : P) → I p → (dist p + 1) * L ≤ b → (improve lists attempt b p).settled ≡ true
      settles b p i h = by_cases (improve lists attempt b p).settled refl
        where
          by_cases : (s : Bool) → (improve lists attempt b p).settled ≡ s → (improve lists attempt b p).settled ≡ true
          by_cases true e = e
          by_cases false e = absurd (omega (
            arith,
            (outcome b p).spent e,
            (outcome b p).missed e,
            held_paid i (outcome b p).held,
            bound (improve lists attempt b p).plan (result_keeps I keeps b p i),
          ))

-- Each trial listed for one of the K is listed, and each that is listed is so for one.
pub in_turn_mem : {P M N : Type 0} (list : N → P → List M) (Ks : List N) (K : N) (p : P) (m : M) → Memᴰ K Ks → Memᴰ m (list K p)
    → Memᴰ m (in_turn (map (λ K. list K p) Ks))
unfolding in_turn
in_turn_mem list [] K' p m i j = elim i [ ]
in_turn_mem list (K ∷ Ks) K' p m i j = elim (Memᴰ.cases_cons i) [
  | inl e ↦ Memᴰ.append_left (in_turn (map (λ K. list K p) Ks)) (rw e at j)
  | inr i' ↦ Memᴰ.append_right (list K p) (in_turn_mem list Ks K' p m i' j)
]

pub in_turn_of : {P M N : Type 0} (list : N → P → List M) (Ks : List N) (p : P) (m : M) → Memᴰ m (in_turn (map (λ K. list K p) Ks))
    → (K : N) × Memᴰ K Ks × Memᴰ m (list K p)
unfolding in_turn
in_turn_of list [] p m i = absurd (Memᴰ.not-nil i)
in_turn_of list (K ∷ Ks) p m i = elim (Memᴰ.append_cases (list K p) i) [
  | inl j ↦ (K, Memᴰ.head refl, j)
  | inr j ↦ let s = in_turn_of list Ks p m j in (s.0, Memᴰ.tail s.1, s.2)
]

-- How many they are.
pub in_turn_bound : {P M N : Type 0} (list : N → P → List M) (n : ℕ) (most : N → ℕ) (p : P) → ((K : N) → length (list K p) ≤ n * most K)
    → (Ks : List N) → length (in_turn (map (λ K. list K p) Ks)) ≤ n * total most Ks
unfolding in_turn total
in_turn_bound list n most p h [] = omega arith
in_turn_bound list n most p h (K ∷ Ks) = rw length-append (omega (arith, h K, in_turn_bound list n most p h Ks))
