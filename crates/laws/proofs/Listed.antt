-- Laws of a list given by a rule: its length, its elements, and how it is written into a buffer. Assumes nothing.
use Prim.Native.Nat.{ℕ, zero, suc, ◌+◌, ◌-◌, ◌≤◌, ◌<◌}
use mathlib.Core.Path.{◌≡◌, refl, sym, ap, ap₂, ◌∙◌}
use mathlib.Core.List.{List, [], ◌∷◌, ◌++◌}
use native.Mathlib.Decide.{ℕ_discrete}
use native.Mathlib.Numerals.{add-one}
use native.Mathlib.Omega.{arith}
use lib.ListN.{length, get_or, take, drop, set, length-append, take-append-drop, get_or-append}
use lib.Seq.{take-suc, get_or_at, drop-drop}
use Rattle.rules.specs.Lists.{listed, over}
use Rattle.laws.specs.Buffer.{Wrote}
use Rattle.laws.proofs.Buffer.{over_drop, over_rest, wrote_none, wrote_put, wrote_same}

module _ (f : ℕ → ℕ) where
  pub length_listed : (m : ℕ) → length (listed f m) ≡ m
  unfolding listed
  length_listed zero = refl
  length_listed (suc m) = omega (arith, length-append (listed f m) (f m ∷ []), length_listed m)

  pub get_listed : (m j : ℕ) → j < m → get_or (listed f m) j 0 ≡ f j
  unfolding listed
  get_listed zero j h = absurd (omega arith)
  get_listed (suc m) j h = go (ℕ_discrete j m) (get_listed m j)
    where
      go : Dec (j ≡ m) → (j < m → get_or (listed f m) j 0 ≡ f j) → get_or (listed f m ++ (f m ∷ [])) j 0 ≡ f j
      go (yes e) rest = get_or_at (listed f m) (f m) [] 0 j (length_listed m ∙ sym e) ∙ ap f (sym e)
      go (no n) rest = get_or-append (listed f m) (f m ∷ []) 0 j (omega (arith, length_listed m)) ∙ rest (omega arith)

  -- a list whose first elements are those of the rule
  take_listed : (xs : List ℕ) (m : ℕ) → m ≤ length xs → ((j : ℕ) → j < m → get_or xs j 0 ≡ f j) → take m xs ≡ listed f m
  unfolding listed
  take_listed xs zero h same = refl
  take_listed xs (suc m) h same =
      take-suc xs m 0 (omega arith)
      ∙ ap₂ (λ (ys : List ℕ) (y : ℕ). ys ++ (y ∷ [])) (take_listed xs m (omega arith) (λ j l. same j (omega arith))) (same m (omega arith))

  -- a buffer that is written with it: nothing yet, one element more, and all
  pub wrote_first : (p : List ℕ) → Wrote (listed f 0) p p 0
  unfolding listed
  wrote_first p = wrote_none p

  pub wrote_front : (p : List ℕ) (m : ℕ) → m ≤ length p → ((j : ℕ) → j < m → get_or p j 0 ≡ f j) → Wrote (listed f m) p p m
  wrote_front p m h same = record {
    count = sym (length_listed m);
    text =
        sym (over_drop (listed f m) p m (length_listed m)
        ∙ ap (λ (xs : List ℕ). xs ++ drop m p) (sym (take_listed p m h same)) ∙ take-append-drop m p);
    size = refl;
  }

  pub wrote_next : (p part : List ℕ) (m : ℕ) {x : ℕ} → Wrote (listed f m) p part m → x ≡ f m → m < length p
      → Wrote (listed f (m + 1)) p (set part m x) (m + 1)
  unfolding listed
  wrote_next p part m {x} w e h = wrote_same (wrote_put w x h) (rw (add-one m, e) refl) refl

  pub wrote_all : (p part : List ℕ) (m n : ℕ) → Wrote (listed f m) p part m → m ≤ n → n ≤ m → part ≡ over (listed f n) p
  wrote_all p part m n w h g = let e : m ≡ n = omega arith in rw (← e) w.text

  -- what stands in the buffer then
  pub wrote_at : {p part : List ℕ} {m : ℕ} → Wrote (listed f m) p part m → (j : ℕ) → j < m → get_or part j 0 ≡ f j
  unfolding over
  wrote_at {p} {part} {m} w j h =
      ap (λ (xs : List ℕ). get_or xs j 0) w.text
      ∙ get_or-append (listed f m) (drop (length (listed f m)) p) 0 j (omega (arith, length_listed m))
      ∙ get_listed m j h

-- two rules that agree on the numbers below m
pub listed_same : (f g : ℕ → ℕ) (m : ℕ) → ((j : ℕ) → j < m → f j ≡ g j) → listed f m ≡ listed g m
unfolding listed
listed_same f g zero same = refl
listed_same f g (suc m) same =
    ap₂ (λ (xs : List ℕ) (x : ℕ). xs ++ (x ∷ [])) (listed_same f g m (λ j l. same j (omega arith))) (same m (omega arith))

-- more words written over those written before
pub over_again : (ws vs p : List ℕ) → length ws ≤ length vs → over vs (over ws p) ≡ over vs p
over_again ws vs p h =
    let more : length ws + (length vs - length ws) ≡ length vs = omega arith in
    over_drop vs (over ws p) (length vs) refl
    ∙ ap (λ (xs : List ℕ). vs ++ xs) (
    ap (λ (k : ℕ). drop k (over ws p)) (sym more) ∙ sym (drop-drop (length vs - length ws) (length ws) (over ws p))
    ∙ ap (drop (length vs - length ws)) (over_rest ws p (length ws) refl)
    ∙ drop-drop (length vs - length ws) (length ws) p ∙ ap (λ (k : ℕ). drop k p) more
    )
    ∙ sym (over_drop vs p (length vs) refl)
