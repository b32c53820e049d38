-- Laws of a buffer that is written from its front on: a word stored, a part lent and written, a fill with zeros.
-- Assumes nothing.
use Prim.Native.Nat.{ℕ, suc, ◌+◌, ◌-◌, ◌≤◌, ◌<◌}
use mathlib.Core.Path.{◌≡◌, refl, sym, ap, ap₂, ◌∙◌}
use mathlib.Core.List.{List, [], ◌∷◌, ◌++◌, append_assoc, append-nil}
use native.Mathlib.Numerals.{add-one}
use native.Mathlib.Omega.{arith}
use lib.ListN.{length, take, drop, set, get_or, replicate, length-set, length-append, length-drop}
use lib.ListN.{drop_of_length-le, take-append-drop, replicate-append-replicate}
use lib.Seq.{set_at, drop-cons, take_at, drop_at, drop-drop, take_all, length-take-le}
use borrow.Rule.Slice.PartMut.{put_mid, same_len_mid}
use Rattle.rules.specs.Lists.{over}
use Rattle.laws.specs.Buffer.{Wrote, zeros}

module _ {A : Type 0} where
  -- the part of a buffer from place a on, as it is lent, and the buffer when that part has come back as ys
  pub rest_whole : (xs : List A) (a : ℕ) → take (length xs - a) (drop a xs) ≡ drop a xs
  rest_whole xs a = take_all (length xs - a) (drop a xs) (simp length-drop (omega arith))

  pub put_rest : (xs ys : List A) (a : ℕ) → put_mid a (length xs - a) xs ys ≡ take a xs ++ ys
  put_rest xs ys a =
      let h : length (drop a xs) ≤ length xs - a = simp length-drop (omega arith) in
      rw (drop_of_length-le (drop a xs) h, append-nil)

  -- no words written, and words that fit
  pub over_none : (p : List A) → over [] p ≡ p
  unfolding over
  over_none p = refl

  pub length_over : (ws p : List A) → length ws ≤ length p → length (over ws p) ≡ length p
  unfolding over
  length_over ws p l = simp (length-append, length-drop) (omega arith)

  -- the words, and behind them what was there: the count of words by its name n
  pub over_drop : (ws p : List A) (n : ℕ) → length ws ≡ n → over ws p ≡ ws ++ drop n p
  unfolding over
  over_drop ws p n e = ap (λ (k : ℕ). ws ++ drop k p) e

  pub over_front : (ws p : List A) (n : ℕ) → length ws ≡ n → take n (over ws p) ≡ ws
  unfolding over
  over_front ws p n e = take_at ws (drop (length ws) p) n e

  pub over_rest : (ws p : List A) (n : ℕ) → length ws ≡ n → drop n (over ws p) ≡ drop n p
  unfolding over
  over_rest ws p n e = drop_at ws (drop (length ws) p) n e ∙ ap (λ (k : ℕ). drop k p) e

  -- words written, and then more over what is left
  pub over_over : (ws vs p : List A) → ws ++ over vs (drop (length ws) p) ≡ over (ws ++ vs) p
  unfolding over
  over_over ws vs p = rw (drop-drop, length-append) (sym (append_assoc ws vs (drop (length ws + length vs) p)))

  -- one word more, stored at the end of those written
  pub over_put : (ws p : List A) (n : ℕ) (x : A) → length ws ≡ n → n < length p
      → set (over ws p) n x ≡ over (ws ++ (x ∷ [])) p
  unfolding over
  over_put ws p n x e l =
      ap (λ (q : List A). set (ws ++ q) n x) (drop-cons p (length ws) x (omega arith))
      ∙ set_at ws (get_or p (length ws) x) (drop (suc (length ws)) p) x n e
      ∙ ap (λ (q : List A). ws ++ x ∷ q) (sym next)
      ∙ over_over ws (x ∷ []) p
    where
      next : drop 1 (drop (length ws) p) ≡ drop (suc (length ws)) p
      next = drop-drop 1 (length ws) p ∙ ap (λ (k : ℕ). drop k p) (add-one (length ws))

  -- the part from the end of the words on was lent, and has come back with vs written over it
  pub over_lend : (ws vs p part e : List A) (at : ℕ) → part ≡ over ws p → length ws ≡ at
      → e ≡ over vs (take (length part - at) (drop at part))
      → put_mid at (length part - at) part e ≡ over (ws ++ vs) p
  over_lend ws vs p part e at q l h =
      put_rest part e at
      ∙ ap₂ ◌++◌ front (h ∙ ap (over vs) (rest_whole part at ∙ rest))
      ∙ over_over ws vs p
    where
      front : take at part ≡ ws
      front = ap (take at) q ∙ over_front ws p at l

      rest : drop at part ≡ drop (length ws) p
      rest = ap (drop at) q ∙ over_rest ws p at l ∙ ap (λ (k : ℕ). drop k p) (sym l)

  -- nothing is written yet
  pub wrote_none : (p : List A) → Wrote [] p p 0
  wrote_none p = record { count = refl; text = sym (over_none p); size = refl }

  -- a word is stored
  pub wrote_put : {ws p part : List A} {n : ℕ} → Wrote ws p part n → (x : A) → n < length p
      → Wrote (ws ++ (x ∷ [])) p (set part n x) (n + 1)
  wrote_put {ws} {p} {part} {n} w x l = record {
    count = omega (arith, w.count, length-append ws (x ∷ []));
    text = ap (λ (q : List A). set q n x) w.text ∙ over_put ws p n x (sym w.count) l;
    size = length-set part n x ∙ w.size;
  }

  -- the part that is left is lent, and has come back as e, with the r words vs written over it
  pub wrote_lend : {ws p part : List A} {at : ℕ} → Wrote ws p part at
      → (vs e : List A) (r : ℕ) → r ≡ length vs
      → e ≡ over vs (take (length part - at) (drop at part))
      → length e ≡ length (take (length part - at) (drop at part))
      → Wrote (ws ++ vs) p (put_mid at (length part - at) part e) (at + r)
  wrote_lend {ws} {p} {part} {at} w vs e r q h k = record {
    count = omega (arith, w.count, length-append ws vs);
    text = over_lend ws vs p part e at w.text (sym w.count) h;
    size = same_len_mid at (length part - at) part e k ∙ w.size;
  }

  -- the words and their count under other names
  pub wrote_same : {ws vs p part : List A} {n m : ℕ} → Wrote ws p part n → ws ≡ vs → n ≡ m → Wrote vs p part m
  wrote_same {ws} {vs} {p} {part} {n} {m} w q e = record {
    count = sym e ∙ w.count ∙ ap length q;
    text = w.text ∙ ap (λ (x : List A). over x p) q;
    size = w.size;
  }

-- a fill with zeros from place `from` on: before it, one place more, and its end
pub zeros_start : (p : List ℕ) (i : ℕ) → i ≤ length p → Wrote (zeros p i i) p p i
unfolding zeros
zeros_start p i l = wrote_same front none refl
  where
    size : length (take i p) ≡ i
    size = length-take-le i p l

    front : Wrote (take i p) p p i
    front = record {
      count = sym size;
      text = sym (over_drop (take i p) p i size ∙ take-append-drop i p);
      size = refl;
    }

    none : take i p ≡ zeros p i i
    none =
        let e : i - i ≡ 0 = omega arith in
        sym (ap (λ (k : ℕ). take i p ++ replicate k 0) e ∙ append-nil (take i p))

pub zeros_next : {p part : List ℕ} {from i : ℕ} → Wrote (zeros p from i) p part i → from ≤ i → i < length p
    → Wrote (zeros p from (i + 1)) p (set part i 0) (i + 1)
unfolding zeros
zeros_next {p} {part} {from} {i} w l h = wrote_same (wrote_put w 0 h) more refl
  where
    count : (i - from) + 1 ≡ (i + 1) - from
    count = omega arith

    more : zeros p from i ++ (0 ∷ []) ≡ zeros p from (i + 1)
    more =
        append_assoc (take from p) (replicate (i - from) 0) (0 ∷ [])
        ∙ ap (λ (q : List ℕ). take from p ++ q) (replicate-append-replicate (i - from) 1 0)
        ∙ ap (λ (k : ℕ). take from p ++ replicate k 0) count

pub zeros_end : {p part : List ℕ} {i : ℕ} (from to : ℕ) → Wrote (zeros p from i) p part i → i ≡ to
    → part ≡ take from p ++ replicate (to - from) 0 ++ drop to p
unfolding zeros
zeros_end {p} {part} {i} from to w e =
    w.text
    ∙ over_drop (zeros p from i) p i (sym w.count)
    ∙ ap (λ (k : ℕ). take from p ++ replicate (k - from) 0 ++ drop k p) e
