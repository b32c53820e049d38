-- The stops that no vehicle routes while their words are written: the marked numbers as a list, and what stays true behind each word.
-- Assumes nothing.
use Prim.Native.Nat.{ℕ, zero, suc, ◌+◌, ◌≤◌, ◌<◌}
use mathlib.Core.Path.{◌≡◌, refl, sym, ap, ap₂, ◌∙◌}
use mathlib.Core.Bool.{Bool, true, false, true≢false}
use mathlib.Core.List.{List, [], ◌∷◌, ◌++◌, map, map-append, append_assoc, append-nil}
use mathlib.Core.Logic.{inl, inr}
use native.Mathlib.Decide.{ℕ_discrete, dec_lt}
use native.Mathlib.Nat.{eq-or-lt_of_le, eq-zero-or-pos}
use native.Mathlib.Omega.{arith}
use lib.ListN.{length, set, length-set}
use Rattle.rules.specs.Lists.{mem}
use Rattle.rules.specs.PlanWords.{left, left_word}
use Rattle.rules.specs.Build.{remaining}
use Rattle.laws.specs.Marks.{without, ones_of, Lowest, marked, Unmarked}
use Rattle.laws.proofs.Marks.{without_same, without_other, up_to_low, up_to_out, unmark_words}
use Rattle.marks.specs.declared.Marks.{Marks}
use Rattle.plan_words.specs.Said.{Said}
use Rattle.plan_words.proofs.SaidLaws.{said_none, said_put, said_same}
use Rattle.plan_words.proofs.WordForms.{left_made}
use Rattle.greedy_laws.specs.States.{unrouted}
use Rattle.laws.proofs.Decided.{known}
use Rattle.next_task.proofs.TaskLaws.{unrouted_in}
use Rattle.builder.specs.Lefts.{listed, Leaving, LeavesAll, LeavesOn}

-- of numbers that are not marked none is listed
listed_none : (m : ℕ → Bool) (k r : ℕ) → ((j : ℕ) → j < k + r → m j ≡ false) → listed m k r ≡ []
unfolding listed
listed_none m k zero h = refl
listed_none m k (suc r) h = rw (h k (omega arith)) (listed_none m (suc k) r (λ j l. h j (omega arith)))

-- sets that are the same from k on are listed alike
listed_same : (m q : ℕ → Bool) (k r : ℕ) → ((j : ℕ) → k ≤ j → m j ≡ q j) → listed m k r ≡ listed q k r
unfolding listed
listed_same m q k zero h = refl
listed_same m q k (suc r) h = rw (h k (omega arith), listed_same m q (suc k) r (λ j l. h j (omega arith))) refl

-- the lowest marked number is the first that is listed
listed_lowest : (m : ℕ → Bool) (i k r : ℕ) → k ≤ i → i < k + r → ((j : ℕ) → j < i → m j ≡ false) → m i ≡ true
    → listed m k r ≡ i ∷ listed (without m i) k r
unfolding listed
listed_lowest m i k zero l g h e = absurd (omega arith)
listed_lowest m i k (suc r) l g h e = elim (eq-or-lt_of_le l) [
  | inl q ↦
      rw (ap m q ∙ e, without_same m i k q)
      (ap₂ ◌∷◌ q (listed_same m (without m i) (suc k) r (λ j b. sym (without_other m i j (λ z. omega arith)))))
  | inr b ↦
      rw (h k b, without_other m i k (λ z. omega arith) ∙ h k b)
      (listed_lowest m i (suc k) r b (omega arith) h e)
]

-- the stops still to be routed, listed, are those that remain
listed_unrouted : (n : ℕ) (taken : List ℕ) (k r : ℕ) → 0 < k → k + r ≤ n + 1 → listed (unrouted n taken) k r ≡ remaining taken k r
unfolding listed remaining
listed_unrouted n taken k zero l h = refl
listed_unrouted n taken k (suc r) l h =
    let is = unrouted_in n taken k l (omega arith) in
    let others = listed_unrouted n taken (suc k) r (omega arith) (omega arith) in
    elim (known (mem k taken)) [
      | inl e ↦ rw (is, e) others
      | inr e ↦ rw (is, e) (ap (λ (ks : List ℕ). k ∷ ks) others)
    ]

-- none of the words is written yet
leaving_none : (n : ℕ) (taken : List ℕ) {p : List ℕ} {m : Marks} → marked m.words ≡ unrouted n taken → Leaving n p (marked m.words) p 0 m
unfolding unrouted
leaving_none n taken {p} {m} e = record {
  written = [];
  text = said_none p;
  whole = refl;
  low = ap (λ (q : ℕ → Bool). q 0) e ∙ rw (up_to_low n) refl;
  high = λ j l. ap (λ (q : ℕ → Bool). q j) e ∙ rw (up_to_out n j l) refl;
}

-- the word of the lowest marked stop is written, and its mark taken off
leaving_next : {n : ℕ} {p part : List ℕ} {all : ℕ → Bool} {at : ℕ} {m : Marks} (k word : ℕ) (after : Marks)
    → Leaving n p all part at m → Lowest (marked m.words) 256 k → k < 256 → word ≡ left_word k → at < length part
    → Unmarked m.words k after.words → Leaving n p all (set part at word) (at + 1) after
leaving_next {n} {p} {part} {all} {at} {m} k word after g lowest few e space u = record {
  written = g.written ++ (k ∷ []);
  text = said_same (said_put g.text word (left_made k few e) space) (sym (map-append left g.written (k ∷ []))) refl;
  whole =
      append_assoc g.written (k ∷ []) (listed (marked after.words) 1 n)
      ∙ ap (λ (ks : List ℕ). g.written ++ ks)
      (ap (λ (q : ℕ → Bool). k ∷ listed q 1 n) u.marks ∙ sym first)
      ∙ g.whole;
  low = off 0 g.low;
  high = λ j l. off j (g.high j l);
}
  where
    on : marked m.words k ≡ true
    on = lowest.is_marked few

    from : 0 < k
    from = elim (eq-zero-or-pos k) [ inl z ↦ absurd (true≢false (sym on ∙ ap (marked m.words) z ∙ g.low)) | inr l ↦ l ]

    to : k ≤ n
    to = elim (dec_lt n k) [ yes l ↦ absurd (true≢false (sym on ∙ g.high k l)) | no l ↦ omega arith ]

    first : listed (marked m.words) 1 n ≡ k ∷ listed (without (marked m.words) k) 1 n
    first = listed_lowest (marked m.words) k 1 n from (omega (arith, to)) lowest.below on

    off : (j : ℕ) → marked m.words j ≡ false → marked after.words j ≡ false
    off j e = ap (λ (q : ℕ → Bool). q j) u.marks ∙ elim (ℕ_discrete j k) [
      | yes q ↦ without_same (marked m.words) k j q
      | no q ↦ without_other (marked m.words) k j q ∙ e
    ]

-- no mark is left, and the words of all stops that remain are written
leaving_end : (n : ℕ) (taken : List ℕ) (first : Marks) {p part : List ℕ} {at : ℕ} {m : Marks}
    → n < 256 → marked first.words ≡ unrouted n taken
    → Leaving n p (marked first.words) part at m → ((j : ℕ) → marked m.words j ≡ false)
    → Said (map left (remaining taken 1 n)) p part at
leaving_end n taken first {p} {part} {at} {m} few e g none =
    said_same g.text (ap (map left) written) refl
  where
    done : listed (marked m.words) 1 n ≡ []
    done = listed_none (marked m.words) 1 n (λ j l. none j)

    written : g.written ≡ remaining taken 1 n
    written =
        sym (append-nil g.written)
        ∙ ap (λ (ks : List ℕ). g.written ++ ks) (sym done)
        ∙ g.whole
        ∙ ap (λ (q : ℕ → Bool). listed q 1 n) e
        ∙ listed_unrouted n taken 1 n (omega arith) (omega arith)

-- a turn of the loop: part was old at first, and first were the marks
pub record Turn (old : List ℕ) (first : Marks) (part : List ℕ) (m : Marks) (at : ℕ) : Type 0 where
  pub leaves : LeavesOn old first part at m
  pub count : at + ones_of m.words ≡ ones_of first.words
  pub size : length part ≡ length old
  pub room : ones_of first.words ≤ length old

pub turn_first : {part : List ℕ} (m : Marks) → ones_of m.words ≤ length part → Turn part m part m 0
turn_first m room = record { leaves = λ n taken few e. leaving_none n taken e; count = omega arith; size = refl; room = room }

module _ {old : List ℕ} {first : Marks} {part : List ℕ} {m : Marks} {at : ℕ} (t : Turn old first part m at) where
  -- stop k is the lowest that is still marked, so there is room for its word
  module _ {k : ℕ} (low : (k < 256) × Lowest (marked m.words) 256 k) where
    pub turn_marked : marked m.words k ≡ true
    turn_marked = low.1.is_marked low.0

    pub turn_space : at < length part
    turn_space = omega (arith, t.size, t.count, t.room, (unmark_words m.words k turn_marked).count)

    pub turn_next : {word : ℕ} (after : Marks) → word ≡ left_word k → Unmarked m.words k after.words → Turn old first (set part at word) after (at + 1)
    turn_next {word} after e u =
        record {
          leaves = λ n taken h q. leaving_next k word after (t.leaves n taken h q) low.1 low.0 e turn_space u;
          count = omega (arith, t.count, u.count);
          size = length-set part at word ∙ t.size;
          room = t.room;
        }

  pub turn_last : ((j : ℕ) → marked m.words j ≡ false) → LeavesAll old first part at
  turn_last none = λ n taken few e. leaving_end n taken first few e (t.leaves n taken few e) none
