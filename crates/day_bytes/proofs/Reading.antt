-- Laws of byte reading: one word more, and one for each way through it. Assumes nothing.
use Prim.Native.Nat.{ℕ, zero, suc, ◌+◌, ◌*◌, ◌/◌, ◌%◌, ◌<◌, ◌≤◌}
use mathlib.Core.Path.{◌≡◌, refl, sym, ap, ◌∙◌}
use mathlib.Core.Bool.{Bool, true, false}
use mathlib.Core.Logic.{◌⊎◌, inl, inr}
use lib.Dec.{eqb}
use mathlib.Core.List.{List, [], ◌∷◌, ◌++◌, map, append_assoc, append-nil}
use native.Mathlib.Omega.{arith}
use Rattle.std.proofs.Common.{lit<}
use lib.ListN.{length, set, take, drop, get_or}
use mir.Syntax.{w32}
use Rattle.std.specs.Int.{from_le_bytes}
use Rattle.std.specs.Simd.{first_chunks}
use Rattle.std.proofs.lemmas.List.{map_more, get_or-take, get_or-drop, drop-drop}
use borrow.Author.Tests.{ne_eqb, lt-ltb, le-ltb}
use Rattle.rules.specs.Answers.{given, refused}
use Rattle.rules.specs.Lists.{over}
use Rattle.rules.specs.Bytes.{byte_word, byte_words, read_answer, read_buffer}
use Rattle.laws.specs.Buffer.{Wrote}
use Rattle.laws.proofs.Buffer.{wrote_put, wrote_same}

-- one word more
pub word_written : (chunks : List (List ℕ)) (words part : List ℕ) (i w : ℕ) → Wrote (map (from_le_bytes w32) (take i chunks)) words part i
    → w ≡ from_le_bytes w32 (get_or chunks i []) → i < length chunks → length chunks ≤ length words
    → Wrote (map (from_le_bytes w32) (take (i + 1) chunks)) words (set part i w) (i + 1)
word_written chunks words part i w so_far e h g = rw e (wrote_same (wrote_put so_far _ (omega arith)) (sym (map_more (from_le_bytes w32) chunks i [] h)) refl)

-- the four bytes from an index on, as a word
chunk_word : (bytes : List ℕ) (i : ℕ) → from_le_bytes w32 (take 4 (drop (4 * i) bytes)) ≡ byte_word bytes i
chunk_word bytes i = omega (arith, byte 0 (lit< tt), byte 1 (lit< tt), byte 2 (lit< tt), byte 3 (lit< tt), ap (λ k. get_or bytes k 0) zeroth)
  where
    byte : (j : ℕ) → j < 4 → get_or (take 4 (drop (4 * i) bytes)) j 0 ≡ get_or bytes (4 * i + j) 0
    byte j h = get_or-take 4 (drop (4 * i) bytes) j 0 h ∙ get_or-drop (4 * i) bytes j 0

    zeroth : 4 * i + 0 ≡ 4 * i
    zeroth = omega arith

-- the chunks behind the first i words are the words behind them
words_behind : (bytes : List ℕ) (n i : ℕ) → byte_words bytes i ++ map (from_le_bytes w32) (first_chunks 4 n (drop (4 * i) bytes)) ≡ byte_words bytes (i + n)
unfolding byte_words
words_behind bytes zero i = append-nil (byte_words bytes i) ∙ ap (byte_words bytes) {x = i} {y = i + 0} (omega arith)
words_behind bytes (suc n) i =
    let place : 4 * i + 4 ≡ 4 * suc i = omega arith in
    let next : drop 4 (drop (4 * i) bytes) ≡ drop (4 * suc i) bytes = drop-drop 4 (4 * i) bytes ∙ ap (λ (k : ℕ). drop k bytes) place in
    let count : suc i + n ≡ i + suc n = omega arith in
    rw (chunk_word bytes i, next) (sym (append_assoc (byte_words bytes i) (byte_word bytes i ∷ []) _) ∙ words_behind bytes n (suc i) ∙ ap (byte_words bytes) count)

pub chunk_words : (bytes : List ℕ) (n : ℕ) → map (from_le_bytes w32) (first_chunks 4 n bytes) ≡ byte_words bytes n
unfolding byte_words
chunk_words bytes n = words_behind bytes n 0 ∙ ap (byte_words bytes) {x = 0 + n} {y = n} (omega arith)

-- one law for each way through byte reading: n chunks were cut off the bytes, and r bytes are left
module _ (bytes words : List ℕ) (n r : ℕ) {whole : Bool} (cut : n ≡ length bytes / 4) (left : r ≡ length bytes % 4) (is_whole : whole ≡ eqb r 0) where
  -- the buffer is as it was after a refusal
  refused_buffer : (k : ℕ) → 1 ≤ k → refused k n ≡ read_answer bytes (length words) → words ≡ read_buffer bytes words
  unfolding read_buffer
  refused_buffer k h e = rw (← e, ne_eqb k 0 (λ z. omega arith)) refl

  pub few_answer : (whole ≡ false) ⊎ ((whole ≡ true) × (n < 7)) → refused 1 n ≡ read_answer bytes (length words)
  unfolding read_answer
  few_answer (inl h) = rw (← cut, ← left, ← is_whole, h) refl
  few_answer (inr h) = rw (← cut, ← left, ← is_whole, h.0, lt-ltb n 7 h.1) refl

  pub few_buffer : (whole ≡ false) ⊎ ((whole ≡ true) × (n < 7)) → words ≡ read_buffer bytes words
  few_buffer h = refused_buffer 1 (omega arith) (few_answer h)

  pub room_answer : whole ≡ true → 7 ≤ n → length words < n → refused 14 n ≡ read_answer bytes (length words)
  unfolding read_answer
  room_answer h g l = rw (← cut, ← left, ← is_whole, h, le-ltb n 7 g, lt-ltb (length words) n l) refl

  pub room_buffer : whole ≡ true → 7 ≤ n → length words < n → words ≡ read_buffer bytes words
  room_buffer h g l = refused_buffer 14 (omega arith) (room_answer h g l)

  pub words_answer : whole ≡ true → 7 ≤ n → n ≤ length words → given (n ∷ []) ≡ read_answer bytes (length words)
  unfolding read_answer
  words_answer h g l = rw (← cut, ← left, ← is_whole, h, le-ltb n 7 g, le-ltb (length words) n l) refl

  pub words_buffer : {now : List ℕ} {chunks : List (List ℕ)} → whole ≡ true → 7 ≤ n → n ≤ length words → chunks ≡ first_chunks 4 (length bytes / 4) bytes
      → now ≡ over (map (from_le_bytes w32) chunks) words → now ≡ read_buffer bytes words
  unfolding read_buffer
  words_buffer h g l e q = rw (← words_answer h g l, ← chunk_words bytes (length bytes / 4), ← e) q
