-- Laws of numbers as text: the decimal digits of a number, and how many digits and lines there are. Assumes nothing.
use Prim.Native.Nat.{ℕ, zero, suc, ◌+◌, ◌-◌, ◌*◌, ◌/◌, ◌%◌, ◌^◌, ◌≤◌, ◌<◌}
use mathlib.Core.Path.{◌≡◌, refl, sym, ap, ◌∙◌}
use mathlib.Core.List.{List, [], ◌∷◌, ◌++◌, append_assoc, append-nil}
use native.Mathlib.Nat.{one-le-pow, pow-succ'}
use native.Mathlib.Numerals.{add-one}
use native.Mathlib.Omega.{arith}
use lib.ListN.{length, take, get_or, length-append}
use lib.Seq.{take-suc}
use borrow.Author.Tests.{lt-ltb, le-ltb}
use Rattle.io.specs.Digits.{hex_digit_ascii, last_digits, IsDigitCount}
use Rattle.text.specs.Lines.{word_line, word_lines}
use Rattle.text.specs.Numbers.{digit, decimal_in, decimal, hex_digits, hexadecimal}

-- the fewest decimal digits that hold a number are its decimal
glyph_digit : (d : ℕ) → d < 10 → hex_digit_ascii d ≡ digit d
unfolding digit
glyph_digit d h = rw (lt-ltb d 10 h)

spelled : (k places n : ℕ) → k < places → n < 10 ^ suc k → (0 < k → 10 ^ k ≤ n) → last_digits 10 (suc k) n ≡ decimal_in places n
unfolding decimal_in
spelled k zero n few most least = absurd (omega arith)
spelled zero (suc places) n few most least =
    let small : n < 10 = omega (arith, most) in
    let same : n % 10 ≡ n = omega arith in
    rw (lt-ltb n 10 small, same) (ap (λ (d : ℕ). d ∷ []) (glyph_digit n small))
spelled (suc k) (suc places) n few most least =
    let more : 10 ^ suc k ≤ n = least (omega arith) in
    let large : 10 ≤ n = omega (arith, more, pow-succ' 10 k, one-le-pow k 10 (omega arith)) in
    let front = spelled k places (n / 10) (omega arith) (omega (arith, most, pow-succ' 10 (suc k))) (λ h. omega (arith, more, pow-succ' 10 k)) in
    rw (le-ltb n 10 large, front, glyph_digit (n % 10) (omega arith))

pub decimal_spelled : (n count : ℕ) → IsDigitCount 10 1 n count → count ≤ 20 → last_digits 10 count n ≡ decimal n
unfolding decimal
decimal_spelled n zero f h = absurd (omega (arith, f.0))
decimal_spelled n (suc k) f h = let e : suc k - 1 ≡ k = omega arith in spelled k 20 n (omega arith) f.1 (λ x. rw e at (f.2 (omega arith)))

-- one hexadecimal digit more
pub hex_none : (w : ℕ) → hex_digits w 0 ≡ []
unfolding hex_digits
hex_none w = refl

pub hex_turn : (w i : ℕ) → hex_digits w (i + 1) ≡ hex_digits w i ++ (digit (w / 2 ^ (28 - 4 * i) % 16) ∷ [])
unfolding hex_digits
hex_turn w i = rw add-one refl

pub hex_all : (w i : ℕ) → i ≡ 8 → hex_digits w i ≡ hexadecimal w
unfolding hexadecimal
hex_all w i e = ap (hex_digits w) e

pub hex_length : (w i : ℕ) → length (hex_digits w i) ≡ i
unfolding hex_digits
hex_length w zero = refl
hex_length w (suc i) = omega (arith, length-append (hex_digits w i) (digit (w / 2 ^ (28 - 4 * i) % 16) ∷ []), hex_length w i)

pub hexadecimal_length : (w : ℕ) → length (hexadecimal w) ≡ 8
unfolding hexadecimal
hexadecimal_length w = hex_length w 8

-- a word's line
line_length : (w : ℕ) → length (word_line w) ≡ 9
unfolding word_line
line_length w = omega (arith, length-append (hexadecimal w) (10 ∷ []), hexadecimal_length w)

pub lines_length : (ws : List ℕ) → length (word_lines ws) ≡ 9 * length ws
unfolding word_lines
lines_length [] = refl
lines_length (w ∷ ws) = omega (arith, length-append (word_line w) (word_lines ws), line_length w, lines_length ws)

-- lines of words: none, one more at the end, and all
lines_append : (ws : List ℕ) (w : ℕ) → word_lines (ws ++ (w ∷ [])) ≡ word_lines ws ++ word_line w
unfolding word_lines
lines_append [] w = append-nil (word_line w)
lines_append (v ∷ ws) w = ap (λ (x : List ℕ). word_line v ++ x) (lines_append ws w) ∙ sym (append_assoc (word_line v) (word_lines ws) (word_line w))

pub lines_none : word_lines [] ≡ []
unfolding word_lines
lines_none = refl

pub lines_turn : (ws : List ℕ) (i : ℕ) → i < length ws → word_lines (take (i + 1) ws) ≡ word_lines (take i ws) ++ word_line (get_or ws i 0)
lines_turn ws i l = rw add-one (ap word_lines (take-suc ws i 0 l) ∙ lines_append (take i ws) (get_or ws i 0))
