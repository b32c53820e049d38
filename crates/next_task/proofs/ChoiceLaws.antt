-- Which stop is taken next: one law for each way through the functions that choose.
-- Assumes nothing.
use Rattle.std.specs.Prelude.{if◌then◌else◌}
use Prim.Native.Nat.{ℕ, ◌+◌, ◌-◌, ◌^◌, ◌≤◌, ◌<◌}
use mathlib.Core.Path.{◌≡◌, refl, sym, ap, ◌∙◌}
use mathlib.Core.Bool.{Bool, true, false, not, ◌&&◌, and-false, and-true, and_assoc}
use mathlib.Core.List.{List}
use native.Mathlib.Decide.{dec_lt}
use native.Mathlib.Omega.{arith}
use lib.Dec.{ltb, leb}
use borrow.Author.Tests.{lt-ltb, leb-true, ltb-true, not-true}
use Rattle.rules.specs.Tests.{better, wins}
use Rattle.rules.specs.Fields.{stop_place, opening, closing, quantity, leg_minutes}
use Rattle.rules.specs.Cargo.{over_limits}
use Rattle.rules.specs.Trip.{arrival, visited}
use Rattle.rules.specs.Home.{way_home}
use Rattle.rules.specs.Choice.{taking, suits, takeable, waitable}
use Rattle.rules.specs.declared.walk.Cargo.{Cargo}
use Rattle.rules.specs.declared.walk.Trip.{Trip}
use Rattle.laws.specs.Bits.{bit, LowestBit}
use Rattle.laws.specs.Marks.{both, up_to}
use Rattle.laws.specs.Walk.{WordWalk}
use Rattle.laws.proofs.Bits.{bit_of_zero}
use Rattle.laws.proofs.Marks.{up_to_in}
use Rattle.laws.proofs.Tests.{both_true}
use Rattle.laws.proofs.Walk.{walk_start, walk_next_lem, walk_end}
use Rattle.day.specs.Layout.{WindowOf, LegOf}
use Rattle.day.specs.declared.fields.Leg.{Leg}
use Rattle.day.specs.declared.fields.Window.{Window}
use Rattle.ways_home.specs.Bests.{keys_end, BestBy}
use Rattle.ways_home.specs.declared.best.Best.{Best}
use Rattle.ways_home.proofs.BestLaws.{less_key}
use Rattle.next_task.specs.Wanted.{wanted, timely, key_of, candidate, Candidate, FromCandidate, better_stop, best_in_word}

-- a stop that fits suits where there is a way home
module _ (day : List ℕ) (t : Trip) (c : Cargo) (k : ℕ) where
  pub fit_home : {q : ℕ} {r : Bool} (u : Trip) → over_limits day (taking day c k) ≡ false → q ≡ quantity day (stop_place day k)
      → u ≡ visited day t (stop_place day k) → r ≡ way_home day u (c.load + q) → r ≡ suits day t c k
  unfolding suits
  fit_home u fit eq eu er = er ∙ rw (fit, eu, ← eq)

-- reached within the window, or before it opens
module _ (day : List ℕ) (t : Trip) (k : ℕ) {place : ℕ} (leg : Leg) (hours : Window) (place_is : place ≡ stop_place day k)
    (takes : LegOf day t.place place leg) (opens : WindowOf day (stop_place day k) hours) where
  leg_here : leg.minutes ≡ leg_minutes day t.place (stop_place day k)
  leg_here = rw place_is at takes.takes

  pub near_timely : {b : Bool} → b ≡ (leb hours.opening (t.minute + leg.minutes) && leb (t.minute + leg.minutes) hours.closing) → b ≡ timely true day t k
  unfolding timely
  near_timely e = rw (e, leg_here, opens.opens, opens.closes)

  pub wait_timely : ltb (t.minute + leg.minutes) hours.opening ≡ timely false day t k
  unfolding timely
  wait_timely = rw (leg_here, opens.opens)

-- a stop that is reached at the right time is reached early in the day
pub timely_soon : (near : Bool) (day : List ℕ) (t : Trip) (k : ℕ) {b : Bool} → b ≡ timely near day t k → b ≡ true → arrival day t (stop_place day k) < 4096
unfolding timely
timely_soon true day t k e z =
    let minute = arrival day t (stop_place day k) in
    let last = closing day (stop_place day k) in
    omega (arith, leb-true minute last (both_true (leb (opening day (stop_place day k)) minute) (leb minute last) (sym e ∙ z)).1)
timely_soon false day t k e z = omega (arith, ltb-true (arrival day t (stop_place day k)) (opening day (stop_place day k)) (sym e ∙ z))

-- a stop is wanted where it is reached at the right time and suits
wanted_by : (near : Bool) (day : List ℕ) (t : Trip) (c : Cargo) (k : ℕ) → wanted near day t c k ≡ (timely near day t k && suits day t c k)
unfolding timely takeable waitable
wanted_by true day t c k = sym (and_assoc (leb (opening day (stop_place day k)) (arrival day t (stop_place day k))) _ _)
wanted_by false day t c k = refl

-- tests in another order
regrouped : (numbered less fit timed home : Bool) → (numbered && (timed && (fit && home)) && less) ≡ (numbered && (less && (fit && timed)) && (fit && home))
regrouped false less fit timed home = refl
regrouped true false fit timed home = and-false (timed && (fit && home))
regrouped true true false false home = refl
regrouped true true false true home = refl
regrouped true true true false home = refl
regrouped true true true true home = and-true home

-- a word has one lowest bit
lowest_same : (size x a b : ℕ) → LowestBit size x a → LowestBit size x b → a ≡ b
lowest_same size x a b la lb = elim (dec_lt a b) [
  | yes l ↦ absurd (omega (arith, lb.below a l, la.is_set))
  | no h ↦ elim (dec_lt b a) [ yes l ↦ absurd (omega (arith, la.below b l, lb.is_set)) | no g ↦ omega arith ]
]

-- a key is small
key_small : (near : Bool) (day : List ℕ) (t : Trip) (k : ℕ) → key_of near day t k < keys_end
key_small true day t k = omega arith
key_small false day t k = omega arith

-- what it is to be a candidate
module _ (near : Bool) (day : List ℕ) (t : Trip) (c : Cargo) (n most k : ℕ) where
  is_candidate : candidate near day t c n most k ≡ true → Candidate near day t c n most k
  unfolding candidate up_to
  is_candidate e =
      let numbered = both_true (up_to n k) _ e in
      let range = both_true (ltb 0 k) (leb k n) numbered.0 in
      let less = both_true (ltb (key_of near day t k) most) _ numbered.1 in
      let fit = both_true (not (over_limits day (taking day c k))) (timely near day t k) less.1 in
      record {
        some = ltb-true 0 k range.0;
        within = leb-true k n range.1;
        less = ltb-true _ _ less.0;
        fits = not-true (over_limits day (taking day c k)) fit.0;
        in_time = fit.1;
      }

-- a stop against the best so far, whose key is carried: it is better where it is a candidate and suits
module _ (near : Bool) (day : List ℕ) (t : Trip) (c : Cargo) (n : ℕ) (best : Best) (k : ℕ) (so_far : BestBy (key_of near day t) n best) where
  abbrev key : ℕ → ℕ
  key = key_of near day t

  better_by : better (both (up_to n) (wanted near day t c)) key k best.number ≡ (if candidate near day t c n best.key k && suits day t c k then k else best.number)
  unfolding better wins both candidate suits
  better_by =
      rw (wanted_by near day t c k, ← less_key key n k best so_far (key_small near day t k))
      (ap (λ (b : Bool). if b then k else best.number)
      (regrouped (up_to n k) (ltb (key k) best.key) (not (over_limits day (taking day c k))) (timely near day t k)
      (way_home day (visited day t (stop_place day k)) (taking day c k).load)))

  pub not_better : candidate near day t c n best.key k ≡ false → best.number ≡ better (both (up_to n) (wanted near day t c)) key k best.number
  not_better e = sym (better_by ∙ rw e)

  module _ (is : Candidate near day t c n best.key k) {b : Bool} (eb : b ≡ suits day t c k) where
    passes : candidate near day t c n best.key k ≡ true
    unfolding candidate
    passes = rw (up_to_in n k is.some is.within, lt-ltb _ _ is.less, is.fits, is.in_time)

    pub not_suited : b ≡ false → best.number ≡ better (both (up_to n) (wanted near day t c)) key k best.number
    not_suited z = sym (better_by ∙ rw (passes, ← eb, z))

    pub is_suited : b ≡ true → k ≡ better (both (up_to n) (wanted near day t c)) key k best.number
    is_suited z = sym (better_by ∙ rw (passes, ← eb, z))

-- the marks from a candidate on: all of them, those behind one that is none, and where it is reached
module _ (near : Bool) (day : List ℕ) (t : Trip) (c : Cargo) (n most first marked : ℕ) where
  abbrev pub Passed : ℕ → Type 0
  Passed r =
      (r ≤ marked)
      × ((word before : ℕ) (best : Best) → BestBy (key_of near day t) n best → best.key ≡ most
      → WordWalk (both (up_to n) (wanted near day t c)) (key_of near day t) word first before marked best.number
      → WordWalk (both (up_to n) (wanted near day t c)) (key_of near day t) word first before r best.number)

  pub passed_next : (rest b : ℕ) {next : ℕ} {is : Bool} → Passed rest → LowestBit 64 rest b → is ≡ candidate near day t c n most (first + b) → is ≡ false
      → (next ≡ rest - 2 ^ b) × (next < rest) → Passed next
  passed_next rest b p low e z behind = (
    omega (arith, p.0, behind.1),
    λ word before best so_far k walk.
        rw behind.0
        (walk_next_lem _ _ word first before rest best.number b (p.1 word before best so_far k walk) low
        (not_better near day t c n best (first + b) so_far (rw k (sym e ∙ z)))),
  )

  pub candidate_here : (rest b : ℕ) {is : Bool} → Passed rest → LowestBit 64 rest b → is ≡ candidate near day t c n most (first + b) → is ≡ true
      → FromCandidate near day t c n most first marked rest
  candidate_here rest b p low e z =
      record {
        fewer = p.0;
        is_next = λ b' low'. rw (lowest_same 64 rest b' b low' low) (is_candidate near day t c n most (first + b) (sym e ∙ z));
        passed = p.1;
      }

  pub none_left : (rest : ℕ) → Passed rest → rest ≡ 0 → FromCandidate near day t c n most first marked rest
  none_left rest p z =
      record {
        fewer = p.0;
        is_next = λ b low. absurd (omega (arith, low.is_set, ap (λ (x : ℕ). bit x b) z, bit_of_zero b));
        passed = p.1;
      }

-- from candidate to candidate through a word of the marks: the best so far is the best of the stops passed
module _ (near : Bool) (day : List ℕ) (t : Trip) (c : Cargo) (n word first before : ℕ) where
  abbrev pub Walked : ℕ → Best → Type 0
  Walked rest best =
      BestBy (key_of near day t) n best × WordWalk (both (up_to n) (wanted near day t c)) (key_of near day t) word first before rest best.number

  module _ (rest from : ℕ) (best : Best) (walked : Walked rest best) (found : FromCandidate near day t c n best.key first rest from) where
    passed_on : WordWalk (both (up_to n) (wanted near day t c)) (key_of near day t) word first before from best.number
    passed_on = found.passed word before best walked.0 refl walked.1

    pub word_over : from ≡ 0 → best.number ≡ best_in_word near day t c n word first before
    word_over z = walk_end _ _ word first before from best.number passed_on z

    pub word_next : (next : Best) (b : ℕ) {behind : ℕ} → LowestBit 64 from b
        → BestBy (key_of near day t) n next × (next.number ≡ better_stop near day t c n (first + b) best.number) → (behind ≡ from - 2 ^ b) × (behind < from)
        → Walked behind next
    word_next next b low better e =
        (better.0, rw e.0 (walk_next_lem _ _ word first before from best.number b passed_on low better.1))

  pub word_end : (rest : ℕ) (best : Best) → Walked rest best → rest ≡ 0 → best.number ≡ best_in_word near day t c n word first before
  word_end rest best walked z = walk_end _ _ word first before rest best.number walked.1 z

pub word_start : (near : Bool) (day : List ℕ) (t : Trip) (c : Cargo) (n word first : ℕ) (best : Best) → BestBy (key_of near day t) n best
    → Walked near day t c n word first best.number word best
word_start near day t c n word first best so_far = (so_far, walk_start _ _ word first best.number word best.number refl refl)
