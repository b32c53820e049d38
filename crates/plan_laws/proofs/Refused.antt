-- What a refusal leaves: "each refusal changes no buffer". Assumes nothing.
use Rattle.std.specs.Prelude.{if◌then◌else◌}
use Prim.Native.Nat.{ℕ, ◌*◌}
use mathlib.Core.Path.{◌≡◌, refl, sym}
use mathlib.Core.Bool.{Bool, true, false, ◌&&◌, false≢true}
use mathlib.Core.List.{List, [], ◌∷◌}
use lib.Dec.{ltb}
use lib.ListN.{length}
use Rattle.rules.specs.Answers.{refused, is_given}
use Rattle.rules.specs.DayFile.{judge_day}
use Rattle.rules.specs.Fields.{stops}
use Rattle.rules.specs.Bytes.{read_answer, read_buffer}
use Rattle.rules.specs.Search.{growing_sets}
use Rattle.rules.specs.Planned.{built_answer, build_answer, built_buffer, build_buffer, few_neighbours, long_enough, search_answer, search_buffer, plan_answer, plan_buffer, growing_answer, growing_buffer}

-- answer and buffer that one test decides: the buffer is kept if it is in both outcomes
kept_if_lem : (t : Bool) (first second after other before : List ℕ) → (is_given first ≡ false → after ≡ before) → (is_given second ≡ false → other ≡ before)
    → is_given (if t then first else second) ≡ false → (if t then after else other) ≡ before
kept_if_lem true first second after other before h g e = h e
kept_if_lem false first second after other before h g e = g e

-- byte reading
pub read_kept : (bytes words : List ℕ) → is_given (read_answer bytes (length words)) ≡ false → read_buffer bytes words ≡ words
unfolding read_buffer
read_kept bytes words e = rw e

-- the build on an accepted day
built_kept : (day plan : List ℕ) → is_given (built_answer day (length plan)) ≡ false → built_buffer day plan ≡ plan
unfolding built_answer built_buffer
built_kept day plan e = kept_if_lem (ltb (length plan) (5 * stops day)) _ _ plan _ plan (λ r. refl) (λ r. absurd (false≢true (sym r))) e

-- the build on any day
pub build_kept : (day plan : List ℕ) → is_given (build_answer day (length plan)) ≡ false → build_buffer day plan ≡ plan
unfolding build_answer build_buffer
build_kept day plan e = kept_if_lem (is_given (judge_day day)) _ _ _ plan plan (built_kept day plan) (λ r. refl) e

-- planning with trials, with these K, on an accepted day
search_kept : (day Ks : List ℕ) (budget spare : ℕ) (plan : List ℕ) → is_given (search_answer day Ks budget (length plan) spare) ≡ false
    → search_buffer day Ks budget spare plan ≡ plan
unfolding search_answer search_buffer
search_kept day Ks budget spare plan e = kept_if_lem (long_enough day (length plan) spare) _ _ _ plan plan (λ r. absurd (false≢true (sym r))) (λ r. refl) e

-- and on any day, with one K
pub plan_kept : (day : List ℕ) (K budget spare : ℕ) (plan : List ℕ) → is_given (plan_answer day K budget (length plan) spare) ≡ false
    → plan_buffer day K budget spare plan ≡ plan
unfolding plan_answer plan_buffer
plan_kept day K budget spare plan = go (is_given (judge_day day)) (few_neighbours K) _ _ _ (search_kept day (K ∷ []) budget spare plan)
  where
    go : (given few : Bool) (refusal answer after : List ℕ) → (is_given answer ≡ false → after ≡ plan)
        → is_given (if given then (if few then answer else refused 13 K) else refusal) ≡ false → (if given && few then after else plan) ≡ plan
    go true true refusal answer after kept e = kept e
    go true false refusal answer after kept e = refl
    go false few refusal answer after kept e = refl

-- with growing neighbour sets
pub growing_kept : (day : List ℕ) (budget spare : ℕ) (plan : List ℕ) → is_given (growing_answer day budget (length plan) spare) ≡ false
    → growing_buffer day budget spare plan ≡ plan
unfolding growing_answer growing_buffer
growing_kept day budget spare plan e = kept_if_lem (is_given (judge_day day)) _ _ _ plan plan (search_kept day growing_sets budget spare plan) (λ r. refl) e
