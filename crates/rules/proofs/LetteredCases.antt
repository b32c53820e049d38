-- The lettered cases of document 01, gathered into one theorem, by computation; (c) and (g) as document 02, Q-1, has them. Assumes nothing.
use Prim.Native.Nat.{ℕ}
use mathlib.Core.Path.{◌≡◌, refl}
use mathlib.Core.List.{List, [], ◌∷◌}
use Rattle.rules.specs.Answers.{given, refused}
use Rattle.rules.specs.Fields.{opening}
use Rattle.rules.specs.Plan.{serve, empty, plan_words}
use Rattle.rules.specs.Timetable.{starts, calls, earliest_minutes}
use Rattle.rules.specs.Check.{check_plan}
use Rattle.rules.specs.Build.{greedy_lefts}
use Rattle.rules.specs.Search.{searched}
use Rattle.rules.specs.Planned.{few_neighbours, long_enough, result_values, search_answer, plan_answer}
use Rattle.rules.proofs.DayM.{day_m, leg_to, leg_back, window_word}
use Rattle.rules.proofs.CheckCases.{computed, plan_h}
use Rattle.rules.proofs.TrialCases.{tried}

-- day M without its stops
abbrev pub day_j : List ℕ
day_j =
    0x10000100 ∷ 0x20000064 ∷ 0x300000C8 ∷ 0x40000005 ∷ window_word 5 0 100 ∷ window_word 6 30 60 ∷ 0x7000000A
    ∷ 0x50000064 ∷ 0x70000005
    ∷ leg_back ∷ leg_to ∷ leg_to ∷ leg_back ∷ []

-- the words of the plan with K 5
unfoldable pub words : List ℕ → ℕ → List ℕ
words day budget = plan_words (searched day (5 ∷ []) budget).plan (greedy_lefts day)

-- the answer with K 5, in buffers of ten words
unfoldable pub answer : List ℕ → ℕ → List ℕ
answer day budget = plan_answer day 5 budget 10 10

-- all that the call computes by
unfoldable pub planning : Unit {0}
unfolding tried computed few_neighbours long_enough result_values search_answer plan_answer words answer
planning = tt

-- one vehicle that empties its load between the stops
abbrev pub one_round : List ℕ
one_round = 0xA0000001 ∷ 0xB0000001 ∷ 0xC0000001 ∷ 0xD0000000 ∷ 0xB0000002 ∷ 0xC0000001 ∷ 0xE0000000 ∷ []

-- the same with the second stop first
abbrev pub second_first : List ℕ
second_first = 0xA0000001 ∷ 0xB0000002 ∷ 0xC0000001 ∷ 0xD0000000 ∷ 0xB0000001 ∷ 0xC0000001 ∷ 0xE0000000 ∷ []

-- two vehicles with a stop each
abbrev pub two_rounds : List ℕ
two_rounds =
    0xA0000001 ∷ 0xB0000001 ∷ 0xC0000001 ∷ 0xD0000000 ∷ 0xE0000000 ∷ 0xA0000002 ∷ 0xB0000002 ∷ 0xC0000001 ∷ 0xD0000000 ∷ 0xE0000000 ∷ []

-- one vehicle with the second stop, the first left out
abbrev pub second_alone : List ℕ
second_alone = 0xA0000001 ∷ 0xB0000002 ∷ 0xC0000001 ∷ 0xD0000000 ∷ 0xE0000000 ∷ 0xF0000001 ∷ []

-- the minutes of the vehicle A1 B1 C1 E, the last that of its return
abbrev pub minutes_h : List ℕ → List ℕ
minutes_h day = earliest_minutes day (opening day 0) (serve 1 ∷ empty 1 ∷ [])

-- "(a) K 5, budget 6" to "(j) n = 0, budget 0: no words, settled"
pub record Lettered : Type 0 where
  pub a : (answer (day_m 100 30 60 60 50) 6 ≡ given (35 ∷ 6 ∷ 1 ∷ 0 ∷ 7 ∷ [])) × (words (day_m 100 30 60 60 50) 6 ≡ one_round)
  pub b : (answer (day_m 100 30 60 60 50) 5 ≡ given (35 ∷ 5 ∷ 0 ∷ 0 ∷ 7 ∷ [])) × (words (day_m 100 30 60 60 50) 5 ≡ one_round)
  pub c : (answer (day_m 100 30 60 60 49) 6 ≡ given (35 ∷ 6 ∷ 1 ∷ 0 ∷ 7 ∷ [])) × (words (day_m 100 30 60 60 49) 6 ≡ second_first)
  pub d : (answer (day_m 100 30 60 100 50) 6 ≡ given (35 ∷ 6 ∷ 1 ∷ 0 ∷ 7 ∷ [])) × (words (day_m 100 30 60 100 50) 6 ≡ one_round)
  pub e : (answer (day_m 100 30 60 101 50) 6 ≡ given (21 ∷ 1 ∷ 1 ∷ 1 ∷ 6 ∷ [])) × (words (day_m 100 30 60 101 50) 6 ≡ second_alone)
  pub f : (answer (day_m 80 30 60 60 50) 6 ≡ given (35 ∷ 6 ∷ 1 ∷ 0 ∷ 7 ∷ [])) × (words (day_m 80 30 60 60 50) 6 ≡ one_round)
  pub g : (answer (day_m 79 30 60 60 50) 6 ≡ given (42 ∷ 4 ∷ 1 ∷ 0 ∷ 10 ∷ [])) × (words (day_m 79 30 60 60 50) 6 ≡ two_rounds)
  pub h : (check_plan (day_m 100 20 40 60 50) plan_h ≡ given (21 ∷ 1 ∷ 1 ∷ [])) × (minutes_h (day_m 100 20 40 60 50) ≡ 10 ∷ 25 ∷ 40 ∷ [])
  pub i : check_plan (day_m 100 20 39 60 50) plan_h ≡ refused 12 3
  pub j : (answer day_j 0 ≡ given (0 ∷ 0 ∷ 1 ∷ 0 ∷ 0 ∷ [])) × (words day_j 0 ≡ [])

pub lettered : Lettered
unfolding planning starts calls
lettered =
    record {
      a = (refl, refl);
      b = (refl, refl);
      c = (refl, refl);
      d = (refl, refl);
      e = (refl, refl);
      f = (refl, refl);
      g = (refl, refl);
      h = (refl, refl);
      i = refl;
      j = (refl, refl);
    }
