-- The vehicles of a plan, cut at one of them: their stops, and what a trial makes of them. Assumes nothing.
use Prim.Native.Nat.{ℕ, suc, ◌+◌, ◌<◌}
use mathlib.Core.Path.{◌≡◌, refl, sym, ap, ◌∙◌}
use mathlib.Core.List.{List, [], ◌∷◌, ◌++◌}
use mathlib.Core.Option.{Option, none, some, some-injective, none-ne-some}
use native.Mathlib.Omega.{arith}
use native.Mathlib.Numerals.{add-one}
use lib.ListN.{length, length-append, get_or, take, drop, take-append-drop}
use lib.Seq.{take-suc, drop-cons, length-take-le}
use Rattle.rules.specs.Plan.{Round, stops_on, stops_on_all}
use Rattle.rules.specs.Edits.{Trial}
use Rattle.rules.specs.Attempts.{retried, joined, tried_from}

-- the stops of two parts of the vehicles
pub stops_parts : (front rest : List Round) → length (stops_on_all (front ++ rest)) ≡ length (stops_on_all front) + length (stops_on_all rest)
unfolding stops_on_all
stops_parts [] rest = omega arith
stops_parts (tasks ∷ front) rest =
    omega (
      arith,
      stops_parts front rest,
      length-append (stops_on tasks) (stops_on_all (front ++ rest)),
      length-append (stops_on tasks) (stops_on_all front),
    )

-- cut at vehicle v, counted from 0
module _ (rounds : List Round) (v : ℕ) (l : v < length rounds) where
  abbrev here : Round
  here = get_or rounds v []

  pub front_more : take (v + 1) rounds ≡ take v rounds ++ (here ∷ [])
  front_more = rw add-one (take-suc rounds v [] l)

  pub cut_whole : rounds ≡ take v rounds ++ (here ∷ drop (v + 1) rounds)
  cut_whole = sym (take-append-drop v rounds) ∙ ap (λ (xs : List Round). take v rounds ++ xs) (rw add-one (drop-cons rounds v [] l))

  pub front_length : length (take v rounds) ≡ v
  front_length = length-take-le v rounds (omega arith)

-- a vehicle in front of others
pub record Both (o : Option Round) (p : Option (List Round)) (q : List Round) : Type 0 where
  pub first : Round
  pub others : List Round
  pub first_is : o ≡ some first
  pub others_are : p ≡ some others
  pub whole : q ≡ first ∷ others

pub joined_both : (o : Option Round) (p : Option (List Round)) (q : List Round) → joined o p ≡ some q → Both o p q
unfolding joined
joined_both none p q e = absurd (none-ne-some q e)
joined_both (some x) none q e = absurd (none-ne-some q e)
joined_both (some x) (some xs) q e = record { first = x; others = xs; first_is = refl; others_are = refl; whole = sym (some-injective _ _ e) }

-- what a trial makes of two parts of the vehicles
unfoldable pub appended : Option (List Round) → Option (List Round) → Option (List Round)
appended none o = none
appended (some xs) none = none
appended (some xs) (some ys) = some (xs ++ ys)

joined_appended : (a : Option Round) (b c : Option (List Round)) → joined a (appended b c) ≡ appended (joined a b) c
unfolding joined appended
joined_appended none b c = refl
joined_appended (some x) none c = refl
joined_appended (some x) (some xs) none = refl
joined_appended (some x) (some xs) (some ys) = refl

appended_none : (o : Option (List Round)) → o ≡ appended (some []) o
unfolding appended
appended_none none = refl
appended_none (some xs) = refl

appended_fails : (o : Option (List Round)) → appended o none ≡ none
unfolding appended
appended_fails none = refl
appended_fails (some xs) = refl

pub tried_append : (day : List ℕ) (m : Trial) (from : ℕ) (xs ys : List Round)
    → tried_from day m from (xs ++ ys) ≡ appended (tried_from day m from xs) (tried_from day m (from + length xs) ys)
unfolding tried_from
tried_append day m from [] ys = let e : from + 0 ≡ from = omega arith in rw e (appended_none (tried_from day m from ys))
tried_append day m from (tasks ∷ xs) ys =
    let e : from + suc (length xs) ≡ suc from + length xs = omega arith in
    rw e (ap (joined (retried day m (suc from) tasks)) (tried_append day m (suc from) xs ys)
    ∙ joined_appended (retried day m (suc from) tasks) (tried_from day m (suc from) xs) (tried_from day m (suc from + length xs) ys))

module _ (day : List ℕ) (m : Trial) (rounds : List Round) (v : ℕ) (l : v < length rounds) where
  -- one vehicle more
  pub tried_more : (done : List Round) (one : Round) → tried_from day m 0 (take v rounds) ≡ some done → retried day m (v + 1) (get_or rounds v []) ≡ some one
      → tried_from day m 0 (take (v + 1) rounds) ≡ some (done ++ (one ∷ []))
  unfolding tried_from joined appended
  tried_more done one f g =
      let e : suc (0 + length (take v rounds)) ≡ v + 1 = omega (arith, front_length rounds v l) in
      ap (tried_from day m 0) (front_more rounds v l) ∙ tried_append day m 0 (take v rounds) (get_or rounds v [] ∷ []) ∙ rw (f, e, g) refl

  -- a vehicle on which the trial fails
  pub tried_fails : retried day m (v + 1) (get_or rounds v []) ≡ none → tried_from day m 0 rounds ≡ none
  unfolding tried_from joined
  tried_fails g =
      let e : suc (0 + length (take v rounds)) ≡ v + 1 = omega (arith, front_length rounds v l) in
      ap (tried_from day m 0) (cut_whole rounds v l) ∙ tried_append day m 0 (take v rounds) (get_or rounds v [] ∷ drop (v + 1) rounds) ∙ rw (e, g) (appended_fails (tried_from day m 0 (take v rounds)))
