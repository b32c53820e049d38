-- Plans whose words say the same: the check, and whatever looks for a vehicle, takes them alike. Assumes nothing.
use Prim.Native.Nat.{ℕ, zero, suc}
use mathlib.Core.Path.{◌≡◌, refl, sym, ap, ◌∙◌}
use mathlib.Core.List.{List, [], ◌∷◌, ◌++◌}
use native.Mathlib.Omega.{arith}
use lib.ListN.{length, take, drop, length-map}
use Rattle.rules.specs.PlanWords.{Word, word_of, read_plan}
use Rattle.rules.specs.Check.{Walk, walk_after, check_from}
use Rattle.rules.specs.VehiclePlace.{words_to_back, place_from}

-- they have as many words
pub read_length : (ws vs : List ℕ) → read_plan ws ≡ read_plan vs → length ws ≡ length vs
read_length ws vs e = sym (length-map ws word_of) ∙ ap length e ∙ length-map vs word_of

-- words in front of them
pub read_behind : (words ws vs : List ℕ) → read_plan ws ≡ read_plan vs → read_plan (words ++ ws) ≡ read_plan (words ++ vs)
read_behind [] ws vs e = e
read_behind (w ∷ words) ws vs e = ap (λ (l : List Word). word_of w ∷ l) (read_behind words ws vs e)

-- a part of them
pub read_take : (n : ℕ) (ws : List ℕ) → read_plan (take n ws) ≡ take n (read_plan ws)
read_take zero ws = refl
read_take (suc n) [] = refl
read_take (suc n) (w ∷ ws) = ap (λ (l : List Word). word_of w ∷ l) (read_take n ws)

pub read_drop : (n : ℕ) (ws : List ℕ) → read_plan (drop n ws) ≡ drop n (read_plan ws)
read_drop zero ws = refl
read_drop (suc n) [] = refl
read_drop (suc n) (w ∷ ws) = read_drop n ws

pub check_read : (day ws vs : List ℕ) (i : ℕ) (s : Walk) → read_plan ws ≡ read_plan vs → check_from day ws i s ≡ check_from day vs i s
unfolding check_from
check_read day [] [] i s e = refl
check_read day [] (v ∷ vs) i s e = let z : ◌≡◌ {A = ℕ} 0 1 = cc in absurd (omega arith)
check_read day (w ∷ ws) [] i s e = let z : ◌≡◌ {A = ℕ} 0 1 = cc in absurd (omega arith)
check_read day (w ∷ ws) (v ∷ vs) i s e =
    let first : word_of w ≡ word_of v = cc in
    let others : read_plan ws ≡ read_plan vs = cc in
    rw (first, check_read day ws vs (suc i) (walk_after day s (word_of v)) others) refl

pub back_read : (ws vs : List ℕ) → read_plan ws ≡ read_plan vs → words_to_back ws ≡ words_to_back vs
unfolding words_to_back
back_read [] [] e = refl
back_read [] (v ∷ vs) e = let z : ◌≡◌ {A = ℕ} 0 1 = cc in absurd (omega arith)
back_read (w ∷ ws) [] e = let z : ◌≡◌ {A = ℕ} 0 1 = cc in absurd (omega arith)
back_read (w ∷ ws) (v ∷ vs) e =
    let first : word_of w ≡ word_of v = cc in
    let others : read_plan ws ≡ read_plan vs = cc in
    rw (first, back_read ws vs others) refl

pub place_read : (number : ℕ) (ws vs : List ℕ) (i : ℕ) → read_plan ws ≡ read_plan vs → place_from number ws i ≡ place_from number vs i
unfolding place_from
place_read number [] [] i e = refl
place_read number [] (v ∷ vs) i e = let z : ◌≡◌ {A = ℕ} 0 1 = cc in absurd (omega arith)
place_read number (w ∷ ws) [] i e = let z : ◌≡◌ {A = ℕ} 0 1 = cc in absurd (omega arith)
place_read number (w ∷ ws) (v ∷ vs) i e =
    let first : word_of w ≡ word_of v = cc in
    let others : read_plan ws ≡ read_plan vs = cc in
    rw (first, back_read (w ∷ ws) (v ∷ vs) e, place_read number ws vs (suc i) others) refl
