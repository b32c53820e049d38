-- What a trial that may be made of a plan makes of its vehicles: known numbers, room for their words, and each stop where the one stood
-- whose place it takes. The day may be any list of words.
-- Assumes nothing.
use Rattle.std.specs.Prelude.{if◌then◌else◌}
use Prim.Native.Nat.{ℕ, suc, ◌<◌}
use mathlib.Core.Path.{◌≡◌, refl, sym, ap, ◌∙◌, subst}
use mathlib.Core.Bool.{Bool, true, false, ◌||◌, true≢false}
use mathlib.Core.List.{List, [], ◌∷◌}
use mathlib.Core.Logic.{inl, inr}
use mathlib.Core.Option.{some, some-injective}
use native.Mathlib.Omega.{arith}
use lib.Dec.{eqb}
use lib.ListN.{length, length-append}
use Rattle.rules.specs.Lists.{Every, times}
use Rattle.rules.specs.Plan.{Round, stops_on, stops_on_all, Known}
use Rattle.rules.specs.Edits.{changed, Trial, touches}
use Rattle.rules.specs.Attempts.{retried, tried_from}
use Rattle.laws.proofs.Decided.{known}
use Rattle.laws.proofs.Lists.{times_append}
use Rattle.greedy_laws.specs.Rooms.{Room}
use Rattle.edits.proofs.EditLaws.{renamed, Suits}
use Rattle.edits.proofs.EditSuits.{suits_before, suits_after, suits_swap, suits_remove, suits_replace, swap_elsewhere}
use Rattle.walks.proofs.Walking.{walked_again_lem}
use Rattle.trial_list.specs.Shapes.{EachFrom, StandsOn, Valid, moved_before, moved_after, swapped, removed, replaced}
use Rattle.candidates.proofs.RoundLists.{joined_both}

-- what a trial's edit does to a vehicle that it touches, and to one that it does not
pub record Suited (day : List ℕ) (m : Trial) (number : ℕ) (tasks : Round) : Type 0 where
  pub touched : touches m number ≡ true → Every (Known day) tasks → Suits day m.edit tasks
  pub elsewhere : touches m number ≡ false → (k : ℕ) → times (renamed m.edit k) (stops_on tasks) ≡ times k (stops_on tasks)

each_all : (P : ℕ → Round → Type 0) → ((n : ℕ) (tasks : Round) → P n tasks) → (from : ℕ) (rounds : List Round) → EachFrom P from rounds
unfolding EachFrom
each_all P h from [] = tt
each_all P h from (tasks ∷ rounds) = (h (suc from) tasks, each_all P h (suc from) rounds)

each_two : (P Q R : ℕ → Round → Type 0) → ((n : ℕ) (tasks : Round) → P n tasks → Q n tasks → R n tasks)
    → (from : ℕ) (rounds : List Round) → EachFrom P from rounds → EachFrom Q from rounds → EachFrom R from rounds
unfolding EachFrom
each_two P Q R h from [] p q = tt
each_two P Q R h from (tasks ∷ rounds) p q = (h (suc from) tasks p.0 q.0, each_two P Q R h (suc from) rounds p.1 q.1)

-- a vehicle that neither of two stops is on
neither : (i j : ℕ) (ks : List ℕ) (b c : Bool) → (b || c) ≡ false → times i ks ≡ (if b then 1 else 0) → times j ks ≡ (if c then 1 else 0) → times i ks ≡ times j ks
neither i j ks true c e p q = absurd (true≢false e)
neither i j ks false true e p q = absurd (true≢false e)
neither i j ks false false e p q = p ∙ sym q

module _ (day : List ℕ) (rounds : List Round) where
  pub valid_suits : (m : Trial) → Valid day rounds m → EachFrom (Suited day m) 0 rounds
  unfolding StandsOn renamed touches
  valid_suits m (moved_before i j a apart p q) =
      each_two (StandsOn i a) (StandsOn j a) (Suited day m)
      (λ n tasks x y. record { touched = λ t h. suits_before day tasks h i j apart (p.known, q.known) (x ∙ sym y); elsewhere = λ f k. refl })
      0 rounds p.stands q.stands
  valid_suits m (moved_after i j a apart p q) =
      each_two (StandsOn i a) (StandsOn j a) (Suited day m)
      (λ n tasks x y. record { touched = λ t h. suits_after day tasks h i j apart (p.known, q.known) (x ∙ sym y); elsewhere = λ f k. refl })
      0 rounds p.stands q.stands
  valid_suits m (swapped i j a b apart two p q) =
      each_two (StandsOn i a) (StandsOn j b) (Suited day m)
      (λ n tasks x y. record {
        touched = λ t h. suits_swap day tasks h i j apart (p.known, q.known);
        elsewhere = λ f. swap_elsewhere i j (stops_on tasks) (neither i j (stops_on tasks) (eqb n a) (eqb n b) f x y);
      })
      0 rounds p.stands q.stands
  valid_suits m (removed at a first within) =
      each_all (Suited day m) (λ n tasks. record { touched = λ t h. suits_remove day tasks h at; elsewhere = λ f k. refl }) 0 rounds
  valid_suits m (replaced at x a n first within) =
      each_all (Suited day m) (λ n' tasks. record { touched = λ t h. suits_replace day tasks h at x n; elsewhere = λ f k. refl }) 0 rounds

  -- over all vehicles each stop stands as often as the one that takes its place
  pub valid_renamed : (m : Trial) → Valid day rounds m → (k : ℕ) → times (renamed m.edit k) (stops_on_all rounds) ≡ times k (stops_on_all rounds)
  unfolding renamed
  valid_renamed m (moved_before i j a apart p q) k = refl
  valid_renamed m (moved_after i j a apart p q) k = refl
  valid_renamed m (swapped i j a b apart two p q) k = swap_elsewhere i j (stops_on_all rounds) (p.once ∙ sym q.once) k
  valid_renamed m (removed at a first within) k = refl
  valid_renamed m (replaced at x a n first within) k = refl

-- one vehicle before and after a trial
pub record Remade (day : List ℕ) (rename : ℕ → ℕ) (tasks done : Round) : Type 0 where
  pub known : Every (Known day) done
  pub room : Room done
  pub count : length (stops_on done) ≡ length (stops_on tasks)
  pub same : (k : ℕ) → times k (stops_on done) ≡ times (rename k) (stops_on tasks)

-- all of them
pub record AllRemade (day : List ℕ) (rename : ℕ → ℕ) (rounds q : List Round) : Type 0 where
  pub known : Every (Every (Known day)) q
  pub rooms : Every Room q
  pub busy : Every (λ tasks. 0 < length (stops_on tasks)) rounds → Every (λ tasks. 0 < length (stops_on tasks)) q
  pub count : length (stops_on_all q) ≡ length (stops_on_all rounds)
  pub vehicles : length q ≡ length rounds
  pub same : (k : ℕ) → times k (stops_on_all q) ≡ times (rename k) (stops_on_all rounds)

module _ (day : List ℕ) (m : Trial) where
  pub retried_remade : (number : ℕ) (tasks done : Round) → Every (Known day) tasks → Room tasks → Suited day m number tasks
      → retried day m number tasks ≡ some done → Remade day (renamed m.edit) tasks done
  unfolding retried
  retried_remade number tasks done h r s e = elim (known (touches m number)) [
    | inl t ↦
        let suits = s.touched t h in
        let w = walked_again_lem day (changed m.edit 0 tasks) done suits.known (rw t at e) in
        record { known = w.known; room = w.room; count = ap length w.stops ∙ suits.count; same = λ k. ap (times k) w.stops ∙ suits.same k }
    | inr f ↦
        let same : tasks ≡ done = some-injective _ _ (rw f at e) in
        subst (Remade day (renamed m.edit) tasks) same
        (record { known = h; room = r; count = refl; same = λ k. sym (s.elsewhere f k) })
  ]

  next_remade : (tasks done : Round) (rounds others : List Round) → Remade day (renamed m.edit) tasks done
      → AllRemade day (renamed m.edit) rounds others → AllRemade day (renamed m.edit) (tasks ∷ rounds) (done ∷ others)
  unfolding Every stops_on_all
  next_remade tasks done rounds others a b =
      record {
        known = (a.known, b.known);
        rooms = (a.room, b.rooms);
        busy = λ h. (rw a.count h.0, b.busy h.1);
        count = omega (arith, a.count, b.count, length-append (stops_on tasks) (stops_on_all rounds), length-append (stops_on done) (stops_on_all others));
        vehicles = ap suc b.vehicles;
        same = λ k. omega (
          arith,
          a.same k,
          b.same k,
          times_append k (stops_on done) (stops_on_all others),
          times_append (renamed m.edit k) (stops_on tasks) (stops_on_all rounds),
        );
      }

  pub tried_remade : (from : ℕ) (rounds q : List Round) → Every (Every (Known day)) rounds → Every Room rounds → EachFrom (Suited day m) from rounds
      → tried_from day m from rounds ≡ some q → AllRemade day (renamed m.edit) rounds q
  unfolding tried_from Every EachFrom stops_on_all times
  tried_remade from [] q h r s e =
      subst (AllRemade day (renamed m.edit) []) (some-injective _ _ e)
      (record { known = tt; rooms = tt; busy = λ b. tt; count = refl; vehicles = refl; same = λ k. refl })
  tried_remade from (tasks ∷ rounds) q h r s e =
      let b = joined_both (retried day m (suc from) tasks) (tried_from day m (suc from) rounds) q e in
      rw b.whole
      (next_remade tasks b.first rounds b.others (retried_remade (suc from) tasks b.first h.0 r.0 s.0 b.first_is)
      (tried_remade (suc from) rounds b.others h.1 r.1 s.1 b.others_are))
