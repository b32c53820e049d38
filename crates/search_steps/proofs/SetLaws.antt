-- The K that are asked for, and the lists from K to K. Assumes nothing.
use Prim.Native.Nat.{ℕ, suc, ◌+◌, ◌-◌, ◌*◌, ◌≤◌, ◌<◌}
use mathlib.Core.Path.{◌≡◌, refl, ap}
use mathlib.Core.List.{List, []}
use native.Mathlib.Omega.{arith}
use native.Mathlib.Nat.{suc-mul}
use native.Mathlib.Numerals.{add-one}
use lib.ListN.{length, drop, drop_of_length-le}
use lib.Seq.{drop-cons}
use Rattle.rules.specs.Plan.{Round}
use Rattle.rules.specs.Search.{trial_lists}
use Rattle.trial_list.specs.TrialRest.{list_start}
use Rattle.trial_list.proofs.ListRests.{whole_list}
use Rattle.search_steps.specs.Searches.{k_at, lists_left}

-- a trial that is made is more than all lists behind it
pub fewer_trials : (Ks : List ℕ) {budget made : ℕ} (from to : ℕ) → made < budget → from < length Ks
    → (budget - (made + 1)) * (length Ks + 1) + (length Ks - to) < (budget - made) * (length Ks + 1) + (length Ks - from)
fewer_trials Ks {budget} {made} from to h l =
    let e : budget - made ≡ suc (budget - (made + 1)) = omega (arith, h) in
    omega (arith, ap (λ (k : ℕ). k * (length Ks + 1)) e, suc-mul (budget - (made + 1)) (length Ks + 1), l)

-- the lists from K to K
module _ (day Ks : List ℕ) (rounds : List Round) (stage : ℕ) where
  pub lists_at : stage < length Ks → lists_left day Ks rounds stage list_start ≡ trial_lists day (drop stage Ks) rounds
  lists_at h = rw (whole_list day (k_at Ks stage) rounds, add-one stage, drop-cons Ks stage 0 h) refl

  pub lists_past : length Ks ≤ stage → trial_lists day (drop stage Ks) rounds ≡ []
  lists_past h = rw (drop_of_length-le Ks h) refl
