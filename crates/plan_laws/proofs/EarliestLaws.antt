-- The earliest minutes of calls are a timetable where they are in time, and no timetable is sooner; the same of the first calls alone. So the
-- earliest timetable of a vehicle exists exactly where there is one. Assumes nothing.
use Prim.Native.Nat.{ℕ, zero, suc, ◌+◌, ◌≤◌}
use mathlib.Core.Path.{◌≡◌, refl, ap}
use mathlib.Core.Bool.{false}
use mathlib.Core.List.{List, [], ◌∷◌}
use mathlib.Core.Logic.{◌↔◌}
use native.Mathlib.Omega.{arith}
use lib.ListN.{take}
use Rattle.rules.specs.Fields.{opening}
use Rattle.rules.specs.Plan.{Round}
use Rattle.rules.specs.Timetable.{Call, calls, Keeps, NoLater, IsEarliest, call_start, call_end, starts, InTime, earliest_minutes}
use Rattle.rules.specs.Lawful.{Timed}

-- where they are in time, the earliest minutes are a timetable
pub starts_keep : (free : ℕ) (cs : List Call) → InTime free cs → Keeps free cs (starts free cs)
unfolding InTime Keeps starts
starts_keep free [] x = tt
starts_keep free (c ∷ cs) x =
    (record { reached = omega arith; opened = omega arith; not_closed = x.0 }, starts_keep (call_end free c) cs x.1)

-- a timetable of a vehicle that is free no sooner is at no call sooner
pub starts_first : (free later : ℕ) (cs : List Call) (ms : List ℕ) → free ≤ later → Keeps later cs ms → NoLater (starts free cs) ms
unfolding Keeps starts NoLater
starts_first free later [] [] h x = tt
starts_first free later [] (m ∷ ms) h x = absurd x
starts_first free later (c ∷ cs) [] h x = absurd x
starts_first free later (c ∷ cs) (m ∷ ms) h x =
    (omega (arith, x.0), starts_first (call_end free c) (m + c.lasts) cs ms (omega (arith, x.0)) x.1)

-- and where there is one, the earliest minutes are in time
pub keeps_in_time : (free later : ℕ) (cs : List Call) (ms : List ℕ) → free ≤ later → Keeps later cs ms → InTime free cs
unfolding Keeps InTime
keeps_in_time free later [] ms h x = tt
keeps_in_time free later (c ∷ cs) [] h x = absurd x
keeps_in_time free later (c ∷ cs) (m ∷ ms) h x =
    (omega (arith, x.0), keeps_in_time (call_end free c) (m + c.lasts) cs ms (omega (arith, x.0)) x.1)

-- the first calls have the first minutes
pub starts_take : (n free : ℕ) (cs : List Call) → starts free (take n cs) ≡ take n (starts free cs)
unfolding starts
starts_take zero free cs = refl
starts_take (suc n) free [] = refl
starts_take (suc n) free (c ∷ cs) = ap (λ (ms : List ℕ). call_start free c ∷ ms) (starts_take n (call_end free c) cs)

-- so where the first calls are in time, their earliest minutes are a timetable of them, whatever comes after
pub prefix_kept : (n free : ℕ) (cs : List Call) → InTime free (take n cs) → Keeps free (take n cs) (take n (starts free cs))
prefix_kept n free cs x = rw (← starts_take n free cs) (starts_keep free (take n cs) x)

-- and no timetable of them is sooner
pub prefix_first : (n free later : ℕ) (cs : List Call) (ms : List ℕ) → free ≤ later → Keeps later (take n cs) ms → NoLater (take n (starts free cs)) ms
prefix_first n free later cs ms h x = rw (← starts_take n free cs) (starts_first free later (take n cs) ms h x)

-- minutes of which neither are later are the same
no_later_both : (xs ys : List ℕ) → NoLater xs ys → NoLater ys xs → xs ≡ ys
unfolding NoLater
no_later_both [] [] a b = refl
no_later_both [] (y ∷ ys) a b = absurd a
no_later_both (x ∷ xs) [] a b = absurd a
no_later_both (x ∷ xs) (y ∷ ys) a b =
    let e : x ≡ y = omega (arith, a.0, b.0) in
    cc (no_later_both xs ys a.1 b.1)

-- no two timetables are the earliest
pub earliest_only : (day : List ℕ) (tasks : Round) (xs ys : List ℕ) → IsEarliest day tasks xs → IsEarliest day tasks ys → xs ≡ ys
earliest_only day tasks xs ys a b = no_later_both xs ys (a.first ys b.kept) (b.first xs a.kept)

-- a vehicle that is in time when it leaves at E0 has its earliest minutes then for its earliest timetable
in_time_earliest : (day : List ℕ) (tasks : Round) → InTime (opening day 0) (calls day 0 false tasks)
    → IsEarliest day tasks (earliest_minutes day (opening day 0) tasks)
in_time_earliest day tasks x =
    record {
      kept = record { leaves = opening day 0; opened = omega arith; kept = starts_keep (opening day 0) (calls day 0 false tasks) x };
      first = λ others t. starts_first (opening day 0) t.leaves (calls day 0 false tasks) others t.opened t.kept;
    }

-- a vehicle has a timetable exactly where it is in time then
pub timed_iff : (day : List ℕ) (tasks : Round) → Timed day tasks ↔ InTime (opening day 0) (calls day 0 false tasks)
timed_iff day tasks = (
  λ t. keeps_in_time (opening day 0) t.kept.leaves (calls day 0 false tasks) t.minutes t.kept.opened t.kept.kept,
  λ x. record { minutes = _; kept = (in_time_earliest day tasks x).kept },
)

-- so where there is a timetable, the earliest minutes from E0 are the earliest one
pub earliest_is : (day : List ℕ) (tasks : Round) → Timed day tasks → IsEarliest day tasks (earliest_minutes day (opening day 0) tasks)
earliest_is day tasks timed = in_time_earliest day tasks ((timed_iff day tasks).0 timed)
