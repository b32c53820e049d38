-- One task of a walk: what is written is what the definitions say, tip by tip and stop by stop. Assumes nothing.
use Prim.Native.Nat.{ℕ, ◌+◌, ◌<◌}
use mathlib.Core.Path.{◌≡◌, refl, sym, ap, ◌∙◌}
use mathlib.Core.Bool.{Bool, true, false, ◌&&◌}
use mathlib.Core.List.{List}
use mathlib.Core.Option as maybe
use mathlib.Core.Option.{none, some}
use native.Mathlib.Omega.{arith}
use lib.Dec.{ltb}
use lib.ListN.{length}
use borrow.Author.Tests.{lt-ltb, le-ltb, ltb-true}
use Rattle.std.specs.Prelude.{Option, Some, None}
use Rattle.rules.specs.Fields.{stop_place, load_limit, quantity}
use Rattle.rules.specs.Plan.{serve, empty}
use Rattle.rules.specs.Home.{nearest_tip}
use Rattle.rules.specs.Build.{Truck, doing, resting}
use Rattle.rules.specs.Attempts.{inserting, emptied_first, exceeds, serving_then, walk_task, walk_home}
use Rattle.laws.proofs.Tests.{both_true}
use Rattle.walks.specs.Cabs.{Start, Standing, Stands, failed, on_road, SomeStanding, Drives}
use Rattle.walks.specs.declared.cabs.Cab.{Cab}
use Rattle.walks.proofs.CabLaws.{standing_fewer, some_standing, on_road_lem}

-- a vehicle, where there is one
pub record StillGoes (day : List ℕ) (start : Start) (most more : ℕ) (p part : List ℕ) (o : maybe.Option Truck) (c : Cab) : Type 0 where
  pub v : Truck
  pub is : o ≡ some v
  pub standing : Standing day start most more p part v c

module _ {day : List ℕ} {start : Start} {most more : ℕ} {p part : List ℕ} where
  pub stands_goes : {c : Cab} (o : maybe.Option Truck) → Stands day start most more p part o (Some c) → StillGoes day start most more p part o c
  stands_goes o (on_road v c s) = record { v = v; is = refl; standing = s }

  pub stands_failed : (o : maybe.Option Truck) → Stands day start most more p part o None → (o ≡ none) × (length part ≡ length p)
  stands_failed o (failed z) = (refl, z)

-- the nearest open tip is inserted where it must be
pub must_empty : {day part now : List ℕ} {c : Cab} {must : Bool} {r : Option Cab} → must ≡ true
    → Drives day 0 part c (λ v. inserting day v (nearest_tip day v.trip.place v.trip.minute)) now r → Drives day 0 part c (λ v. emptied_first day must v) now r
unfolding emptied_first
must_empty y h start most more p v s = rw y (h start most more p v s)

pub need_not_empty : {day part : List ℕ} {c : Cab} {must : Bool} → must ≡ false → Drives day 0 part c (λ v. emptied_first day must v) part (Some c)
unfolding emptied_first
need_not_empty n start most more p v s = rw n (on_road v _ (standing_fewer (omega arith) s))

module _ {day : List ℕ} {part : List ℕ} {c : Cab} {q : ℕ} (k : ℕ) {full : Bool} (qIs : q ≡ quantity day (stop_place day k))
    (fullIs : full ≡ (ltb 0 c.load && ltb (load_limit day) (c.load + q))) where
  exceeds_is : {start : Start} {most more : ℕ} {p : List ℕ} (v : Truck) → Standing day start most more p part v c → exceeds day v k ≡ full
  unfolding exceeds
  exceeds_is v s = sym (fullIs ∙ rw (qIs, s.riding.load_is) refl)

  pub stop_fails : {now : List ℕ} → Drives day 0 part c (λ v. emptied_first day full v) now None → Drives day 1 part c (λ v. walk_task day v (serve k)) now None
  unfolding walk_task serving_then
  stop_fails f start most more p v s =
      let d = stands_failed (emptied_first day full v) (f start most (1 + more) p v (standing_fewer (omega arith) s)) in
      rw (exceeds_is v s, d.0) (failed d.1)

  pub stop_serves : (e r : Cab) {mid now : List ℕ} → Drives day 0 part c (λ v. emptied_first day full v) mid (Some e)
      → Drives day 1 mid e (λ v. some (doing day v (serve k))) now (Some r) → Drives day 1 part c (λ v. walk_task day v (serve k)) now (Some r)
  unfolding walk_task serving_then
  stop_serves e r f h start most more p v s =
      let d = stands_goes (emptied_first day full v) (f start most (1 + more) p v (standing_fewer (omega arith) s)) in
      rw (exceeds_is v s, d.is) (h start most more p d.v d.standing)

-- it may serve stops behind the tip
pub some_served : {day part now : List ℕ} {c e : Cab} {least : ℕ} (f : Truck → maybe.Option Truck) → SomeStanding day least part c → Drives day 0 part c f now (Some e)
    → SomeStanding day least now e
some_served f s d =
    some_standing s.enough (stands_goes (f s.v) (d s.start s.most s.more s.p s.v (standing_fewer (omega arith) s.standing))).standing

pub some_fewer : {day part : List ℕ} {c : Cab} {least : ℕ} → SomeStanding day least part c → SomeStanding day 0 part c
some_fewer s = some_standing (omega arith) s.standing

-- a tip with a load, and without one
pub tip_dropped : {day part : List ℕ} {c : Cab} (x : ℕ) → c.load ≡ 0 → Drives day 0 part c (λ v. walk_task day v (empty x)) part (Some c)
unfolding walk_task
tip_dropped x z start most more p v s = let e : ltb 0 v.cargo.load ≡ false = le-ltb 0 v.cargo.load (omega (arith, s.riding.load_is)) in rw e (on_road v _ (standing_fewer (omega arith) s))

pub tip_driven : {day part now : List ℕ} {c r : Cab} (x : ℕ) → (c.load ≡ 0 → ⊥) → Drives day 0 part c (λ v. some (doing day v (empty x))) now (Some r)
    → Drives day 0 part c (λ v. walk_task day v (empty x)) now (Some r)
unfolding walk_task
tip_driven {c = c} x z h start most more p v s =
    let e : ltb 0 v.cargo.load ≡ true = lt-ltb 0 v.cargo.load (omega (arith, s.riding.load_is, z)) in rw e (h start most more p v s)

-- before the way back: the vehicle that goes on is the one that has rested
pub home_stands : {day mid : List ℕ} {e b : Cab} → SomeStanding day 0 mid e → b ≡ e → SomeStanding day 0 mid b
home_stands s q = rw q s

pub home_loaded : {load kept : ℕ} → kept ≡ load → ltb 0 load ≡ true → 0 < kept
home_loaded q l = rw q (ltb-true _ _ l)

pub home_drives : {day part mid now : List ℕ} {c e b : Cab} {r : Option Cab} → Drives day 0 part c (λ v. some (resting day v)) mid (Some e)
    → Drives day 0 mid b (λ v. emptied_first day (ltb 0 e.load) v) now r → b ≡ e → Drives day 0 part c (λ v. walk_home day (some v)) now r
unfolding walk_home
home_drives {day} {e = e} h g q start most more p v s =
    let t = on_road_lem (h start most more p v s) in
    let l : ltb 0 (resting day v).cargo.load ≡ ltb 0 e.load = ap (ltb 0) (sym t.riding.load_is) in
    rw l (g start most more p (resting day v) (rw q (standing_fewer (omega arith) t)))
