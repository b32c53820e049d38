-- The words of the vehicles while they are written one behind the other.
-- Assumes nothing.
use Rattle.std.specs.Prelude.{Some, None}
use Prim.Native.Nat.{ℕ, ◌+◌, ◌-◌, ◌*◌, ◌≤◌, ◌<◌}
use mathlib.Core.Path.{◌≡◌, sym, ap, ◌∙◌, subst, fun_ext}
use mathlib.Core.Bool.{and-true}
use mathlib.Core.List.{List, [], ◌∷◌, ◌++◌, map, append_assoc, append-nil}
use native.Mathlib.Omega.{arith}
use native.Mathlib.Numerals.{add-one}
use lib.ListN.{length, take, drop, length-append, length-map}
use borrow.Rule.Slice.PartMut.{put_mid}
use Rattle.rules.specs.Lists.{mem, unmet}
use Rattle.rules.specs.Fields.{stops}
use Rattle.rules.specs.PlanWords.{Word, back}
use Rattle.rules.specs.Plan.{Round, word_for}
use Rattle.rules.specs.Build.{one_vehicle, greedy_rounds, routed}
use Rattle.laws.specs.Marks.{marked, ones_of, up_to}
use Rattle.laws.proofs.Lists.{unmet_nil}
use Rattle.marks.specs.declared.Marks.{Marks}
use Rattle.plan_words.specs.Said.{says, round_said, Said}
use Rattle.plan_words.proofs.SaidLaws.{said_none, said_count, said_lend, said_same, says_next}
use Rattle.vehicle_writer.specs.Going.{LeftOf, WritesOne}
use Rattle.vehicle_writer.specs.declared.writer.Written.{Written}
use Rattle.greedy_laws.specs.States.{unrouted}
use Rattle.greedy_laws.proofs.Fleets.{fleet_from, routed_from, from_start, from_none, from_some, vehicle_unmet}
use Rattle.greedy_laws.proofs.GreedyRoom.{vehicle_room}
use Rattle.greedy_laws.proofs.VehicleStops.{vehicle_routes}
use Rattle.builder.specs.Fleet.{AllWritten}

-- so many vehicles are written, and these stops are routed
pub record Underway (day p part : List ℕ) (m : Marks) (at number : ℕ) : Type 0 where
  pub most : stops day ≤ 240
  pub fits : 5 * stops day ≤ length p
  pub taken : List ℕ
  pub said : List Word
  pub left_is : LeftOf day taken m
  pub text : Said said p part at
  pub rounds : said ++ says number (fleet_from day taken) [] ≡ says 0 (greedy_rounds day) []
  pub routes : routed_from day taken ≡ routed day (stops day + 1) []
  pub room : at + 5 * unmet (stops day) taken ≤ 5 * stops day
  pub few : number + unmet (stops day) taken ≤ stops day

-- at the start all stops are still to be routed
none_routed : (n : ℕ) → unrouted n [] ≡ up_to n
unfolding unrouted mem
none_routed n = fun_ext (λ k. and-true (up_to n k))

pub underway_start : {day p : List ℕ} {n : ℕ} (m : Marks) → n ≡ stops day → stops day ≤ 240 → 5 * stops day ≤ length p
    → (marked m.words ≡ up_to n) × (ones_of m.words ≡ n) → Underway day p p m 0 0
underway_start {day} {p} m same most fits all =
    let none = unmet_nil (stops day) in
    record {
      most = most;
      fits = fits;
      taken = [];
      said = [];
      left_is = record { are = all.0 ∙ ap up_to same ∙ sym (none_routed (stops day)); count = all.1 ∙ same ∙ sym none };
      text = said_none p;
      rounds = ap (λ (rs : List Round). says 0 rs []) (from_start day).0;
      routes = (from_start day).1;
      room = omega arith;
      few = omega arith;
    }

-- one vehicle and those behind it
says_more : (said : List Word) (before : ℕ) (tasks : Round) (rounds : List Round)
    → (said ++ round_said (before + 1) tasks) ++ says (before + 1) rounds [] ≡ said ++ says before (tasks ∷ rounds) []
says_more said before tasks rounds =
    append_assoc said (round_said (before + 1) tasks) (says (before + 1) rounds [])
    ∙ ap (λ (k : ℕ). said ++ (round_said k tasks ++ says k rounds [])) (add-one before)
    ∙ ap (λ (ws : List Word). said ++ ws) (says_next before tasks rounds [])

module _ {day p part : List ℕ} {m : Marks} {at number : ℕ} (u : Underway day p part m at number) where
  -- the numbers of a vehicle that goes out are small
  pub at_within : at ≤ length part
  at_within = omega (arith, u.room, u.fits, u.text.text.size)

  pub number_few : number ≤ 240
  number_few = omega (arith, u.few, u.most)

  -- room for the next vehicle in the part that is left
  abbrev lent : List ℕ
  lent = take (length part - at) (drop at part)

  module _ {e : List ℕ} where
    -- the next vehicle is written
    pub underway_next : (w : Written) → WritesOne day m (number + 1) lent e (Some w)
        → Underway day p (put_mid at (length part - at) part e) w.left (at + w.words) (number + 1)
    underway_next w one =
        let out = one u.taken u.left_is in
        let v = one_vehicle day u.taken in
        let some = from_some day u.taken out.some in
        let long = length-append (map word_for v.tasks) (back ∷ []) in
        record {
          most = u.most;
          fits = u.fits;
          taken = v.taken;
          said = u.said ++ round_said (number + 1) v.tasks;
          left_is = out.done.left_is;
          text = said_lend u.text out.done.text;
          rounds =
              says_more u.said number v.tasks (fleet_from day v.taken)
              ∙ ap (λ (rs : List Round). u.said ++ says number rs []) (sym some.0)
              ∙ u.rounds;
          routes = sym some.1 ∙ u.routes;
          room =
              omega (arith, u.room, said_count out.done.text, (vehicle_room day u.taken).size, length-map v.tasks word_for, (vehicle_routes day u.taken).visits, vehicle_unmet day u.taken, long);
          few = omega (arith, u.few, vehicle_unmet day u.taken, out.some);
        }

    -- it takes a stop, so that the ones fall
    pub ones_fall : (w : Written) → WritesOne day m (number + 1) lent e (Some w) → ones_of w.left.words < ones_of m.words
    ones_fall w one =
        let out = one u.taken u.left_is in
        omega (arith, u.left_is.count, out.done.left_is.count, out.some, vehicle_unmet day u.taken)

    pub next_few : (w : Written) → WritesOne day m (number + 1) lent e (Some w) → at + w.words ≤ 1200
    next_few w one = let after = underway_next w one in omega (arith, after.room, u.most)

    -- the words of all vehicles, once the next one takes no stop
    pub underway_end : WritesOne day m (number + 1) lent e None → AllWritten day p (put_mid at (length part - at) part e) m at
    unfolding says
    underway_end one =
        let idle = one u.taken u.left_is in
        let none = from_none day u.taken idle.none in
        let routes : u.taken ≡ routed day (stops day + 1) [] = sym none.1 ∙ u.routes in
        let said : u.said ≡ says 0 (greedy_rounds day) [] =
        sym (append-nil u.said) ∙ ap (λ (rs : List Round). u.said ++ says number rs []) (sym none.0) ∙ u.rounds in
        let same : Said [] lent e 0 = rw idle.kept (said_none lent) in
        record {
          text = said_same (said_lend u.text same) (append-nil u.said ∙ said) (omega arith);
          left_is = subst (λ (ks : List ℕ). LeftOf day ks m) routes u.left_is;
          room = subst (λ (ks : List ℕ). at + 5 * unmet (stops day) ks ≤ 5 * stops day) routes u.room;
        }
