-- `candidates::write_rounds` meets its contract.
use native.Mathlib.Omega.{arith}
use Rattle.candidates.proofs.NextRounds.{vehicle_stands}
use Rattle.candidates.proofs.WrittenLaws.{below, written_start, room_left, next_room, written_next, written_fails}
use Rattle.candidates.proofs.write_rounds.Goals as goal

pub loop-v-init : goal.loop-v-init
loop-v-init c = λ rounds t n. written_start

pub offset_bounds-work-at : goal.offset_bounds-work-at
offset_bounds-work-at c =
    let s = c.requires.2 in
    omega (arith, room_left s.trying (c.loop-v.invariant s.rounds s.trying s.counted), c.well_formed)

pub slice_bounds-next_round-count : goal.slice_bounds-next_round-count
slice_bounds-next_round-count c =
    let s = c.requires.2 in
    omega (arith, room_left s.trying (c.loop-v.invariant s.rounds s.trying s.counted), c.requires.3, c.loop-v.auto.work)

pub slice_bounds-next_round-start : goal.slice_bounds-next_round-start
slice_bounds-next_round-start c =
    let s = c.requires.2 in
    omega (arith, room_left s.trying (c.loop-v.invariant s.rounds s.trying s.counted), c.requires.3, c.loop-v.auto.work)

pub next_round-requires : goal.next_round-requires
next_round-requires c = let p = c.requires in
    let s = p.2 in
    let l = below c.loop-v-test.true s.counted in
    let room = next_room s.trying (c.loop-v.invariant s.rounds s.trying s.counted) l p.3 in
    (p.0, p.1, record { rounds = s.rounds; trying = s.trying; inside = l; vehicle = vehicle_stands s.trying p.0 l; room = room })

pub returns-in_err-at : goal.returns-in_err-at
returns-in_err-at c =
    λ rounds t n.
    let w = c.loop-v.invariant rounds t n in
    let l = below c.loop-v-test.true n in
    rw c.from_residual.ensures (written_fails t w l _ (c.in_err-at.ensures rounds t l (next_room t w l c.requires.3)))

pub overflow_add-at : goal.overflow_add-at
overflow_add-at c =
    let s = c.requires.2 in
    let w = c.loop-v.invariant s.rounds s.trying s.counted in
    let l = below c.loop-v-test.true s.counted in
    omega (arith, room_left s.trying (written_next s.trying w l (c.in_ok-at.ensures s.rounds s.trying l (next_room s.trying w l c.requires.3))), c.well_formed)

pub loop-v-preserved : goal.loop-v-preserved
loop-v-preserved c =
    λ rounds t n.
    let w = c.loop-v.invariant rounds t n in
    let l = below c.loop-v-test.true n in
    written_next t w l (c.in_ok-at.ensures rounds t l (next_room t w l c.requires.3))
