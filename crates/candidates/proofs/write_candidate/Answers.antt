-- `candidates::write_candidate` meets its contract.
use native.Mathlib.Omega.{arith}
use Rattle.candidates.proofs.WrittenLaws.{room_left, lefts_count, lefts_room, candidate_ends}
use Rattle.candidates.proofs.write_candidate.Goals as goal

pub offset_bounds-work-at : goal.offset_bounds-work-at
offset_bounds-work-at c =
    let s = c.requires.2 in
    omega (arith, room_left s.trying (c.in_ok-at.ensures s.rounds s.trying s.counted).written, c.well_formed)

pub slice_bounds-copy_words-count : goal.slice_bounds-copy_words-count
slice_bounds-copy_words-count c =
    let s = c.requires.2 in
    let w = (c.in_ok-at.ensures s.rounds s.trying s.counted).written in
    omega (arith, room_left s.trying w, w.text.size, c.requires.3)

pub slice_bounds-copy_words-start : goal.slice_bounds-copy_words-start
slice_bounds-copy_words-start c =
    let s = c.requires.2 in
    let w = (c.in_ok-at.ensures s.rounds s.trying s.counted).written in
    omega (arith, room_left s.trying w, w.text.size, c.requires.3)

pub copy_words-requires : goal.copy_words-requires
copy_words-requires c =
    let s = c.requires.2 in
    lefts_room s.trying s.counted (c.in_ok-at.ensures s.rounds s.trying s.counted).written c.requires.3

pub overflow_add-result : goal.overflow_add-result
overflow_add-result c =
    let s = c.requires.2 in
    omega (arith, room_left s.trying (c.in_ok-at.ensures s.rounds s.trying s.counted).written, lefts_count s.trying s.counted, c.well_formed)

pub returns : goal.returns
returns c = λ rounds t n. candidate_ends t n (c.in_ok-at.ensures rounds t n).written c.copy_words.ensures
