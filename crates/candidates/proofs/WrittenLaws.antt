-- The vehicles of the plan that a trial gives, written one behind the other, and the stops left out behind them. Assumes nothing.
use Rattle.std.specs.Prelude.{Some, None}
use Prim.Native.Nat.{ℕ, suc, ◌+◌, ◌-◌, ◌*◌, ◌≤◌, ◌<◌}
use mathlib.Core.Path.{◌≡◌, refl, sym, ap, ◌∙◌, subst}
use mathlib.Core.List.{List, [], ◌∷◌, ◌++◌, map}
use native.Mathlib.Omega.{arith}
use lib.ListN.{length, length-append, length-map, length-drop, get_or, take, drop, take-append-drop}
use lib.Seq.{take_all, drop_at, drop-cons}
use borrow.Rule.Slice.PartMut.{put_mid, same_len_mid}
use Rattle.rules.specs.Lists.{Every}
use Rattle.rules.specs.Fields.{stops}
use Rattle.rules.specs.PlanWords.{left_word}
use Rattle.rules.specs.Plan.{Round, round_words, rounds_words, plan_words, stops_on, stops_on_all, Known}
use Rattle.rules.specs.Build.{greedy_lefts}
use Rattle.rules.specs.Edits.{Trial}
use Rattle.rules.specs.Attempts.{retried, tried_from}
use Rattle.laws.specs.Buffer.{Wrote}
use Rattle.laws.proofs.Buffer.{wrote_none, wrote_lend, wrote_same, rest_whole}
use Rattle.laws.proofs.Fresh.{every_split}
use Rattle.greedy_laws.proofs.GreedyForm.{greedy_named}
use Rattle.greedy_laws.specs.Rooms.{Room}
use Rattle.greedy_laws.proofs.GreedyRoom.{rounds_words_lem, plan_length}
use Rattle.edits.proofs.EditLaws.{renamed}
use Rattle.trial_list.specs.Shapes.{EachFrom}
use Rattle.trial_list.proofs.LaidLaws.{rounds_more}
use Rattle.trial_list.proofs.Shapes.{each_front}
use Rattle.candidates.specs.Candidates.{RoundAs, Trying, Written, RoundsAs, CandidateAs}
use Rattle.candidates.proofs.RoundLists.{front_length, stops_parts, tried_more, tried_fails}
use Rattle.candidates.proofs.Remade.{Suited, valid_suits, AllRemade, tried_remade}

pub below : {v count n : ℕ} → v < count → count ≡ n → v < n
below l e = omega arith

-- nothing is written yet
pub written_start : {day : List ℕ} {m : Trial} {rounds : List Round} {p : List ℕ} → Written day m rounds p p 0 0
unfolding tried_from rounds_words
written_start {p = p} = record { done = []; is = refl; text = wrote_none p }

-- vehicles written so far
module _ {day plan starts : List ℕ} {m : Trial} {rounds : List Round} {p part : List ℕ} {v at : ℕ} (t : Trying day plan starts m rounds) (w : Written day m rounds p part v at) where
  abbrev front : List Round
  front = take v rounds

  abbrev rest : List Round
  rest = drop v rounds

  whole : front ++ rest ≡ rounds
  whole = take-append-drop v rounds

  pub front_remade : AllRemade day (renamed m.edit) front w.done
  front_remade =
      let s = t.shaped in
      tried_remade day m 0 front w.done (every_split (Every (Known day)) front rest (subst (Every (Every (Known day))) (sym whole) s.known)).0
      (every_split Room front rest (subst (Every Room) (sym whole) s.rooms)).0
      (each_front (Suited day m) 0 front rest (subst (EachFrom (Suited day m) 0) (sym whole) (valid_suits day rounds m t.valid))) w.is

  front_busy : Every (λ ts. 0 < length (stops_on ts)) front
  front_busy = (every_split (λ ts. 0 < length (stops_on ts)) front rest (subst (Every (λ ts. 0 < length (stops_on ts))) (sym whole) t.shaped.busy)).0

  -- there is room for five words for each stop of the others, and for the stops left out
  pub room_left : at + 5 * length (stops_on_all rest) + length (greedy_lefts day) ≤ 5 * stops day
  room_left =
      omega (
        arith,
        w.text.count,
        rounds_words_lem 0 w.done front_remade.rooms (front_remade.busy front_busy),
        front_remade.count,
        stops_parts front rest,
        ap (λ (xs : List Round). length (stops_on_all xs)) whole,
        t.shaped.count,
        greedy_named day,
      )

  -- the next vehicle
  module _ (l : v < length rounds) where
    rest_stops : length (stops_on_all rest) ≡ length (stops_on (get_or rounds v [])) + length (stops_on_all (drop (suc v) rounds))
    unfolding stops_on_all
    rest_stops =
        ap (λ (xs : List Round). length (stops_on_all xs)) (drop-cons rounds v [] l) ∙ length-append (stops_on (get_or rounds v [])) (stops_on_all (drop (suc v) rounds))

    pub next_room : 5 * stops day ≤ length p → 5 * length (stops_on (get_or rounds v [])) ≤ length (take (length part - at) (drop at part))
    next_room h = omega (arith, room_left, rest_stops, w.text.size, ap length (rest_whole part at), length-drop at part)

    pub written_next : {e : List ℕ} {words : ℕ} → RoundAs (v + 1) (retried day m (v + 1) (get_or rounds v [])) (take (length part - at) (drop at part)) e (Some words)
        → Written day m rounds p (put_mid at (length part - at) part e) (v + 1) (at + words)
    written_next {e} {words} a =
        let d = a.written in
        let n : length w.done + 1 ≡ v + 1 = omega (arith, front_remade.vehicles, front_length rounds v l) in
        record {
          done = w.done ++ (d.done ∷ []);
          is = tried_more day m rounds v l w.done d.done w.is d.is;
          text =
              wrote_same (wrote_lend w.text (round_words (v + 1) d.done) e words d.text.count d.text.text d.text.size)
              (sym (rounds_more w.done d.done ∙ ap (λ (k : ℕ). rounds_words 0 w.done ++ round_words k d.done) n)) refl;
        }

    pub written_fails : {e : List ℕ} (count : ℕ) → RoundAs (v + 1) (retried day m (v + 1) (get_or rounds v [])) (take (length part - at) (drop at part)) e None
        → RoundsAs day m rounds p (put_mid at (length part - at) part e) count None
    written_fails {e} count a = record { size = same_len_mid at (length part - at) part e a.size ∙ w.text.size; written = tried_fails day m rounds v l a.written }

-- the stops left out stand behind the vehicles
module _ {day plan starts : List ℕ} {m : Trial} {rounds : List Round} {count : ℕ} (t : Trying day plan starts m rounds) (counted : count ≡ length rounds) where
  pub ends_at : get_or starts count 0 ≡ length (rounds_words 0 rounds)
  ends_at = t.laid.starting.at count (omega (arith, counted)) ∙ ap (λ (xs : List Round). length (rounds_words 0 xs)) (take_all count rounds (omega (arith, counted)))

  pub ends_inside : get_or starts count 0 ≤ length plan
  ends_inside = omega (arith, ends_at, ap length t.laid.text, plan_length rounds (greedy_lefts day))

  pub lefts_are : take (length plan - get_or starts count 0) (drop (get_or starts count 0) plan) ≡ map left_word (greedy_lefts day)
  unfolding plan_words
  lefts_are =
      rest_whole plan (get_or starts count 0) ∙ ap (drop (get_or starts count 0)) t.laid.text
      ∙ drop_at (rounds_words 0 rounds) (map left_word (greedy_lefts day)) (get_or starts count 0) (sym ends_at)

  pub lefts_count : length (take (length plan - get_or starts count 0) (drop (get_or starts count 0) plan)) ≡ length (greedy_lefts day)
  lefts_count = ap length lefts_are ∙ length-map (greedy_lefts day) left_word

  pub lefts_room : {p part : List ℕ} {at : ℕ} → Written day m rounds p part count at → 5 * stops day ≤ length p
      → length (take (length plan - get_or starts count 0) (drop (get_or starts count 0) plan)) ≤ length (take (length part - at) (drop at part))
  lefts_room {part = part} {at = at} w h =
      omega (
        arith,
        lefts_count,
        room_left t w,
        w.text.size,
        ap length (rest_whole part at),
        length-drop at part,
      )

  pub candidate_ends : {p part e : List ℕ} {at : ℕ} → Written day m rounds p part count at
      → Wrote (take (length plan - get_or starts count 0) (drop (get_or starts count 0) plan)) (take (length part - at) (drop at part)) e
      (length (take (length plan - get_or starts count 0) (drop (get_or starts count 0) plan)))
      → CandidateAs day m rounds p (put_mid at (length part - at) part e) (Some (at + length (take (length plan - get_or starts count 0) (drop (get_or starts count 0) plan))))
  unfolding plan_words
  candidate_ends {p} {part} {e} {at} w c =
      let lefts = take (length plan - get_or starts count 0) (drop (get_or starts count 0) plan) in
      let all : take count rounds ≡ rounds = take_all count rounds (omega (arith, counted)) in
      let written : Wrote (rounds_words 0 w.done ++ lefts) p (put_mid at (length part - at) part e) (at + length lefts) =
      wrote_lend w.text lefts e (length lefts) refl c.text c.size in
      record {
        size = written.size;
        written = record {
          q = w.done;
          is = ap (tried_from day m 0) (sym all) ∙ w.is;
          text = wrote_same written (ap (λ (ws : List ℕ). rounds_words 0 w.done ++ ws) lefts_are) refl;
        };
      }
