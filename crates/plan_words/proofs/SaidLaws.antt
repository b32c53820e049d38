-- A buffer by what its words say, while it is written from its front on: a word stored, a part lent and written. Assumes nothing.
use Rattle.std.proofs.Common.{◌≡◌, ℕ, suc, ◌+◌, ◌-◌, ◌<◌, List, [], ◌∷◌, ◌++◌, map, length, take, drop, set, sym, refl, ap, ◌∙◌, ap₂, append_assoc, arith}
use mathlib.Core.List.{map-append}
use lib.ListN.{length-map}
use borrow.Rule.Slice.PartMut.{put_mid}
use Rattle.rules.specs.PlanWords.{Word, vehicle, back, left, word_of}
use Rattle.rules.specs.Plan.{Task, Round, word_for}
use Rattle.laws.proofs.Buffer.{wrote_none, wrote_put, wrote_lend, wrote_same}
use Rattle.plan_words.specs.Said.{says, tasks_said, round_said, Said}

-- nothing is written yet
pub said_none : (p : List ℕ) → Said [] p p 0
said_none p = record { words = []; text = wrote_none p; reads = refl }

module _ {what : List Word} {p part : List ℕ} {n : ℕ} (s : Said what p part n) where
  -- as many words as are said
  pub said_count : n ≡ length what
  said_count = s.text.count ∙ sym (length-map s.words word_of) ∙ ap length s.reads

  -- a word is stored
  pub said_put : {says : Word} (word : ℕ) → word_of word ≡ says → n < length part → Said (what ++ (says ∷ [])) p (set part n word) (n + 1)
  said_put word e l =
      record {
        words = s.words ++ (word ∷ []);
        text = wrote_put s.text word (omega (arith, s.text.size));
        reads = map-append word_of s.words (word ∷ []) ∙ ap₂ (λ (ws : List Word) (w : Word). ws ++ (w ∷ [])) s.reads e;
      }

  -- the part that is left is lent, and has come back with more written at its front
  pub said_lend : {more : List Word} {lent : List ℕ} {r : ℕ} → Said more (take (length part - n) (drop n part)) lent r
      → Said (what ++ more) p (put_mid n (length part - n) part lent) (n + r)
  said_lend {more} {lent} {r} m =
      record {
        words = s.words ++ m.words;
        text = wrote_lend s.text m.words lent r m.text.count m.text.text m.text.size;
        reads = map-append word_of s.words m.words ∙ ap₂ ◌++◌ s.reads m.reads;
      }

  -- the same under other names
  pub said_same : {other : List Word} {m : ℕ} → what ≡ other → n ≡ m → Said other p part m
  said_same e q = record { words = s.words; text = wrote_same s.text refl q; reads = s.reads ∙ e }

-- one task more
pub tasks_more : (number : ℕ) (tasks : Round) (task : Task) → tasks_said number tasks ++ (word_for task ∷ []) ≡ tasks_said number (tasks ++ (task ∷ []))
tasks_more number tasks task = ap (λ (ws : List Word). vehicle number ∷ ws) (sym (map-append word_for tasks (task ∷ [])))

-- one vehicle in front of others, and the stops left out behind all
pub says_next : (from : ℕ) (tasks : Round) (rounds : List Round) (lefts : List ℕ)
    → round_said (suc from) tasks ++ says (suc from) rounds lefts ≡ says from (tasks ∷ rounds) lefts
unfolding says
says_next from tasks rounds lefts = ap (λ (ws : List Word). vehicle (suc from) ∷ ws) (append_assoc (map word_for tasks) (back ∷ []) (says (suc from) rounds lefts))

pub says_lefts : (from : ℕ) (rounds : List Round) (lefts : List ℕ) → says from rounds [] ++ map left lefts ≡ says from rounds lefts
unfolding says
says_lefts from [] lefts = refl
says_lefts from (tasks ∷ rounds) lefts =
    ap (λ (ws : List Word). vehicle (suc from) ∷ ws)
    (append_assoc (map word_for tasks) (back ∷ says (suc from) rounds []) (map left lefts)
    ∙ ap (λ (ws : List Word). map word_for tasks ++ (back ∷ ws)) (says_lefts (suc from) rounds lefts))
