-- What counts of plans' words, by any test of tasks: the words that count of two lawful plans are the same exactly where the tasks that
-- count of their vehicles are. It is told by what words say. Assumes nothing.
use Rattle.std.specs.Prelude.{if◌then◌else◌}
use Prim.Native.Nat.{ℕ, suc}
use mathlib.Core.Path.{◌≡◌, refl, sym, ap, ap₂, ◌∙◌}
use mathlib.Core.Bool.{Bool, true, false, false≢true}
use mathlib.Core.List.{List, [], ◌∷◌, ◌++◌, map, nil≢cons, head-eq_of_cons-eq, tail-eq_of_cons-eq}
use mathlib.Core.Logic.{◌↔◌}
use native.Mathlib.Omega.{arith}
use lib.Dec.{eqb}
use borrow.Author.Tests.{eq-eqb, eqb-true}
use Rattle.rules.specs.Lists.{Every}
use Rattle.rules.specs.PlanWords.{Word, vehicle, stop, tip, rest, back, left, stray, kind_of, number_of, vehicle_word, stop_word, tip_word, rest_word, back_word, left_word, word_of, read_plan, same_word}
use Rattle.rules.specs.Plan.{Task, serve, empty, lunch, Round, word_for}
use Rattle.rules.specs.Lawful.{Lawful}
use Rattle.rules.specs.SameRounds.{those, counts, counted, same_words}
use Rattle.laws.proofs.Tests.{only_first, both_true}
use Rattle.plan_words.specs.Said.{says}
use Rattle.plan_words.proofs.WordForms.{Apart, is_vehicle, is_stop, is_tip, is_rest, is_back, is_left, is_stray, apart, vehicle_read, stop_read, tip_read, left_read}
use Rattle.plan_laws.proofs.PlanTold.{NoTask, no_task_lem, tasks_told, formed_says}

-- the word that says it; a stray one may be any
abbrev word_saying : Word → ℕ
word_saying (vehicle k) = vehicle_word k
word_saying (stop k) = stop_word k
word_saying (tip k) = tip_word k
word_saying rest = rest_word
word_saying back = back_word
word_saying (left k) = left_word k
word_saying stray = 0

module _ (test : Task → Bool) where
  -- a word that counts is told by what it says
  word_saying_lem : (w : ℕ) {u : Word} → Apart w u → counts test u ≡ true → w ≡ word_saying u
  word_saying_lem w (is_vehicle k h d x) c = omega (arith, ap word_saying (sym (vehicle_read w d) ∙ x))
  word_saying_lem w (is_stop k h d x) c = omega (arith, ap word_saying (sym (stop_read w d) ∙ x))
  word_saying_lem w (is_tip k h d x) c = omega (arith, ap word_saying (sym (tip_read w d) ∙ x))
  word_saying_lem w (is_rest d x) c = d
  word_saying_lem w (is_back d x) c = d
  word_saying_lem w (is_left k h d x) c = omega (arith, ap word_saying (sym (left_read w d) ∙ x))
  word_saying_lem w (is_stray x) c = absurd (false≢true c)

  -- so words that count and say the same are of one kind and number
  word_same : (v w : ℕ) → counts test (word_of v) ≡ true → word_of v ≡ word_of w → same_word v w ≡ true
  unfolding same_word
  word_same v w c e =
      let d = sym (ap (counts test) e) ∙ c in
      let whole : v ≡ w = word_saying_lem v (apart v) c ∙ ap word_saying e ∙ sym (word_saying_lem w (apart w) d) in
      rw (eq-eqb _ _ (ap kind_of whole), eq-eqb _ _ (ap number_of whole))

-- words of one kind and number say the same
same_word_lem : (v w : ℕ) → same_word v w ≡ true → word_of v ≡ word_of w
unfolding same_word
same_word_lem v w e =
    let p = both_true (eqb (kind_of v) (kind_of w)) (eqb (number_of v) (number_of w)) e in
    let whole : v ≡ w = omega (arith, eqb-true (kind_of v) (kind_of w) p.0, eqb-true (number_of v) (number_of w) p.1) in
    ap word_of whole

words_told : (ws vs : List ℕ) → same_words ws vs ≡ true → read_plan ws ≡ read_plan vs
unfolding same_words
words_told [] [] e = refl
words_told [] (v ∷ vs) e = absurd (false≢true e)
words_told (w ∷ ws) [] e = absurd (false≢true e)
words_told (w ∷ ws) (v ∷ vs) e =
    let p = only_first (same_word w v) false≢true e in
    ap₂ (λ (u : Word) (us : List Word). u ∷ us) (same_word_lem w v p.0) (words_told ws vs p.1)

-- what counts of what words say
unfoldable said : (Task → Bool) → List Word → List Word
said test [] = []
said test (u ∷ us) = if counts test u then u ∷ said test us else said test us

-- what counts of the rounds of vehicles, counted on from a number, as words say it
unfoldable headed : ℕ → List Round → List Word
headed from [] = []
headed from (tasks ∷ rounds) = vehicle (suc from) ∷ (map word_for tasks ++ headed (suc from) rounds)

-- it tells those rounds
headed_no_task : (from : ℕ) (rounds : List Round) → NoTask (headed from rounds)
unfolding headed
headed_no_task from [] = λ task us e. nil≢cons e
headed_no_task from (tasks ∷ rounds) = no_task_lem (vehicle (suc from)) _ refl

headed_told : (from : ℕ) (rounds others : List Round) → headed from rounds ≡ headed from others → rounds ≡ others
unfolding headed
headed_told from [] [] e = refl
headed_told from [] (other ∷ others) e = absurd (nil≢cons e)
headed_told from (tasks ∷ rounds) [] e = absurd (nil≢cons (sym e))
headed_told from (tasks ∷ rounds) (other ∷ others) e =
    let p = tasks_told tasks other _ _ (headed_no_task (suc from) rounds) (headed_no_task (suc from) others) (tail-eq_of_cons-eq e) in
    ap₂ (λ (t : Round) (ts : List Round). t ∷ ts) p.0 (headed_told (suc from) rounds others p.1)

module _ (test : Task → Bool) where
  -- the words that count say what counts of what the words say, and each counts
  counted_said : (ws : List ℕ) → read_plan (counted test ws) ≡ said test (read_plan ws)
  unfolding counted said
  counted_said [] = refl
  counted_said (w ∷ ws) = go (counts test (word_of w)) (counted_said ws)
    where
      go : (b : Bool) → read_plan (counted test ws) ≡ said test (read_plan ws)
          → read_plan (if b then w ∷ counted test ws else counted test ws) ≡ (if b then word_of w ∷ said test (read_plan ws) else said test (read_plan ws))
      go true e = ap (λ (us : List Word). word_of w ∷ us) e
      go false e = e

  counted_count : (ws : List ℕ) → Every (λ w. counts test (word_of w) ≡ true) (counted test ws)
  unfolding counted Every
  counted_count [] = tt
  counted_count (w ∷ ws) = go (counts test (word_of w)) refl (counted_count ws)
    where
      go : (b : Bool) → counts test (word_of w) ≡ b → Every (λ w. counts test (word_of w) ≡ true) (counted test ws)
          → Every (λ w. counts test (word_of w) ≡ true) (if b then w ∷ counted test ws else counted test ws)
      go true c h = (c, h)
      go false c h = h

  -- words that count and say the same compare as the same
  words_same : (ws vs : List ℕ) → Every (λ w. counts test (word_of w) ≡ true) ws → read_plan ws ≡ read_plan vs → same_words ws vs ≡ true
  unfolding same_words Every
  words_same [] [] h e = refl
  words_same [] (v ∷ vs) h e = absurd (nil≢cons e)
  words_same (w ∷ ws) [] h e = absurd (nil≢cons (sym e))
  words_same (w ∷ ws) (v ∷ vs) h e = rw (word_same test w v h.0 (head-eq_of_cons-eq e)) (words_same ws vs h.1 (tail-eq_of_cons-eq e))

  -- of a vehicle's tasks those that count, of its return and of the stops left out nothing
  task_said : (task : Task) → counts test (word_for task) ≡ test task
  task_said (serve k) = refl
  task_said (empty k) = refl
  task_said lunch = refl

  tasks_counted : (tasks : Round) (us : List Word) → said test (map word_for tasks ++ (back ∷ us)) ≡ map word_for (those test tasks) ++ said test us
  unfolding said those
  tasks_counted [] us = refl
  tasks_counted (task ∷ tasks) us = rw (task_said task) (go (test task) (tasks_counted tasks us))
    where
      go : (b : Bool) → said test (map word_for tasks ++ (back ∷ us)) ≡ map word_for (those test tasks) ++ said test us
          → (if b then word_for task ∷ said test (map word_for tasks ++ (back ∷ us)) else said test (map word_for tasks ++ (back ∷ us)))
          ≡ map word_for (if b then task ∷ those test tasks else those test tasks) ++ said test us
      go true e = ap (λ (l : List Word). word_for task ∷ l) e
      go false e = e

  lefts_counted : (lefts : List ℕ) → said test (map left lefts) ≡ []
  unfolding said
  lefts_counted [] = refl
  lefts_counted (k ∷ lefts) = lefts_counted lefts

  rounds_counted : (from : ℕ) (rounds : List Round) (lefts : List ℕ) → said test (says from rounds lefts) ≡ headed from (map (those test) rounds)
  unfolding said says headed
  rounds_counted from [] lefts = lefts_counted lefts
  rounds_counted from (tasks ∷ rounds) lefts =
      ap (λ (l : List Word). vehicle (suc from) ∷ l)
      (tasks_counted tasks (says (suc from) rounds lefts)
      ∙ ap (λ (l : List Word). map word_for (those test tasks) ++ l) (rounds_counted (suc from) rounds lefts))

  module _ (day : List ℕ) where
    -- the words that count of a lawful plan say what counts of its rounds
    lawful_counted : (plan : List ℕ) (l : Lawful day plan) → read_plan (counted test plan) ≡ headed 0 (map (those test) l.rounds)
    lawful_counted plan l =
        counted_said plan ∙ ap (said test) (formed_says day plan l.rounds l.lefts l.formed) ∙ rounds_counted 0 l.rounds l.lefts

    -- the words that count of two lawful plans are the same exactly where the tasks that count of their vehicles are
    pub same_counted_lem : (first second : List ℕ) (one : Lawful day first) (two : Lawful day second)
        → (same_words (counted test first) (counted test second) ≡ true) ↔ (map (those test) one.rounds ≡ map (those test) two.rounds)
    same_counted_lem first second one two = (
      λ e.
          headed_told 0 (map (those test) one.rounds) (map (those test) two.rounds)
          (sym (lawful_counted first one) ∙ words_told (counted test first) (counted test second) e ∙ lawful_counted second two),
      λ e.
          words_same (counted test first) (counted test second) (counted_count first)
          (lawful_counted first one ∙ ap (headed 0) e ∙ sym (lawful_counted second two)),
    )
