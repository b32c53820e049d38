-- A word is known by what it says, and so is a plan. Where words carry more than kind and number, these laws need that too, and no other law
-- does. Assumes nothing.
use Rattle.std.proofs.Common.{◌≡◌, ℕ, suc, List, [], ◌∷◌, ◌++◌, map, sym, refl, ap, ◌∙◌, subst, ap₂, append_assoc, arith}
use mathlib.Core.List.{nil≢cons, head-eq_of_cons-eq, tail-eq_of_cons-eq}
use mathlib.Core.Option.{Option, none, some, some-ne-none, some-injective}
use Rattle.rules.specs.PlanWords.{Word, vehicle, stop, tip, rest, back, left, stray, number_of}
use Rattle.rules.specs.PlanWords.{vehicle_word, stop_word, tip_word, rest_word, back_word, left_word, word_of, read_plan}
use Rattle.rules.specs.Plan.{Task, serve, empty, lunch, Round, task_word, word_for, round_words, rounds_words, plan_words}
use Rattle.laws.specs.Buffer.{Wrote}
use Rattle.laws.proofs.Buffer.{wrote_same}
use Rattle.plan_words.specs.Said.{says, Said}
use Rattle.plan_words.proofs.WordForms.{Apart, is_vehicle, is_stop, is_tip, is_rest, is_back, is_left, is_stray, apart}
use Rattle.plan_words.proofs.WordForms.{vehicle_read, stop_read, tip_read, left_read}

-- the one word that says this; of a stray word there is no telling
unfoldable saying : Word → Option ℕ
saying (vehicle k) = some (vehicle_word k)
saying (stop k) = some (stop_word k)
saying (tip k) = some (tip_word k)
saying rest = some rest_word
saying back = some back_word
saying (left k) = some (left_word k)
saying stray = none

-- a word of a kind is known by its number
by_number : (w k v : ℕ) (kind : ℕ → Word) → ((i j : ℕ) → kind i ≡ kind j → i ≡ j) → (word : ℕ → ℕ) → w ≡ word (number_of w)
    → word_of w ≡ kind (number_of w) → word_of w ≡ kind k → some (word k) ≡ some v → w ≡ v
by_number w k v kind same word whole r e u = whole ∙ ap word (same (number_of w) k (sym r ∙ e)) ∙ some-injective _ _ u

once : (w v : ℕ) (is : Word) → Apart w is → saying is ≡ some v → w ≡ v
unfolding saying
once w v is (is_vehicle k h kind e) u = by_number w k v vehicle (λ i j q. cc) vehicle_word (omega arith) (vehicle_read w kind) e u
once w v is (is_stop k h kind e) u = by_number w k v stop (λ i j q. cc) stop_word (omega arith) (stop_read w kind) e u
once w v is (is_tip k h kind e) u = by_number w k v tip (λ i j q. cc) tip_word (omega arith) (tip_read w kind) e u
once w v is (is_rest e r) u = e ∙ some-injective _ _ u
once w v is (is_back e r) u = e ∙ some-injective _ _ u
once w v is (is_left k h kind e) u = by_number w k v left (λ i j q. cc) left_word (omega arith) (left_read w kind) e u
once w v is (is_stray r) u = absurd (some-ne-none v (sym u))

-- a word is known by what it says
said_once : (w v : ℕ) (is : Word) → saying is ≡ some v → word_of w ≡ is → w ≡ v
said_once w v is u e = once w v is (subst (Apart w) e (apart w)) u

-- words that say all this are these
abbrev Are : List Word → List ℕ → Type 0
Are what ws = (vs : List ℕ) → read_plan vs ≡ what → vs ≡ ws

are_none : Are [] []
are_none [] e = refl
are_none (v ∷ vs) e = absurd (nil≢cons (sym e))

are_next : (is : Word) (w : ℕ) (what : List Word) (ws : List ℕ) → saying is ≡ some w → Are what ws → Are (is ∷ what) (w ∷ ws)
are_next is w what ws u others [] e = absurd (nil≢cons e)
are_next is w what ws u others (v ∷ vs) e =
    ap₂ (λ (x : ℕ) (xs : List ℕ). x ∷ xs) (said_once v w is u (head-eq_of_cons-eq e)) (others vs (tail-eq_of_cons-eq e))

lefts_are : (lefts : List ℕ) → Are (map left lefts) (map left_word lefts)
unfolding saying
lefts_are [] = are_none
lefts_are (k ∷ lefts) = are_next (left k) (left_word k) _ _ refl (lefts_are lefts)

task_is : (task : Task) (what : List Word) (ws : List ℕ) → Are what ws → Are (word_for task ∷ what) (task_word task ∷ ws)
unfolding saying task_word
task_is (serve k) what ws = are_next (stop k) (stop_word k) what ws refl
task_is (empty k) what ws = are_next (tip k) (tip_word k) what ws refl
task_is lunch what ws = are_next rest rest_word what ws refl

tasks_are : (tasks : Round) (what : List Word) (ws : List ℕ) → Are what ws
    → Are (map word_for tasks ++ (back ∷ what)) ((map task_word tasks ++ (back_word ∷ [])) ++ ws)
unfolding saying
tasks_are [] what ws h = are_next back back_word what ws refl h
tasks_are (task ∷ tasks) what ws h = task_is task _ _ (tasks_are tasks what ws h)

says_are : (from : ℕ) (rounds : List Round) (lefts : List ℕ) → Are (says from rounds lefts) (rounds_words from rounds ++ map left_word lefts)
unfolding says saying rounds_words round_words
says_are from [] lefts = lefts_are lefts
says_are from (tasks ∷ rounds) lefts =
    let words = map task_word tasks ++ (back_word ∷ []) in
    rw (append_assoc words (rounds_words (suc from) rounds) (map left_word lefts))
    (are_next (vehicle (suc from)) (vehicle_word (suc from)) _ _ refl (tasks_are tasks _ _ (says_are (suc from) rounds lefts)))

-- words that say what a plan says are the plan's
pub plan_wrote : (rounds : List Round) (lefts : List ℕ) {p part : List ℕ} {n : ℕ} → Said (says 0 rounds lefts) p part n → Wrote (plan_words rounds lefts) p part n
unfolding plan_words
plan_wrote rounds lefts s = wrote_same s.text (says_are 0 rounds lefts s.words s.reads) refl
