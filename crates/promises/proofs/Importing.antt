-- Bringing in Solomon instances: document 02, Q-6. Assumes nothing.
use Prim.Native.Nat.{ℕ, ◌-◌, ◌*◌}
use mathlib.Core.Path.{◌≡◌, refl, sym, ap, subst, ◌∙◌}
use mathlib.Core.Bool.{true}
use mathlib.Core.List.{List, [], ◌∷◌}
use lib.ListN.{length, take}
use Rattle.rules.specs.Answers.{given, refused, is_given}
use Rattle.rules.specs.DayFile.{judge_day}
use Rattle.rules.specs.SolomonDay.{IsRoot, squares, customer_number, capacity, stops_of, import_words, import_answer, import_buffer}
use Rattle.laws.proofs.Buffer.{over_front}
use Rattle.roots.proofs.RootLaws.{root_is}
use Rattle.solomon.proofs.Importing as solomon
use Rattle.solomon.proofs.ReadBack as back
use Rattle.promises.specs.Imported.{SaysText, Earliest, NoOffence, ImportedBy}

module _ (text : List ℕ) where
  -- "the words written .. must read back as an accepted day", with one tip
  pub imported_accepted : (room : ℕ) → is_given (import_answer text room) ≡ true → judge_day (import_words text) ≡ given (stops_of text ∷ 1 ∷ [])
  imported_accepted = solomon.import_accepted text

  -- "whose number the answer carries"
  pub imported_counted : (room : ℕ) → is_given (import_answer text room) ≡ true → import_answer text room ≡ given (length (import_words text) ∷ [])
  imported_counted = solomon.import_told text

  -- they stand at the front of the buffer
  pub imported_written : (words : List ℕ) → is_given (import_answer text (length words)) ≡ true
      → take (length (import_words text)) (import_buffer text words) ≡ import_words text
  unfolding import_buffer
  imported_written words h = rw h (over_front (import_words text) words (length (import_words text)) refl)

  -- and say what the text says
  pub imported_says : (room : ℕ) → is_given (import_answer text room) ≡ true → SaysText text (import_words text)
  unfolding import_words
  imported_says room h =
      let fit = solomon.text_limits text room h in
      let number = customer_number text in
      let load = capacity text in
      let n = stops_of text in
      record {
        one_tip = back.tips_back number load n fit;
        stop_count = back.stops_back number load n fit;
        load = back.load_back number load n fit;
        day_load = back.day_limit_back number load n fit;
        stop_most = back.stop_limit_back number load n fit;
        rest = (back.rest_opens number load n fit, back.rest_closes number load n fit, back.rest_minutes_lem number load n fit);
        depot = (back.depot_opens number load n fit, back.depot_closes number load n fit);
        tip = (back.tip_opens number load n fit, back.tip_closes number load n fit, back.tip_service number load n fit);
        opens = back.stop_opens number load n fit;
        closes = back.stop_closes number load n fit;
        serves = back.stop_minutes number load n fit;
        demands = back.stop_kg number load n fit;
        minutes = λ p q from to.
            subst (IsRoot (squares number (p - 1) (q - 1))) (sym (back.leg_minutes_lem number load n fit p q from to)) (root_is (squares number (p - 1) (q - 1)));
        distance = λ p q from to.
            subst (IsRoot (100 * squares number (p - 1) (q - 1))) (sym (back.leg_distance_lem number load n fit p q from to)) (root_is (100 * squares number (p - 1) (q - 1)));
      }

  -- a text that is read, or refused by 14, has no offence
  pub read_right : (room : ℕ) → is_given (import_answer text room) ≡ true → NoOffence text
  read_right room h = let right = solomon.import_given text room h in solomon.no_offence text right.0 right.1

  pub short_right : (room place : ℕ) → import_answer text room ≡ refused 14 place → NoOffence text × (place ≡ length (import_words text))
  short_right room place e = let s = solomon.import_short text room place e in (solomon.no_offence text s.0.0 s.0.1, s.1)

  -- 17 and 18: "of the two the earlier byte counts, at one byte 17"
  pub refused_earliest : (room number place : ℕ) → import_answer text room ≡ refused number place → (number ≡ 0 → ⊥) → (number ≡ 14 → ⊥)
      → Earliest text number place
  refused_earliest room number place e n0 n14 =
      let f = solomon.import_fault text room number place e n0 n14 in
      subst (Earliest text number) f.3
      (subst (λ (k : ℕ). Earliest text k f.0.place) f.2
      (record { offends = solomon.fault_offends text f.0 f.1; earliest = solomon.fault_earliest text f.0 f.1 }))

-- all of it, of the call's answer and its buffer
pub imported_by : (text words answer now : List ℕ) → answer ≡ import_answer text (length words) → now ≡ import_buffer text words → ImportedBy text answer now
imported_by text words answer now e b = record {
  counted = λ h. e ∙ imported_counted text room (told h);
  written = λ h. ap (take (length (import_words text))) b ∙ imported_written text words (told h);
  accepted = λ h. imported_accepted text room (told h);
  says = λ h. imported_says text room (told h);
  right = λ h. read_right text room (told h);
  short = λ place h. short_right text room place (sym e ∙ h);
  refusal = λ number place h. refused_earliest text room number place (sym e ∙ h);
}
  where
    room : ℕ
    room = length words

    told : is_given answer ≡ true → is_given (import_answer text room) ≡ true
    told h = sym (ap is_given e) ∙ h
