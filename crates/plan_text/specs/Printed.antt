-- What the program prints, as a function of the bytes of the day file. Assumes nothing.
use Rattle.std.specs.Prelude.{ℕ, ◌/◌, List, ltb, length, get_or, if◌then◌else◌}
use Rattle.rules.specs.Answers.{is_given}
use Rattle.rules.specs.Bytes.{byte_words, read_answer}
use Rattle.text.specs.Lines.{too_long, refused_line, answer_text}
use Rattle.plan_text.specs.Planned.{printed_answer, printed_buffer}

-- of a day's words
unfoldable pub day_text : List ℕ → List ℕ
day_text day = answer_text (printed_answer day) (printed_buffer day)

-- of bytes that are few enough: the refusal of byte reading, or the day's
unfoldable pub bytes_text : List ℕ → List ℕ
bytes_text bytes =
    if is_given (read_answer bytes 16384)
    then day_text (byte_words bytes (length bytes / 4))
    else refused_line (get_or (read_answer bytes 16384) 0 0) (get_or (read_answer bytes 16384) 1 0)

-- of any bytes: "at most 65,536 bytes, else it prints "too long""
unfoldable pub printed : List ℕ → List ℕ
printed bytes = if ltb 65536 (length bytes) then too_long else bytes_text bytes
