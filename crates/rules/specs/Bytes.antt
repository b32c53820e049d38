-- Byte reading: document 01, "Other calls" and refusals 1 and 14. It judges no day. Assumes nothing.
use Rattle.std.specs.Prelude.{ℕ, zero, suc, ◌+◌, ◌*◌, ◌/◌, ◌%◌, List, [], ◌∷◌, ◌++◌, length, get_or, ltb, if◌then◌else◌}
use Rattle.rules.specs.Tests.{neb}
use Rattle.rules.specs.Answers.{given, refused, is_given}
use Rattle.rules.specs.Lists.{over}

-- "32-bit words, low byte first": the word of the four bytes from 4i on
abbrev pub byte_word : List ℕ → ℕ → ℕ
byte_word bytes i =
    get_or bytes (4 * i) 0 + 0x100 * get_or bytes (4 * i + 1) 0 + 0x10000 * get_or bytes (4 * i + 2) 0 + 0x1000000 * get_or bytes (4 * i + 3) 0

-- the first so many words of the bytes
unfoldable pub byte_words : List ℕ → ℕ → List ℕ
byte_words bytes zero = []
byte_words bytes (suc i) = byte_words bytes i ++ (byte_word bytes i ∷ [])

-- the answer: how many words, or 1 (both reasons), then 14 for a buffer of too little room
unfoldable pub read_answer : List ℕ → ℕ → List ℕ
read_answer bytes room =
    if neb (length bytes % 4) 0 then refused 1 (length bytes / 4)
    else if ltb (length bytes / 4) 7 then refused 1 (length bytes / 4)
    else if ltb room (length bytes / 4) then refused 14 (length bytes / 4)
    else given (length bytes / 4 ∷ [])

-- the lent buffer then: "one word for each 4 bytes", and as before past what was written; after a refusal as before
unfoldable pub read_buffer : List ℕ → List ℕ → List ℕ
read_buffer bytes words =
    if is_given (read_answer bytes (length words)) then over (byte_words bytes (length bytes / 4)) words else words
