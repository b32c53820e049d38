-- `day_bytes::read_words` meets its contract: one law for each way through it.
use Rattle.day_bytes.proofs.Reading.{few_answer, few_buffer, room_answer, room_buffer, words_answer, words_buffer}
use Rattle.day_bytes.proofs.read_words.Goals as goal

pub returns-then-not-is_empty-clause-answer : goal.returns-then-not-is_empty-clause-answer
returns-then-not-is_empty-clause-answer c = search few_answer

pub returns-then-not-is_empty-clause-buffer : goal.returns-then-not-is_empty-clause-buffer
returns-then-not-is_empty-clause-buffer c = search few_buffer

pub returns-then-words-place-clause-answer : goal.returns-then-words-place-clause-answer
returns-then-words-place-clause-answer c = search room_answer

pub returns-then-words-place-clause-buffer : goal.returns-then-words-place-clause-buffer
returns-then-words-place-clause-buffer c = search room_buffer

pub returns-clause-answer : goal.returns-clause-answer
returns-clause-answer c = search words_answer

pub returns-clause-buffer : goal.returns-clause-buffer
returns-clause-buffer c = search words_buffer
