-- `plan_text::put_file` meets its contract: one law for each case of what byte reading answers.
use Rattle.std.proofs.Common.{◌∙◌}
use Rattle.plan_text.proofs.PrintedLaws.{file_fits, file_counted, file_text, refusal_text}
use Rattle.plan_text.proofs.put_file.Goals as goal

pub slice_bounds-words-end : goal.slice_bounds-words-end
slice_bounds-words-end c = search file_fits

pub slice_bounds-put_day-end : goal.slice_bounds-put_day-end
slice_bounds-put_day-end c = search file_counted

pub returns-in-Read : goal.returns-in-Read
returns-in-Read c = c.put_day.ensures ∙ search file_text

pub returns-in-Refused : goal.returns-in-Refused
returns-in-Refused c = c.put_refused.ensures ∙ rw c.requires (search refusal_text)
