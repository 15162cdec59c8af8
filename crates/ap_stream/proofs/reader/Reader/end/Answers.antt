use Rattle.std.proofs.Common.{[]}
use Rattle.std.proofs.lemmas.List.{append-nil}
use Rattle.ap_stream.proofs.GivenLaws as given
use Rattle.ap_stream.proofs.reader.Reader.end.Goals as goal

pub returns-in-Ok-Some-clause-given : goal.returns-in-Ok-Some-clause-given
returns-in-Ok-Some-clause-given c =
    given.ends_gives _ _ _ (rw c.in-Ok-Some.field-0-is at c.in-Ok-Some.ensures.given)

pub returns-in-Err-clause-shown : goal.returns-in-Err-clause-shown
returns-in-Err-clause-shown c = λ _ other. let h = c.in-Err.ensures.shown other in
    (h.0, h.1, rw append-nil at (h.2 []))
