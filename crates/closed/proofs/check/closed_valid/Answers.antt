-- The file is refused, or it is judged. Assumes nothing.
use Rattle.std.proofs.Common.{rules}
use Rattle.closed.proofs.AnswerLaws.{judged_refused, judged, file_refused, file_whole, file_given}
use Rattle.closed.proofs.check.closed_valid.Goals as goal

pub returns-then-length-eq0 : goal.returns-then-length-eq0
returns-then-length-eq0 c = judged_refused _ (file_refused c.args.file.now (search rules))

pub closed_sized-requires : goal.closed_sized-requires
closed_sized-requires c = file_given c.args.file.now c.args.valid.table c.args.valid.sound

pub returns : goal.returns
returns c = judged c.closed_sized.result (file_whole c.args.file.now (search rules)) c.closed_sized.ensures
