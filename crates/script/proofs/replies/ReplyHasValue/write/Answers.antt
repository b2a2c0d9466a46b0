use Rattle.script.proofs.replies.ReplyHasValue.write.Goals as goal

pub returns-in-Edited : goal.returns-in-Edited
returns-in-Edited c = rw c.in-Edited.is c.write_edited.ensures

pub returns-in-Range : goal.returns-in-Range
returns-in-Range c = rw c.in-Range.is c.write_range.ensures
