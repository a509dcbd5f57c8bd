-- Replies as the code tells them, with the number of their bytes in place of these.
use Rattle.std.specs.Prelude.{◌≡◌, None}
use Rattle.tas_model.specs.declared.entry.Reply.{Reply}
use Rattle.flow_state.specs.Calls.{answer_of}
use Rattle.flow_state.specs.declared.call.Answer.{Answer}
use Rattle.flow_state.specs.declared.call.Answer.TheVariants as answers

-- what a script looks at: all but the segment by which a Recv tells the peer of room
abbrev pub looked_at : Answer → Answer
looked_at (answers.Got len update) = answers.Got len None
looked_at answer = answer

-- The answer tells of the reply what a script looks at.
abbrev pub Tells : Answer → Reply → Type 0
Tells answer reply = looked_at answer ≡ looked_at (answer_of reply)
