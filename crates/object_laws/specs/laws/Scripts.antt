-- What can be told of the answer to a line.
use Rattle.std.specs.Prelude.{◌<◌, ◌^◌, ⊤}
use Rattle.session_steps.specs.declared.reply.Reply.{Reply}
use Rattle.session_steps.specs.declared.reply.Reply.TheVariants.{Accepted, Denied, Refused}

-- the string id of a denial's text has 64 bits
abbrev pub HasMessage : Reply → Type 0
HasMessage Accepted = ⊤
HasMessage (Denied denial) = denial.message < 2 ^ 64
HasMessage (Refused cause) = ⊤
