use Rattle.std.proofs.Common.{◌++◌, length, take}
use Rattle.std.specs.List.{flat_map}
use Rattle.hii_bytes.specs.Watching.{pen_of, Writes}
use Rattle.session_steps.specs.Texts.{changed_text, count_text}
use Rattle.browser_commands.proofs.texts.put_changes.Given as goal

-- the count and the lines of the questions so far are written
abbrev pub invariant-loop-id : goal.invariant-loop-id
invariant-loop-id g l =
    Writes (pen_of g.W.Write.contents l.fn.out) (pen_of g.W.Write.contents l.out) (count_text (length l.ids) ++ flat_map changed_text (take l.id-index l.ids))
