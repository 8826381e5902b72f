use Rattle.std.proofs.Common.{◌≡◌, ◌+◌, ◌≤◌, length}
use Rattle.hii_bytes.specs.Watching.{pen_of}
use Rattle.hii_bytes.specs.code.Writing.{Stands}
use Rattle.script_audit.specs.Script.{lines_from}
use Rattle.script_audit.specs.Walk.{walk}
use Rattle.script_audit.specs.code.LinesLeft.{lines_left, room_of}
use Rattle.script_audit.proofs.walk.walk_lines.Given as goal

-- what the lines that are left come to is what all of them do
abbrev pub invariant-loop-left : goal.invariant-loop-left
invariant-loop-left g l =
    let all = walk l.telling l.fn.browser.state (lines_from 1 l.fn.text) in
    let rest = walk l.telling l.browser.state (lines_left l.number l.left) in
    record {
      state : rest.state ≡ all.state;
      stop : rest.stop ≡ all.stop;
      told : Stands (pen_of g.W.Write.contents l.fn.out) (pen_of g.W.Write.contents l.out) all.told rest.told;
      few : l.number + room_of l.left ≤ length l.fn.text + 2;
    }

abbrev pub decreases-loop-left : goal.decreases-loop-left
decreases-loop-left g l = room_of l.left
