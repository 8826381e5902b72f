use Rattle.std.proofs.Common.{◌+◌, arith, sym}
use Rattle.std.proofs.lemmas.List.{length-drop, take_rest}
use Rattle.script_audit.proofs.ScriptLemmas.{lines_at, lines_whole, within}
use Rattle.script_audit.proofs.lines.cut_line.Goals as goal

pub returns-in-Some : goal.returns-in-Some
returns-in-Some c =
    let text = c.args.text.now in
    let end = c.in-Some.end in
    let less = within text end (sym c.in-Some.ensures) in
    rw take_rest (record { lines = (lines_at text end (sym c.in-Some.ensures), omega (arith, less, length-drop (end + 1) text)) })

pub returns-in-None : goal.returns-in-None
returns-in-None c = record { lines = lines_whole c.args.text.now (sym c.in-None.ensures) }
