use Rattle.std.proofs.Common.{sym, ◌∙◌}
use Rattle.std.proofs.lemmas.List.{take_rest}
use Rattle.hii_commands.proofs.WordLemmas.{cut_word-at, cut_word-whole}
use Rattle.script_audit.proofs.ScriptLemmas.{same_cut}
use Rattle.script_audit.proofs.words.split_word.Goals as goal

pub returns-in-Some : goal.returns-in-Some
returns-in-Some c =
    rw take_rest (same_cut c.args.text.now ∙ cut_word-at c.args.text.now c.in-Some.end (sym c.in-Some.ensures))

pub returns-in-None : goal.returns-in-None
returns-in-None c = same_cut c.args.text.now ∙ cut_word-whole c.args.text.now (sym c.in-None.ensures)
