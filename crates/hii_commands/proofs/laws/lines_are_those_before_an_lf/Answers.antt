use Rattle.hii_commands.proofs.ScriptLemmas.{cut_lines-are}
use Rattle.hii_commands.proofs.laws.lines_are_those_before_an_lf.Goals as goal

pub returns : goal.returns
returns c = cut_lines-are
