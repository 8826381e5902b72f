use Rattle.hii_commands.proofs.ScriptLemmas.{cut_lines-append, cut_pieces-concat}
use Rattle.hii_commands.proofs.laws.lines_do_not_depend_on_the_pieces.Goals as goal

pub returns-clause-two : goal.returns-clause-two
returns-clause-two c = cut_lines-append

pub returns-clause-all : goal.returns-clause-all
returns-clause-all c = cut_pieces-concat
