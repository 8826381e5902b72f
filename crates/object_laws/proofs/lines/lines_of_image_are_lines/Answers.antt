use Rattle.object_laws.proofs.StoreLineLemmas.{count_is_line, filled_is_line, unfit_is_line}
use Rattle.object_laws.proofs.lines.lines_of_image_are_lines.Goals as goal

pub returns-clause-filled : goal.returns-clause-filled
returns-clause-filled c = filled_is_line

pub returns-clause-refused : goal.returns-clause-refused
returns-clause-refused c = unfit_is_line

pub returns-clause-defaults : goal.returns-clause-defaults
returns-clause-defaults c = count_is_line
