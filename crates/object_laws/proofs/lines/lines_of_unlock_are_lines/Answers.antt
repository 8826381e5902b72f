use Rattle.object_laws.proofs.UnlockLineLemmas.{unlock_is_line}
use Rattle.object_laws.proofs.lines.lines_of_unlock_are_lines.Goals as goal

pub returns : goal.returns
returns c = unlock_is_line
