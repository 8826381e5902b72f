use Rattle.object_laws.proofs.ObjectLineLemmas.{object_is_line}
use Rattle.object_laws.proofs.lines.objects_are_lines.Goals as goal

pub returns : goal.returns
returns c = object_is_line
