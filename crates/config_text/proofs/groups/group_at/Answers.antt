use Rattle.std.proofs.Common.{◌∙◌}
use Rattle.config_text.proofs.GroupLemmas.{group_hex, group_number}
use Rattle.config_text.proofs.groups.group_at.Goals as goal

pub number_of_four-requires-clause-hex : goal.number_of_four-requires-clause-hex
number_of_four-requires-clause-hex c = group_hex c.args.digits.now c.args.size c.args.place c.requires.grouped

pub returns-clause-number : goal.returns-clause-number
returns-clause-number c = c.number_of_four.ensures.number ∙ group_number c.args.digits.now c.args.size c.args.place c.requires.sized c.requires.inside
