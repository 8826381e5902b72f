use Rattle.ifr_nodes.specs.Nodes.{nodes_of}
use Rattle.store_commands.specs.Configured.{names_of}
use Rattle.survey_commands.proofs.ConfigLemmas.{bad_is_not_said}
use Rattle.survey_commands.proofs.sets.config_for.Goals as goal

pub unreachable-requires : goal.unreachable-requires
unreachable-requires c =
    bad_is_not_said (names_of (nodes_of c.args.declared.now)) c.args.text.now c.requires.0 c.in-Err-Bad.field-0 c.requires.1 c.in-Err-Bad.ensures c.in-Err-Bad.field-0-is
