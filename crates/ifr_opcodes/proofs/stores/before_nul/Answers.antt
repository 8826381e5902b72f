use Rattle.std.proofs.Common.{sym, ◌∙◌}
use Rattle.ifr_opcodes.proofs.FieldLemmas.{taken_to_nul, taken_without_nul}
use Rattle.ifr_opcodes.proofs.stores.before_nul.Goals as goal

pub returns-in-Some : goal.returns-in-Some
returns-in-Some c = taken_to_nul c.args.bytes.now c.in-Some.len (sym c.first_nul.ensures ∙ c.in-Some.is)

pub returns-in-None : goal.returns-in-None
returns-in-None c = taken_without_nul c.args.bytes.now (sym c.first_nul.ensures ∙ c.in-None.is)
