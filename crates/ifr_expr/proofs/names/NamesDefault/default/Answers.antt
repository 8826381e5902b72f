use Rattle.std.proofs.Common.{sym, ap, subst, ◌∙◌}
use Rattle.ifr_expr.specs.code.Checked.{AreSized}
use Rattle.ifr_expr.specs.code.Names.{names_among}
use Rattle.ifr_expr.proofs.NameLemmas.{no_opcodes, no_marks}
use Rattle.ifr_expr.proofs.names.NamesDefault.default.Goals as goal

pub over-ops-requires-clause-opcodes : goal.over-ops-requires-clause-opcodes
over-ops-requires-clause-opcodes c = no_opcodes

pub invariant_of-result : goal.invariant_of-result
invariant_of-result c = record { sized = subst AreSized (sym (c.over-ops.ensures ∙ no_marks 0)) tt }

pub returns : goal.returns
returns c = ap names_among (c.over-ops.ensures ∙ no_marks 0)
