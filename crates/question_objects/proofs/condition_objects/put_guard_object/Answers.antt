use Rattle.std.proofs.Common.{arith, ap, ◌∙◌}
use Rattle.hii_bytes.proofs.WritingLemmas.{◌⨾◌}
use Rattle.ifr_scopes.specs.code.Lists.{guard_node}
use Rattle.audit_text.specs.Words.{opcode_name}
use Rattle.question_objects.proofs.WordLemmas.{words_over}
use Rattle.question_objects.proofs.condition_objects.put_guard_object.Goals as goal

pub put_condition-requires : goal.put_condition-requires
put_condition-requires g c = omega (arith, c.heading_of.ensures.package, c.heading_of.ensures.place, c.requires)

pub returns : goal.returns
returns g c =
    rw (c.opcode_name.ensures ∙ ap opcode_name c.code.ensures, c.heading_of.ensures.package, c.heading_of.ensures.state) at
    (c.put_kind.ensures ⨾ (c.put_word.ensures ⨾ c.put_condition.ensures (guard_node c.args.guard) c.heading_of.ensures.place (words_over c.of-text.ensures c.condition.ensures)) ⨾ c.end_object.ensures)
