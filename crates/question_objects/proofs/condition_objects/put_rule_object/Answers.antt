use Rattle.hii_bytes.proofs.WritingLemmas.{◌⨾◌}
use Rattle.ifr_scopes.specs.code.Lists.{rule_node}
use Rattle.question_objects.proofs.WordLemmas.{words_over}
use Rattle.question_objects.proofs.condition_objects.put_rule_object.Goals as goal

pub returns : goal.returns
returns g c =
    rw (c.from.ensures, c.id_of_rule-id.ensures) at
    (c.put_kind.ensures ⨾ (c.put_number.ensures ⨾ c.put_rule_members.ensures (rule_node c.args.rule) c.place.ensures (words_over c.of-text.ensures c.expression.ensures)) ⨾ c.end_object.ensures)
