use Rattle.hii_bytes.proofs.WritingLemmas.{◌⨾◌}
use Rattle.ifr_scopes.specs.code.Lists.{rule_node}
use Rattle.question_objects.proofs.WordLemmas.{words_over}
use Rattle.question_objects.proofs.rules.put_rule.Goals as goal

pub returns : goal.returns
returns g c =
    rw (c.from.ensures, c.id_of_rule-id.ensures) at
    (c.put_before_item.ensures
    ⨾ (c.put.ensures ⨾ (c.put_first_member.ensures ⨾ c.put_decimal.ensures ⨾ c.put_rule_members.ensures (rule_node c.args.rule) c.place.ensures (words_over c.of-text.ensures c.expression.ensures)) ⨾ c.put-2.ensures))
