use Rattle.std.proofs.Common.{arith}
use Rattle.hii_bytes.proofs.WritingLemmas.{◌⨾◌}
use Rattle.ifr_scopes.specs.code.Lists.{guard_node}
use Rattle.question_objects.proofs.WordLemmas.{words_over}
use Rattle.question_objects.proofs.guards.put_whole.Goals as goal

pub put_named-requires : goal.put_named-requires
put_named-requires g c = omega (arith, c.heading_of.ensures.package, c.heading_of.ensures.place, c.requires)

pub returns : goal.returns
returns g c =
    rw (c.heading_of.ensures.package, c.heading_of.ensures.state) at
    (c.put_before_item.ensures ⨾ (c.put.ensures ⨾ c.put_named.ensures (guard_node c.args.guard) c.heading_of.ensures.place c.heading_of.ensures.code (words_over c.of-text.ensures c.condition.ensures) ⨾ c.put-2.ensures))
