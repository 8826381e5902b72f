use Rattle.std.proofs.Common.{sym, ◌∙◌}
use Rattle.std.proofs.lemmas.Bool.{cond-true, cond-false, eq-eqb, ne_eqb}
use Rattle.ifr_opcodes.specs.declared.codes.TheConstants.{END}
use Rattle.ifr_opcodes.specs.code.Ops.{bytes_of}
use Rattle.ifr_opcodes.proofs.OpcodeLemmas.{has_scope_spelled}
use Rattle.ifr_nodes.proofs.FirstLemmas.{first_inside, first_missing}
use Rattle.ifr_nodes.proofs.walk.Walk.first_child.Goals as goal

pub returns-then-op-eq-END : goal.returns-then-op-eq-END
returns-then-op-eq-END c =
    let it = c.args.self.now in
    let parent = c.args.visit.now.op in
    let op = c.in-Some.op in
    sym (first_inside it.bytes.now it.at it.around.items (bytes_of parent) (bytes_of op) _ it.walking (has_scope_spelled parent.code parent.scope parent.body.now parent.whole ∙ c.if-not-visit.false) op.whole c.in-Some.ensures.1
    ∙ cond-true _ _ _ (eq-eqb op.code END c.if-op-eq-END.true))

pub returns-else-op-eq-END : goal.returns-else-op-eq-END
returns-else-op-eq-END c =
    let it = c.args.self.now in
    let parent = c.args.visit.now.op in
    let op = c.in-Some.op in
    sym (first_inside it.bytes.now it.at it.around.items (bytes_of parent) (bytes_of op) _ it.walking (has_scope_spelled parent.code parent.scope parent.body.now parent.whole ∙ c.if-not-visit.false) op.whole c.in-Some.ensures.1
    ∙ cond-false _ _ _ (ne_eqb op.code END c.if-op-eq-END.false))

pub returns-in-None : goal.returns-in-None
returns-in-None c =
    let it = c.args.self.now in
    sym (first_missing it.bytes.now it.at it.around.items (bytes_of c.args.visit.now.op) it.walking c.in-None.ensures)
