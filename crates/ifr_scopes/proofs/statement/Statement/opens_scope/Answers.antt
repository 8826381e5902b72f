use Rattle.std.proofs.Common.{◌≡◌, sym, ap, ◌∙◌}
use Rattle.ifr_opcodes.specs.Opcode.{has_scope}
use Rattle.ifr_opcodes.proofs.OpcodeLemmas.{has_scope_spelled}
use Rattle.ifr_index.proofs.NoSubmitLemmas.{stands}
use Rattle.ifr_scopes.specs.code.Lists.{statement_node}
use Rattle.ifr_index.proofs.ConditionsOfLemmas.{none_inside}
use Rattle.ifr_scopes.proofs.statement.Statement.opens_scope.Goals.{After-op}
use Rattle.ifr_scopes.proofs.statement.Statement.opens_scope.Goals as goal

scope_is : (c : After-op) → has_scope (statement_node c.args.self).op ≡ c.op.result.scope
scope_is c =
    let op = c.op.result in
    ap has_scope (sym c.op.ensures.bytes) ∙ has_scope_spelled op.code op.scope op.body.now op.whole

pub returns-clause-scope : goal.returns-clause-scope
returns-clause-scope c = sym (scope_is (goal.at.returns-clause-scope c).After-op)

pub returns-clause-none : goal.returns-clause-none
returns-clause-none c = λ bare which.
    let node = c.args.self.node in
    none_inside node.ifr.now (statement_node c.args.self) which node.checked (stands node.ifr.now node.op.place node.stands.there) (scope_is (goal.at.returns-clause-none c).After-op ∙ bare)
