use Rattle.std.proofs.Common.{List, sym, ap, ◌∙◌}
use Rattle.std.specs.Prelude.{option_map}
use Rattle.std.specs.List.{find}
use Rattle.ifr_opcodes.specs.Forest.{Node}
use Rattle.ifr_opcodes.specs.Opcode.{has_scope}
use Rattle.ifr_nodes.specs.Nodes.{inconsistents, is_inconsistent}
use Rattle.hii_values.specs.declared.denial.DenialKind.TheVariants.{InconsistentIf}
use Rattle.guard_policy.specs.Policy.{told}
use Rattle.guard_policy.specs.World.{is_met}
use Rattle.guard_policy.specs.code.Answers.{unless}
use Rattle.guard_policy.specs.code.Views.{world}
use Rattle.guard_policy.proofs.policy.Policy.consistent_by.Goals as goal

pub returns-then-not-opens_scope-clause-denied : goal.returns-then-not-opens_scope-clause-denied
returns-then-not-opens_scope-clause-denied c =
    ap (λ (l : List Node). unless (option_map (told InconsistentIf) (find (is_met (world c.args.self.now c.args.stores.now)) l)))
    (sym (c.opens_scope.ensures.none c.if-not-opens_scope.true is_inconsistent) ∙ ap inconsistents c.statement.ensures)

pub returns-clause-scoped : goal.returns-clause-scoped
returns-clause-scoped c = λ err. ap (λ (n : Node). has_scope n.op) (sym c.statement.ensures) ∙ sym c.opens_scope.ensures.scope ∙ c.if-not-opens_scope.false
