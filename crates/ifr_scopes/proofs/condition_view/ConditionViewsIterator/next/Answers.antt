use Rattle.std.proofs.Common.{sym, ap, subst, ◌∙◌, arith}
use Rattle.ifr_opcodes.specs.Rows.{is_condition_number}
use Rattle.ifr_nodes.specs.code.PartsLeft.{parts_left, HaveThis}
use Rattle.ifr_nodes.specs.code.Views.{node_of}
use Rattle.ifr_scopes.proofs.ThisLemmas.{have_rest}
use Rattle.ifr_scopes.proofs.condition_view.ConditionViewsIterator.next.Goals as goal

pub invariant_of-self : goal.invariant_of-self
invariant_of-self c =
    let it = c.args.self.now in
    record {
      coded = ap is_condition_number c.step.ensures.stays ∙ it.coded;
      within = have_rest it.this (parts_left it.nodes) (parts_left c.step.new.self) c.step.result c.step.ensures.steps it.within;
    }

pub invariant_of-result : goal.invariant_of-result
invariant_of-result c =
    let it = c.args.self.now in
    record {
      condition = ap is_condition_number c.in_ok-node.ensures.coded ∙ it.coded;
      within = sym (subst (HaveThis it.this) c.in_ok-node.ensures.steps it.within 0 (node_of c.in_ok-node.node) (omega arith));
      ended = c.expression_end.ensures;
      counted = tt;
    }
