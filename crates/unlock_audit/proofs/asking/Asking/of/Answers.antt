use Rattle.std.proofs.Common.{◌+◌, arith, sym, ap, ◌∙◌}
use Rattle.ifr_nodes.specs.Nodes.{nodes_of}
use Rattle.ifr_scopes.specs.code.Lists.{guard_node}
use Rattle.hii_questions.specs.code.Views.{question_node}
use Rattle.guard_policy.specs.code.Views.{bytes_of}
use Rattle.unlock_audit.specs.Asking.{Asking, conditions_around, numbers_from, with_behind, with_conditions}
use Rattle.unlock_audit.specs.code.Askings.{asking_meant}
use Rattle.unlock_audit.proofs.IdLemmas.{empty_asking, numbers_end, numbers_next}
use Rattle.unlock_audit.proofs.asking.Asking.of.Goals as goal

pub loop-number-init : goal.loop-number-init
loop-number-init c = record {
  few = omega arith;
  left = ap (λ (a : Asking). with_behind (nodes_of (bytes_of c.args.policy)) a (numbers_from 0)) (c.in_ok-add_question.ensures ∙ ap (λ (a : Asking). with_conditions (nodes_of (bytes_of c.args.policy)) a (conditions_around (question_node c.args.question))) (empty_asking guard_node _ _ c.new.ensures c.new-2.ensures.items));
}

pub loop-number-preserved : goal.loop-number-preserved
loop-number-preserved c =
    let ns = nodes_of (bytes_of c.args.policy) in
    let k = c.loop-number.number in
    record {
      few = omega arith;
      left =
          ap (λ (a : Asking). with_behind ns a (numbers_from (k + 1))) c.in_ok-add_behind.ensures
          ∙ ap (with_behind ns (asking_meant c.loop-number.asking)) (sym (numbers_next k c.loop-number-test.true)) ∙ c.loop-number.invariant.left;
    }

pub returns : goal.returns
returns c =
    let ns = nodes_of (bytes_of c.args.policy) in
    let a = asking_meant c.loop-number.asking in
    ap (with_behind ns a) (sym (numbers_end c.loop-number.number (omega (arith, c.loop-number-test.false)))) ∙ c.loop-number.invariant.left
