use Rattle.std.proofs.Common.{Ok, subst, sym, ◌∙◌}
use Rattle.ifr_opcodes.specs.Forest.{Node}
use Rattle.ifr_nodes.specs.Nodes.{nodes_of, options}
use Rattle.hii_varstore.specs.StoreNodes.{layout_of}
use Rattle.hii_questions.specs.Faults.{is_known}
use Rattle.hii_questions.specs.code.FaultTells.{TellsFault, first_option_fault}
use Rattle.hii_questions.specs.code.Views.{question_view}
use Rattle.hii_questions.proofs.FaultLemmas.{no_choice}
use Rattle.hii_questions.proofs.ReadLemmas.{options_told, outside_is}
use Rattle.hii_questions.proofs.check.check_question.Goals as goal

pub returns-clause-told : goal.returns-clause-told
returns-clause-told c =
    let ns = nodes_of c.args.forms.now in
    let q = question_view c.args.question in
    options_told (layout_of ns) (is_known ns) q c.check_options.result (sym c.in_ok-lacks_store.ensures.told ∙ c.if-branch.false)
    (sym (outside_is (layout_of ns) q c.args.size c.requires.sized c.requires.asked) ∙ sym c.is_outside.ensures ∙ c.if-is_outside.false) (subst (λ (n : Node). TellsFault (first_option_fault n (options n)) c.check_options.result) c.requires.same c.check_options.ensures)

pub returns-then-not-is_choice-clause-told : goal.returns-then-not-is_choice-clause-told
returns-then-not-is_choice-clause-told c =
    let ns = nodes_of c.args.forms.now in
    let q = question_view c.args.question in
    options_told (layout_of ns) (is_known ns) q (Ok tt) (sym c.in_ok-lacks_store.ensures.told ∙ c.if-branch.false)
    (sym (outside_is (layout_of ns) q c.args.size c.requires.sized c.requires.asked) ∙ sym c.is_outside.ensures ∙ c.if-is_outside.false) (no_choice q.node (options q.node) (sym c.is_choice.ensures ∙ c.if-not-is_choice.true))
