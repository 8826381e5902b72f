use Rattle.std.proofs.Common.{◌≡◌, ℕ, Option, Some, None, List, [], ◌∷◌, IfSome, sym, ap, ◌∙◌, subst}
use Rattle.std.specs.Prelude.{MatchOption}
use Rattle.ifr_opcodes.specs.Forest.{Node}
use Rattle.ifr_nodes.specs.code.Checked.{IsNodeOf, AreNodesOf}
use Rattle.ifr_nodes.specs.Nodes.{options}
use Rattle.ifr_scopes.specs.code.Parts.{option_node}
use Rattle.ifr_scopes.specs.declared.option_view.OptionView.{OptionView}
use Rattle.hii_questions.specs.code.Views.{question_node}
use Rattle.hii_values.proofs.OptionLemmas.{options_are_nodes}
use Rattle.guard_policy.proofs.OptionLemmas.{first_of}
use Rattle.session_tests.proofs.policies.first_option.Goals as goal

first_node : (bytes : List ℕ) (left : List Node) (first : Option OptionView) (rest : List Node) → MatchOption first ((left ≡ []) × (rest ≡ [])) (λ o. left ≡ option_node o ∷ rest)
    → AreNodesOf bytes left → IfSome first (λ o. IsNodeOf bytes (option_node o))
first_node bytes left None rest none all = tt
first_node bytes left (Some o) rest steps all = first_of bytes left (option_node o) rest steps all

pub returns : goal.returns
returns c =
    let bytes = c.args.questions.now.ifr in
    let q = question_node c.args.question in
    let all = c.options.ensures ∙ ap options c.statement.ensures in
    first_node bytes _ c.next.result _ c.next.ensures.steps (subst (AreNodesOf bytes) (sym all) (options_are_nodes bytes q c.requires.accepted.checked.spelled c.requires.node))
