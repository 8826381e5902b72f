use Rattle.std.proofs.Common.{◌≡◌, List, true, ℕ, rules, subst, sym, ap, ◌∙◌}
use Rattle.ifr_opcodes.specs.Reading.{tree_of}
use Rattle.ifr_nodes.specs.code.Checked.{IsNodeOf, has_node, node_in}
use Rattle.ifr_nodes.proofs.PlaceLemmas.{is_found}
use Rattle.ifr_index.proofs.NoSubmitLemmas.{stands}
use Rattle.hii_questions.specs.Fields.{Asked}
use Rattle.hii_questions.specs.code.Views.{question_node}
use Rattle.hii_questions.proofs.check.check_options.Goals as goal
use Rattle.hii_questions.proofs.check.check_options.Goals.{After-kept-question}

-- the question is a node of the package
node : (c : After-kept-question) → IsNodeOf c.args.forms.now (question_node c.kept-question.result)
node c =
    let ifr = c.args.forms.now in
    let place = c.args.entry.place in
    let spelled = c.bytes.ensures.accepted.checked.spelled in
    let there : has_node ifr place ≡ true = search rules in
    let same = ap (λ (a : Asked). a.node) c.kept-question.ensures ∙ ap (λ (bytes : List ℕ). node_in bytes place) c.bytes.ensures.bytes in
    subst (IsNodeOf ifr) (sym same) (is_found ifr (tree_of ifr) (node_in ifr place) spelled (stands ifr place there))

pub first_kind_in-first-requires : goal.first_kind_in-first-requires
first_kind_in-first-requires c = node (goal.at.first_kind_in-first-requires c).After-kept-question

pub options_of-option-items-requires : goal.options_of-option-items-requires
options_of-option-items-requires c = record { node = node (goal.at.options_of-option-items-requires c).After-kept-question }
