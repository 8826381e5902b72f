use Rattle.std.proofs.Common.{◌≡◌, ℕ, List, get_or, true, sym, ap, subst, ◌∙◌}
use Rattle.std.proofs.lemmas.Bool.{and_parts}
use Rattle.ifr_opcodes.specs.Forest.{Node}
use Rattle.ifr_opcodes.specs.Reading.{tree_of}
use Rattle.ifr_nodes.specs.Accepted.{IsAccepted}
use Rattle.ifr_nodes.specs.Nodes.{is_statement}
use Rattle.ifr_nodes.specs.code.Checked.{IsNodeOf, has_node, has_statement, node_in}
use Rattle.ifr_nodes.proofs.PlaceLemmas.{is_found}
use Rattle.ifr_index.proofs.NoSubmitLemmas.{stands}
use Rattle.ifr_scopes.specs.code.Lists.{statement_node}
use Rattle.hii_questions.specs.code.ByField.{no_entry}
use Rattle.hii_questions.proofs.tables.options_of.Goals as goal

-- a statement at a place is a node of the package
node : (bytes : List ℕ) (place : ℕ) (n : Node) → IsAccepted bytes → has_statement bytes place ≡ true → n ≡ node_in bytes place → IsNodeOf bytes n
node bytes place n accepted there is =
    let parts = and_parts (has_node bytes place) (is_statement (node_in bytes place)) there in
    subst (IsNodeOf bytes) (sym is) (is_found bytes (tree_of bytes) (node_in bytes place) accepted.checked.spelled (stands bytes place parts.0))

pub add-requires-clause-node : goal.add-requires-clause-node
add-requires-clause-node c =
    let e = get_or c.args.questions.now c.loop-number.number no_entry in
    let kept = c.requires.kept c.loop-number.number no_entry c.loop-number-test.true in
    node c.args.forms.now e.place (statement_node c.at-question.result) c.requires.accepted kept.there (c.at-question.ensures.node ∙ ap (λ (l : List ℕ). node_in l e.place) c.bytes-ifr.ensures.bytes)
