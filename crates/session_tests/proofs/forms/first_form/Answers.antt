use Rattle.std.proofs.Common.{◌≡◌, ℕ, Option, Some, None, List, [], ◌∷◌, IfSome, subst, arith}
use Rattle.std.specs.Prelude.{MatchOption}
use Rattle.std.proofs.lemmas.List.Elements.{All-filter, All-contains_itself}
use Rattle.ifr_opcodes.specs.Forest.{Node}
use Rattle.ifr_nodes.specs.code.Checked.{IsNodeOf, AreNodesOf}
use Rattle.ifr_scopes.specs.code.Lists.{form_node, forms_left}
use Rattle.ifr_nodes.specs.Nodes.{nodes_of, is_form}
use Rattle.ifr_scopes.specs.declared.form.Form.{Form}
use Rattle.session_tests.proofs.forms.first_form.Goals as goal

first_of : (bytes : List ℕ) (left : List Node) (first : Option Form) (rest : List Node) → MatchOption first ((left ≡ []) × (rest ≡ [])) (λ form. left ≡ form_node form ∷ rest)
    → AreNodesOf bytes left → IfSome first (λ form. IsNodeOf bytes (form_node form))
first_of bytes left None rest none all = tt
first_of bytes left (Some form) rest steps all = subst (AreNodesOf bytes) steps all 0 (form_node form) (omega arith)

pub returns : goal.returns
returns c =
    let bytes = c.args.forms.now in
    let ns = nodes_of bytes in
    let nodes : AreNodesOf bytes ns = λ k d lt. c.a_node_is_that_of_its_place.ensures bytes _ c.bytes.ensures.accepted (All-contains_itself ns k d lt) in
    let forms : AreNodesOf bytes (forms_left c.forms.result) = rw c.forms.ensures (All-filter is_form (IsNodeOf bytes) ns nodes) in
    first_of bytes _ c.next.result _ c.next.ensures.steps forms
