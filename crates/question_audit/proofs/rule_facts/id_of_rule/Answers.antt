use Rattle.std.proofs.Common.{◌≡◌, ℕ, List, ap, ◌∙◌}
use Rattle.ifr_opcodes.specs.Fields.{rule_id}
use Rattle.ifr_opcodes.specs.Forest.{Node}
use Rattle.ifr_nodes.specs.Nodes.{nodes_of}
use Rattle.ifr_nodes.specs.Rules.{is_rule}
use Rattle.ifr_nodes.specs.Checked.{IsChecked}
use Rattle.ifr_nodes.specs.code.Checked.{IsNodeOf, node_in}
use Rattle.ifr_nodes.specs.code.Views.{node_of}
use Rattle.ifr_nodes.proofs.ViewLemmas.{contains_found, node_in_place}
use Rattle.ifr_scopes.specs.code.Lists.{rule_node}
use Rattle.question_audit.proofs.rule_facts.id_of_rule.Goals as goal

-- the node that is found at the place of a node is that node
there : (bytes found : List ℕ) (place : ℕ) (m n : Node) → IsChecked bytes → IsNodeOf bytes n → m ≡ node_in found place → found ≡ bytes → place ≡ n.place → m ≡ n
there bytes found place m n checked node is same at =
    is ∙ ap (λ (b : List ℕ). node_in b place) same ∙ ap (node_in bytes) at ∙ node_in_place bytes n checked.spelled (contains_found (nodes_of bytes) n.place n node)

pub rule-requires : goal.rule-requires
rule-requires c =
    let bytes = c.args.forms.now in
    ap is_rule (there bytes c.bytes.result.now c.place.result (node_of c.node_at.result) (rule_node c.args.rule) c.bytes.ensures.accepted.checked c.requires c.node_at.ensures.node c.bytes.ensures.bytes c.place.ensures) ∙ c.args.rule.rule

pub returns : goal.returns
returns c =
    let bytes = c.args.forms.now in
    let node = there bytes c.bytes.result.now c.place.result (node_of c.node_at.result) (rule_node c.args.rule) c.bytes.ensures.accepted.checked c.requires c.node_at.ensures.node c.bytes.ensures.bytes c.place.ensures in
    c.id.ensures ∙ ap rule_id (c.rule.ensures.bytes ∙ ap (λ (m : Node). m.op) node)
