use Rattle.std.proofs.Common.{◌≡◌, ℕ, List, true, rules, sym, ap, subst, ◌∙◌}
use Rattle.ifr_opcodes.specs.Forest.{Node}
use Rattle.ifr_opcodes.specs.Reading.{tree_of}
use Rattle.ifr_nodes.specs.code.Checked.{IsNodeOf, has_node, node_in}
use Rattle.ifr_nodes.specs.code.Views.{node_of}
use Rattle.ifr_nodes.proofs.EndLemmas.{stands_there}
use Rattle.ifr_index.proofs.NoSubmitLemmas.{stands}
use Rattle.ifr_nodes.proofs.PlaceLemmas.{is_found}
use Rattle.ifr_scopes.proofs.forms.Forms.form_at.Goals as goal

pub returns-clause-place : goal.returns-clause-place
returns-clause-place c =
    let ifr = c.self.inside.ifr.now in
    let there : has_node ifr c.args.place ≡ true = search rules in
    ap (λ (n : Node). n.place) c.node_at.ensures.node ∙ (stands_there ifr c.args.place c.self.invariant.accepted.checked.spelled there).1

pub returns-clause-node : goal.returns-clause-node
returns-clause-node c =
    let ifr = c.self.inside.ifr.now in
    let there : has_node ifr c.args.place ≡ true = search rules in
    let node : IsNodeOf ifr (node_in ifr c.args.place) = is_found ifr (tree_of ifr) (node_in ifr c.args.place) c.self.invariant.accepted.checked.spelled (stands ifr c.args.place there) in
    subst (λ (bytes : List ℕ). IsNodeOf bytes (node_of c.node_at.result)) c.self.view_is (subst (IsNodeOf ifr) (sym c.node_at.ensures.node) node)
