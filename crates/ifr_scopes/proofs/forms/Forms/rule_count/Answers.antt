use Rattle.std.proofs.Common.{◌≡◌, ℕ, List, filter, length, rules, ap, ◌∙◌}
use Rattle.std.proofs.lemmas.List.{length-map}
use Rattle.ifr_opcodes.specs.Forest.{Node}
use Rattle.ifr_nodes.specs.Nodes.{nodes_of}
use Rattle.ifr_nodes.specs.Rules.{is_rule}
use Rattle.ifr_scopes.proofs.forms.Forms.rule_count.Goals as goal

pub returns : goal.returns
returns c =
    let count : c.len.result ≡ length c.self.inside.index.rules.items = search rules in
    count
    ∙ ap (λ (l : List ℕ). length l) c.self.invariant.index.rules
    ∙ length-map (filter is_rule (nodes_of c.self.inside.ifr.now)) (λ (n : Node). n.place)
    ∙ ap (λ (b : List ℕ). length (filter is_rule (nodes_of b))) c.self.view_is
