use Rattle.std.proofs.Common.{◌≡◌, ℕ, List, length, rules, ap, ◌∙◌}
use Rattle.ifr_nodes.specs.Guards.{guards_among}
use Rattle.ifr_nodes.specs.Nodes.{nodes_of}
use Rattle.ifr_index.proofs.NumberLemmas.{as_long}
use Rattle.ifr_scopes.proofs.forms.Forms.guard_count.Goals as goal

pub returns : goal.returns
returns c =
    let count : c.len.result ≡ length c.self.inside.index.guards.items = search rules in
    count ∙ as_long (nodes_of c.self.inside.ifr.now) _ c.self.invariant.index.guards ∙ ap (λ (b : List ℕ). length (guards_among (nodes_of b))) c.self.view_is
