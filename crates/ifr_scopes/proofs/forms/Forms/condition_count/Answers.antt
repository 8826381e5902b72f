use Rattle.std.proofs.Common.{◌≡◌, ℕ, List, filter, length, rules, ap, ◌∙◌}
use Rattle.ifr_nodes.specs.Nodes.{nodes_of}
use Rattle.ifr_index.specs.code.Tables.{is_question_condition}
use Rattle.ifr_index.proofs.NoSubmitLemmas.{condition_entries}
use Rattle.ifr_scopes.proofs.forms.Forms.condition_count.Goals as goal

pub returns : goal.returns
returns c =
    let count : c.len.result ≡ length c.self.inside.index.conditions.items = search rules in
    count ∙ condition_entries (nodes_of c.self.inside.ifr.now) _ c.self.invariant.index.conditions ∙ ap (λ (b : List ℕ). length (filter is_question_condition (nodes_of b))) c.self.view_is
