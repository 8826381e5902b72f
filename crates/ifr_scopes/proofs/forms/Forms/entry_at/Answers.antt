use Rattle.std.proofs.Common.{ℕ, List, refl, ap, ◌∙◌}
use Rattle.std.specs.Prelude.{option_map}
use Rattle.ifr_nodes.specs.Nodes.{nodes_of}
use Rattle.ifr_index.specs.code.Index.{is_indexed, indexed_at}
use Rattle.ifr_index.specs.code.Tables.{kept_entry}
use Rattle.ifr_index.specs.declared.index.Entry.{Entry}
use Rattle.ifr_index.proofs.IndexLemmas.{looked_up, nodes_rise}
use Rattle.ifr_scopes.proofs.forms.Forms.entry_at.Goals as goal

pub returns : goal.returns
returns c =
    let bytes = c.self.inside.ifr.now in
    let ns = nodes_of bytes in
    looked_up is_indexed (kept_entry ns) (λ (e : Entry). e.place) (λ n. refl) c.args.place ns c.deref.result.now c.entry_at.result (nodes_rise bytes c.self.invariant.accepted.checked.spelled)
    (c.deref.ensures.value ∙ c.self.invariant.index.entries) c.entry_at.ensures ∙ ap (λ (b : List ℕ). option_map (kept_entry (nodes_of b)) (indexed_at (nodes_of b) c.args.place)) c.self.view_is
