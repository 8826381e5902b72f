use Rattle.std.proofs.Common.{◌≡◌, ◌-◌, ℕ, List, length, ap, ◌∙◌, arith}
use Rattle.ifr_nodes.specs.Nodes.{nodes_of}
use Rattle.ifr_index.specs.code.Tables.{entry_table}
use Rattle.ifr_index.specs.declared.index.Entry.{Entry}
use Rattle.ifr_index.proofs.IndexingLemmas.{few_entries}
use Rattle.ifr_scopes.proofs.forms.Forms.position_of.Goals as goal
use Rattle.ifr_scopes.proofs.forms.Forms.position_of.Goals.{After-len}

-- how many there are
count : (c : After-len) → c.len.result ≡ length (entry_table (nodes_of c.args.self.now))
count c =
    c.len.ensures ∙ c.self.inside.index.entries.ok.0 ∙ ap (λ (l : List Entry). length l) c.self.invariant.index.entries
    ∙ ap (λ (b : List ℕ). length (entry_table (nodes_of b))) c.self.view_is

pub overflow_sub-result : goal.overflow_sub-result
overflow_sub-result c = omega (arith, count c, c.requires)

pub overflow_cast-result : goal.overflow_cast-result
overflow_cast-result c =
    let few = few_entries c.self.inside.ifr.now c.self.invariant.accepted.checked in
    omega (arith, few, ap (λ (b : List ℕ). length (entry_table (nodes_of b))) c.self.view_is, count c)

pub returns : goal.returns
returns c = ap (λ (k : ℕ). k - length c.args.kept.now) (count c)
