use Rattle.std.proofs.Common.{◌≡◌, ◌≤◌, ℕ, List, nat_lt, length, refl, sym, ap, subst, ◌∙◌, arith}
use Rattle.std.specs.Prelude.{filter}
use Rattle.hii_bytes.specs.code.FirstFaults.{Rise}
use Rattle.ifr_nodes.specs.Nodes.{nodes_of}
use Rattle.ifr_index.specs.code.Index.{is_indexed}
use Rattle.ifr_scopes.specs.code.Lists.{form_node}
use Rattle.ifr_index.specs.code.Tables.{kept_entry, entry_table}
use Rattle.ifr_index.specs.declared.index.Entry.{Entry}
use Rattle.ifr_index.proofs.IndexLemmas.{nodes_rise, table_rises}
use Rattle.ifr_index.proofs.IndexingLemmas.{few_entries, few_of}
use Rattle.ifr_scopes.proofs.StatementsOfLemmas.{all_behind}
use Rattle.ifr_scopes.proofs.forms.Forms.entries_from.Goals as goal
use Rattle.ifr_scopes.proofs.forms.Forms.entries_from.Goals.{After-entries_behind-kept}

-- what is kept, and what of it is behind the form
all : (c : After-entries_behind-kept) → c.as_slice-entries.result.now ≡ entry_table (nodes_of c.self.inside.ifr.now)
all c = c.as_slice-entries.ensures.value ∙ c.self.invariant.index.entries

behind : (c : After-entries_behind-kept) → c.entries_behind-kept.result.now ≡ all_behind c.self.inside.ifr.now (form_node c.args.form)
behind c =
    let bytes = c.self.inside.ifr.now in
    let place = λ (x : Entry). x.place in
    let rise = table_rises is_indexed (kept_entry (nodes_of bytes)) place (λ n. refl) 4 (nodes_of bytes) (nodes_rise bytes c.self.invariant.accepted.checked.spelled) in
    c.entries_behind-kept.ensures 4 (subst (Rise place 4) (sym (all c)) rise)
    ∙ ap (λ (p : ℕ). filter (λ (x : Entry). nat_lt p x.place) c.as_slice-entries.result.now) c.place.ensures
    ∙ ap (filter (λ (x : Entry). nat_lt (form_node c.args.form).place x.place)) (all c)

fewer : (c : After-entries_behind-kept) → length c.entries_behind-kept.result.now ≤ length c.as_slice-entries.result.now
fewer c =
    let table : List Entry = entry_table (nodes_of c.self.inside.ifr.now) in
    omega (arith, ap (λ (l : List Entry). length l) (behind c), ap (λ (l : List Entry). length l) (all c), few_of (λ (one : Entry). nat_lt (form_node c.args.form).place one.place) table)

pub overflow_sub-result : goal.overflow_sub-result
overflow_sub-result c = fewer (goal.at.overflow_sub-result c).After-entries_behind-kept

pub overflow_cast-result : goal.overflow_cast-result
overflow_cast-result c =
    let few = few_entries c.self.inside.ifr.now c.self.invariant.accepted.checked in
    omega (arith, few, ap (λ (l : List Entry). length l) (all (goal.at.overflow_cast-result c).After-entries_behind-kept))

pub returns : goal.returns
returns c = behind (goal.at.returns c).After-entries_behind-kept ∙ ap (λ (b : List ℕ). all_behind b (form_node c.args.form)) c.self.view_is
