use Rattle.std.proofs.Common.{◌≡◌, ℕ, List, cond, nat_lt, refl, sym, ap, subst, ◌∙◌}
use Rattle.std.specs.Prelude.{◌&&◌, filter, is_some}
use Rattle.hii_bytes.specs.code.FirstFaults.{Rise}
use Rattle.ifr_opcodes.specs.Fields.{question_id}
use Rattle.ifr_opcodes.specs.Forest.{Node}
use Rattle.ifr_opcodes.specs.Opcode.{number}
use Rattle.ifr_nodes.specs.Guards.{is_guard}
use Rattle.ifr_nodes.specs.Nodes.{nodes_of, end_of, is_question}
use Rattle.ifr_nodes.specs.code.Checked.{IsNodeOf, node_in}
use Rattle.ifr_nodes.proofs.ViewLemmas.{contains_found, node_in_place}
use Rattle.ifr_scopes.specs.code.Lists.{statement_node}
use Rattle.ifr_index.specs.code.Tables.{begin_in, guard_entry, inner_guard}
use Rattle.ifr_index.specs.declared.index.GuardEntry.{GuardEntry}
use Rattle.ifr_scopes.proofs.GuardsInLemmas.{are_behind, guards_behind, guards_kept}
use Rattle.ifr_index.proofs.IndexLemmas.{nodes_rise, table_rises}
use Rattle.ifr_scopes.proofs.forms.Forms.guards_in.Goals as goal
use Rattle.ifr_scopes.proofs.forms.Forms.guards_in.Goals.{After-guards_behind-guards}

-- the statement is a node of the package, and these are the guards behind it
node : (c : After-guards_behind-guards) → IsNodeOf c.self.inside.ifr.now (statement_node c.args.statement)
node c = subst (λ (b : List ℕ). IsNodeOf b (statement_node c.args.statement)) (sym c.self.view_is) c.requires.node

behind : (c : After-guards_behind-guards) → c.guards_behind-guards.result.now ≡ guards_behind c.self.inside.ifr.now (statement_node c.args.statement)
behind c =
    let bytes = c.self.inside.ifr.now in
    let place = λ (x : GuardEntry). x.place in
    let is = c.deref.ensures.value ∙ c.self.invariant.index.guards in
    let rise = table_rises (λ n. is_guard (number n.op)) (λ n. guard_entry (inner_guard (nodes_of bytes) n.path) n) place (λ n. refl) 4 (nodes_of bytes) (nodes_rise bytes c.self.invariant.accepted.checked.spelled) in
    c.guards_behind-guards.ensures 4 (subst (Rise place 4) (sym is) rise)
    ∙ ap (λ (p : ℕ). filter (λ (x : GuardEntry). nat_lt p x.place) c.deref.result.now) c.place.ensures
    ∙ ap (filter (λ (x : GuardEntry). nat_lt (statement_node c.args.statement).place x.place)) is

pub guards_end-requires-clause-there : goal.guards_end-requires-clause-there
guards_end-requires-clause-there c = ap is_some (node (goal.at.guards_end-requires-clause-there c).After-guards_behind-guards)

pub invariant_of-result : goal.invariant_of-result
invariant_of-result c =
    let checked = c.self.invariant.accepted.checked in
    record { checked = checked; entries = are_behind c.self.inside.ifr.now (statement_node c.args.statement) _ checked (behind (goal.at.invariant_of-result c).After-guards_behind-guards) }

pub returns : goal.returns
returns c =
    let at = (goal.at.returns c).After-guards_behind-guards in
    let bytes = c.self.inside.ifr.now in
    let m = statement_node c.args.statement in
    let itself : node_in bytes m.place ≡ m = node_in_place bytes m c.self.invariant.accepted.checked.spelled (contains_found (nodes_of bytes) m.place m (node at)) in
    let ends = c.guards_end.ensures ∙ ap (λ (n : Node). cond (is_question m && begin_in (question_id m.op) c.guards_behind-guards.result.now) (end_of n) m.place) itself in
    guards_kept bytes m c.guards_end.result c.guards_behind-guards.result.now c.self.invariant.accepted.checked (node at) (behind at) ends
