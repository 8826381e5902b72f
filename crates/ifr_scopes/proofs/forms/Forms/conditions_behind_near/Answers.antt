use Rattle.std.proofs.Common.{◌≡◌, ℕ, true, List, [], nat_lt, filter, refl, sym, ap, subst, ◌∙◌}
use Rattle.std.proofs.lemmas.Bool.{cond-true}
use Rattle.hii_bytes.specs.code.FirstFaults.{Rise}
use Rattle.ifr_opcodes.specs.Opcode.{has_scope}
use Rattle.ifr_opcodes.proofs.OpcodeLemmas.{has_scope_spelled}
use Rattle.ifr_nodes.specs.Nodes.{nodes_of}
use Rattle.ifr_scopes.specs.code.Lists.{statement_node}
use Rattle.ifr_index.specs.code.Tables.{is_question_condition, kept_condition, condition_table}
use Rattle.ifr_index.specs.declared.index.ConditionEntry.{ConditionEntry}
use Rattle.ifr_index.proofs.IndexLemmas.{nodes_rise, table_rises}
use Rattle.ifr_scopes.proofs.forms.Forms.conditions_behind_near.Goals as goal

pub returns-then-op : goal.returns-then-op
returns-then-op c =
    let m = statement_node c.args.statement in
    let bytes = c.self.inside.ifr.now in
    let op = c.op.result.op in
    let place = λ (x : ConditionEntry). x.place in
    let scoped : has_scope m.op ≡ true = ap has_scope (sym c.op.ensures.bytes) ∙ has_scope_spelled op.code op.scope op.body.now op.whole ∙ c.if-op.true in
    let is = c.deref.ensures.value ∙ c.self.invariant.index.conditions in
    let rise = table_rises is_question_condition (kept_condition (nodes_of bytes)) place (λ n. refl) 4 (nodes_of bytes) (nodes_rise bytes c.self.invariant.accepted.checked.spelled) in
    let behind = c.conditions_behind_near.ensures 4 (subst (Rise place 4) (sym is) rise) in
    let its : List ConditionEntry = filter (λ x. nat_lt m.place x.place) (condition_table (nodes_of c.args.self.now)) in
    behind ∙ ap (λ (p : ℕ). filter (λ (x : ConditionEntry). nat_lt p x.place) c.deref.result.now) c.op.ensures.place ∙ ap (filter (λ (x : ConditionEntry). nat_lt m.place x.place)) is
    ∙ ap (λ (b : List ℕ). filter (λ (x : ConditionEntry). nat_lt m.place x.place) (condition_table (nodes_of b))) c.self.view_is ∙ sym (cond-true (has_scope m.op) its [] scoped)
