use Rattle.std.proofs.Common.{◌≡◌, ◌+◌, true, List, [], ◌∷◌, ◌++◌, length, map, rules, ap, sym, ◌∙◌, arith}
use Rattle.std.proofs.lemmas.Bool.{cond-true}
use Rattle.ifr_opcodes.specs.Forest.{Node}
use Rattle.ifr_opcodes.specs.Opcode.{number}
use Rattle.ifr_opcodes.specs.Rows.{is_condition_number}
use Rattle.ifr_nodes.specs.Structure.{innermost}
use Rattle.ifr_nodes.specs.code.Checked.{node_in}
use Rattle.ifr_index.specs.code.Tables.{condition_entry}
use Rattle.ifr_index.specs.declared.index.ConditionEntry.{ConditionEntry}
use Rattle.ifr_index.specs.declared.level.Level.{Level}
use Rattle.ifr_index.proofs.MetLemmas.{BeginsAt, met_begins, condition_wants, parent_is}
use Rattle.ifr_index.proofs.tables.add_condition.Goals as goal
use Rattle.ifr_index.proofs.tables.add_condition.Goals.{After-len}

-- the condition behind its opcode
behind : (c : After-len) → BeginsAt c.args.ifr.now (node_in c.args.ifr.now c.args.op.place) (c.args.op.place + c.len.result)
behind c =
    met_begins c.args.ifr.now c.args.op c.args.level.now (c.args.op.place + c.len.result) c.requires.met c.requires.clear (condition_wants c.args.op.code (sym c.is_condition.ensures ∙ c.if-is_condition.true)) (ap (λ n. c.args.op.place + n) c.len.ensures)

pub overflow_add-op : goal.overflow_add-op
overflow_add-op c = let b = behind (goal.at.overflow_add-op c).After-len in omega (arith, b.inside, c.requires.met.small)

pub end_of-requires-clause-there : goal.end_of-requires-clause-there
end_of-requires-clause-there c = (behind (goal.at.end_of-requires-clause-there c).After-len).there

pub returns-in_ok-push : goal.returns-in_ok-push
returns-in_ok-push c =
    let b = behind (goal.at.returns-in_ok-push c).After-len in
    let n = node_in c.args.ifr.now c.args.op.place in
    let old = c.args.conditions.now.items in
    let is : is_condition_number (number n.op) ≡ true = ap (λ l. is_condition_number (number l)) c.requires.met.stands.opcode ∙ sym c.is_condition.ensures ∙ c.if-is_condition.true in
    let count : c.len-number.result ≡ length old = search rules in
    let put : ConditionEntry = record { place = c.args.op.place; code = c.args.op.code; number = c.len-number.result; question = c.args.level.now.place; this = c.args.level.now.this; guard = c.args.level.now.guard; ends = c.end_of.result } in
    let entry : put ≡ condition_entry c.args.level.now.guard (length old) n = λ i. record {
      place = sym c.requires.met.stands.placed i;
      code = ap number (sym c.requires.met.stands.opcode) i;
      number = count i;
      question = (ap (λ (l : Level). l.place) c.requires.met.around ∙ parent_is (innermost n.path)) i;
      this = ap (λ (l : Level). l.this) c.requires.met.around i;
      guard = c.args.level.now.guard;
      ends = (c.end_of.ensures ∙ b.ends) i;
    } in
    c.in_ok-push.ensures.items ∙ ap (λ (x : ConditionEntry). old ++ x ∷ []) entry ∙ sym (ap (λ (l : List Node). old ++ map (condition_entry c.args.level.now.guard (length old)) l) (cond-true _ (n ∷ []) [] is))
