use Rattle.std.proofs.Common.{◌≡◌, ◌+◌, true, List, [], ◌∷◌, ◌++◌, map, ap, sym, ◌∙◌, arith}
use Rattle.std.proofs.lemmas.Bool.{cond-true}
use Rattle.ifr_opcodes.specs.Forest.{Node}
use Rattle.ifr_opcodes.specs.Opcode.{number}
use Rattle.ifr_nodes.specs.Guards.{is_guard}
use Rattle.ifr_nodes.specs.code.Checked.{node_in}
use Rattle.ifr_index.specs.code.Tables.{guard_entry}
use Rattle.ifr_index.specs.declared.index.GuardEntry.{GuardEntry}
use Rattle.ifr_index.specs.declared.level.Level.{Level}
use Rattle.ifr_index.proofs.MetLemmas.{BeginsAt, met_begins, guard_wants}
use Rattle.ifr_index.proofs.tables.add_guard.Goals as goal
use Rattle.ifr_index.proofs.tables.add_guard.Goals.{After-len}

-- the condition behind its opcode
behind : (c : After-len) → BeginsAt c.args.ifr.now (node_in c.args.ifr.now c.args.op.place) (c.args.op.place + c.len.result)
behind c =
    met_begins c.args.ifr.now c.args.op c.args.level.now (c.args.op.place + c.len.result) c.requires.met c.requires.clear (guard_wants c.args.op.code (sym c.is_guard.ensures ∙ c.if-is_guard.true)) (ap (λ n. c.args.op.place + n) c.len.ensures)

pub overflow_add-op : goal.overflow_add-op
overflow_add-op c = let b = behind (goal.at.overflow_add-op c).After-len in omega (arith, b.inside, c.requires.met.small)

pub end_of-requires-clause-there : goal.end_of-requires-clause-there
end_of-requires-clause-there c = (behind (goal.at.end_of-requires-clause-there c).After-len).there

pub returns-in_ok-push : goal.returns-in_ok-push
returns-in_ok-push c =
    let b = behind (goal.at.returns-in_ok-push c).After-len in
    let n = node_in c.args.ifr.now c.args.op.place in
    let old = c.args.guards.now.items in
    let is : is_guard (number n.op) ≡ true = ap (λ l. is_guard (number l)) c.requires.met.stands.opcode ∙ sym c.is_guard.ensures ∙ c.if-is_guard.true in
    let put : GuardEntry = record { place = c.args.op.place; code = c.args.op.code; this = c.args.level.now.this; outer = c.args.level.now.guard; ends = c.end_of.result } in
    let entry : put ≡ guard_entry c.args.level.now.guard n = λ i. record {
      place = sym c.requires.met.stands.placed i;
      code = ap number (sym c.requires.met.stands.opcode) i;
      this = ap (λ (l : Level). l.this) c.requires.met.around i;
      outer = c.args.level.now.guard;
      ends = (c.end_of.ensures ∙ b.ends) i;
    } in
    c.in_ok-push.ensures.items ∙ ap (λ (x : GuardEntry). old ++ x ∷ []) entry ∙ sym (ap (λ (l : List Node). old ++ map (guard_entry c.args.level.now.guard) l) (cond-true _ (n ∷ []) [] is))
