use Rattle.std.proofs.Common.{Option, None, arith}
use Rattle.ifr_index.specs.declared.index.ConditionEntry.{ConditionEntry}
use Rattle.ifr_scopes.proofs.NearLemmas.{begin_at}
use Rattle.ifr_scopes.proofs.conditions_near.begins_behind.Goals as goal

pub returns-clause-behind : goal.returns-clause-behind
returns-clause-behind c = λ begins low rise.
    let none : ConditionEntry = record { place = 0; code = 0; number = 0; question = 0; this = 0; guard = None; ends = 0 } in
    let xs = c.args.conditions.now in
    begin_at (λ (x : ConditionEntry). x.place) c.args.place low c.args.at xs none rise (omega (arith, c.if-at-conditions.false))
    (c.stands_before.ensures begins none) (c.stands_behind.ensures c.if-not-stands_behind.false none)
