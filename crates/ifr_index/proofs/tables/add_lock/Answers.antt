use Rattle.std.proofs.Common.{rules}
use Rattle.std.proofs.lemmas.Bool.{eq-eqb}
use Rattle.ifr_opcodes.specs.declared.codes.TheConstants.{LOCKED}
use Rattle.ifr_index.specs.code.Levels.{node_with}
use Rattle.ifr_index.proofs.LockLemmas.{lock_added}
use Rattle.ifr_index.proofs.tables.add_lock.Goals as goal

pub returns-in_ok-insert : goal.returns-in_ok-insert
returns-in_ok-insert c = λ path children around all left finds.
    lock_added all c.args.locks.now c.insert.new.self (node_with c.args.op path children) left c.args.scope (eq-eqb c.args.op.code LOCKED c.if-op-eq-LOCKED.true) (around c.if-op-eq-LOCKED.true) (search rules) c.in_ok-insert.ensures.updates finds
