use Rattle.std.proofs.Common.{rules}
use Rattle.guard_policy.specs.code.Views.{bytes_of}
use Rattle.guard_policy.proofs.RuleValueLemmas.{forgotten}
use Rattle.question_audit.proofs.guard_table.GuardTable.read.Goals as goal

pub loop-guard-init : goal.loop-guard-init
loop-guard-init g c = record {
  undefined = search rules;
  kept = forgotten (bytes_of c.args.page.policy) c.args.page.stores.now c.in_ok-rules.rules c.in_ok-rules.ensures.nothing;
  constant = search rules;
}
