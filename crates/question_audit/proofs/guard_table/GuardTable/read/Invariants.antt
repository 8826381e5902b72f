use Rattle.std.proofs.Common.{◌≡◌, ◌++◌, length, map}
use Rattle.ifr_nodes.specs.Guards.{guards_among}
use Rattle.ifr_scopes.specs.code.Lists.{all_guards_left}
use Rattle.guard_policy.specs.code.RuleValues.{AreRuleValues}
use Rattle.guard_policy.specs.code.Views.{bytes_of}
use Rattle.question_audit.specs.QuestionLines.{is_constant_guard, is_undefined_guard}
use Rattle.question_audit.specs.code.Pages.{audited}
use Rattle.question_audit.proofs.guard_table.GuardTable.read.Given as goal

-- what is known of the guards that are left is left to be added
abbrev pub invariant-loop-guard : goal.invariant-loop-guard
invariant-loop-guard g l =
    let a = audited l.page in
    let all = guards_among a.world.nodes in
    record {
      undefined : l.undefined.items ++ map (is_undefined_guard a) (all_guards_left l.guards) ≡ map (is_undefined_guard a) all;
      kept : AreRuleValues (bytes_of l.page.policy) l.page.stores.now l.rules;
      constant : l.constant.items ++ map (is_constant_guard a.world.nodes) (all_guards_left l.guards) ≡ map (is_constant_guard a.world.nodes) all;
    }

abbrev pub decreases-loop-guard : goal.decreases-loop-guard
decreases-loop-guard g l = length (all_guards_left l.guards)
