use Rattle.std.proofs.Common.{length}
use Rattle.std.specs.List.{flat_map}
use Rattle.hii_bytes.specs.Watching.{pen_of}
use Rattle.hii_bytes.specs.code.Writing.{Stands}
use Rattle.ifr_scopes.specs.code.Lists.{guards_left, statement_node}
use Rattle.guard_policy.specs.code.RuleValues.{AreRuleValues}
use Rattle.guard_policy.specs.code.Views.{bytes_of}
use Rattle.question_audit.specs.code.Pages.{audited}
use Rattle.question_rows.specs.Conditions.{guard_part, guards_part}
use Rattle.question_rows.proofs.guards.put_guards.Given as goal

-- the guards before those that are left were written
abbrev pub invariant-loop-guard : goal.invariant-loop-guard
invariant-loop-guard g l =
    let a = audited l.page in
    record {
      written : Stands (pen_of g.W.Write.contents l.fn.out) (pen_of g.W.Write.contents l.out) (guards_part a (statement_node l.statement)) (flat_map (guard_part a) (guards_left l.guards));
      kept : AreRuleValues (bytes_of l.page.policy) l.page.stores.now l.rules;
    }

abbrev pub decreases-loop-guard : goal.decreases-loop-guard
decreases-loop-guard g l = length (guards_left l.guards)
