use Rattle.std.proofs.Common.{◌≡◌, length}
use Rattle.std.specs.Prelude.{filter}
use Rattle.ifr_scopes.specs.code.Lists.{guards_left}
use Rattle.guard_policy.specs.code.Views.{bytes_of}
use Rattle.question_audit.specs.QuestionLines.{is_undefined_guard}
use Rattle.question_audit.specs.code.Pages.{audited}
use Rattle.question_audit.proofs.undefined.next_undefined.Given as goal

-- none of the guards that were passed over is undefined
abbrev pub invariant-loop-guard : goal.invariant-loop-guard
invariant-loop-guard g l =
    let test = is_undefined_guard (audited l.page) in
    record {
      left : filter test (guards_left l.guards) ≡ filter test (guards_left l.fn.guards);
      own : l.guards.ifr.now ≡ bytes_of l.page.policy;
    }

abbrev pub decreases-loop-guard : goal.decreases-loop-guard
decreases-loop-guard g l = length (guards_left l.guards)
