use Rattle.std.proofs.Common.{◌≡◌, codes, length, map}
use Rattle.std.specs.Prelude.{filter}
use Rattle.hii_bytes.specs.Watching.{pen_of}
use Rattle.ifr_scopes.specs.code.Lists.{guards_left, statement_node}
use Rattle.guard_policy.specs.code.Views.{bytes_of}
use Rattle.question_audit.specs.QuestionLines.{is_undefined_guard, undefined_guards}
use Rattle.question_audit.specs.code.Pages.{audited}
use Rattle.audit_json.proofs.ArrayLemmas.{Lists}
use Rattle.question_objects.specs.Verdicts.{place_of}
use Rattle.question_objects.proofs.verdicts.put_undefined.Given as goal

-- those of the guards before those that are left were written whose conditions are undefined
abbrev pub invariant-loop-guard : goal.invariant-loop-guard
invariant-loop-guard g l =
    let a = audited l.fn.page in
    record {
      written : Lists (codes "undefined") (map place_of (undefined_guards a (statement_node l.statement))) (map place_of (filter (is_undefined_guard a) (guards_left l.guards))) l.is_first
          (pen_of g.W.Write.contents l.fn.out) (pen_of g.W.Write.contents l.out);
      own : l.guards.ifr.now ≡ bytes_of l.fn.page.policy;
    }

abbrev pub decreases-loop-guard : goal.decreases-loop-guard
decreases-loop-guard g l = length (guards_left l.guards)
