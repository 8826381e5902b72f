use Rattle.std.proofs.Common.{◌≡◌, length}
use Rattle.std.specs.Prelude.{filter}
use Rattle.hii_bytes.specs.Watching.{pen_of}
use Rattle.hii_bytes.specs.code.Writing.{Stands}
use Rattle.ifr_scopes.specs.code.Lists.{guards_left}
use Rattle.guard_policy.specs.code.Views.{bytes_of}
use Rattle.question_audit.specs.QuestionLines.{is_undefined_guard, places_behind}
use Rattle.question_audit.specs.code.Pages.{audited}
use Rattle.question_audit.proofs.undefined.put_places.Given as goal

-- the places of the guards before those that are left were written
abbrev pub invariant-loop-guard : goal.invariant-loop-guard
invariant-loop-guard g l =
    let test = is_undefined_guard (audited l.page) in
    record {
      written : Stands (pen_of g.W.Write.contents l.fn.out) (pen_of g.W.Write.contents l.out) (places_behind (filter test (guards_left l.fn.guards))) (places_behind (filter test (guards_left l.guards)));
      own : l.guards.ifr.now ≡ bytes_of l.page.policy;
    }

abbrev pub decreases-loop-guard : goal.decreases-loop-guard
decreases-loop-guard g l = length (filter (is_undefined_guard (audited l.page)) (guards_left l.guards))
