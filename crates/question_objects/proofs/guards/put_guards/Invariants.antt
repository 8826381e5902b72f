use Rattle.std.proofs.Common.{◌≡◌, codes, length, map}
use Rattle.hii_bytes.specs.Watching.{pen_of}
use Rattle.ifr_nodes.specs.Guards.{guards}
use Rattle.ifr_scopes.specs.code.Lists.{guards_left, statement_node}
use Rattle.guard_policy.specs.code.Views.{bytes_of}
use Rattle.question_audit.specs.code.Pages.{audited}
use Rattle.audit_json.proofs.ArrayLemmas.{Lists}
use Rattle.question_objects.specs.Conditions.{guard_item}
use Rattle.question_objects.proofs.guards.put_guards.Given as goal

-- the guards before those that are left were written
abbrev pub invariant-loop-guard : goal.invariant-loop-guard
invariant-loop-guard g l =
    let item = guard_item l.detail (audited l.page) l.package_place in
    record {
      written : Lists (codes "guards") (map item (guards (statement_node l.statement))) (map item (guards_left l.guards)) l.is_first (pen_of g.W.Write.contents l.fn.out) (pen_of g.W.Write.contents l.out);
      own : l.guards.ifr.now ≡ bytes_of l.page.policy;
    }

abbrev pub decreases-loop-guard : goal.decreases-loop-guard
decreases-loop-guard g l = length (guards_left l.guards)
