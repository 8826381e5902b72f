use Rattle.std.proofs.Common.{sym, ◌∙◌}
use Rattle.hii_bytes.specs.code.NumberSets.{has_number}
use Rattle.ifr_scopes.specs.code.Lists.{statement_node}
use Rattle.ifr_scopes.specs.code.StatementsLeft.{statements_of_left}
use Rattle.guard_policy.specs.code.Views.{bytes_of}
use Rattle.guard_policy.proofs.OptionLemmas.{first_of, rest_of}
use Rattle.form_page.specs.code.PageViews.{world_of}
use Rattle.question_audit.specs.code.Closings.{closed_reference}
use Rattle.question_audit.proofs.ClosingLemmas.{none_added, one_added}
use Rattle.question_audit.proofs.ways.add_closed.Goals as goal

pub closed_reference-requires : goal.closed_reference-requires
closed_reference-requires g c = first_of (bytes_of c.args.page.policy) (statements_of_left c.loop-statement.statements) (statement_node c.in-Some.statement) (statements_of_left c.next.new.self) c.in-Some.ensures.steps c.loop-statement.invariant.nodes

pub loop-statement-preserved-in-Continue-1 : goal.loop-statement-preserved-in-Continue-1
loop-statement-preserved-in-Continue-1 g c =
    let closing = closed_reference (world_of c.args.page) (has_number c.args.reached.now) in
    let e = c.in-Some.ensures.steps in
    record {
      nodes = rest_of (bytes_of c.args.page.policy) _ _ _ e c.loop-statement.invariant.nodes;
      added = one_added closing _ _ _ _ _ _ _ e c.in-Some-closed_reference.ensures c.in_ok-push.ensures.items c.loop-statement.invariant.added;
    }

pub loop-statement-preserved : goal.loop-statement-preserved
loop-statement-preserved g c =
    let closing = closed_reference (world_of c.args.page) (has_number c.args.reached.now) in
    let e = c.in-Some.ensures.steps in
    record {
      nodes = rest_of (bytes_of c.args.page.policy) _ _ _ e c.loop-statement.invariant.nodes;
      added = none_added closing _ _ _ _ _ e c.in_default-closed_reference.ensures c.loop-statement.invariant.added;
    }
