use Rattle.ifr_nodes.specs.Nodes.{statements}
use Rattle.ifr_scopes.specs.code.Lists.{form_node, statement_node}
use Rattle.ifr_scopes.specs.code.StatementsLeft.{statements_of_left}
use Rattle.guard_policy.specs.code.Views.{bytes_of}
use Rattle.guard_policy.proofs.OptionLemmas.{first_of, rest_of}
use Rattle.form_page.specs.code.PageViews.{world_of}
use Rattle.question_audit.specs.code.Meeting.{led_by, with_forms}
use Rattle.question_audit.specs.code.MetForms.{forms_met}
use Rattle.question_audit.proofs.ReachLemmas.{led_none, led_some}
use Rattle.question_audit.proofs.reach.Met.follow.Goals as goal

pub led_to-requires : goal.led_to-requires
led_to-requires g c = first_of (bytes_of c.args.page.policy) (statements_of_left c.loop-statement.statements) (statement_node c.in-Some.statement) (statements_of_left c.next.new.self) c.in-Some.ensures.steps c.loop-statement.invariant.nodes

pub loop-statement-preserved-in_default-led_to : goal.loop-statement-preserved-in_default-led_to
loop-statement-preserved-in_default-led_to g c =
    let left = statements_of_left c.loop-statement.statements in
    let after = statements_of_left c.next.new.self in
    let n = statement_node c.in-Some.statement in
    let e = c.in-Some.ensures.steps in
    record {
      nodes = rest_of (bytes_of c.args.page.policy) left n after e c.loop-statement.invariant.nodes;
      met = led_none (world_of c.args.page) (forms_met c.loop-statement.self) (with_forms (forms_met c.args.self.now) (led_by (world_of c.args.page) (statements (form_node c.args.form)))) left after n e c.in_default-led_to.ensures c.loop-statement.invariant.met;
    }

pub loop-statement-preserved : goal.loop-statement-preserved
loop-statement-preserved g c =
    let left = statements_of_left c.loop-statement.statements in
    let after = statements_of_left c.next.new.self in
    let n = statement_node c.in-Some.statement in
    let e = c.in-Some.ensures.steps in
    record {
      nodes = rest_of (bytes_of c.args.page.policy) left n after e c.loop-statement.invariant.nodes;
      met = led_some (world_of c.args.page) (forms_met c.loop-statement.self) (forms_met c.meet.new.self) (with_forms (forms_met c.args.self.now) (led_by (world_of c.args.page) (statements (form_node c.args.form)))) left after n (form_node c.in-Some-led_to.next) e c.in-Some-led_to.ensures c.in_ok-meet.ensures c.loop-statement.invariant.met;
    }
