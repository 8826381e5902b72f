use Rattle.std.proofs.Common.{List, true, false, rules, ap, subst, arith, length}
use Rattle.std.proofs.lemmas.List.Elements.{All-head, All-tail}
use Rattle.ifr_opcodes.specs.Forest.{Node}
use Rattle.ifr_nodes.specs.code.Checked.{IsNodeOf, AreNodesOf}
use Rattle.ifr_scopes.specs.code.Lists.{statement_node}
use Rattle.ifr_scopes.specs.code.GivingLeft.{giving_left}
use Rattle.guard_policy.specs.code.Views.{bytes_of}
use Rattle.browser_commands.proofs.DefaultLemmas.{takes_next, still_browsed}
use Rattle.browser_commands.proofs.sources.Sources.take_each.Goals as goal

pub take_default-requires-clause-node : goal.take_default-requires-clause-node
take_default-requires-clause-node c =
    let n = statement_node c.in-Some.statement in
    let all = subst (AreNodesOf (bytes_of c.args.self.policy)) c.in-Some.ensures.steps c.loop-statement.invariant.nodes in
    All-head (λ m. IsNodeOf (bytes_of c.args.self.policy) m) n (giving_left c.next.new.self) all

pub take_default-requires-clause-browsed : goal.take_default-requires-clause-browsed
take_default-requires-clause-browsed c =
    still_browsed c.args.self c.args.class _ _ _ _ _ c.requires.browsed c.loop-statement.invariant.take

pub loop-statement-preserved-then-take_default : goal.loop-statement-preserved-then-take_default
loop-statement-preserved-then-take_default c =
    let n = statement_node c.in-Some.statement in
    let ns = giving_left c.next.new.self in
    let steps = c.in-Some.ensures.steps in
    let few = c.loop-statement.invariant.few in
    let fewer = ap (λ (l : List Node). length l) steps in
    record {
      can = search rules;
      ends = search rules;
      nodes = All-tail (λ m. IsNodeOf (bytes_of c.args.self.policy) m) n ns (subst (AreNodesOf (bytes_of c.args.self.policy)) steps c.loop-statement.invariant.nodes);
      few = omega (arith, few, fewer);
      same = c.take_default.ensures.same;
      take = takes_next c.args.self c.args.class _ n ns _ _ _ _ _ true steps (rw c.if-take_default.true at c.take_default.ensures.takes) c.loop-statement.invariant.take;
    }

pub loop-statement-preserved : goal.loop-statement-preserved
loop-statement-preserved c =
    let n = statement_node c.in-Some.statement in
    let ns = giving_left c.next.new.self in
    let steps = c.in-Some.ensures.steps in
    let few = c.loop-statement.invariant.few in
    let fewer = ap (λ (l : List Node). length l) steps in
    record {
      can = search rules;
      ends = search rules;
      nodes = All-tail (λ m. IsNodeOf (bytes_of c.args.self.policy) m) n ns (subst (AreNodesOf (bytes_of c.args.self.policy)) steps c.loop-statement.invariant.nodes);
      few = omega (arith, few, fewer);
      same = c.take_default.ensures.same;
      take = takes_next c.args.self c.args.class _ n ns _ _ _ _ _ false steps (rw c.if-take_default.false at c.take_default.ensures.takes) c.loop-statement.invariant.take;
    }
