use Rattle.std.proofs.Common.{◌≡◌, ◌∷◌, [], ◌++◌, append_assoc, Bool, List, map, ap, sym, ◌∙◌}
use Rattle.ifr_opcodes.specs.Forest.{Node}
use Rattle.ifr_expr.specs.Trees.{post}
use Rattle.ifr_nodes.specs.NodeExpressions.{expression_tree}
use Rattle.ifr_nodes.specs.Nodes.{nodes_of, this_of}
use Rattle.ifr_scopes.specs.code.Lists.{all_guards_left, guard_node}
use Rattle.question_audit.specs.code.Naming.{names}
use Rattle.question_audit.specs.code.Places.{has_place}
use Rattle.question_audit.proofs.LeadingLemmas.{by_rules}
use Rattle.question_audit.proofs.decides_facts.guards_naming.Goals as goal

pub loop-guard-preserved : goal.loop-guard-preserved
loop-guard-preserved c =
    let ns = nodes_of c.args.forms.now in
    let g = guard_node c.in-Some.guard in
    let flags = c.loop-guard.flags.items in
    let rest = map (names ns c.args.id) (all_guards_left c.next.new.self) in
    let known : c.leads.result ≡ names ns c.args.id g =
    (rw (c.this.ensures, c.condition.ensures) at c.leads.ensures) ∙ by_rules ns (has_place c.in_ok-rules.rules) (this_of g) c.args.id (post (expression_tree g)) c.in_ok-rules.ensures in
    ap (λ (l : List Bool). l ++ rest) (c.in_ok-push.ensures.items ∙ ap (λ (b : Bool). flags ++ b ∷ []) known)
    ∙ append_assoc flags (names ns c.args.id g ∷ []) rest
    ∙ ap (λ (gs : List Node). flags ++ map (names ns c.args.id) gs) (sym c.in-Some.ensures.steps) ∙ c.loop-guard.invariant
