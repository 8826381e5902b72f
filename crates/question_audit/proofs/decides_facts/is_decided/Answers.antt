use Rattle.std.proofs.Common.{◌≡◌, ℕ, Bool, false, List, length, sym, ap, ◌∙◌}
use Rattle.std.specs.Prelude.{◌||◌}
use Rattle.std.specs.List.{list_any}
use Rattle.ifr_nodes.specs.Guards.{guards_among}
use Rattle.ifr_nodes.specs.Nodes.{nodes_of}
use Rattle.ifr_scopes.specs.code.Lists.{guard_node, guards_left}
use Rattle.hii_questions.specs.code.Views.{question_node}
use Rattle.guard_policy.specs.code.Views.{bytes_of}
use Rattle.guard_policy.proofs.IndexedLemmas.{of_statement}
use Rattle.question_audit.specs.code.Naming.{counts, naming}
use Rattle.question_audit.proofs.AroundLemmas.{guards_found}
use Rattle.question_audit.proofs.DependLemmas.{any_guard}
use Rattle.question_audit.proofs.decides_facts.is_decided.Goals as goal

pub loop-guard-init : goal.loop-guard-init
loop-guard-init c =
    let policy = c.args.policy in
    let n = question_node c.args.question in
    let ns = nodes_of (bytes_of policy) in
    let found = guards_found policy n _ c.place.result _ c.requires.node (of_statement n c.args.question.statement.statement) (sym c.place.ensures) c.forms.ensures c.guards_at-guards.ensures.guards in
    record {
      any = λ id e. ap (list_any (counts c.args.when ns id)) found ∙ sym (any_guard c.args.when ns id n);
      same = c.guards_at-guards.ensures.of_package ∙ c.forms.ensures;
    }

pub counts-requires-clause-all : goal.counts-requires-clause-all
counts-requires-clause-all c =
    let same = c.in-Some.ensures.of_package ∙ c.loop-guard.invariant.same in
    c.requires.all ∙ ap (λ (b : List ℕ). length (guards_among (nodes_of b))) (sym same)

pub loop-guard-preserved : goal.loop-guard-preserved
loop-guard-preserved c =
    let ns = nodes_of (bytes_of c.args.policy) in
    let i = c.loop-guard.invariant in
    let guard = guard_node c.in-Some.guard in
    let rest = guards_left c.step.new.self in
    let same = c.in-Some.ensures.of_package ∙ i.same in
    record {
      any = λ id e.
          let told = c.counts.ensures id (e ∙ ap (λ (b : List ℕ). naming (nodes_of b) id) (sym same)) in
          let not : counts c.args.when ns id guard ≡ false = ap (λ (b : List ℕ). counts c.args.when (nodes_of b) id guard) (sym same) ∙ sym told ∙ c.if-counts.false in
          sym (ap (list_any (counts c.args.when ns id)) c.in-Some.ensures.steps ∙ ap (λ (b : Bool). b || list_any (counts c.args.when ns id) rest) not) ∙ i.any id e;
      same = c.in-Some.ensures.kept ∙ i.same;
    }
