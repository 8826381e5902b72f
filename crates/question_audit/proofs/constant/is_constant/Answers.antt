use Rattle.std.proofs.Common.{◌≡◌, ap, ◌∙◌, sym}
use Rattle.std.specs.List.{list_any}
use Rattle.ifr_nodes.specs.Nodes.{nodes_of}
use Rattle.ifr_scopes.specs.code.Lists.{guard_package, statement_node}
use Rattle.guard_policy.specs.code.Views.{bytes_of}
use Rattle.guard_policy.proofs.IndexedLemmas.{of_statement}
use Rattle.question_audit.specs.QuestionLines.{is_constant_at, is_constant_guard}
use Rattle.question_audit.proofs.AroundLemmas.{guards_found, same_forms}
use Rattle.question_audit.proofs.TableLemmas.{flags_all}
use Rattle.question_audit.proofs.constant.is_constant.Goals as goal

pub loop-guard-init : goal.loop-guard-init
loop-guard-init g c =
    let policy = c.args.page.policy in
    let n = statement_node c.args.statement in
    let own = same_forms c.forms.result.now c.policy.result policy c.forms.ensures c.policy.ensures in
    let found = guards_found policy n _ c.place.result _ c.requires.node (of_statement n c.args.statement.statement) (sym c.place.ensures) own c.guards_at-guards.ensures.guards in
    record {
      any = ap (list_any (is_constant_at (nodes_of (bytes_of policy)) c.in-Err.denial.place)) found;
      own = c.guards_at-guards.ensures.of_package ∙ own;
    }

pub flag_of-requires-clause-all : goal.flag_of-requires-clause-all
flag_of-requires-clause-all g c =
    let bytes = bytes_of c.args.page.policy in
    flags_all (is_constant_guard (nodes_of bytes)) bytes (guard_package c.in-Some.guard) _ (c.deref.ensures.value ∙ c.requires.told.constant) (c.in-Some.ensures.of_package ∙ c.loop-guard.invariant.own)
