use Rattle.std.proofs.Common.{ℕ, List, ap, inr, ◌∙◌}
use Rattle.hii_bytes.specs.code.NumberSets.{has_number}
use Rattle.hii_bytes.proofs.WritingLemmas.{◌⨾◌}
use Rattle.ifr_nodes.specs.Nodes.{nodes_of}
use Rattle.ifr_index.specs.code.LockIndex.{first_place}
use Rattle.question_audit.proofs.AroundLemmas.{same_forms}
use Rattle.question_audit.proofs.BeginningLemmas.{at_error, begun_before}
use Rattle.question_objects.proofs.form_sets.put_questions_objects.Goals as goal

pub put_forms-requires-clause-known : goal.put_forms-requires-clause-known
put_forms-requires-clause-known g c =
    let policy = c.args.page.policy in
    let own = same_forms c.forms.result.now c.policy.result policy c.forms.ensures c.policy.ensures in
    record {
      names = c.in_ok-tables.ensures.names;
      guards = c.in_ok-tables.ensures.guards;
      locks = λ scope. c.in_ok-locks.ensures scope ∙ ap (λ (b : List ℕ). first_place (nodes_of b) scope) (c.bytes.ensures.bytes ∙ own);
    }

pub returns-clause-written : goal.returns-clause-written
returns-clause-written g c = (
  has_number c.in_ok-tables.tables.ways.reached,
  c.in_ok-tables.ensures.ways.reached,
  c.in_ok-put_forms.ensures.told ⨾ c.put_condition_objects.ensures,
)

pub returns-in_err-put_forms-clause-begun : goal.returns-in_err-put_forms-clause-begun
returns-in_err-put_forms-clause-begun g c =
    at_error c.from_residual-in_err-put_forms.result (inr (
      has_number c.in_ok-tables.tables.ways.reached,
      c.in_ok-tables.ensures.ways.reached,
      begun_before _ c.in_err-put_forms.ensures.begun,
    ))
