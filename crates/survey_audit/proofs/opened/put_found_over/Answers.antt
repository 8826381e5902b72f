use Rattle.std.proofs.Common.{◌∙◌, ℕ, List, ap}
use Rattle.ifr_nodes.specs.Nodes.{nodes_of}
use Rattle.ifr_index.specs.code.LockIndex.{first_place}
use Rattle.question_audit.proofs.AroundLemmas.{same_forms}
use Rattle.question_audit.proofs.BeginningLemmas.{at_error}
use Rattle.question_audit.proofs.OptionLemmas.{nothing_begun}
use Rattle.survey_audit.proofs.opened.put_found_over.Goals as goal

pub put_found-requires-clause-known : goal.put_found-requires-clause-known
put_found-requires-clause-known g c =
    let policy = c.args.page.policy in
    let own = same_forms c.forms.result.now c.policy.result policy c.forms.ensures c.policy.ensures in
    record {
      names = c.requires.tables.names;
      guards = c.requires.tables.guards;
      locks = λ scope. c.in_ok-locks.ensures scope ∙ ap (λ (b : List ℕ). first_place (nodes_of b) scope) (c.bytes.ensures.bytes ∙ own);
    }

pub returns-in_err-locks-clause-begun : goal.returns-in_err-locks-clause-begun
returns-in_err-locks-clause-begun g c = at_error c.from_residual.result (nothing_begun _ _)

pub returns-in_err-spare-clause-begun : goal.returns-in_err-spare-clause-begun
returns-in_err-spare-clause-begun g c = at_error c.from_residual-in_err-spare.result (nothing_begun _ _)
