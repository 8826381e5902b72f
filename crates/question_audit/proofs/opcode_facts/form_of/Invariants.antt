use Rattle.std.proofs.Common.{◌≡◌, length}
use Rattle.std.specs.List.{find}
use Rattle.ifr_nodes.specs.Nodes.{nodes_of}
use Rattle.ifr_nodes.specs.code.Checked.{AreNodesOf}
use Rattle.ifr_scopes.specs.code.Lists.{forms_left, statement_node}
use Rattle.guard_policy.specs.code.Views.{bytes_of}
use Rattle.question_audit.specs.QuestionFacts.{form_of, has_within}
use Rattle.question_audit.proofs.opcode_facts.form_of.Given as goal

-- the forms that were met have it not
abbrev pub invariant-loop-form : goal.invariant-loop-form
invariant-loop-form l =
    let n = statement_node l.statement in
    record {
      found : find (has_within n) (forms_left l.all) ≡ form_of (nodes_of (bytes_of l.policy)) n;
      nodes : AreNodesOf (bytes_of l.policy) (forms_left l.all);
      same : l.forms ≡ bytes_of l.policy;
    }

abbrev pub decreases-loop-form : goal.decreases-loop-form
decreases-loop-form l = length (forms_left l.all)
