use Rattle.std.proofs.Common.{arith, inr}
use Rattle.hii_bytes.specs.code.NumberSets.{has_number}
use Rattle.hii_bytes.proofs.WritingLemmas.{◌⨾◌}
use Rattle.ifr_nodes.specs.Nodes.{nodes_of}
use Rattle.ifr_nodes.proofs.ConditionLemmas.{place_below}
use Rattle.ifr_nodes.proofs.ViewLemmas.{contains_found}
use Rattle.hii_questions.specs.code.Views.{question_node}
use Rattle.guard_policy.specs.code.Views.{bytes_of}
use Rattle.question_audit.proofs.BeginningLemmas.{at_error, begun_before, begun_behind}
use Rattle.question_audit.proofs.question_facts.put_question_facts.Goals as goal

pub put_opcode_facts-requires-clause-in_list : goal.put_opcode_facts-requires-clause-in_list
put_opcode_facts-requires-clause-in_list g c =
    let policy = c.args.page.policy in
    let n = question_node c.args.question in
    let below = place_below (bytes_of policy) n policy.accepted.checked (contains_found (nodes_of (bytes_of policy)) n.place n c.requires.node) in
    omega (arith, below, c.requires.in_list)

pub returns-clause-written : goal.returns-clause-written
returns-clause-written g c = (
  has_number c.in_ok-ways.ways.reached,
  c.in_ok-ways.ensures.reached,
  c.put_opcode_facts.ensures ⨾ c.put_kind_facts.ensures ⨾ c.put_value_facts.ensures ⨾ c.put_verdict_facts.ensures ⨾ c.in_ok-put_condition_facts.ensures.told ⨾ c.in_ok-put_dependence_facts.ensures.told,
)

pub returns-in_err-put_condition_facts-clause-begun : goal.returns-in_err-put_condition_facts-clause-begun
returns-in_err-put_condition_facts-clause-begun g c =
    at_error c.from_residual-in_err-put_condition_facts.result (inr (
      has_number c.in_ok-ways.ways.reached,
      c.in_ok-ways.ensures.reached,
      begun_before _ (begun_behind (c.put_opcode_facts.ensures ⨾ c.put_kind_facts.ensures ⨾ c.put_value_facts.ensures ⨾ c.put_verdict_facts.ensures) c.in_err-put_condition_facts.ensures.begun),
    ))

pub returns-in_err-put_dependence_facts-clause-begun : goal.returns-in_err-put_dependence_facts-clause-begun
returns-in_err-put_dependence_facts-clause-begun g c =
    at_error c.from_residual-in_err-put_dependence_facts.result (inr (
      has_number c.in_ok-ways.ways.reached,
      c.in_ok-ways.ensures.reached,
      begun_behind (c.put_opcode_facts.ensures ⨾ c.put_kind_facts.ensures ⨾ c.put_value_facts.ensures ⨾ c.put_verdict_facts.ensures ⨾ c.in_ok-put_condition_facts.ensures.told) c.in_err-put_dependence_facts.ensures.begun,
    ))
