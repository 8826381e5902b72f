use Rattle.std.proofs.Common.{◌≡◌, ℕ, Option, None, Some, List, ap, codes, inr, subst, ◌∙◌}
use Rattle.std.specs.Borrow.{Bor}
use Rattle.std.specs.Option.{IfSome, option_copied}
use Rattle.hii_bytes.specs.code.NumberSets.{has_number}
use Rattle.hii_bytes.proofs.WritingLemmas.{◌⨾◌}
use Rattle.ifr_nodes.specs.Nodes.{nodes_of}
use Rattle.ifr_index.specs.code.LockIndex.{first_place}
use Rattle.question_audit.proofs.AroundLemmas.{same_forms}
use Rattle.question_audit.proofs.BeginningLemmas.{at_error, begun_before, begun_behind}
use Rattle.guard_policy.specs.code.Views.{bytes_of}
use Rattle.question_rows.specs.code.Deciding.{TellsDecisions}
use Rattle.report_audit.proofs.page.put_report.Goals as goal

-- what may be there is lent
lent : {X : Type 0} (P : X → Type 0) (held : Option X) (r : Option (Bor X)) → option_copied r ≡ held → IfSome held P → IfSome r (λ x. P x.now)
lent P None None e its = tt
lent P None (Some x) e its = absurd cc
lent P (Some y) None e its = absurd cc
lent P (Some y) (Some x) e its = let same : y ≡ x.now = cc in subst P same its

pub put_sections-requires-clause-known : goal.put_sections-requires-clause-known
put_sections-requires-clause-known g c =
    let policy = c.args.page.policy in
    let own = same_forms c.forms.result.now c.policy.result policy c.forms.ensures c.policy.ensures in
    record {
      names = c.in_ok-tables.ensures.names;
      locks = λ scope. c.in_ok-locks.ensures scope ∙ ap (λ (b : List ℕ). first_place (nodes_of b) scope) (c.bytes.ensures.bytes ∙ own);
      decisions = lent (TellsDecisions (nodes_of (bytes_of policy))) c.in_ok-decisions.decisions c.as_ref.result c.as_ref.ensures.value c.in_ok-decisions.ensures;
    }

pub returns-clause-told : goal.returns-clause-told
returns-clause-told g c = (
  has_number c.in_ok-tables.tables.ways.reached,
  c.in_ok-tables.ensures.ways.reached,
  c.put_head.ensures ⨾ c.put_heading.ensures ⨾ c.put_contents.ensures ⨾ c.put.ensures ⨾ c.in_ok-put_sections.ensures.told ⨾ c.put-2.ensures,
)

pub returns-in_err-put_sections-clause-begun : goal.returns-in_err-put_sections-clause-begun
returns-in_err-put_sections-clause-begun g c =
    at_error c.from_residual-in_err-put_sections.result (inr (
      has_number c.in_ok-tables.tables.ways.reached,
      c.in_ok-tables.ensures.ways.reached,
      begun_before (codes "</main>\n") (begun_behind (c.put_head.ensures ⨾ c.put_heading.ensures ⨾ c.put_contents.ensures ⨾ c.put.ensures) c.in_err-put_sections.ensures.begun),
    ))
