use Rattle.std.proofs.Common.{◌≡◌, ◌++◌, length}
use Rattle.std.specs.Prelude.{filter}
use Rattle.std.specs.List.{filter_map, flat_map}
use Rattle.hii_bytes.specs.code.NumberSets.{has_number}
use Rattle.ifr_opcodes.specs.Fields.{form_id}
use Rattle.ifr_nodes.specs.Nodes.{statements}
use Rattle.ifr_nodes.specs.code.Checked.{AreNodesOf}
use Rattle.ifr_scopes.specs.code.Lists.{forms_left}
use Rattle.guard_policy.specs.code.Views.{bytes_of}
use Rattle.form_page.specs.code.PageViews.{world_of}
use Rattle.question_audit.specs.Reach.{statements_reached}
use Rattle.question_audit.specs.code.Closings.{closed_reference}
use Rattle.question_audit.proofs.ways.closed_references.Given as goal

-- with the references of the forms that are left all are added
abbrev pub invariant-loop-form : goal.invariant-loop-form
invariant-loop-form g l =
    let w = world_of l.page in
    let closing = closed_reference w (has_number l.reached) in
    record {
      nodes : AreNodesOf (bytes_of l.page.policy) (forms_left l.forms);
      added : l.closed.items ++ filter_map closing (flat_map statements (filter (λ form. has_number l.reached (form_id form.op)) (forms_left l.forms))) ≡ filter_map closing (statements_reached w (has_number l.reached));
    }

abbrev pub decreases-loop-form : goal.decreases-loop-form
decreases-loop-form g l = length (forms_left l.forms)
