use Rattle.std.specs.Prelude.{◌≡◌, filter}
use Rattle.std.specs.List.{flat_map}
use Rattle.hii_bytes.specs.Watching.{pen_of}
use Rattle.hii_bytes.specs.code.NumberSets.{has_number}
use Rattle.hii_bytes.specs.code.Writing.{Stands}
use Rattle.ifr_nodes.specs.Nodes.{is_form, nodes_of}
use Rattle.ifr_nodes.specs.code.Checked.{AreNodesOf}
use Rattle.ifr_scopes.specs.code.Lists.{forms_left}
use Rattle.guard_policy.specs.code.Views.{bytes_of}
use Rattle.question_audit.specs.code.Pages.{audited}
use Rattle.report_audit.specs.Forms.{section}
use Rattle.report_audit.proofs.forms.put_sections.Given as goal

-- the sections before those of the forms that are left were written
abbrev pub invariant-loop-form : goal.invariant-loop-form
invariant-loop-form g l =
    let told = section (audited l.fn.page) (has_number l.fn.ways.reached) in
    record {
      can : (goal.iterator-loop-form g).can_next l.forms;
      ends : (goal.iterator-loop-form g).is_finite l.forms;
      nodes : AreNodesOf (bytes_of l.fn.page.policy) (forms_left l.forms);
      same : l.spare ≡ l.fn.page.stores.now;
      text : Stands (pen_of g.W.Write.contents l.fn.out) (pen_of g.W.Write.contents l.out) (flat_map told (filter is_form (nodes_of (bytes_of l.fn.page.policy)))) (flat_map told (forms_left l.forms));
    }
