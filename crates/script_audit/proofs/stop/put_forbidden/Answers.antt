use Rattle.std.proofs.Common.{◌≡◌, ap, subst}
use Rattle.std.specs.Prelude.{filter}
use Rattle.std.specs.List.{flat_map}
use Rattle.hii_bytes.specs.Watching.{Writes}
use Rattle.hii_bytes.specs.code.NumberSets.{has_number}
use Rattle.hii_bytes.proofs.WritingLemmas.{◌⨾◌}
use Rattle.ifr_nodes.specs.Nodes.{nodes_of}
use Rattle.ifr_scopes.specs.code.AnyConditions.{any_condition_node}
use Rattle.guard_policy.specs.code.Views.{bytes_of}
use Rattle.question_audit.specs.Dependences.{all_ids}
use Rattle.script_audit.specs.Depends.{asks, depends_told}
use Rattle.script_audit.specs.code.Pages.{seen_in}
use Rattle.script_audit.proofs.DependLemmas.{same_filter}
use Rattle.script_audit.proofs.stop.put_forbidden.Goals as goal

pub returns-clause-told : goal.returns-clause-told
returns-clause-told g c =
    let page = c.args.page in
    let asked : filter (has_number c.in_ok-ids.ids) all_ids ≡ filter (asks (nodes_of (bytes_of page.policy)) (any_condition_node c.args.forbidding.condition)) all_ids =
    same_filter (rw (c.forms-2.ensures, c.policy-2.ensures) at c.in_ok-ids.ensures) all_ids in
    c.put_line.ensures ⨾ c.put_answer.ensures ⨾ c.put_condition.ensures ⨾ subst (Writes _ _) (ap (flat_map (depends_told c.args.telling (seen_in page))) asked) c.put_depends.ensures
