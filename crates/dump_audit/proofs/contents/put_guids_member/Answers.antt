use Rattle.std.proofs.Common.{true, filter, map, codes, ap, subst, sym, List, ℕ, ◌∙◌}
use Rattle.hii_bytes.specs.Watching.{pen_of}
use Rattle.browser_rules.specs.Packages.{Package}
use Rattle.hii_packages.specs.Packages.{packages_of}
use Rattle.hii_packages.specs.code.Package.{package_of}
use Rattle.audit_json.proofs.ArrayLemmas.{Lists, lists_end, lists_more, lists_start}
use Rattle.dump_audit.specs.Contents.{begins_with_form_set, form_sets}
use Rattle.dump_audit.specs.Objects.{guid_value}
use Rattle.dump_audit.proofs.ContentLemmas.{sets_more}
use Rattle.dump_audit.proofs.contents.put_guids_member.Goals as goal

pub loop-source-init : goal.loop-source-init
loop-source-init g c =
    let all = map guid_value (form_sets (packages_of c.args.list.now)) in
    let same = ap (λ (ps : List Package). map guid_value (filter begins_with_form_set ps)) (c.into_iter-source-iterator.ensures.into_iter_gives ∙ c.packages-source-items.ensures.all) in
    subst (λ (left : List (List ℕ)). Lists (codes "guids") all left true (pen_of g.W.Write.contents c.args.out.now) (pen_of g.W.Write.contents c.args.out.now)) (sym same) (lists_start (codes "guids") all (pen_of g.W.Write.contents c.args.out.now))

pub loop-source-preserved-in-Some-form_set_of : goal.loop-source-preserved-in-Some-form_set_of
loop-source-preserved-in-Some-form_set_of g c =
    let e = package_of c.in-Some.source in
    let found = c.in-Some-form_set_of.ensures in
    let sets = sets_more c.loop-source.source-iterator c.next.new.self e c.in-Some.ensures.steps found.0 in
    lists_more (guid_value e) c.loop-source.invariant (ap (map guid_value) sets) c.put_before_item.ensures (rw found.1 at c.put_guid_value.ensures)

pub returns : goal.returns
returns g c = lists_end c.loop-source.invariant (ap (λ (ps : List Package). map guid_value (filter begins_with_form_set ps)) c.in-None.ensures.steps.0) c.put_array_end.ensures
