use Rattle.std.proofs.Common.{filter, sym, ap, ◌∙◌}
use Rattle.std.specs.List.{flat_map}
use Rattle.std.specs.Option.{option_or}
use Rattle.hii_bytes.proofs.WritingLemmas.{◌⨾◌, past_piece}
use Rattle.hii_packages.specs.code.Package.{package_of}
use Rattle.dump_audit.specs.Contents.{begins_with_form_set, guid_word, first_title}
use Rattle.dump_audit.proofs.ContentLemmas.{sets_more, or_some}
use Rattle.dump_audit.proofs.contents.put_form_sets.Goals as goal

pub loop-source-preserved-in-Some-form_set_of : goal.loop-source-preserved-in-Some-form_set_of
loop-source-preserved-in-Some-form_set_of g c =
    let e = package_of c.in-Some.source in
    let later = c.next.new.self in
    let found = c.in-Some-form_set_of.ensures in
    let sets = sets_more c.loop-source.source-iterator later e c.in-Some.ensures.steps found.0 in
    let wrote = rw found.1 at (c.put.ensures ⨾ c.put_guid.ensures) in
    record {
      text = past_piece _ _ _ _ _ (guid_word e) (flat_map guid_word (filter begins_with_form_set later)) (ap (flat_map guid_word) sets) c.loop-source.invariant.text wrote;
      title = rw (c.or-title.ensures, found.2) (or_some c.loop-source.title _ (first_title (filter begins_with_form_set later)) ∙ ap (λ es. option_or c.loop-source.title (first_title es)) (sym sets) ∙ c.loop-source.invariant.title);
    }
