use Rattle.std.proofs.Common.{◌≡◌, filter}
use Rattle.std.specs.List.{flat_map}
use Rattle.std.specs.Option.{option_or}
use Rattle.hii_bytes.specs.Watching.{pen_of}
use Rattle.hii_bytes.specs.code.Writing.{Stands}
use Rattle.hii_packages.specs.Packages.{packages_of}
use Rattle.dump_audit.specs.Contents.{begins_with_form_set, form_sets, first_title, guid_word}
use Rattle.dump_audit.proofs.contents.put_form_sets.Given as goal

-- the GUIDs before those that are left are written, and the first title is known unless it is among those that are left
abbrev pub invariant-loop-source : goal.invariant-loop-source
invariant-loop-source g l = record {
  text : Stands (pen_of g.W.Write.contents l.fn.out) (pen_of g.W.Write.contents l.out) (flat_map guid_word (form_sets (packages_of l.list))) (flat_map guid_word (filter begins_with_form_set l.source-iterator));
  title : option_or l.title (first_title (filter begins_with_form_set l.source-iterator)) ≡ first_title (form_sets (packages_of l.list));
}
