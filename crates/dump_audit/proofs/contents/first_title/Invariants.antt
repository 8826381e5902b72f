use Rattle.std.proofs.Common.{◌≡◌, filter}
use Rattle.hii_packages.specs.Packages.{packages_of}
use Rattle.dump_audit.specs.Contents.{begins_with_form_set, first_title, form_sets}
use Rattle.dump_audit.proofs.contents.first_title.Given as goal

-- the first title is among those that are left
abbrev pub invariant-loop-source : goal.invariant-loop-source
invariant-loop-source l = first_title (filter begins_with_form_set l.source-iterator) ≡ first_title (form_sets (packages_of l.list))
