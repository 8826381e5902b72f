use Rattle.std.proofs.Common.{◌≡◌, ◌+◌, ◌<◌, ◌^◌, length}
use Rattle.hii_packages.specs.Packages.{packages_of}
use Rattle.dump_audit.specs.Contents.{forms_in}
use Rattle.dump_audit.proofs.contents.forms_count.Given as goal

-- the forms packages before those that are left are counted
abbrev pub invariant-loop-source : goal.invariant-loop-source
invariant-loop-source l = record {
  sum : l.count + length (forms_in l.source-iterator) ≡ length (forms_in (packages_of l.list));
  few : length (packages_of l.list) < 2 ^ 62;
}
