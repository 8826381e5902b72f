use Rattle.std.proofs.Common.{arith}
use Rattle.hii_packages.specs.code.Package.{package_of}
use Rattle.browser_core.proofs.WithoutFaultLemmas.{good_without_fault, where_list_refuses, where_number_refuses}
use Rattle.browser_core.proofs.laws.bytes_without_fault_are_good.Goals as goal

pub returns-in_default : goal.returns-in_default
returns-in_default c = where_list_refuses c.args.list.now c.args.forms c.args.image.now c.in_default.field-0 c.in_default.ensures.refused

pub returns-in_default-forms : goal.returns-in_default-forms
returns-in_default-forms c =
    where_number_refuses c.args.list.now c.in-Ok.packages c.args.forms c.args.image.now c.in_default-forms.field-0 c.in-Ok.ensures.read c.in-Ok.ensures.sound c.in_default-forms.ensures.refused

pub returns : goal.returns
returns c =
    good_without_fault c.args.list.now c.args.forms c.args.image.now (package_of c.in-Ok-forms.source)
    (c.in-Ok.ensures.sound, rw c.in-Ok.ensures.read at c.in-Ok-forms.ensures.found)
    c.in-Ok-forms.source.header (omega (arith, c.in-Ok-forms.source.small)) c.bytes_without_framing_fault_are_spelled.ensures c.images_without_fault_are_spelled.ensures
