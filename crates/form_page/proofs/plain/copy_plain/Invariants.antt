use Rattle.std.proofs.Common.{◌-◌, length}
use Rattle.sibt_strings.specs.code.Views.{units_in}
use Rattle.form_page.specs.code.Fronts.{Copies}
use Rattle.form_page.proofs.plain.copy_plain.Given as goal

-- the first characters are copied
abbrev pub invariant-loop-count : goal.invariant-loop-count
invariant-loop-count l = Copies (units_in l.fn.text) l.fn.room l.room l.count (units_in l.rest)

abbrev pub decreases-loop-count : goal.decreases-loop-count
decreases-loop-count l = length l.room - l.count
