use Rattle.std.proofs.Common.{◌≡◌, ◌⊎◌, ◌+◌, ◌-◌, true, false}
use Rattle.browser_rules.specs.Script.{SCRIPT_LIMIT}
use Rattle.hii_bytes.specs.Watching.{pen_of, inner_of, has_failed, has_passed_on}
use Rattle.browser_core.proofs.RunLemmas.{Reads}
use Rattle.browser_core.proofs.script.run_all.Given as goal

-- the bytes read so far, and what the lines in them left; the last read was no fault; no answer is held back
abbrev pub invariant-loop-count : goal.invariant-loop-count
invariant-loop-count g l = Reads l.fn.core (pen_of g.W.Write.contents l.fn.out) (g.R.Read.remaining (inner_of l.fn.script)) l.count l.core l.line
    (pen_of g.W.Write.contents l.out) (g.R.Read.remaining (inner_of l.script))
    × ((l.count ≡ 0) ⊎ (has_failed l.script ≡ false))
    × (has_passed_on l.out ≡ true)

abbrev pub decreases-loop-count : goal.decreases-loop-count
decreases-loop-count g l = (SCRIPT_LIMIT + 1) - l.count
