use Rattle.std.proofs.Common.{◌≡◌}
use Rattle.browser_rules.specs.Strings.{text_at}
use Rattle.sibt_strings.proofs.strings.Strings.text.Given as goal

-- the id that is looked for has the text
abbrev pub invariant-wanted : goal.invariant-wanted
invariant-wanted l = text_at l.self.texts l.wanted ≡ text_at l.self.texts l.id

abbrev pub decreases-wanted : goal.decreases-wanted
decreases-wanted l = l.wanted
