use Rattle.std.proofs.Common.{rules}
use Rattle.browser_rules.specs.Strings.{characters}
use Rattle.hii_languages.proofs.shown.Shown.chars.Goals as goal

pub returns-in-Nothing : goal.returns-in-Nothing
unfolding characters
returns-in-Nothing c = search rules

pub returns-in-Missing : goal.returns-in-Missing
unfolding characters
returns-in-Missing c = search rules
