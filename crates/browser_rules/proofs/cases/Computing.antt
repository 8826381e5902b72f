-- All that cases compute with and that is shut: a lemma that names this opens it.
use Rattle.std.proofs.Common.{ℕ}
use Rattle.std.specs.Fmt.{digits}
use Rattle.std.specs.Str.{is_utf8, chars}
use lib.Utf8.{encode}
use Rattle.unicode_width.proofs.Computing.{unicode_width}
use Rattle.browser_rules.specs.Expressions
use Rattle.browser_rules.specs.Faults
use Rattle.browser_rules.specs.Forest
use Rattle.browser_rules.specs.Opcodes
use Rattle.browser_rules.specs.Packages
use Rattle.browser_rules.specs.Renewed
use Rattle.browser_rules.specs.Stores
use Rattle.browser_rules.specs.Strings
use Rattle.browser_rules.specs.Words

unfoldable pub computing : ℕ
unfolding Expressions.rule_value Faults.faults_of_packages Faults.framing_from Faults.sizes_of Forest.cut Forest.levels Forest.tree_of Opcodes.row_of Packages.packages_from Renewed.rule_ids Stores.with_bytes Stores.image_of Strings.cut_text Strings.cut_texts Strings.front_of Strings.texts_from Strings.characters Words.number_in digits is_utf8 chars encode unicode_width
computing = 0
