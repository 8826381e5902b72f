-- What the iterator over blocks has before it.
use Rattle.std.specs.Prelude.{List, ◌++◌}
use Rattle.browser_rules.specs.Configuration.{Block}
use Rattle.config_text.specs.code.Written.{whole_store}
use Rattle.config_text.specs.code.Elements.{areas_of}
use Rattle.config_text.specs.declared.blocks.Blocks.{Blocks}

-- the blocks that are left: a whole store if there is one, and those of the text
abbrev pub blocks_left : Blocks → List Block
blocks_left blocks = whole_store blocks.whole ++ areas_of blocks.kind blocks.rest.now
