-- What headers and blocks of the code stand for.
use Rattle.std.specs.Prelude.{ℕ, List}
use Rattle.browser_rules.specs.Configuration as chapter
use Rattle.config_text.specs.code.Reading.{Head, named_by}
use Rattle.config_text.specs.code.Elements.{parts_behind}
use Rattle.config_text.specs.declared.header.Header.{Header}
use Rattle.config_text.specs.declared.block.Block.{Block}

-- what a header names
abbrev pub header_view : Header → chapter.Header
header_view header = named_by header.guid.now header.name.now header.path.now

-- a header with the parts of the text behind it
abbrev pub head_of : Header → List ℕ → Head
head_of header rest =
    record { guid = header.guid.now; name = header.name.now; path = header.path.now; rest = parts_behind rest }

-- what a block stands for
abbrev pub block_view : Block → chapter.Block
block_view block = record { offset = block.offset; width = block.width; digits = block.digits.now }
