-- What the iterator over some options of a package has before it.
use Rattle.std.specs.Prelude.{List, map}
use Rattle.ifr_opcodes.specs.Forest.{Node}
use Rattle.ifr_nodes.specs.code.Checked.{node_in}
use Rattle.hii_questions.specs.declared.placed_options.PlacedOptions.{PlacedOptions}

-- the options that are left
abbrev pub placed_left : PlacedOptions → List Node
placed_left it = map (node_in it.ifr.now) it.places.now
