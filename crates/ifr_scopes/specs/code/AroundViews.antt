-- What stands around a form, a statement or an option.
use Rattle.std.specs.Prelude.{ℕ, Option, option_map, List}
use Rattle.ifr_opcodes.specs.Forest.{Node}
use Rattle.ifr_nodes.specs.Nodes.{nodes_of}
use Rattle.ifr_nodes.specs.code.Checked.{node_in}
use Rattle.ifr_index.specs.code.Tables.{guards_from}
use Rattle.ifr_scopes.specs.declared.around.Around.{Around}

-- the bytes of the package
abbrev pub around_package : Around → List ℕ
around_package it = it.guards.ifr.now

-- the number of the innermost guard
abbrev pub around_innermost : Around → Option ℕ
around_innermost it = it.guards.next

-- the guards, the outermost first
abbrev pub around_guards : Around → List Node
around_guards it = guards_from (nodes_of (around_package it)) (around_innermost it)

-- the LOCKED that decides
abbrev pub around_lock : Around → Option Node
around_lock it = option_map (node_in (around_package it)) it.lock
