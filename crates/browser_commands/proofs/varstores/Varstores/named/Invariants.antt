use Rattle.std.proofs.Common.{◌≡◌, find, drop, map}
use Rattle.config_text.specs.code.Views.{header_view}
use Rattle.ifr_scopes.specs.code.Lists.{store_node}
use Rattle.session_steps.specs.Configuration.{names_store}
use Rattle.browser_commands.proofs.varstores.Varstores.named.Given as goal

-- the first of the stores that are left is that of all
abbrev pub invariant-loop-store : goal.invariant-loop-store
invariant-loop-store l =
    find (names_store (header_view l.header) l.path) (map store_node (drop l.store-index l.store-items))
    ≡ find (names_store (header_view l.header) l.path) (map store_node l.store-items)
