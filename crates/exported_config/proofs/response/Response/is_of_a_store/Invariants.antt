use Rattle.std.proofs.Common.{◌≡◌, drop, map}
use Rattle.exported_config.specs.Giving.{is_of_a_store}
use Rattle.exported_config.specs.code.Views.{named_view, response_view}
use Rattle.exported_config.proofs.response.Response.is_of_a_store.Given as goal

-- one of the stores that are left where it is one of all
abbrev pub invariant-loop-store : goal.invariant-loop-store
invariant-loop-store l =
    is_of_a_store (map named_view (drop l.store-index l.stores)) (response_view l.self)
    ≡ is_of_a_store (map named_view l.stores) (response_view l.self)
