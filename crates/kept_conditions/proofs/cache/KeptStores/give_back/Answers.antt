use Rattle.std.proofs.Common.{sym, ap, ◌∙◌}
use Rattle.hii_varstore.specs.Stores.{StoreMap, byte_of}
use Rattle.guard_policy.proofs.RuleValueLemmas.{forgotten}
use Rattle.kept_conditions.specs.Kept.{KeptMap}
use Rattle.kept_conditions.proofs.cache.KeptStores.give_back.Goals as goal

pub renew_within-restored-requires-clause-alike : goal.renew_within-restored-requires-clause-alike
renew_within-restored-requires-clause-alike g c store at none =
    ap (λ (m : StoreMap). byte_of m store at) (c.swap.ensures.y_after ∙ ap (λ (k : KeptMap). k.stores) c.self.view_is)
    ∙ c.requires.alike store at none
    ∙ ap (λ (m : StoreMap). byte_of m store at) (sym c.swap.ensures.x_after)

pub renew_within-restored-requires-clause-values : goal.renew_within-restored-requires-clause-values
renew_within-restored-requires-clause-values g c = forgotten c.self.inside.kept.ifr c.swap.new.x c.forget.new.self c.forget.ensures.nothing
