use Rattle.std.proofs.Common.{sym}
use Rattle.ifr_scopes.specs.code.Lists.{form_node}
use Rattle.guard_policy.proofs.IndexedLemmas.{of_form}
use Rattle.guard_policy.proofs.policy.Policy.opens.Goals as goal

pub returns : goal.returns
returns c =
    let n = form_node c.args.form in
    rw (c.over.ensures.policy, c.over.ensures.stores) at (c.seen_at.ensures n c.requires (of_form n c.args.form.form) (sym c.place.ensures))
