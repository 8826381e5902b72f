use Rattle.std.proofs.Common.{◌∙◌}
use Rattle.std.proofs.lemmas.List.{take_rest}
use Rattle.ifr_scopes.proofs.conditions_near.conditions_behind_near.Goals as goal

pub returns-then-begins_behind : goal.returns-then-begins_behind
returns-then-begins_behind c = λ low rise. take_rest c.args.conditions.now c.args.near ∙ c.begins_behind.ensures.behind c.if-begins_behind.true low rise

pub returns-then-begins_behind-2 : goal.returns-then-begins_behind-2
returns-then-begins_behind-2 c = λ low rise. take_rest c.args.conditions.now c.saturating_add-next.result ∙ c.begins_behind-2.ensures.behind c.if-begins_behind-2.true low rise
