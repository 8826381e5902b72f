use Rattle.std.proofs.Common.{List, ap, reverse, sym, ◌∙◌}
use Rattle.ifr_opcodes.specs.Forest.{Node}
use Rattle.ifr_nodes.specs.code.KeptRules.{kept_rules}
use Rattle.ifr_index.proofs.ruling.rules_of.Goals as goal

pub returns-then-index-clause-sound : goal.returns-then-index-clause-sound
returns-then-index-clause-sound c = (c.requires.index.referred c.if-index.true).sound

pub returns-then-index-clause-kept : goal.returns-then-index-clause-kept
returns-then-index-clause-kept c = λ id.
    let none = (c.requires.index.referred c.if-index.true).no_rule in
    c.new.ensures id ∙ ap (λ (l : List Node). reverse (kept_rules id (reverse l))) (sym none)
