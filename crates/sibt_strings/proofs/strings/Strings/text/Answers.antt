use Rattle.std.proofs.Common.{◌∙◌, sym, ap}
use Rattle.browser_rules.specs.Strings.{text_at}
use Rattle.sibt_strings.proofs.BlockLemmas.{held_are}
use Rattle.sibt_strings.proofs.strings.Strings.text.Goals as goal

pub returns-in-Text : goal.returns-in-Text
returns-in-Text c =
    let told = c.in-Text.ensures _ (held_are c.self.inside.block_bytes.now c.self.invariant.0) in
    sym told ∙ ap (λ s. text_at s.texts c.wanted.wanted) c.self.view_is ∙ c.wanted.invariant

pub wanted-smaller : goal.wanted-smaller
wanted-smaller c = (c.in-Duplicate.ensures _ (held_are c.self.inside.block_bytes.now c.self.invariant.0)).0

pub wanted-preserved : goal.wanted-preserved
wanted-preserved c =
    let told = (c.in-Duplicate.ensures _ (held_are c.self.inside.block_bytes.now c.self.invariant.0)).1 in
    sym (ap (λ s. text_at s.texts c.in-Duplicate.other) c.self.view_is) ∙ sym told ∙ ap (λ s. text_at s.texts c.wanted.wanted) c.self.view_is ∙ c.wanted.invariant

pub returns-in-Nothing : goal.returns-in-Nothing
returns-in-Nothing c =
    let told = c.in-Nothing.ensures _ (held_are c.self.inside.block_bytes.now c.self.invariant.0) in
    sym told ∙ ap (λ s. text_at s.texts c.wanted.wanted) c.self.view_is ∙ c.wanted.invariant
