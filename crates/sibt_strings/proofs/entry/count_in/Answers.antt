use Rattle.std.proofs.Common.{sym, ap, ◌∙◌}
use Rattle.sibt_strings.specs.code.Views.{block_seen, count_of}
use Rattle.sibt_strings.proofs.TextLemmas.{length-whole_texts}
use Rattle.sibt_strings.proofs.entry.count_in.Goals as goal

pub returns-in-Texts : goal.returns-in-Texts
returns-in-Texts c = sym (ap (λ b. count_of (block_seen b)) c.in-Texts.is ∙ length-whole_texts _ _ c.in-Texts.texts.whole)
