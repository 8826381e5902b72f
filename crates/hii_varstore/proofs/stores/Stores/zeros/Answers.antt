use Rattle.std.proofs.Common.{◌∙◌, ap, map}
use Rattle.hii_varstore.specs.Stores.{buffer_of}
use Rattle.hii_varstore.proofs.TableLemmas.{zeros_laid}
use Rattle.hii_varstore.proofs.stores.Stores.zeros.Goals as goal

pub invariant_of-result : goal.invariant_of-result
invariant_of-result c = record { sound = c.buffers.ensures.sound; laid = ap (map buffer_of) c.in_ok-stores.ensures ∙ zeros_laid c.buffers.result.now ∙ c.buffers.ensures.value }
