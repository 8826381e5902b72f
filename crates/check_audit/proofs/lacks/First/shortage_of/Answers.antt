use Rattle.std.proofs.Common.{ap, ◌∙◌}
use Rattle.check_audit.specs.Lacks.{shortage_of}
use Rattle.check_audit.proofs.LackLemmas.{shortage_counted}
use Rattle.check_audit.proofs.lacks.First.shortage_of.Goals as goal

pub overflow_sub-result : goal.overflow_sub-result
overflow_sub-result c = (shortage_counted c.self.inside.table c.args.other.now _ _ _ _ c.language.ensures c.language-2.ensures c.self.invariant c.texts_in_both.ensures).0

pub returns : goal.returns
returns c = (shortage_counted c.self.inside.table c.args.other.now _ _ _ _ c.language.ensures c.language-2.ensures c.self.invariant c.texts_in_both.ensures).1 ∙ ap (λ s. shortage_of s c.args.other.now) c.self.view_is
