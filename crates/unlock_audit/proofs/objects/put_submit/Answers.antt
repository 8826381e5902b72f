use Rattle.std.proofs.Common.{subst, sym}
use Rattle.std.proofs.lemmas.Bool.{cond-true}
use Rattle.hii_bytes.specs.Watching.{Writes}
use Rattle.hii_bytes.proofs.WritingLemmas.{◌⨾◌}
use Rattle.unlock_audit.proofs.objects.put_submit.Goals as goal

pub returns-then-again-clause-told : goal.returns-then-again-clause-told
returns-then-again-clause-told g c = subst (Writes _ _) (sym (cond-true c.args.again _ _ c.if-again.true)) (c.put_before_item.ensures ⨾ c.put.ensures)
