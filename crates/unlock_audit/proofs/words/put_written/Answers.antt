use Rattle.std.proofs.Common.{subst, sym, ◌∙◌}
use Rattle.hii_bytes.specs.Watching.{Writes}
use Rattle.hii_bytes.proofs.WritingLemmas.{writes_nil}
use Rattle.unlock_audit.proofs.FieldLemmas.{nothing_written}
use Rattle.unlock_audit.proofs.words.put_written.Goals as goal

pub put_write-requires-clause-written : goal.put_write-requires-clause-written
put_write-requires-clause-written g c = sym c.requires.written ∙ c.in-Some.is

pub returns-in_default : goal.returns-in_default
returns-in_default g c = subst (Writes _ _) (sym (nothing_written c.args.telling c.args.browser.now.state c.args.each (sym c.requires.written ∙ c.in_default.is))) (writes_nil _)
