use Rattle.std.proofs.Common.{subst, sym, ◌∙◌}
use Rattle.hii_bytes.specs.Watching.{Writes}
use Rattle.audit_json.proofs.NameLemmas.{no_name, some_name}
use Rattle.audit_json.proofs.strings.put_escaped_name.Goals as goal

pub returns-then-is_empty : goal.returns-then-is_empty
returns-then-is_empty g c = subst (Writes _ _) (sym (no_name c.args.name.now (sym c.is_empty.ensures ∙ c.if-is_empty.true))) c.put.ensures

pub returns-else-is_empty : goal.returns-else-is_empty
returns-else-is_empty g c = subst (Writes _ _) (sym (some_name c.args.name.now (sym c.is_empty.ensures ∙ c.if-is_empty.false))) c.put_escaped_bytes.ensures
