use Rattle.std.proofs.Common.{◌≡◌, true, subst, sym, ◌∙◌}
use Rattle.std.proofs.lemmas.Bool.{cond-true}
use Rattle.hii_bytes.specs.Watching.{Writes}
use Rattle.hii_bytes.proofs.WritingLemmas.{◌⨾◌}
use Rattle.hii_values.specs.Denials.{has_text}
use Rattle.script_audit.proofs.stop.put_message.Goals as goal

pub returns-then-has_text : goal.returns-then-has_text
returns-then-has_text g c =
    let is : has_text c.args.denial.kind ≡ true = sym c.has_text.ensures ∙ c.if-has_text.true in
    subst (Writes _ _) (sym (cond-true (has_text c.args.denial.kind) _ _ is)) (rw (c.chars.ensures, c.text.ensures) at (c.put.ensures ⨾ c.put_spelled.ensures))
