use Rattle.std.proofs.Common.{◌≡◌, false}
use Rattle.std.specs.Prelude.{◌==◌}
use Rattle.std.proofs.lemmas.Bool.{ne_eqb}
use Rattle.hii_bytes.proofs.WritingLemmas.{◌⨾◌}
use Rattle.question_audit.proofs.limits_facts.put_unstored.Goals as goal

pub returns : goal.returns
returns g c =
    let other : (c.args.store == 0) ≡ false = ne_eqb c.args.store 0 c.if-store-eq0.false in
    rw other (rw c.from.ensures at (c.put-2.ensures ⨾ c.put_decimal.ensures ⨾ c.put-3.ensures))
