use Rattle.std.proofs.Common.{◌≡◌, false, arith, subst, sym}
use Rattle.std.specs.Prelude.{nat_lt}
use Rattle.std.proofs.lemmas.Bool.{cond-false}
use Rattle.std.proofs.lemmas.Bool.Decides.{nat_tests}
use Rattle.hii_bytes.specs.Watching.{Writes}
use Rattle.hii_bytes.proofs.WritingLemmas.{◌⨾◌}
use Rattle.audit_json.proofs.strings.put_escape.Goals as goal

pub returns : goal.returns
returns g c =
    let two : nat_lt c.args.c 0x10000 ≡ false = grind (arith, nat_tests) in
    subst (Writes _ _) (sym (cond-false (nat_lt c.args.c 0x10000) _ _ two)) (c.put_unit_escape-2.ensures ⨾ c.put_unit_escape-3.ensures)
