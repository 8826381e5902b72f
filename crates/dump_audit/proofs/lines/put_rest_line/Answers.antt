use Rattle.std.proofs.Common.{◌<◌, length, subst, sym, arith}
use Rattle.std.specs.List.{concat}
use Rattle.std.proofs.lemmas.Grind.{common_steps}
use Rattle.hii_bytes.specs.Watching.{Writes}
use Rattle.hii_bytes.proofs.WritingLemmas.{◌⨾◌}
use Rattle.dump_audit.proofs.LineLemmas.{rest_some}
use Rattle.dump_audit.proofs.lines.put_rest_line.Goals as goal

pub returns : goal.returns
returns g c =
    let some : 0 < length c.args.dump.now.rest = grind (arith, common_steps) in
    subst (Writes _ _) (sym (rest_some (length (concat c.args.dump.now.lists)) c.args.dump.now.rest some))
    (rw (c.rest_place.ensures, c.rest-2.ensures) at (c.put.ensures ⨾ c.put_place.ensures ⨾ c.put-2.ensures ⨾ c.put_decimal.ensures ⨾ c.put-3.ensures))
