use Rattle.std.proofs.Common.{◌<◌, length, subst, sym, arith}
use Rattle.std.specs.List.{concat}
use Rattle.std.proofs.lemmas.Grind.{common_steps}
use Rattle.hii_bytes.specs.Watching.{Writes}
use Rattle.hii_bytes.proofs.WritingLemmas.{◌⨾◌}
use Rattle.dump_audit.proofs.LineLemmas.{rest_some_object}
use Rattle.dump_audit.proofs.objects.put_rest_object.Goals as goal

pub returns : goal.returns
returns g c =
    let some : 0 < length c.args.dump.now.rest = grind (arith, common_steps) in
    subst (Writes _ _) (sym (rest_some_object (length (concat c.args.dump.now.lists)) c.args.dump.now.rest some))
    (rw (c.rest_place.ensures, c.rest-2.ensures) at (c.put_kind.ensures ⨾ (c.put_number.ensures ⨾ c.put_number-2.ensures) ⨾ c.end_object.ensures))
