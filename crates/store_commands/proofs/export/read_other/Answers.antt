use Rattle.std.proofs.Common.{Option, List, ℕ, option_map, subst, sym}
use Rattle.std.specs.Borrow.{Bor}
use Rattle.std.proofs.lemmas.Result.{err_from_is_err_and}
use Rattle.hii_bytes.specs.Faults.{Refuses}
use Rattle.store_commands.specs.Exporting.{IsOtherFault}
use Rattle.store_commands.proofs.export.read_other.Goals as goal

pub returns-in_err-read-in-Some-clause-refused : goal.returns-in_err-read-in-Some-clause-refused
returns-in_err-read-in-Some-clause-refused c =
    let p = err_from_is_err_and c.from_residual.result c.from_residual.ensures.1 in
    rw (p.1, p.2) (subst (λ (o : Option (Bor (List ℕ))). Refuses (IsOtherFault c.args.layout.now (option_map (λ bytes. bytes.now) o)) c.in_err-read-in-Some.field-0.0) (sym c.in-Some.is) c.in_err-read-in-Some.ensures.refused)
