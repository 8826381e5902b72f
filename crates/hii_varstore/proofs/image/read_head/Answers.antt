use Rattle.std.proofs.Common.{◌∷◌, [], take, codes, inr}
use Rattle.std.proofs.lemmas.Result.{err_from_is_err_and, IfOk-weaker, IfErr-weaker}
use Rattle.hii_bytes.specs.declared.cause.Cause.TheVariants.{StoreFormSet}
use Rattle.hii_varstore.specs.Faults.{Told, IsOlder, head_parts}
use Rattle.hii_varstore.specs.code.Reading.{Reads, ReadsHead, IsFaultOf}
use Rattle.hii_varstore.proofs.ImageLemmas.{reads_both, fault_behind, not_older}
use Rattle.hii_varstore.proofs.image.read_head.Goals as goal

pub returns-in_err-place-clause-wrong : goal.returns-in_err-place-clause-wrong
returns-in_err-place-clause-wrong c =
    let p = err_from_is_err_and c.from_residual.result c.from_residual.ensures.1 in
    rw (p.1, p.2) (not_older (codes "HVS1") (take 4 c.args.image.now) c.if-starts_with.ensures.value, λ later. c.in_err-place.ensures.wrong (Told c.args.guid.now StoreFormSet ∷ later))

pub returns-clause-read : goal.returns-clause-read
returns-clause-read c =
    let newer = not_older (codes "HVS1") (take 4 c.args.image.now) c.if-starts_with.ensures.value in
    IfOk-weaker c.told_at-2.result (Reads (Told c.args.guid.now StoreFormSet ∷ []) c.args.guid.now c.args.image.now c.in_ok-place.place) (ReadsHead c.args.guid.now c.args.image.now)
    (λ end p. inr (newer, reads_both c.in_ok-place.ensures.read p)) c.told_at-2.ensures.read

pub returns-clause-wrong : goal.returns-clause-wrong
returns-clause-wrong c =
    let newer = not_older (codes "HVS1") (take 4 c.args.image.now) c.if-starts_with.ensures.value in
    let rest = Told c.args.guid.now StoreFormSet ∷ [] in
    IfErr-weaker c.told_at-2.result (IsFaultOf rest c.args.image.now c.in_ok-place.place) (λ fault. (IsOlder c.args.image.now → ⊥) × IsFaultOf (head_parts c.args.guid.now) c.args.image.now 0 fault)
    (λ fault p. (newer, fault_behind rest fault c.in_ok-place.ensures.read p)) c.told_at-2.ensures.wrong
