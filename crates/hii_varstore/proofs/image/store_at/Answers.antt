use Rattle.std.proofs.Common.{◌≡◌, ◌+◌, ◌∷◌, [], ℕ, List, Bor, length}
use Rattle.std.specs.Int.{to_le_bytes, w16}
use Rattle.std.proofs.lemmas.Result.{err_from_is_err_and, IfErr-weaker, IfOk-weaker}
use Rattle.hii_bytes.specs.declared.cause.Cause.TheVariants.{StoreSize}
use Rattle.hii_varstore.specs.Faults.{Told, Any, store_parts}
use Rattle.hii_varstore.specs.Image.{store_image}
use Rattle.hii_varstore.specs.code.Reading.{Reads, IsFaultOf}
use Rattle.hii_varstore.proofs.ImageLemmas.{reads_both, fault_behind, store_reads}
use Rattle.hii_varstore.proofs.image.store_at.Goals as goal

pub returns-in_err-size_place-clause-wrong : goal.returns-in_err-size_place-clause-wrong
returns-in_err-size_place-clause-wrong c =
    let p = err_from_is_err_and c.from_residual.result c.from_residual.ensures.1 in
    let size = c.args.buffer.size in
    rw (p.1, p.2) (λ later. c.in_err-size_place.ensures.wrong (Told (to_le_bytes w16 size) StoreSize ∷ Any size ∷ later))

pub returns-in_err-start-clause-wrong : goal.returns-in_err-start-clause-wrong
returns-in_err-start-clause-wrong c =
    let p = err_from_is_err_and c.from_residual-in_err-start.result c.from_residual-in_err-start.ensures.1 in
    let size = c.args.buffer.size in
    rw (p.1, p.2) (λ later. fault_behind (Told (to_le_bytes w16 size) StoreSize ∷ []) c.in_err-start.field-0.0 c.in_ok-size_place.ensures.read c.in_err-start.ensures.wrong (Any size ∷ later))

pub returns-clause-read : goal.returns-clause-read
returns-clause-read c =
    let b = c.args.buffer in
    let start = c.in_ok-start.start in
    IfOk-weaker c.any_at.result (λ (bytes : Bor (List ℕ)). Reads (Any b.size ∷ []) bytes.now c.args.image.now start (start + b.size) × length bytes.now ≡ b.size)
    (λ (bytes : Bor (List ℕ)). Reads (store_parts b) (store_image record { id = b.id; bytes = bytes.now }) c.args.image.now c.args.place (c.args.place + 4 + b.size) × length bytes.now ≡ b.size)
    (λ bytes p. (store_reads b bytes.now c.args.image.now c.args.place c.in_ok-size_place.size_place start c.in_ok-size_place.ensures.end.0 c.in_ok-start.ensures.end.0 p.1 c.in_ok-size_place.ensures.read c.in_ok-start.ensures.read p.0, p.1))
    c.any_at.ensures.read

pub returns-clause-wrong : goal.returns-clause-wrong
returns-clause-wrong c =
    let rest = Any c.args.buffer.size ∷ [] in
    IfErr-weaker c.any_at.result (IsFaultOf rest c.args.image.now c.in_ok-start.start) (IsFaultOf (store_parts c.args.buffer) c.args.image.now c.args.place)
    (λ fault p. fault_behind rest fault (reads_both c.in_ok-size_place.ensures.read c.in_ok-start.ensures.read) p) c.any_at.ensures.wrong
