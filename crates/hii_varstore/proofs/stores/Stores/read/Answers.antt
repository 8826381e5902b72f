use Rattle.std.proofs.Common.{◌∙◌, inr}
use Rattle.std.proofs.lemmas.Result.{err_from_is_err_and}
use Rattle.hii_varstore.proofs.FaultLemmas.{least_fault, no_fault, head_fault, stores_fault, least_of, no_memory_left, read_is}
use Rattle.hii_varstore.proofs.stores.Stores.read.Goals as goal

pub returns-in_err-place-clause-refused : goal.returns-in_err-place-clause-refused
returns-in_err-place-clause-refused c =
    let p = err_from_is_err_and c.from_residual.result c.from_residual.ensures.1 in
    let told = head_fault c.bytes.result.now c.args.image.now c.args.layout.now c.in_err-place.field-0.0 (c.bytes.ensures.same ∙ c.guid.ensures) c.in_err-place.ensures.wrong in
    rw (p.1, p.2) (inr (least_fault c.args.layout.now c.args.image.now c.in_err-place.field-0.0 told))

pub returns-in_err-place-clause-accepted : goal.returns-in_err-place-clause-accepted
returns-in_err-place-clause-accepted c =
    let told = head_fault c.bytes.result.now c.args.image.now c.args.layout.now c.in_err-place.field-0.0 (c.bytes.ensures.same ∙ c.guid.ensures) c.in_err-place.ensures.wrong in
    λ m s. absurd (no_fault c.args.layout.now c.args.image.now m s _ _ told)

pub returns-in_err-stores-clause-refused : goal.returns-in_err-stores-clause-refused
returns-in_err-stores-clause-refused c =
    let p = err_from_is_err_and c.from_residual-in_err-stores.result c.from_residual-in_err-stores.ensures.1 in
    let fault = c.in_err-stores.field-0.0 in
    let told = stores_fault c.bytes.result.now c.args.image.now c.args.layout.now c.table.result.now c.in_ok-place.place fault (c.bytes.ensures.same ∙ c.guid.ensures) c.table.ensures c.in_ok-place.ensures.read c.in_err-stores.ensures.wrong in
    rw (p.1, p.2) (least_of c.args.layout.now c.args.image.now fault told)

pub returns-in_err-stores-clause-accepted : goal.returns-in_err-stores-clause-accepted
returns-in_err-stores-clause-accepted c =
    let p = err_from_is_err_and c.from_residual-in_err-stores.result c.from_residual-in_err-stores.ensures.1 in
    let fault = c.in_err-stores.field-0.0 in
    let told = stores_fault c.bytes.result.now c.args.image.now c.args.layout.now c.table.result.now c.in_ok-place.place fault (c.bytes.ensures.same ∙ c.guid.ensures) c.table.ensures c.in_ok-place.ensures.read c.in_err-stores.ensures.wrong in
    λ m s. rw (p.1, p.2) (no_memory_left c.args.layout.now c.args.image.now fault m s told)

pub returns-clause-spelled : goal.returns-clause-spelled
returns-clause-spelled c =
    read_is c.bytes.result.now c.copy_from_slice.new.self c.args.image.now c.in_ok-stores.stores.items c.args.layout.now c.table.result.now c.in_ok-place.place
    (c.bytes.ensures.same ∙ c.guid.ensures) (c.copy_from_slice.ensures.after ∙ c.bytes-2.ensures.same ∙ c.guid-2.ensures) c.table.ensures
    c.in_ok-stores.ensures.held.laid c.in_ok-place.ensures.read c.in_ok-stores.ensures.read
