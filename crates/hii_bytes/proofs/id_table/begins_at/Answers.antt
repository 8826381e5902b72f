use Rattle.std.proofs.Common.{◌≡◌, ◌-◌, ◌<◌, ℕ, length, get_or, ap, ◌∙◌, arith}
use Rattle.std.proofs.lemmas.Bool.{ltb-true}
use Rattle.std.proofs.lemmas.List.{get_or_default}
use Rattle.hii_bytes.specs.declared.id_table.IdEntry.{IdEntry}
use Rattle.hii_bytes.proofs.SearchLemmas.{begins}
use Rattle.hii_bytes.proofs.id_table.begins_at.Goals as goal

pub returns-else-index-eq0-clause-first : goal.returns-else-index-eq0-clause-first
returns-else-index-eq0-clause-first c = λ lower d.
    let entries = c.args.entries.now in
    let e : IdEntry = record { id = 0; number = 0 } in
    let same : (i : ℕ) → i < length entries → (get_or entries i d).id ≡ (get_or entries i e).id = λ i lt. ap (λ (x : IdEntry). x.id) (get_or_default entries i d e lt) in
    begins (λ (x : IdEntry). x.id) entries c.args.id c.args.index d c.requires c.if-index-entries.false (same c.args.index c.if-index-entries.false ∙ c.if-entries-index.false)
    (λ some. omega (arith, ltb-true _ c.args.id lower, same (c.args.index - 1) (omega (arith, c.if-index-entries.false))))
