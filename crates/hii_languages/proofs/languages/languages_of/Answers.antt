use Rattle.std.proofs.Common.{◌≡◌, arith}
use Rattle.std.proofs.lemmas.Grind.{common_steps}
use Rattle.hii_languages.specs.declared.names.Name.{Name}
use Rattle.hii_languages.proofs.NameLemmas.{named_more}
use Rattle.hii_languages.proofs.languages.languages_of.Goals as goal

pub loop-table-preserved : goal.loop-table-preserved
loop-table-preserved c =
    let name : Name = record { text = c.language-text.result; number = c.len-number.result } in
    let number : c.len-number.result ≡ c.loop-table.table-index = grind (arith, common_steps) in
    named_more (λ s. s.language) c.args.tables.now c.loop-table.table-index c.table-item.result c.loop-table.names.items c.push.new.self.items name c.loop-table-test.true c.table-item.is
    c.in_ok-push.ensures.items c.language-text.ensures number c.loop-table.invariant.0 c.loop-table.invariant.1
