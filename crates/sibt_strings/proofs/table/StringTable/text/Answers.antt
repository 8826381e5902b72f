use Rattle.std.proofs.Common.{◌≡◌, Some, ap, sym, subst, ◌∙◌, arith}
use Rattle.std.specs.Option.{option_map}
use Rattle.browser_rules.specs.Strings.{text_at}
use Rattle.sibt_strings.specs.code.Table.{place_of, Rises}
use Rattle.sibt_strings.specs.code.Views.{units_in}
use Rattle.sibt_strings.proofs.TableLemmas.{table_past}
use Rattle.sibt_strings.proofs.table.StringTable.text.Goals as goal

pub returns-in_err-get : goal.returns-in_err-get
returns-in_err-get c =
    let table = c.self.invariant in
    let found = subst (λ ps. Some c.in_ok-place.place ≡ place_of ps c.args.id) c.deref.ensures.value (c.in_ok-place.ensures 1 _ (subst (Rises 1 _) (sym c.deref.ensures.value) table.rise)) in
    ap (option_map units_in) c.from_residual-in_err-get.ensures
    ∙ sym (table_past c.self.inside.block_bytes.now _ _ c.args.id c.in_ok-place.place table (omega arith) found (grind (arith, c.in_err-get.ensures.lookup)))
    ∙ ap (λ s. text_at s.texts c.args.id) c.self.view_is
