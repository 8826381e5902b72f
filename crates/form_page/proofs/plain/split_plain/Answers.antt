use Rattle.std.proofs.Common.{◌≡◌, get_or, refl, sym, ◌∙◌, arith}
use Rattle.std.proofs.lemmas.List.{take_rest}
use Rattle.form_page.proofs.FrontLemmas.{begins}
use Rattle.form_page.proofs.plain.split_plain.Goals as goal

pub returns-in-0 : goal.returns-in-0
returns-in-0 c =
    let units = c.args.text.bytes.now in
    let high : get_or units 1 0 ≡ 0 = omega arith in
    rw (c.new.ensures, take_rest units 2) (begins units (get_or units 0 0) c.in-0.len_at_least refl high (sym c.is_plain.ensures ∙ c.if-is_plain.true))
