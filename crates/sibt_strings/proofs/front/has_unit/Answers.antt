use Rattle.std.proofs.Common.{◌≡◌, ◌+◌, ◌≤◌, length, rules, sym, ap, ◌∙◌}
use Rattle.std.specs.Prelude.{not}
use Rattle.std.proofs.lemmas.Bool.{eq-eqb, false≢true}
use Rattle.hii_bytes.specs.Numbers.{number_in}
use Rattle.sibt_strings.proofs.TextLemmas.{one_unit}
use Rattle.sibt_strings.proofs.front.has_unit.Goals as goal

pub returns-in-Some : goal.returns-in-Some
returns-in-Some c = λ some.
    let within : c.args.at + 2 ≤ length c.args.bytes.now = search rules in
    let is : c.in-Some.unit ≡ number_in c.args.bytes.now c.args.at 2 = search rules in
    one_unit c.args.bytes.now c.args.at within (λ zero. false≢true (sym (ap not (eq-eqb c.in-Some.unit 0 (is ∙ zero))) ∙ some))
