use Rattle.std.proofs.Common.{◌≡◌, [], length, sym, ap, ◌∙◌}
use Rattle.std.proofs.lemmas.Bool.{eqb-true}
use Rattle.std.proofs.lemmas.List.{nil_from_length}
use Rattle.ifr_expr.specs.code.Checked.{marks}
use Rattle.ifr_expr.proofs.NameLemmas.{no_marks}
use Rattle.ifr_expr.proofs.opcodes.Opcodes.is_done.Goals as goal

pub returns : goal.returns
returns c = λ done.
    let it = c.args.self.now in
    let none : it.rest.now ≡ [] = nil_from_length it.rest.now (eqb-true (length it.rest.now) 0 (sym c.is_empty.ensures ∙ done)) in
    ap (marks it.place) none ∙ no_marks it.place
