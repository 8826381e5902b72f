use Rattle.std.proofs.Common.{◌≡◌, length, sym, ap, ◌∙◌}
use Rattle.std.proofs.lemmas.Bool.{eqb-true}
use Rattle.std.proofs.lemmas.List.{nil_from_length}
use Rattle.ifr_opcodes.specs.Rows.{is_among}
use Rattle.guard_policy.proofs.removed.Removed.has.Goals as goal

pub returns-then-is_empty : goal.returns-then-is_empty
returns-then-is_empty c =
    let places = c.self.inside.places.items in
    let none : length places ≡ 0 = eqb-true (length places) 0 (sym c.is_empty.ensures ∙ c.if-is_empty.true) in
    ap (is_among c.args.place) (sym (nil_from_length places none) ∙ c.self.view_is)
