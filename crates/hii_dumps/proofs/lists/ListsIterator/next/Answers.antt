use Rattle.std.proofs.Common.{arith, sym, ◌∙◌, ◌≡◌, length}
use Rattle.std.proofs.lemmas.Grind.{common_steps}
use Rattle.hii_dumps.proofs.ListLemmas.{placed_none}
use Rattle.hii_dumps.proofs.lists.ListsIterator.next.Goals as goal

pub returns-then-is_empty-clause-steps : goal.returns-then-is_empty-clause-steps
returns-then-is_empty-clause-steps c =
    let none : length c.self.inside.rest.now ≡ 0 = grind (arith, common_steps) in
    let e = sym c.self.view_is ∙ placed_none c.self.inside.place c.self.inside.rest.now none in
    (e, e)
