use Rattle.std.proofs.Common.{length, sym, ◌∙◌, arith}
use Rattle.hii_packages.proofs.FrontLemmas.{is_good, none_at_end}
use Rattle.hii_packages.proofs.LeftLemmas.{IsFirst, good_where_whole, is_first, one_less}
use Rattle.hii_packages.proofs.packages.PackagesIterator.next.Goals as goal
use Rattle.hii_packages.proofs.packages.PackagesIterator.next.Goals.{After-split_first}

pub bounds-self-inside-3 : goal.bounds-self-inside-3
bounds-self-inside-3 c =
    omega (arith, (is_good c.self.inside.rest.now (good_where_whole c.self.inside.place c.self.inside.rest.now c.self.invariant)).header)

pub returns-then-kind-clause-steps : goal.returns-then-kind-clause-steps
returns-then-kind-clause-steps c =
    let e = sym c.self.view_is ∙ none_at_end (length c.self.inside.rest.now) c.self.inside.place c.self.inside.rest.now c.if-kind.true in
    (e, e)

pub split_first-requires : goal.split_first-requires
split_first-requires c = good_where_whole c.self.inside.place c.self.inside.rest.now c.self.invariant

-- the package at the front, and what is left behind it
front : (c : After-split_first) → IsFirst c.self.inside.place c.self.inside.rest.now c.split_first.result.0.now c.split_first.result.1.now
front c =
    is_first c.self.inside.place c.self.inside.rest.now c.split_first.result.0.now c.split_first.result.1.now c.self.invariant c.if-kind.false
    c.split_first.ensures.first c.split_first.ensures.behind

pub invariant_of-package : goal.invariant_of-package
invariant_of-package c =
    let first = front (goal.at.invariant_of-package c).After-split_first in
    record { header = first.header; small = c.split_first.ensures.small; in_list = first.in_list }

pub invariant_of-self : goal.invariant_of-self
invariant_of-self c = (front (goal.at.invariant_of-self c).After-split_first).whole

pub returns-clause-steps : goal.returns-clause-steps
returns-clause-steps c = sym c.self.view_is ∙ (front (goal.at.returns-clause-steps c).After-split_first).seen

pub returns-clause-goes : goal.returns-clause-goes
returns-clause-goes c =
    let e = sym c.self.view_is ∙ (front (goal.at.returns-clause-goes c).After-split_first).seen in
    record { on = λ _. (tt, tt, one_less _ _ _ e); keeps = tt; rests = λ _. tt }
