use Rattle.std.proofs.Common.{◌≡◌, List, ◌∷◌, length, sym, ap, ◌∙◌, arith}
use Rattle.std.proofs.lemmas.Bool.{eq-eqb, ne_eqb}
use Rattle.ifr_opcodes.specs.Forest.{Node}
use Rattle.ifr_scopes.specs.code.ConditionsLeft.{conditions_of_left}
use Rattle.ifr_scopes.specs.code.Parts.{condition_node}
use Rattle.ifr_index.proofs.ConditionsLeftLemmas.{left_of, left_first, left_passed}
use Rattle.ifr_scopes.proofs.conditions_of.ConditionsOfIterator.next.Goals as goal
use Rattle.ifr_scopes.proofs.conditions_of.ConditionsOfIterator.next.Goals.{After-kept}

-- the condition that is given, and those behind it
given : (c : After-kept) → conditions_of_left c.args.self.now ≡ condition_node c.kept.result ∷ left_of c.loop-first.self.ifr.now c.loop-first.self.question c.loop-first.self.code c.in-Some.kept.now
given c =
    let it = c.loop-first.self in
    let first = c.in-Some.first.now in
    let rest = left_of it.ifr.now it.question it.code c.in-Some.kept.now in
    sym c.loop-first.invariant ∙ left_first it.ifr.now it.question it.code first it.kept.now c.in-Some.kept.now c.in-Some.ensures.cases.0 (eq-eqb first.question it.question c.if-first-self.false) (eq-eqb first.code it.code c.if-first-self-2.true)
    ∙ ap (λ (n : Node). n ∷ rest) (sym c.kept.ensures.node)

pub returns-then-first-self-2-clause-steps : goal.returns-then-first-self-2-clause-steps
returns-then-first-self-2-clause-steps c = given (goal.at.returns-then-first-self-2-clause-steps c).After-kept

pub returns-then-first-self-2-clause-goes : goal.returns-then-first-self-2-clause-goes
returns-then-first-self-2-clause-goes c =
    let e = given (goal.at.returns-then-first-self-2-clause-goes c).After-kept in
    record { on = λ _. (tt, tt, omega (arith, ap (λ (l : List Node). length l) e)); keeps = tt; rests = λ _. tt }

pub loop-first-preserved : goal.loop-first-preserved
loop-first-preserved c =
    let it = c.loop-first.self in
    let first = c.in-Some.first.now in
    sym (left_passed it.ifr.now it.question it.code first it.kept.now c.in-Some.kept.now c.in-Some.ensures.cases.0 (eq-eqb first.question it.question c.if-first-self.false) (ne_eqb first.code it.code c.if-first-self-2.false)) ∙ c.loop-first.invariant
