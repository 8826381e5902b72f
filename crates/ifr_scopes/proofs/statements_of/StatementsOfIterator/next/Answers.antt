use Rattle.std.proofs.Common.{◌≡◌, List, ◌∷◌, length, sym, ap, ◌∙◌, arith}
use Rattle.std.proofs.lemmas.Bool.{ne_eqb}
use Rattle.ifr_opcodes.specs.declared.codes.TheConstants.{FORM}
use Rattle.ifr_opcodes.specs.Forest.{Node}
use Rattle.ifr_scopes.specs.code.StatementsLeft.{statements_of_left}
use Rattle.ifr_nodes.specs.code.Views.{node_of}
use Rattle.ifr_scopes.proofs.StatementsOfLemmas.{first_statements, first_taken}
use Rattle.ifr_scopes.proofs.statements_of.StatementsOfIterator.next.Goals as goal
use Rattle.ifr_scopes.proofs.statements_of.StatementsOfIterator.next.Goals.{After-node_at}

-- the statement that is given, and those behind it
given : (c : After-node_at) → statements_of_left c.args.self.now ≡ node_of c.node_at.result ∷ first_statements c.loop-first.self.ifr.now c.in-Some.kept.now
given c =
    let it = c.loop-first.self in
    let first = c.in-Some.first.now in
    let rest = first_statements it.ifr.now c.in-Some.kept.now in
    sym c.loop-first.invariant
    ∙ first_taken it.ifr.now first it.kept.now c.in-Some.kept.now c.in-Some.ensures.cases.0 (ne_eqb first.code FORM c.if-first-eq-FORM.false) (sym c.is_statement.ensures ∙ c.if-is_statement.true)
    ∙ ap (λ (n : Node). n ∷ rest) (sym c.node_at.ensures.node)

pub returns-then-is_statement-clause-steps : goal.returns-then-is_statement-clause-steps
returns-then-is_statement-clause-steps c = given (goal.at.returns-then-is_statement-clause-steps c).After-node_at

pub returns-then-is_statement-clause-goes : goal.returns-then-is_statement-clause-goes
returns-then-is_statement-clause-goes c =
    let e = given (goal.at.returns-then-is_statement-clause-goes c).After-node_at in
    record { on = λ _. (tt, tt, omega (arith, ap (λ (l : List Node). length l) e)); keeps = tt; rests = λ _. tt }
