use Rattle.std.proofs.Common.{◌≡◌, List, [], ◌∷◌, length, rules, sym, ap, ◌∙◌, subst, arith}
use Rattle.std.proofs.lemmas.Bool.{ne_eqb}
use Rattle.std.proofs.lemmas.List.Elements.{All-tail}
use Rattle.ifr_opcodes.specs.declared.codes.TheConstants.{FORM}
use Rattle.ifr_opcodes.specs.Forest.{Node}
use Rattle.ifr_nodes.specs.code.Views.{node_of}
use Rattle.ifr_index.specs.code.Giving.{AreGiving, is_giving}
use Rattle.ifr_scopes.specs.code.GivingLeft.{giving_left}
use Rattle.ifr_index.specs.code.Tables.{IsEntry, AreEntries}
use Rattle.ifr_index.proofs.GivingFacts.{gives_states}
use Rattle.ifr_scopes.proofs.GivingOfLemmas.{first_giving, first_given, is_there, left_behind, none_left, still_giving}
use Rattle.ifr_scopes.proofs.giving.GivingStatementsIterator.next.Goals as goal
use Rattle.ifr_scopes.proofs.giving.GivingStatementsIterator.next.Goals.{After-node_at}

pub returns-in_err-place-clause-steps : goal.returns-in_err-place-clause-steps
returns-in_err-place-clause-steps c =
    let it = c.args.self.now in
    let none : giving_left it ≡ [] = none_left it.ifr.now it.kept.now it.places.now c.in_err-place.ensures.cases it.giving in
    search rules

pub invariant_of-self : goal.invariant_of-self
invariant_of-self c =
    let it = c.loop-first.self in
    let first = c.in-Some.first.now in
    let bytes = it.ifr.now in
    record {
      checked = it.checked;
      entries = All-tail (λ one. IsEntry bytes one) first c.in-Some.kept.now (subst (AreEntries bytes) c.in-Some.ensures.cases.0 it.entries);
      giving = left_behind bytes first it.kept.now c.in-Some.kept.now c.in_ok-place.place.now c.in_ok-place.places.now c.in-Some.ensures.cases.0 c.if-first-place.true (subst (AreGiving bytes it.kept.now) c.loop-first.invariant.first it.giving);
    }

pub invariant_of-self-else-first-place : goal.invariant_of-self-else-first-place
invariant_of-self-else-first-place c =
    let it = c.loop-first.self in
    let first = c.in-Some.first.now in
    let bytes = it.ifr.now in
    record {
      checked = it.checked;
      entries = All-tail (λ one. IsEntry bytes one) first c.in-Some.kept.now (subst (AreEntries bytes) c.in-Some.ensures.cases.0 it.entries);
      giving = subst (AreGiving bytes c.in-Some.kept.now) (sym c.loop-first.invariant.first) (still_giving bytes first it.kept.now c.in-Some.kept.now c.in_ok-place.place.now c.in_ok-place.places.now c.in-Some.ensures.cases.0 c.if-first-place.false (subst (AreGiving bytes it.kept.now) c.loop-first.invariant.first it.giving));
    }

pub invariant_of-result : goal.invariant_of-result
invariant_of-result c =
    let it = c.loop-first.self in
    let first = c.in-Some.first.now in
    let bytes = it.ifr.now in
    let is = is_there bytes first it.kept.now c.in_ok-place.place.now c.in_ok-place.places.now c.if-first-place.true (subst (AreGiving bytes it.kept.now) c.loop-first.invariant.first it.giving) in
    record { statement = gives_states (node_of c.node_at.result) (ap is_giving (c.node_at.ensures.node) ∙ is) }

-- the statement that is given, and those behind it
given : (c : After-node_at) → giving_left c.args.self.now ≡ node_of c.node_at.result ∷ first_giving c.loop-first.self.ifr.now c.in-Some.kept.now
given c =
    let it = c.loop-first.self in
    let first = c.in-Some.first.now in
    let bytes = it.ifr.now in
    let rest = first_giving bytes c.in-Some.kept.now in
    sym c.loop-first.invariant.left
    ∙ first_given bytes first it.kept.now c.in-Some.kept.now c.in_ok-place.place.now c.in_ok-place.places.now c.in-Some.ensures.cases.0 (ne_eqb first.code FORM c.if-first-eq-FORM.false) c.if-first-place.true (subst (AreGiving bytes it.kept.now) c.loop-first.invariant.first it.giving)
    ∙ ap (λ (n : Node). n ∷ rest) (sym c.node_at.ensures.node)

pub returns-then-first-place-clause-steps : goal.returns-then-first-place-clause-steps
returns-then-first-place-clause-steps c = given (goal.at.returns-then-first-place-clause-steps c).After-node_at

pub returns-then-first-place-clause-goes : goal.returns-then-first-place-clause-goes
returns-then-first-place-clause-goes c =
    let e = given (goal.at.returns-then-first-place-clause-goes c).After-node_at in
    record { on = λ _. (tt, tt, omega (arith, ap (λ (l : List Node). length l) e)); keeps = tt; rests = λ _. tt }
