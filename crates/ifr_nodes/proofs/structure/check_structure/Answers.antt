use Rattle.std.proofs.Common.{◌≡◌, ℕ, map, sym, ap, subst, ◌∙◌, arith}
use Rattle.std.proofs.lemmas.Bool.{false≢true}
use Rattle.std.proofs.lemmas.Result.{err_from_is_err_and}
use Rattle.hii_bytes.specs.Faults.{IsLeast}
use Rattle.hii_bytes.specs.declared.cause.Fault.{Fault}
use Rattle.ifr_opcodes.specs.Reading.{tree_of}
use Rattle.ifr_opcodes.specs.code.Marks.{ancestor_at}
use Rattle.ifr_nodes.specs.Nodes.{nodes_of}
use Rattle.ifr_nodes.specs.Structure.{first_number, is_expression, IsStructureFault}
use Rattle.ifr_nodes.specs.code.Causes.{least_cause}
use Rattle.ifr_nodes.specs.code.Visits.{left}
use Rattle.ifr_nodes.proofs.ExpressionLemmas.{StandsFrom}
use Rattle.ifr_nodes.proofs.StructureLemmas.{IsMet, at_start, goes_on, refused_node, sound_all, empty_is_least, is_met, met_place, met_there, met_from, was_read, was_refused}
use Rattle.ifr_nodes.proofs.structure.check_structure.Goals as goal
use Rattle.ifr_nodes.proofs.structure.check_structure.Goals.{After-cause_of, After-is_expression, After-end_of}

pub returns-then-bytes-eq-HEADER-clause-refused : goal.returns-then-bytes-eq-HEADER-clause-refused
returns-then-bytes-eq-HEADER-clause-refused c = rw c.at.ensures (empty_is_least c.args.bytes.now (tree_of c.args.bytes.now) c.requires.spelled c.if-bytes-eq-HEADER.true)

-- the node that was met
met : (c : After-cause_of) → IsMet c.args.bytes.now c.around-around.result.now c.in-Some.visit c.step.new.self
met c = is_met c.loop-visit.walk c.step.new.self c.in-Some.visit c.in-Some.ensures.some c.args.bytes.now c.around-around.result.now c.loop-visit.invariant.kept c.around-around.ensures.around c.loop-visit.invariant.stands

told : (c : After-cause_of) → least_cause (met c).node ≡ c.cause_of.result
told c = sym (c.cause_of.ensures (met c).node.children (ap first_number (met c).children ∙ sym c.first_child.ensures) ∙ ap least_cause (met c).seen)

-- whether its expression is to be checked
asked : (c : After-is_expression) (m : IsMet c.args.bytes.now c.around-around.result.now c.in-Some.visit c.step.new.self) → is_expression m.node ≡ c.is_expression.result
asked c m = sym (c.is_expression.ensures (map (ancestor_at c.args.bytes.now) c.around-around.result.now) m.node.children c.innermost-parent.ensures ∙ ap is_expression m.seen)

-- and where that stands
stood : (c : After-end_of) (m : IsMet c.args.bytes.now c.around-around.result.now c.in-Some.visit c.step.new.self) → is_expression m.node ≡ c.is_expression.result → StandsFrom c.args.bytes.now m.node c.in-Some.visit.op.place c.end_of.result
stood c m asks = met_from c.args.bytes.now c.around-around.result.now c.in-Some.visit c.step.new.self m c.end_of.result c.requires.spelled (asks ∙ c.if-is_expression.true) c.end_of.ensures

pub returns-in-Some-cause_of-clause-refused : goal.returns-in-Some-cause_of-clause-refused
returns-in-Some-cause_of-clause-refused c =
    let bytes = c.args.bytes.now in
    let k = (goal.at.returns-in-Some-cause_of-clause-refused c).After-cause_of in
    let m = met k in
    let here = met_place bytes c.around-around.result.now c.in-Some.visit c.step.new.self m in
    let fault : ℕ → Fault = λ p. record { cause = c.in-Some-cause_of.cause; place = p } in
    rw c.fault.ensures (subst (λ (p : ℕ). IsLeast (IsStructureFault (nodes_of bytes)) (fault p)) (sym here) (refused_node (tree_of bytes) (left c.step.new.self) m.node c.in-Some-cause_of.cause c.requires.spelled.are_nodes m.stands (told k ∙ c.in-Some-cause_of.is)))

pub end_of-requires-clause-there : goal.end_of-requires-clause-there
end_of-requires-clause-there c = met_there c.args.bytes.now c.around-around.result.now c.in-Some.visit c.step.new.self (met (goal.at.end_of-requires-clause-there c).After-cause_of) c.requires.spelled

pub check-requires-clause-ordered : goal.check-requires-clause-ordered
check-requires-clause-ordered c =
    let m = met (goal.at.check-requires-clause-ordered c).After-cause_of in
    (stood (goal.at.check-requires-clause-ordered c).After-end_of m (asked (goal.at.check-requires-clause-ordered c).After-is_expression m)).ordered

pub check-requires-clause-within : goal.check-requires-clause-within
check-requires-clause-within c =
    let m = met (goal.at.check-requires-clause-within c).After-cause_of in
    (stood (goal.at.check-requires-clause-within c).After-end_of m (asked (goal.at.check-requires-clause-within c).After-is_expression m)).within

pub check-requires-clause-node : goal.check-requires-clause-node
check-requires-clause-node c =
    let m = met (goal.at.check-requires-clause-node c).After-cause_of in
    (stood (goal.at.check-requires-clause-node c).After-end_of m (asked (goal.at.check-requires-clause-node c).After-is_expression m)).is_node

pub loop-visit-init : goal.loop-visit-init
loop-visit-init c = record { stands = at_start (nodes_of c.args.bytes.now) (left c.over-walk.result) c.over-walk.ensures.nodes; kept = c.over-walk.ensures.kept }

pub loop-visit-preserved-in_ok-check : goal.loop-visit-preserved-in_ok-check
loop-visit-preserved-in_ok-check c =
    let bytes = c.args.bytes.now in
    let k = (goal.at.loop-visit-preserved-in_ok-check c).After-cause_of in
    let m = met k in
    let asks = asked (goal.at.loop-visit-preserved-in_ok-check c).After-is_expression m in
    let s = stood (goal.at.loop-visit-preserved-in_ok-check c).After-end_of m asks in
    record {
      stands = goes_on (tree_of bytes) (left c.step.new.self) m.node m.stands (told k ∙ c.in_default-cause_of.is) (λ is. was_read bytes m.node c.in-Some.visit.op.place c.end_of.result c.in_ok-check.field-0 s c.in_ok-check.ensures.read);
      kept = c.step.ensures.kept ∙ c.loop-visit.invariant.kept;
    }

pub returns-in_err-check-clause-refused : goal.returns-in_err-check-clause-refused
returns-in_err-check-clause-refused c =
    let bytes = c.args.bytes.now in
    let k = (goal.at.returns-in_err-check-clause-refused c).After-cause_of in
    let m = met k in
    let asks = asked (goal.at.returns-in_err-check-clause-refused c).After-is_expression m in
    let s = stood (goal.at.returns-in_err-check-clause-refused c).After-end_of m asks in
    let p = err_from_is_err_and c.from_residual.result c.from_residual.ensures.1 in
    rw (p.1, p.2) (was_refused bytes c.around-around.result.now c.in-Some.visit c.step.new.self m c.end_of.result _ c.requires.spelled (told k ∙ c.in_default-cause_of.is) (asks ∙ c.if-is_expression.true) s c.in_err-check.ensures.refused)

pub loop-visit-preserved : goal.loop-visit-preserved
loop-visit-preserved c =
    let bytes = c.args.bytes.now in
    let k = (goal.at.loop-visit-preserved c).After-cause_of in
    let m = met k in
    let asks = asked (goal.at.loop-visit-preserved c).After-is_expression m in
    record {
      stands = goes_on (tree_of bytes) (left c.step.new.self) m.node m.stands (told k ∙ c.in_default-cause_of.is) (λ is. absurd (false≢true (sym c.if-is_expression.false ∙ sym asks ∙ is)));
      kept = c.step.ensures.kept ∙ c.loop-visit.invariant.kept;
    }

pub returns-clause-sound : goal.returns-clause-sound
returns-clause-sound c =
    let some = c.if-bytes-eq-HEADER.false in
    sound_all c.args.bytes.now (tree_of c.args.bytes.now) (left c.loop-visit.walk) c.requires.spelled (omega (arith, some, c.requires.header)) c.loop-visit.invariant.stands c.in_default.ensures.none.0
