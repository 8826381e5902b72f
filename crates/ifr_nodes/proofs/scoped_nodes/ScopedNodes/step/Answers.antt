use Rattle.std.proofs.Common.{◌≡◌, ℕ, [], ◌∷◌, List, Option, Some, None, IfNone, IfSome, sym, ap, ◌∙◌, subst, arith}
use Rattle.std.proofs.lemmas.List.Elements.{All-tail}
use Rattle.ifr_opcodes.specs.Forest.{Node}
use Rattle.ifr_opcodes.specs.code.Ops.{bytes_of}
use Rattle.ifr_nodes.specs.Checked.{IsChecked}
use Rattle.ifr_nodes.specs.code.Checked.{IsAt, IsNodeOf, AreNodesOf, node_in}
use Rattle.ifr_nodes.specs.code.Visits.{left, Meets}
use Rattle.ifr_nodes.specs.declared.walk.Visit.{Visit}
use Rattle.ifr_nodes.specs.declared.walk.Walk.{Walk}
use Rattle.ifr_nodes.proofs.ScopeLemmas.{is_met}
use Rattle.ifr_nodes.proofs.scoped_nodes.ScopedNodes.step.Goals as goal

-- the nodes that are left are nodes of the package
still : (bytes : List ℕ) (old new : Walk) (result : Option Visit) → IfNone result ((left old ≡ []) × (left new ≡ [])) → IfSome result (λ visit. Meets old visit new) → AreNodesOf bytes (left old) → AreNodesOf bytes (left new)
still bytes old new None none some are = subst (AreNodesOf bytes) (sym none.1) (λ i d lt. absurd (omega arith))
still bytes old new (Some visit) none some are = All-tail (λ n. IsNodeOf bytes n) some.node (left new) (subst (AreNodesOf bytes) some.next are)

pub invariant_of-self : goal.invariant_of-self
invariant_of-self c =
    let old = c.args.self.now in
    let new = c.step.new.self in
    record {
      checked = subst IsChecked (sym c.step.ensures.kept) old.checked;
      nodes = subst (λ b. AreNodesOf b (left new)) (sym c.step.ensures.kept) (still old.walk.bytes.now old.walk new c.step.result c.step.ensures.none c.step.ensures.some old.nodes);
    }

pub invariant_of-result : goal.invariant_of-result
invariant_of-result c =
    let old = c.args.self.now in
    let met = c.in-Some.ensures.some in
    let is = is_met old.walk.bytes.now c.in-Some.visit met.node _ _ old.checked.spelled old.nodes met.next met.shown in
    let same = sym (c.bytes.ensures ∙ c.step.ensures.kept) in
    record {
      checked = subst IsChecked same old.checked;
      stands = subst (λ b. IsAt b c.in-Some.visit.op.place (bytes_of c.in-Some.visit.op)) same is.stands;
    }

pub returns-in-Some-clause-some : goal.returns-in-Some-clause-some
returns-in-Some-clause-some c =
    let old = c.args.self.now in
    let met = c.in-Some.ensures.some in
    let is = is_met old.walk.bytes.now c.in-Some.visit met.node _ _ old.checked.spelled old.nodes met.next met.shown in
    let same = c.bytes.ensures ∙ c.step.ensures.kept in
    let here = ap (λ b. node_in b c.in-Some.visit.op.place) same ∙ is.is in (
      met.next ∙ ap (λ (n : Node). n ∷ left c.step.new.self) (sym here),
      record {
        of_package = c.bytes.ensures;
        within = met.within;
        path = ap (λ (n : Node). n.path) here ∙ met.path;
      },
    )
