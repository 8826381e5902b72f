use Rattle.std.proofs.Common.{◌≡◌, ℕ, [], List, Option, Some, None, IfNone, IfSome, sym, subst, arith}
use Rattle.std.proofs.lemmas.List.Elements.{All-tail}
use Rattle.ifr_nodes.specs.Checked.{IsChecked}
use Rattle.ifr_nodes.specs.code.Checked.{IsAt, AreAt}
use Rattle.ifr_nodes.specs.code.Visits.{left, Meets}
use Rattle.ifr_nodes.specs.declared.walk.Visit.{Visit}
use Rattle.ifr_nodes.specs.declared.walk.Walk.{Walk}
use Rattle.ifr_nodes.proofs.nodes.Nodes.step.Goals as goal

-- the nodes that are left stand in the package
still : (bytes : List ℕ) (old new : Walk) (result : Option Visit) → IfNone result ((left old ≡ []) × (left new ≡ [])) → IfSome result (λ visit. Meets old visit new) → AreAt bytes (left old) → AreAt bytes (left new)
still bytes old new None none some at = subst (AreAt bytes) (sym none.1) (λ i d lt. absurd (omega arith))
still bytes old new (Some visit) none some at = All-tail (λ n. IsAt bytes n.place n.op) some.node (left new) (subst (AreAt bytes) some.next at)

pub invariant_of-self : goal.invariant_of-self
invariant_of-self c =
    let old = c.args.self.now in
    let new = c.step.new.self in
    record {
      checked = subst IsChecked (sym c.step.ensures.kept) old.checked;
      stand = subst (λ b. AreAt b (left new)) (sym c.step.ensures.kept) (still old.walk.bytes.now old.walk new c.step.result c.step.ensures.none c.step.ensures.some old.stand);
    }
