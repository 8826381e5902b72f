use Rattle.std.proofs.Common.{◌≡◌, ℕ, ◌<◌, List, [], ◌∷◌, ◌++◌, reverse, refl, sym, ap, ◌∙◌, arith}
use Rattle.ifr_expr.specs.code.Expressions.{tree_of}
use Rattle.ifr_expr.specs.code.Names.{names_in}
use Rattle.ifr_expr.specs.code.NamesLeft.{names_left}
use Rattle.ifr_expr.specs.declared.expr.Expr.{Expr}
use Rattle.ifr_expr.specs.declared.names.Name.TheVariants.{Rule}
use Rattle.ifr_expr.specs.declared.names.Names.{Names}
use Rattle.ifr_nodes.specs.code.Rules.{rules_of}
use Rattle.ifr_scopes.specs.declared.dependence.Frame.{Frame}
use Rattle.ifr_scopes.proofs.FrameLemmas.{ids, turns, GoesOn, goes_on, IsNamed, is_named, passed_over, fits_on, Enters, enters}
use Rattle.ifr_scopes.proofs.dependence.Dependence.step.Goals as goal
use Rattle.ifr_scopes.proofs.dependence.Dependence.step.Goals.{In-Rule}

-- the frame on top, behind the name
abbrev on_top : In-Rule → Frame
on_top c = record { names = c.next.new.self; this = c.in-Some.frame.this }

-- it went on to a reference to a rule
went : (c : In-Rule) → GoesOn (rules_of c.loop-frame.self.forms.now) c.loop-frame.self.frames.items c.pop.new.self.items c.push.new.self.items c.in-Some.frame.this (Rule c.in-Rule.reference)
went c =
    goes_on (rules_of c.loop-frame.self.forms.now) c.loop-frame.self.frames.items c.pop.new.self.items c.push.new.self.items c.in-Some.frame (on_top c) (Rule c.in-Rule.reference) c.in-Some.ensures.items c.push.ensures.items refl
    (rw c.in-Rule.is at c.in-Some-next.ensures.steps) c.loop-frame.self.room

-- the rule comes on top
entered : (c : In-Rule) (rule : Expr) (names : Names) (new : List Frame) → IsNamed (rules_of c.loop-frame.self.forms.now) c.in-Rule.reference (tree_of rule) → names_left names ≡ names_in (tree_of rule)
    → new ≡ c.push.new.self.items ++ record { names = names; this = 0 } ∷ [] → Enters (rules_of c.loop-frame.self.forms.now) c.pop.new.self.items c.push.new.self.items new c.in-Rule.reference
entered c rule names new is all e =
    let next : Frame = record { names = names; this = 0 } in
    enters (rules_of c.loop-frame.self.forms.now) c.pop.new.self.items c.push.new.self.items new (on_top c) next c.in-Rule.reference (tree_of rule) c.push.ensures.items e refl all (went c).within is (went c).room

pub push-requires-in-Some-rule : goal.push-requires-in-Some-rule
push-requires-in-Some-rule c =
    let a = (goal.at.push-requires-in-Some-rule c).In-Rule in
    let rules = rules_of c.loop-frame.self.forms.now in
    let is = is_named rules c.in-Rule.reference (tree_of c.in-Some-rule.rule) c.in-Some-rule.ensures.ordered c.in-Some-rule.ensures.named in
    (omega arith, fits_on rules c.pop.new.self.items c.push.new.self.items (on_top a) c.in-Rule.reference (tree_of c.in-Some-rule.rule) c.push.ensures.items (went a).within is)

pub invariant_of-self-in-Some-rule : goal.invariant_of-self-in-Some-rule
invariant_of-self-in-Some-rule c =
    let a = (goal.at.invariant_of-self-in-Some-rule c).In-Rule in
    let rules = rules_of c.loop-frame.self.forms.now in
    let is = is_named rules c.in-Rule.reference (tree_of c.in-Some-rule.rule) c.in-Some-rule.ensures.ordered c.in-Some-rule.ensures.named in
    record { room = (entered a c.in-Some-rule.rule c.names.result c.push-in-Some-rule.new.self.items is c.names.ensures c.push-in-Some-rule.ensures.items).room }

pub loop-frame-smaller-in-Some-rule : goal.loop-frame-smaller-in-Some-rule
loop-frame-smaller-in-Some-rule c =
    let a = (goal.at.loop-frame-smaller-in-Some-rule c).In-Rule in
    let rules = rules_of c.loop-frame.self.forms.now in
    let is = is_named rules c.in-Rule.reference (tree_of c.in-Some-rule.rule) c.in-Some-rule.ensures.ordered c.in-Some-rule.ensures.named in
    let on = entered a c.in-Some-rule.rule c.names.result c.push-in-Some-rule.new.self.items is c.names.ensures c.push-in-Some-rule.ensures.items in
    let fewer : turns rules (reverse c.push-in-Some-rule.new.self.items) < turns rules (reverse c.loop-frame.self.frames.items) = omega (arith, on.fewer, (went a).fewer) in
    fewer

pub loop-frame-preserved-in-Some-rule : goal.loop-frame-preserved-in-Some-rule
loop-frame-preserved-in-Some-rule c =
    let a = (goal.at.loop-frame-preserved-in-Some-rule c).In-Rule in
    let rules = rules_of c.loop-frame.self.forms.now in
    let is = is_named rules c.in-Rule.reference (tree_of c.in-Some-rule.rule) c.in-Some-rule.ensures.ordered c.in-Some-rule.ensures.named in
    let on = entered a c.in-Some-rule.rule c.names.result c.push-in-Some-rule.new.self.items is c.names.ensures c.push-in-Some-rule.ensures.items in
    sym ((went a).split ∙ on.joined) ∙ c.loop-frame.invariant

-- no rule is named
pub loop-frame-preserved : goal.loop-frame-preserved
loop-frame-preserved c =
    let a = (goal.at.loop-frame-preserved c).In-Rule in
    let rules = rules_of c.loop-frame.self.forms.now in
    let none = passed_over rules c.in-Rule.reference.id c.in-Rule.reference.place c.in_default-rule.ensures.named in
    sym ((went a).split ∙ ap (λ (l : List ℕ). l ++ ids rules c.push.new.self.items) none) ∙ c.loop-frame.invariant
