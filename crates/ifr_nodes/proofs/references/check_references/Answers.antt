use Rattle.std.proofs.Common.{◌≡◌, ℕ, List, [], ◌∷◌, ◌++◌, append_assoc, Option, Some, Ok, sym, ap, ◌∙◌, subst, inr}
use Rattle.hii_bytes.specs.declared.cause.Cause.{Cause}
use Rattle.hii_bytes.specs.declared.cause.Fault.{Fault}
use Rattle.hii_bytes.specs.code.FirstFaults.{fault_or, first_cause}
use Rattle.ifr_opcodes.specs.Forest.{Node}
use Rattle.ifr_opcodes.specs.Reading.{tree_of}
use Rattle.ifr_nodes.specs.code.Met.{AreOf}
use Rattle.ifr_nodes.specs.Nodes.{nodes_of}
use Rattle.ifr_nodes.specs.ReferenceFaults.{has_reference_fault}
use Rattle.ifr_nodes.specs.code.Causes.{reference_causes}
use Rattle.ifr_nodes.specs.code.Views.{node_of}
use Rattle.ifr_nodes.specs.code.Visits.{left}
use Rattle.ifr_nodes.proofs.ReferenceLemmas.{first_repeat, no_form_is_least, refused_among, sound_among}
use Rattle.ifr_nodes.proofs.references.check_references.Goals as goal
use Rattle.ifr_nodes.proofs.references.check_references.Goals.{After-meet}

pub returns-then-not-has_form-clause-refused : goal.returns-then-not-has_form-clause-refused
returns-then-not-has_form-clause-refused c = rw c.at.ensures (inr (no_form_is_least (tree_of c.args.ifr.now) c.requires.checked.spelled.are_nodes (sym c.has_form.ensures ∙ c.if-not-has_form.true)))

pub loop-next-init : goal.loop-next-init
loop-next-init c = record {
  has_met = record {
    before = [];
    split = c.over-nodes.ensures.all;
    known = c.in_ok-met.ensures c.args.ifr.now c.requires.forms;
    same = ap (first_repeat (nodes_of c.args.ifr.now) []) c.over-nodes.ensures.all;
  };
  kept = c.over-nodes.ensures.kept;
}

-- the node that is met is one of the package
of_package : (c : After-meet) → c.in-Some.next.node.ifr.now ≡ c.args.ifr.now
of_package c = c.in-Some.ensures.some.1.of_package ∙ c.step.ensures.kept ∙ c.loop-next.invariant.kept

split : (c : After-meet) → c.loop-next.invariant.has_met.before ++ node_of c.in-Some.next.node ∷ left c.step.new.self.walk ≡ nodes_of c.args.ifr.now
split c =
    let so_far = c.loop-next.invariant.has_met in
    ap (λ (l : List Node). so_far.before ++ l) (sym c.in-Some.ensures.some.0) ∙ so_far.split

known : (c : After-meet) → AreOf c.in-Some.next.node.ifr.now c.loop-next.invariant.has_met.before c.loop-next.met
known c = let so_far = c.loop-next.invariant.has_met in subst (λ (b : List ℕ). AreOf b so_far.before c.loop-next.met) (sym (of_package c)) so_far.known

pub loop-next-preserved : goal.loop-next-preserved
loop-next-preserved c =
    let a = (goal.at.loop-next-preserved c).After-meet in
    let so_far = c.loop-next.invariant.has_met in
    let node = node_of c.in-Some.next.node in
    let rest = left c.step.new.self.walk in
    let its = split a ∙ ap nodes_of (sym (of_package a)) in
    let told = c.in_ok-cause.ensures.told so_far.before rest its (known a) ∙ ap (λ (b : List ℕ). first_cause (has_reference_fault (nodes_of b)) (record { before = so_far.before; node = node }) reference_causes) (of_package a) in
    let after = c.meet.ensures.met (c.in_ok-cause.was ∙ ap Ok c.in_default-2.is) so_far.before rest its (known a) in
    record {
      has_met = record {
        before = so_far.before ++ node ∷ [];
        split = append_assoc so_far.before (node ∷ []) rest ∙ split a;
        known = subst (λ (b : List ℕ). AreOf b (so_far.before ++ node ∷ []) c.meet.new.self) (of_package a) after;
        same = ap (λ (o : Option Cause). fault_or o node.place (first_repeat (nodes_of c.args.ifr.now) (so_far.before ++ node ∷ []) rest)) (sym c.in_default-2.is ∙ told) ∙ ap (first_repeat (nodes_of c.args.ifr.now) so_far.before) (sym c.in-Some.ensures.some.0) ∙ so_far.same;
      };
      kept = c.step.ensures.kept ∙ c.loop-next.invariant.kept;
    }

pub returns-in-Some-2-clause-refused : goal.returns-in-Some-2-clause-refused
returns-in-Some-2-clause-refused c =
    let a = (goal.at.returns-in-Some-2-clause-refused c).After-meet in
    let so_far = c.loop-next.invariant.has_met in
    let node = node_of c.in-Some.next.node in
    let rest = left c.step.new.self.walk in
    let fault : ℕ → Fault = λ place. record { cause = c.in-Some-2.cause; place = place } in
    let told = c.in_ok-cause.ensures.told so_far.before rest (split a ∙ ap nodes_of (sym (of_package a))) (known a) ∙ ap (λ (b : List ℕ). first_cause (has_reference_fault (nodes_of b)) (record { before = so_far.before; node = node }) reference_causes) (of_package a) in
    inr (refused_among (tree_of c.args.ifr.now) _ c.requires.checked.spelled.are_nodes (sym c.has_form.ensures ∙ c.if-not-has_form.false)
    (sym so_far.same ∙ ap (first_repeat (nodes_of c.args.ifr.now) so_far.before) c.in-Some.ensures.some.0
    ∙ ap (λ (o : Option Cause). fault_or o node.place (first_repeat (nodes_of c.args.ifr.now) (so_far.before ++ node ∷ []) rest)) (sym told ∙ c.in-Some-2.is)
    ∙ ap (λ (p : ℕ). Some (fault p)) (sym c.op.ensures.place) ∙ ap (λ (f : Fault). Some f) (sym c.fault.ensures)))

pub returns-clause-sound : goal.returns-clause-sound
returns-clause-sound c =
    let so_far = c.loop-next.invariant.has_met in
    sound_among (nodes_of c.args.ifr.now) (sym c.has_form.ensures ∙ c.if-not-has_form.false) (sym so_far.same ∙ ap (first_repeat (nodes_of c.args.ifr.now) so_far.before) c.in_default.ensures.none.0)
