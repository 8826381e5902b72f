use Rattle.std.proofs.Common.{◌≡◌, ℕ, Bool, List, [], ◌++◌, sym, ap, subst, ◌∙◌}
use Rattle.std.specs.Prelude.{not}
use Rattle.hii_bytes.specs.declared.cause.Cause.TheVariants.{NoForm}
use Rattle.hii_bytes.specs.declared.cause.Fault.{Fault}
use Rattle.ifr_opcodes.specs.Forest.{Node}
use Rattle.ifr_nodes.specs.Nodes.{nodes_of}
use Rattle.ifr_nodes.specs.code.Views.{node_of}
use Rattle.ifr_nodes.specs.code.Visits.{left}
use Rattle.package_faults.specs.code.Met.{AreOf, MeetsNext}
use Rattle.package_faults.specs.code.Parts.{node_faults}
use Rattle.package_faults.specs.code.Gathering.{where_it_is}
use Rattle.package_faults.proofs.ReferenceLemmas.{met_all, met_next, told_first}
use Rattle.package_faults.proofs.references.reference_faults.Goals as goal

pub loop-next-init : goal.loop-next-init
loop-next-init c =
    let ns = nodes_of c.args.ifr.now in
    let none : Bool → List Fault = λ b. where_it_is (not b) NoForm 4 in
    let so_far = c.in_ok-add_where.ensures ∙ ap (λ (l : List Fault). l ++ none c.has_form.result) c.new-faults.ensures.items ∙ ap none c.has_form.ensures in
    record {
      met = record {
        before = [];
        split = c.over-nodes.ensures.all;
        known = c.in_ok-met.ensures c.args.ifr.now c.in_ok-forms.ensures;
        so_far = ap (λ (l : List Fault). l ++ node_faults ns [] (left c.over-nodes.result.walk)) so_far ∙ ap (λ (l : List Node). told_first ns ++ node_faults ns [] l) c.over-nodes.ensures.all;
      };
      kept = c.over-nodes.ensures.kept;
    }

pub loop-next-preserved : goal.loop-next-preserved
loop-next-preserved c =
    let met = c.loop-next.invariant.met in
    let n = node_of c.in-Some.next.node in
    let rest = left c.step.new.self.walk in
    let of_package : c.in-Some.next.node.ifr.now ≡ c.args.ifr.now = c.in-Some.ensures.some.1.of_package ∙ c.step.ensures.kept ∙ c.loop-next.invariant.kept in
    let split = ap (λ (l : List Node). met.before ++ l) (sym c.in-Some.ensures.some.0) ∙ met.split ∙ ap nodes_of (sym of_package) in
    let known = subst (λ (b : List ℕ). AreOf b met.before c.loop-next.met) (sym of_package) met.known in
    let meets = subst (λ (b : List ℕ). MeetsNext b met.before n c.loop-next.met c.meet.new.self c.loop-next.faults.items c.meet.new.faults.items) of_package (c.in_ok-meet.ensures met.before rest split known) in
    record {
      met = met_next c.args.ifr.now _ rest n _ _ _ _ met c.in-Some.ensures.some.0 meets;
      kept = c.step.ensures.kept ∙ c.loop-next.invariant.kept;
    }

pub returns : goal.returns
returns c = met_all c.args.ifr.now _ _ _ c.requires c.loop-next.invariant.met c.in_default.ensures.none.0
