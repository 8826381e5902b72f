use Rattle.std.proofs.lemmas.Result.{on_ok_weaker}
use Rattle.ifr_nodes.specs.Nodes.{nodes_of}
use Rattle.ifr_nodes.specs.code.Views.{node_of}
use Rattle.package_faults.proofs.ReferenceLemmas.{other_told}
use Rattle.package_faults.proofs.RuleLemmas.{rules_stay}
use Rattle.package_faults.proofs.references.Met.meet_other.Goals as goal

pub returns : goal.returns
returns c = on_ok_weaker c.add_where-3.result (λ added. λ before rest split known.
    let n = node_of c.args.node in
    let ns = nodes_of c.args.node.ifr.now in
    let place = c.op-place.ensures.place in
    let forms = c.repeats_form-repeats.ensures before known.forms in
    let questions = c.repeats_question-repeats.ensures before known.questions in
    record {
      are = record { all = known.all; forms = forms.1; questions = questions.1; rules = rules_stay before n c.args.self.now.rules c.requires known.rules; form = known.form };
      added = other_told ns before n _ _ _ _ _ _ _ c.requires forms.0 questions.0 (c.is_lost.ensures ns known.all) (rw place at c.in_ok-add_where.ensures) (rw place at c.in_ok-add_where-2.ensures) (rw place at added);
    }) c.add_where-3.ensures
