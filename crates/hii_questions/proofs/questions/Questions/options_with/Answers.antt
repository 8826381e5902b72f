use Rattle.std.proofs.Common.{◌≡◌, ℕ, List, filter, sym, ap, subst, ◌∙◌}
use Rattle.ifr_opcodes.specs.Forest.{Node}
use Rattle.ifr_nodes.specs.Nodes.{options}
use Rattle.ifr_nodes.specs.code.Checked.{IsNodeOf, node_in}
use Rattle.hii_values.specs.code.OptionPlaces.{AreWithValue, has_value}
use Rattle.hii_values.proofs.OptionTableLemmas.{node_of_place}
use Rattle.hii_questions.specs.code.Survey.{Survey}
use Rattle.hii_questions.specs.code.Views.{question_node}
use Rattle.hii_questions.proofs.questions.Questions.options_with.Goals as goal

pub returns : goal.returns
returns c =
    let s = c.self.inside in
    let bytes = s.ifr.now in
    let place = c.place.result in
    let value = c.args.value in
    let q = question_node c.args.question in
    let node : IsNodeOf bytes q = subst (λ (v : Survey). IsNodeOf v.ifr q) (sym c.self.view_is) c.requires in
    let same : node_in bytes place ≡ q = ap (node_in bytes) c.place.ensures ∙ node_of_place bytes q node in
    let found : AreWithValue bytes (node_in bytes place) value c.in_ok-found.found.places.now =
    subst (λ (l : List ℕ). AreWithValue l (node_in l place) value c.in_ok-found.found.places.now) c.self.invariant.1 c.in_ok-found.ensures in
    found.nodes ∙ ap (λ (n : Node). filter (has_value value) (options n)) same
