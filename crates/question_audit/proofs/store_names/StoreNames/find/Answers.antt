use Rattle.std.proofs.Common.{◌≡◌, ◌∙◌, ℕ, find, sym, ap, subst, map, option_map, Option, List}
use Rattle.std.specs.Prelude.{◌==◌}
use Rattle.std.specs.List.Sorted.{IsSortedByKey}
use Rattle.std.specs.Ordering.{nat_cmp}
use Rattle.ifr_opcodes.specs.Forest.{Node}
use Rattle.ifr_nodes.specs.Nodes.{nodes_of}
use Rattle.ifr_scopes.specs.Stores.{store_id}
use Rattle.ifr_scopes.specs.code.Lists.{store_node}
use Rattle.ifr_scopes.specs.declared.varstore.Varstore.{Varstore}
use Rattle.hii_questions.proofs.QuestionLemmas.{found_mapped}
use Rattle.question_audit.specs.QuestionLines.{store_with}
use Rattle.question_audit.specs.code.Names.{id_of}
use Rattle.question_audit.proofs.store_names.StoreNames.find.Goals as goal

pub first_with-requires : goal.first_with-requires
first_with-requires c = subst (IsSortedByKey id_of nat_cmp) (sym c.deref.ensures.value) c.self.invariant.sorted

pub returns : goal.returns
returns c =
    let id = c.args.id in
    let test = λ (n : Node). store_id n.op == id in
    ap (λ (o : Option Varstore). option_map store_node o) c.first_with.ensures
    ∙ sym (found_mapped store_node test c.deref.result.now)
    ∙ ap (λ (xs : List Varstore). find test (map store_node xs)) c.deref.ensures.value
    ∙ c.self.invariant.first id ∙ ap (λ (bytes : List ℕ). store_with (nodes_of bytes) id) c.self.view_is
