use Rattle.std.proofs.Common.{◌≡◌, ◌==◌, ◌∙◌, ap, sym, map, option_map, find, rules, List, Option}
use Rattle.std.specs.Prelude.{filter}
use Rattle.std.proofs.lemmas.List.Sorted.{answers_always}
use Rattle.ifr_opcodes.specs.Forest.{Node}
use Rattle.ifr_nodes.specs.Nodes.{nodes_of, is_store}
use Rattle.ifr_scopes.specs.Stores.{store_id}
use Rattle.ifr_scopes.specs.code.Lists.{store_node}
use Rattle.ifr_scopes.specs.declared.varstore.Varstore.{Varstore}
use Rattle.question_audit.specs.code.Names.{id_of}
use Rattle.question_audit.proofs.NameLemmas.{same_first}
use Rattle.hii_questions.proofs.QuestionLemmas.{found_mapped}
use Rattle.question_audit.proofs.store_names.StoreNames.read.Goals as goal

pub invariant_of-result : goal.invariant_of-result
invariant_of-result c =
    let all : map store_node c.loop-store.stores.items ≡ filter is_store (nodes_of c.args.forms.now) = search rules in
    let same : c.bytes.result.now ≡ c.args.forms.now = search rules in
    let before = c.loop-store.stores.items in
    let after = c.sort_by_key.new.self.items in
    record {
      sorted = c.in_ok-sort_by_key.ensures.sorted id_of (answers_always _ _ _ (λ e a r g called. search rules));
      first = λ id.
          found_mapped store_node (λ (n : Node). store_id n.op == id) after
          ∙ ap (λ (o : Option Varstore). option_map store_node o) (same_first id_of before after id (c.in_ok-sort_by_key.ensures.stable id_of (answers_always _ _ _ (λ e a r g called. search rules))))
          ∙ sym (found_mapped store_node (λ (n : Node). store_id n.op == id) before)
          ∙ ap (λ (ns : List Node). find (λ n. store_id n.op == id) ns) (all ∙ ap (λ bytes. filter is_store (nodes_of bytes)) (sym same));
    }
