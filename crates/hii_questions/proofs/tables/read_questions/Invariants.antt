use Rattle.std.proofs.Common.{◌≡◌, ◌++◌, map}
use Rattle.std.specs.Prelude.{Contains, filter}
use Rattle.std.specs.List.{flat_map}
use Rattle.ifr_opcodes.specs.Forest.{Node}
use Rattle.ifr_nodes.specs.code.Checked.{node_in}
use Rattle.ifr_scopes.specs.code.Lists.{all_statements_left}
use Rattle.ifr_nodes.specs.Nodes.{nodes_of, is_question}
use Rattle.hii_varstore.specs.StoreNodes.{layout_of}
use Rattle.hii_values.specs.Types.{is_password}
use Rattle.hii_questions.specs.Fields.{asked, questions}
use Rattle.hii_questions.specs.Faults.{is_known, parts_of}
use Rattle.hii_questions.specs.code.Entries.{AreQuestionEntries, entry_view}
use Rattle.hii_questions.specs.code.FaultTells.{first_part_fault}
use Rattle.hii_questions.specs.code.Gathered.{AreGathered}
use Rattle.hii_questions.specs.code.Ids.{ids_from}
use Rattle.hii_questions.proofs.tables.read_questions.Given as goal

-- the questions so far, which have no fault, and those that are left, are all
abbrev pub invariant-loop-statement : goal.invariant-loop-statement
invariant-loop-statement l = record {
  can : goal.iterator-loop-statement.can_next l.statement-iterator;
  ends : goal.iterator-loop-statement.is_finite l.statement-iterator;
  within : (n : Node) → Contains (all_statements_left l.statement-iterator) n → Contains (nodes_of l.forms) n;
  kept : AreQuestionEntries l.forms l.by_place.items;
  found : map (entry_view l.forms) l.by_place.items ++ map (asked (nodes_of l.forms)) (filter is_question (all_statements_left l.statement-iterator)) ≡ questions (nodes_of l.forms);
  numbered : l.numbers.items ≡ ids_from 0 (map (entry_view l.forms) l.by_place.items);
  secret : l.passwords.items ≡ filter (λ e. is_password (node_in l.forms e.place)) l.by_place.items;
  same : first_part_fault (layout_of (nodes_of l.forms)) (is_known (nodes_of l.forms)) (flat_map parts_of (map (asked (nodes_of l.forms)) (filter is_question (all_statements_left l.statement-iterator))))
      ≡ first_part_fault (layout_of (nodes_of l.forms)) (is_known (nodes_of l.forms)) (flat_map parts_of (questions (nodes_of l.forms)));
  gathered : AreGathered (nodes_of l.forms) l.store_ids;
}
