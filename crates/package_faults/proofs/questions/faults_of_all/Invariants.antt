use Rattle.std.proofs.Common.{◌≡◌, ◌++◌, map}
use Rattle.std.specs.Prelude.{filter}
use Rattle.std.specs.List.{flat_map}
use Rattle.ifr_nodes.specs.Nodes.{nodes_of, is_question}
use Rattle.ifr_scopes.specs.code.Lists.{all_statements_left}
use Rattle.hii_varstore.specs.StoreNodes.{layout_of}
use Rattle.hii_questions.specs.Faults.{is_known, parts_of}
use Rattle.hii_questions.specs.Fields.{asked, questions}
use Rattle.hii_questions.specs.code.Gathered.{AreGathered}
use Rattle.package_faults.specs.code.Parts.{part_faults}
use Rattle.package_faults.proofs.questions.faults_of_all.Given as goal

-- what is told and the faults of the questions that are left are those of all
abbrev pub invariant-loop-statement : goal.invariant-loop-statement
invariant-loop-statement l = record {
  can : goal.iterator-loop-statement.can_next l.statement-iterator;
  ends : goal.iterator-loop-statement.is_finite l.statement-iterator;
  so_far : l.faults.items ++ part_faults (layout_of (nodes_of l.forms)) (is_known (nodes_of l.forms)) (flat_map parts_of (map (asked (nodes_of l.forms)) (filter is_question (all_statements_left l.statement-iterator))))
      ≡ part_faults (layout_of (nodes_of l.forms)) (is_known (nodes_of l.forms)) (flat_map parts_of (questions (nodes_of l.forms)));
  gathered : AreGathered (nodes_of l.forms) l.store_ids;
}
