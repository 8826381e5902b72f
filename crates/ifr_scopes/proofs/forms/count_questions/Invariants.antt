use Rattle.std.proofs.Common.{◌≡◌, ◌≤◌, count_by, take}
use Rattle.ifr_opcodes.specs.Rows.{is_question_number}
use Rattle.ifr_index.specs.declared.index.Entry.{Entry}
use Rattle.ifr_scopes.proofs.forms.count_questions.Given as goal

-- how many of those so far
abbrev pub invariant-loop-entry : goal.invariant-loop-entry
invariant-loop-entry l = record {
  count : l.count ≡ count_by (λ (e : Entry). is_question_number e.code) (take l.entry-index l.entries);
  few : l.count ≤ l.entry-index;
}
