use Rattle.std.proofs.Common.{◌≡◌, ◌++◌, ◌≤◌, drop, length, map}
use Rattle.std.specs.List.{filter_map}
use Rattle.opcode_audit.specs.Facts.{id_in, string_ids}
use Rattle.opcode_audit.specs.code.Columns.{fact_of}
use Rattle.opcode_audit.proofs.facts.string_ids.Given as goal

-- with those of the fields that are left all are there
abbrev pub invariant-loop-fact : goal.invariant-loop-fact
invariant-loop-fact l = record {
  ids : l.ids.items ++ filter_map (λ f. id_in f.value) (map fact_of (drop l.fact-index l.fact-items)) ≡ string_ids l.opcode;
  few : length l.ids.items ≤ l.fact-index;
}
