use Rattle.std.proofs.Common.{◌≡◌, ◌++◌, ◌+◌, ◌≤◌, drop, length, map}
use Rattle.opcode_audit.specs.Facts.{facts_in}
use Rattle.opcode_audit.specs.code.Columns.{fact_of, listed, size_of}
use Rattle.opcode_audit.proofs.facts.push_fields.Given as goal

-- the fields before those that are left are added
abbrev pub invariant-loop-entry : goal.invariant-loop-entry
invariant-loop-entry l = record {
  added : map fact_of l.facts.items ++ facts_in (listed (drop l.entry-index l.fields)) l.rest ≡ map fact_of l.fn.facts.items ++ facts_in (listed l.fields) l.bytes;
  behind : drop (size_of (listed (drop l.entry-index l.fields))) l.rest ≡ drop (size_of (listed l.fields)) l.bytes;
  most : length l.facts.items ≤ length l.fn.facts.items + l.entry-index;
}
