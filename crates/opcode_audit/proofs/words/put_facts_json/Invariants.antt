use Rattle.std.proofs.Common.{◌++◌, codes, drop, map}
use Rattle.std.specs.List.{flat_map}
use Rattle.hii_bytes.specs.Watching.{pen_of}
use Rattle.hii_bytes.specs.code.Writing.{Stands}
use Rattle.opcode_audit.specs.Words.{fact_json, facts_json}
use Rattle.opcode_audit.specs.code.Columns.{fact_of}
use Rattle.opcode_audit.proofs.words.put_facts_json.Given as goal

-- the members before those that are left are written
abbrev pub invariant-loop-fact : goal.invariant-loop-fact
invariant-loop-fact g l =
    Stands (pen_of g.W.Write.contents l.fn.out) (pen_of g.W.Write.contents l.out) (facts_json l.strings (map fact_of l.facts)) (flat_map (λ f. codes "," ++ fact_json l.strings f) (map fact_of (drop l.fact-index l.others)))
