use Rattle.std.proofs.Common.{List, map}
use Rattle.std.specs.List.{flat_map}
use Rattle.std.proofs.lemmas.List.{at_drop_more}
use Rattle.hii_bytes.proofs.WritingLemmas.{past_piece}
use Rattle.opcode_audit.specs.Words.{fact_text}
use Rattle.opcode_audit.specs.code.Columns.{fact_of}
use Rattle.opcode_audit.specs.declared.facts.Fact.{Fact}
use Rattle.opcode_audit.proofs.line.put_facts.Goals as goal

pub loop-fact-preserved : goal.loop-fact-preserved
loop-fact-preserved g c =
    let said = fact_text c.args.strings.now in
    past_piece _ _ _ _ _ _ _ (at_drop_more (λ (fs : List Fact). flat_map said (map fact_of fs)) c.args.facts.now c.loop-fact.fact-index c.fact-item.result c.loop-fact-test.true) c.loop-fact.invariant
    (rw c.fact-item.is at c.put_fact.ensures)
