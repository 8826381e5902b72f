use Rattle.std.proofs.Common.{ℕ, ◌++◌, List, codes, map}
use Rattle.std.specs.List.{flat_map}
use Rattle.std.proofs.lemmas.List.{at_drop_more}
use Rattle.hii_bytes.proofs.WritingLemmas.{◌⨾◌, past_piece}
use Rattle.opcode_audit.specs.Words.{fact_json}
use Rattle.opcode_audit.specs.code.Columns.{fact_of}
use Rattle.opcode_audit.specs.declared.facts.Fact.{Fact}
use Rattle.opcode_audit.specs.Facts as facts
use Rattle.opcode_audit.proofs.words.put_facts_json.Goals as goal

pub loop-fact-preserved : goal.loop-fact-preserved
loop-fact-preserved g c =
    let member : facts.Fact → List ℕ = λ f. codes "," ++ fact_json c.args.strings.now f in
    past_piece _ _ _ _ _ _ _ (at_drop_more (λ (fs : List Fact). flat_map member (map fact_of fs)) _ c.loop-fact.fact-index c.fact-item.result c.loop-fact-test.true) c.loop-fact.invariant
    (c.put.ensures ⨾ (rw c.fact-item.is at c.put_fact_json-in-loop-fact.ensures))
