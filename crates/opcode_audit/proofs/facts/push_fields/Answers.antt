use Rattle.std.proofs.Common.{◌+◌, ◌++◌, ◌∷◌, List, [], Option, None, drop, get_or, map, ap, append_assoc, arith, sym, ◌∙◌}
use Rattle.std.proofs.lemmas.List.{at_drop_more}
use Rattle.opcode_audit.specs.Facts.{Fact, facts_in}
use Rattle.opcode_audit.specs.code.Columns.{fact_of, listed, size_of}
use Rattle.opcode_audit.specs.declared.field.Field.{Field}
use Rattle.opcode_audit.proofs.FieldLemmas.{entry_behind, entry_facts}
use Rattle.opcode_audit.proofs.facts.push_fields.Goals as goal

pub push_entry-rest-requires : goal.push_entry-rest-requires
push_entry-rest-requires c = omega (arith, c.loop-entry.invariant.most, c.requires, c.loop-entry-test.true)

pub loop-entry-preserved : goal.loop-entry-preserved
loop-entry-preserved c =
    let entries = c.args.fields.now in
    let i = c.loop-entry.entry-index in
    let bytes = c.loop-entry.rest.now in
    let entry = get_or entries i None in
    let others = drop (i + 1) entries in
    let facts = map fact_of c.loop-entry.facts.items in
    let here = at_drop_more (λ (es : List (Option Field)). facts_in (listed es) bytes) entries i None c.loop-entry-test.true ∙ entry_facts entry others bytes _ c.push_entry-rest.ensures.behind in
    let behind = entry_behind entry others bytes _ c.push_entry-rest.ensures.behind ∙ sym (at_drop_more (λ (es : List (Option Field)). drop (size_of (listed es)) bytes) entries i None c.loop-entry-test.true) in
    let more = c.push_entry-rest.ensures.added in
    record {
      added = ap (λ (l : List Fact). l ++ facts_in (listed others) c.push_entry-rest.result.now) more ∙ append_assoc facts (facts_in (listed (entry ∷ [])) bytes) (facts_in (listed others) c.push_entry-rest.result.now)
          ∙ ap (λ (l : List Fact). facts ++ l) (sym here) ∙ c.loop-entry.invariant.added;
      behind = behind ∙ c.loop-entry.invariant.behind;
      most = omega (arith, c.loop-entry.invariant.most, c.push_entry-rest.ensures.most);
    }
