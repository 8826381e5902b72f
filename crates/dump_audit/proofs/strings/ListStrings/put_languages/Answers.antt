use Rattle.std.proofs.Common.{ℕ, List, [], map, Bor}
use Rattle.std.proofs.lemmas.List.{at_drop_more}
use Rattle.hii_bytes.proofs.WritingLemmas.{◌⨾◌, past_piece}
use Rattle.audit_text.specs.Texts.{language_name}
use Rattle.dump_audit.proofs.ContentLemmas.{words_behind}
use Rattle.dump_audit.proofs.strings.ListStrings.put_languages.Goals as goal

pub loop-language-preserved : goal.loop-language-preserved
loop-language-preserved g c =
    let more = at_drop_more (λ (ls : List (Bor (List ℕ))). words_behind (map language_name (map (λ l. l.now) ls))) c.in-Some.others.now c.loop-language.language-index (record { ref_ptr = (0, 0); now = [] }) c.loop-language-test.true in
    past_piece _ _ _ _ _ _ _ more c.loop-language.invariant (c.put-in-loop-language.ensures ⨾ c.put_language-in-loop-language.ensures)
