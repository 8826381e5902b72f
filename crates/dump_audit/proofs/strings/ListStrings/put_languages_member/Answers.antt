use Rattle.std.proofs.Common.{List, ℕ, [], map, codes, Bor, true, subst, sym, ap, ◌∙◌, get_or}
use Rattle.std.proofs.lemmas.List.{at_drop_all, at_drop_more}
use Rattle.hii_bytes.specs.Watching.{pen_of}
use Rattle.audit_json.specs.Json.{json_text}
use Rattle.audit_json.proofs.ArrayLemmas.{Lists, lists_end, lists_more, lists_start}
use Rattle.dump_audit.specs.code.Heard.{Heard}
use Rattle.dump_audit.proofs.strings.ListStrings.put_languages_member.Goals as goal

-- languages as they are told
abbrev told : List (Bor (List ℕ)) → List (List ℕ)
told languages = map json_text (map (λ (l : Bor (List ℕ)). l.now) languages)

pub loop-language-init : goal.loop-language-init
loop-language-init g c =
    let pen = pen_of g.W.Write.contents c.args.out.now in
    subst (λ (left : List (List ℕ)). Lists (codes "languages") (map json_text c.args.self.now.languages) left true pen pen) (ap (λ (h : Heard). map json_text h.languages) (sym c.self.view_is) ∙ ap told (sym c.as_slice-language-items.ensures.value))
    (lists_start (codes "languages") (map json_text c.args.self.now.languages) pen)

pub loop-language-preserved : goal.loop-language-preserved
loop-language-preserved g c =
    let more = at_drop_more told c.as_slice-language-items.result.now c.loop-language.language-index (record { ref_ptr = (0, 0); now = [] }) c.loop-language-test.true in
    lists_more (json_text (get_or c.as_slice-language-items.result.now c.loop-language.language-index (record { ref_ptr = (0, 0); now = [] })).now) c.loop-language.invariant more c.put_before_item.ensures c.put_json_bytes.ensures

pub returns : goal.returns
returns g c = lists_end c.loop-language.invariant (at_drop_all told c.as_slice-language-items.result.now c.loop-language.language-index c.loop-language-test.false) c.put_array_end.ensures
