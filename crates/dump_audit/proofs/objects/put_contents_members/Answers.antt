use Rattle.std.proofs.Common.{◌≡◌, Some, refl, sym, ap, ◌∙◌}
use Rattle.hii_bytes.proofs.WritingLemmas.{◌⨾◌}
use Rattle.browser_rules.specs.Strings as chapter
use Rattle.hii_languages.specs.code.Views.{chars_left}
use Rattle.dump_audit.specs.Objects.{title_member}
use Rattle.dump_audit.specs.code.Heard.{Heard, shown_in_first}
use Rattle.dump_audit.proofs.ContentLemmas.{shown_first}
use Rattle.dump_audit.proofs.LineLemmas.{no_title, with_title}
use Rattle.dump_audit.proofs.objects.put_contents_members.Goals as goal

pub returns-in-Some : goal.returns-in-Some
returns-in-Some g c = λ spoken kept.
    let id = c.in-Some.id in
    let shown : chars_left c.chars.result ≡ chapter.shown spoken (Some 0) id =
    c.chars.ensures ∙ c.shown.ensures ∙ ap (λ (h : Heard). shown_in_first h.first id) kept ∙ shown_first spoken id in
    let languages = rw (ap (λ (h : Heard). h.languages) kept) at c.put_languages_member.ensures in
    let before = rw c.forms_count.ensures at (c.put_number.ensures ⨾ c.put_guids_member.ensures ⨾ languages) in
    let title = rw shown at c.put_shown.ensures in
    with_title (title_member spoken) _ id (sym c.first_title.ensures ∙ c.in-Some.is) before title

pub returns-in_default : goal.returns-in_default
returns-in_default g c = λ spoken kept.
    let languages = rw (ap (λ (h : Heard). h.languages) kept) at c.put_languages_member.ensures in
    let before = rw c.forms_count.ensures at (c.put_number.ensures ⨾ c.put_guids_member.ensures ⨾ languages) in
    no_title (title_member spoken) _ refl (sym c.first_title.ensures ∙ c.in_default.is) before
