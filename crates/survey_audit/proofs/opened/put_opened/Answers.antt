use Rattle.std.proofs.Common.{◌≡◌, ◌∙◌, ◌++◌, ℕ, Bor, List, None, Option, Some, ap, append-nil, option_map, subst, sym}
use Rattle.std.proofs.lemmas.Result.{on_err_weaker, on_ok_weaker}
use Rattle.hii_bytes.proofs.WritingLemmas.{◌⨾◌}
use Rattle.condition_text.proofs.WriteLemmas.{written_as}
use Rattle.question_audit.specs.Audited.{Audited}
use Rattle.question_audit.specs.code.Pages.{audited}
use Rattle.question_audit.specs.code.Beginnings.{Begins}
use Rattle.question_audit.proofs.BeginningLemmas.{at_error, begun_behind}
use Rattle.question_audit.proofs.OptionLemmas.{nothing_begun}
use Rattle.survey_audit.specs.Counts.{counts_of}
use Rattle.survey_audit.specs.Lines.{Heading, counts_told}
use Rattle.survey_audit.specs.Opened.{all_found_told, opened_told, questions_told}
use Rattle.survey_audit.specs.code.Headings.{heading_of}
use Rattle.survey_audit.specs.declared.counts.Counts.{Counts}
use Rattle.survey_audit.proofs.opened.put_opened.Goals as goal

-- what is told of the counts is what is told of the form set where no text is asked for, and else its beginning
told_as_none : (h : Heading) (a : Audited) (k : Counts) (letters : Option (List ℕ)) → k ≡ counts_of a.world → letters ≡ None → counts_told h k ≡ opened_told h a letters
told_as_none h a k letters counted none =
    ap (counts_told h) counted ∙ sym (append-nil (counts_told h (counts_of a.world))) ∙ ap (λ (o : Option (List ℕ)). counts_told h (counts_of a.world) ++ questions_told h a o) (sym none)

told_as_some : (h : Heading) (a : Audited) (k : Counts) (letters : Option (List ℕ)) (l : List ℕ) → k ≡ counts_of a.world → letters ≡ Some l → counts_told h k ++ all_found_told h a l ≡ opened_told h a letters
told_as_some h a k letters l counted some =
    ap (λ (n : Counts). counts_told h n ++ all_found_told h a l) counted ∙ ap (λ (o : Option (List ℕ)). counts_told h (counts_of a.world) ++ questions_told h a o) (sym some)

pub returns-in_err-tables-clause-begun : goal.returns-in_err-tables-clause-begun
returns-in_err-tables-clause-begun g c = at_error c.from_residual.result (nothing_begun _ _)

pub returns-in-Some-clause-told : goal.returns-in-Some-clause-told
returns-in-Some-clause-told g c =
    let same = told_as_some (heading_of c.args.heading) (audited c.args.page) _ _ _ c.counts_of.ensures (ap (option_map (λ (l : Bor (List ℕ)). l.now)) c.in-Some.is) in
    on_ok_weaker c.put_found_over.result (λ told. written_as (c.put_counts.ensures ⨾ told) same) c.put_found_over.ensures.told

pub returns-in-Some-clause-begun : goal.returns-in-Some-clause-begun
returns-in-Some-clause-begun g c =
    let same = told_as_some (heading_of c.args.heading) (audited c.args.page) _ _ _ c.counts_of.ensures (ap (option_map (λ (l : Bor (List ℕ)). l.now)) c.in-Some.is) in
    on_err_weaker c.put_found_over.result (λ begun. subst (Begins _ _) same (begun_behind c.put_counts.ensures begun)) c.put_found_over.ensures.begun

pub returns-clause-told : goal.returns-clause-told
returns-clause-told g c =
    written_as c.put_counts.ensures (told_as_none (heading_of c.args.heading) (audited c.args.page) _ _ c.counts_of.ensures (ap (option_map (λ (l : Bor (List ℕ)). l.now)) c.in-None.is))
