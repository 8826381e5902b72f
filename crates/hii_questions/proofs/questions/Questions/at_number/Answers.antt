use Rattle.std.proofs.Common.{rules, ◌≡◌, ◌<◌, ◌≤◌, ap, sym, subst, ◌∙◌, length, get_or, List, Some, Ok, Err, arith}
use Rattle.std.specs.declared.cmp.Ordering.TheVariants.{Equal}
use Rattle.std.proofs.lemmas.Bool.{ltb-true}
use Rattle.std.proofs.lemmas.Bool.Decides.{nat_tests}
use Rattle.std.proofs.lemmas.List.{get_or_default}
use Rattle.std.specs.List.Sorted.{IsBinarySearchResult}
use Rattle.std.specs.Ordering.{nat_cmp}
use Rattle.std.proofs.lemmas.List.Sorted.{answers_always}
use Rattle.ifr_nodes.specs.Nodes.{nodes_of}
use Rattle.hii_questions.specs.Fields.{Asked, questions}
use Rattle.hii_questions.specs.code.Entries.{entry_view}
use Rattle.hii_questions.specs.code.Survey.{Survey}
use Rattle.hii_questions.specs.code.Tables.{first_at}
use Rattle.hii_questions.specs.declared.entry.QuestionEntry.{QuestionEntry}
use Rattle.hii_questions.proofs.PlaceLemmas.{found_at, none_at}
use Rattle.hii_questions.proofs.questions.Questions.at_number.Goals as goal

pub returns-in-Ok : goal.returns-in-Ok
returns-in-Ok c =
    let at = c.in-Ok.at in
    let place = c.args.place in
    let s = c.self.inside in
    let equal = c.in-Ok.ensures.position (λ e. e.place) (answers_always _ _ _ (λ f a r g called. search rules)) in
    let found = subst (λ (es : List QuestionEntry). (at < length es) × IsBinarySearchResult (λ e. nat_cmp e.place place) es (Ok at)) c.deref-2.ensures.value (c.in-Ok.ensures.bound, equal) in
    ap (λ (a : Asked). Some a) (c.kept-in-Ok.ensures ∙ ap (entry_view s.ifr.now) c.index.ensures)
    ∙ found_at s.ifr.now s.by_place.items s.by_id s.by_field.items s.passwords.items s.password_steps.items c.self.invariant.0 place at c.index.result.now found.0 found.1
    ∙ ap (λ (v : Survey). first_at (questions (nodes_of v.ifr)) place) c.self.view_is

pub returns-in-Err : goal.returns-in-Err
returns-in-Err c =
    let place = c.args.place in
    let at = c.in-Err.field-0 in
    let s = c.self.inside in
    let parted = c.in-Err.ensures.position (λ e. e.place) (answers_always _ _ _ (λ f a r g called. search rules)) in
    let missing = subst (λ (es : List QuestionEntry). (at ≤ length es) × IsBinarySearchResult (λ e. nat_cmp e.place place) es (Err at)) c.deref-2.ensures.value (c.in-Err.ensures.bound, parted) in
    none_at s.ifr.now s.by_place.items s.by_id s.by_field.items s.passwords.items s.password_steps.items c.self.invariant.0 place at missing.0 missing.1
    ∙ ap (λ (v : Survey). first_at (questions (nodes_of v.ifr)) place) c.self.view_is

pub returns-then-entry-place : goal.returns-then-entry-place
returns-then-entry-place c =
    let at = c.args.number in
    let place = c.args.place in
    let s = c.self.inside in
    let entry = c.in-Some.entry.now in
    let es = c.deref.result.now in
    let here : entry ≡ get_or es at entry = c.in-Some.ensures.lookup.1 in
    let within : at < length es = ltb-true at (length es) (sym c.in-Some.ensures.lookup.0) in
    let equal : (d : QuestionEntry) → nat_cmp (get_or es at d).place place ≡ Equal = λ d.
    let same : (get_or es at d).place ≡ place = ap (λ (e : QuestionEntry). e.place) (get_or_default es at d entry within ∙ sym here) ∙ c.if-entry-place.true in
    grind (arith, nat_tests) in
    let found = subst (λ (es : List QuestionEntry). (at < length es) × IsBinarySearchResult (λ e. nat_cmp e.place place) es (Ok at)) c.deref.ensures.value (within, equal) in
    ap (λ (a : Asked). Some a) (c.kept.ensures ∙ ap (entry_view s.ifr.now) (here ∙ ap (λ (l : List QuestionEntry). get_or l at entry) c.deref.ensures.value))
    ∙ found_at s.ifr.now s.by_place.items s.by_id s.by_field.items s.passwords.items s.password_steps.items c.self.invariant.0 place at entry found.0 found.1
    ∙ ap (λ (v : Survey). first_at (questions (nodes_of v.ifr)) place) c.self.view_is
