use Rattle.std.proofs.Common.{◌≡◌, ap, sym, ◌∙◌}
use Rattle.std.specs.Prelude.{filter}
use Rattle.hii_bytes.specs.Watching.{pen_of}
use Rattle.hii_bytes.proofs.WritingLemmas.{◌⨾◌}
use Rattle.ifr_scopes.specs.code.Lists.{guard_node, guard_package, statement_node}
use Rattle.guard_policy.specs.code.Views.{bytes_of}
use Rattle.guard_policy.proofs.IndexedLemmas.{of_statement}
use Rattle.question_audit.specs.QuestionLines.{is_undefined_guard}
use Rattle.question_audit.specs.code.Pages.{audited}
use Rattle.question_audit.proofs.AroundLemmas.{guards_found, same_forms}
use Rattle.question_audit.proofs.TableLemmas.{flags_all, flags_there}
use Rattle.question_objects.specs.Verdicts.{place_of}
use Rattle.question_objects.proofs.ListingLemmas.{failing_next, first_left, none_left, passing_next}
use Rattle.question_objects.proofs.verdicts.put_undefined.Goals as goal
use Rattle.question_objects.proofs.verdicts.put_undefined.Goals.{After-flag_of}

pub loop-guard-init : goal.loop-guard-init
loop-guard-init g c =
    let page = c.args.page in
    let n = statement_node c.args.statement in
    let test = is_undefined_guard (audited page) in
    let own = same_forms c.forms.result.now c.policy.result page.policy c.forms.ensures c.policy.ensures in
    let found = guards_found page.policy n _ c.place.result _ c.requires.node (of_statement n c.args.statement.statement) (sym c.place.ensures) own c.guards_at-guards.ensures.guards in
    record {
      written = first_left _ place_of (pen_of g.W.Write.contents c.args.out.now) _ _ (ap (filter test) found);
      own = c.guards_at-guards.ensures.of_package ∙ own;
    }

pub flag_of-requires-clause-all : goal.flag_of-requires-clause-all
flag_of-requires-clause-all g c =
    flags_all (is_undefined_guard (audited c.args.page)) (bytes_of c.args.page.policy) (guard_package c.in-Some.guard) _ (c.deref.ensures.value ∙ c.requires.told.undefined) (c.in-Some.ensures.of_package ∙ c.loop-guard.invariant.own)

-- whether the next guard is one
told : (g : _) (c : After-flag_of g) → c.flag_of.result ≡ is_undefined_guard (audited c.args.page) (guard_node c.in-Some.guard)
told g c =
    let own = c.in-Some.ensures.of_package ∙ c.loop-guard.invariant.own in
    c.flag_of.ensures (is_undefined_guard (audited c.args.page)) (flags_there (is_undefined_guard (audited c.args.page)) (bytes_of c.args.page.policy) (guard_package c.in-Some.guard) _ (c.deref.ensures.value ∙ c.requires.told.undefined) own)

pub loop-guard-preserved : goal.loop-guard-preserved
loop-guard-preserved g c =
    let test = is_undefined_guard (audited c.args.page) in
    let i = c.loop-guard.invariant in
    let is = sym (told g (goal.at.loop-guard-preserved g c).After-flag_of) ∙ c.if-not-flag_of.false in
    record {
      written = passing_next place_of test (guard_node c.in-Some.guard) c.in-Some.ensures.steps is i.written (rw (c.from.ensures, c.place-in-Some.ensures) at (c.put_before_item.ensures ⨾ c.put_decimal.ensures));
      own = c.in-Some.ensures.kept ∙ i.own;
    }

pub loop-guard-preserved-then-not-flag_of : goal.loop-guard-preserved-then-not-flag_of
loop-guard-preserved-then-not-flag_of g c =
    let test = is_undefined_guard (audited c.args.page) in
    let i = c.loop-guard.invariant in
    let other = sym (told g (goal.at.loop-guard-preserved-then-not-flag_of g c).After-flag_of) ∙ c.if-not-flag_of.true in
    record {
      written = failing_next place_of test (guard_node c.in-Some.guard) c.in-Some.ensures.steps other i.written;
      own = c.in-Some.ensures.kept ∙ i.own;
    }

pub returns : goal.returns
returns g c = none_left place_of (ap (filter (is_undefined_guard (audited c.args.page))) c.in_default.ensures.steps.0) c.loop-guard.invariant.written c.put_array_end.ensures
