use Rattle.std.proofs.Common.{◌≡◌, ap, ◌∙◌}
use Rattle.ifr_scopes.specs.code.Lists.{guard_package}
use Rattle.guard_policy.specs.code.Views.{bytes_of}
use Rattle.question_audit.specs.QuestionLines.{is_undefined_guard}
use Rattle.question_audit.specs.code.Pages.{audited}
use Rattle.question_audit.proofs.TableLemmas.{flags_all}
use Rattle.question_audit.proofs.undefined.next_undefined.Goals as goal

pub flag_of-requires-clause-all : goal.flag_of-requires-clause-all
flag_of-requires-clause-all g c =
    flags_all (is_undefined_guard (audited c.args.page)) (bytes_of c.args.page.policy) (guard_package c.in-Some.guard) _ (c.deref.ensures.value ∙ c.requires.told.undefined) (c.in-Some.ensures.of_package ∙ c.loop-guard.invariant.own)
