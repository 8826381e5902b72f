-- What opens a question, as the code holds it.
use Rattle.std.specs.Prelude.{Option, Some, None, Result, Ok, Err}
use Rattle.guard_policy.specs.declared.denial.Denial.{Denial}
use Rattle.unlock_audit.specs.Unlock as spec
use Rattle.unlock_audit.specs.declared.answer.Answer.{Answer}
use Rattle.unlock_audit.specs.declared.answer.Answer.TheVariants as code
use Rattle.unlock_audit.specs.declared.answer.Unlock.{Unlock}

abbrev pub answer_meant : Answer → spec.Answer
answer_meant code.Opened = spec.opened
answer_meant (code.Never reason) = spec.never reason
answer_meant (code.Found again list) = spec.found again list.items
answer_meant (code.Written each) = spec.written each
answer_meant code.More = spec.more
answer_meant code.None = spec.none
answer_meant code.Driver = spec.driver

abbrev pub denial_in : Result (Unit {0}) Denial → Option Denial
denial_in (Ok done) = None
denial_in (Err denial) = Some denial

abbrev pub unlock_meant : Unlock → spec.Unlock
unlock_meant u = record {
  verdict = denial_in u.verdict;
  answer = answer_meant u.answer;
  ids = u.ids.items;
  tried = u.tried;
}
