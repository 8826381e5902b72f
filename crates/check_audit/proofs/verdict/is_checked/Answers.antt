use Rattle.std.proofs.Common.{sym, ◌∙◌, arith}
use Rattle.check_audit.proofs.RefusalLemmas.{of_err, of_ok, unchecked_framing, unchecked_structure}
use Rattle.check_audit.proofs.verdict.is_checked.Goals as goal

pub returns-then-is_ok-clause-is : goal.returns-then-is_ok-clause-is
returns-then-is_ok-clause-is c = λ ok. record {
  header = c.args.source.header;
  small = let small = c.args.source.small in omega (arith, small);
  spelled = of_ok c.check_framing.result _ c.check_framing.ensures.spelled (sym c.is_ok.ensures.value ∙ c.if-is_ok.true);
  sound = of_ok c.check_structure.result _ c.check_structure.ensures.sound (sym c.is_ok-then-is_ok.ensures.value ∙ ok);
}

pub returns-then-is_ok-clause-not : goal.returns-then-is_ok-clause-not
returns-then-is_ok-clause-not c = λ bad checked.
    let fault = of_err c.check_structure.result _ c.check_structure.ensures.refused (sym c.is_ok-then-is_ok.ensures.value ∙ bad) in
    unchecked_structure c.args.source.bytes.now fault.0 fault.1 checked

pub returns-else-is_ok-clause-not : goal.returns-else-is_ok-clause-not
returns-else-is_ok-clause-not c = λ bad checked.
    let fault = of_err c.check_framing.result _ c.check_framing.ensures.refused (sym c.is_ok.ensures.value ∙ bad) in
    unchecked_framing c.args.source.bytes.now fault.0 fault.1 checked
