use Rattle.std.proofs.Common.{None, Some, refl, rules, subst, ap, option_map}
use Rattle.hii_dumps.specs.code.Lists.{entry_of}
use Rattle.dump_audit.specs.Taking.{IsNth}
use Rattle.dump_audit.proofs.taking.put_taken.Goals as goal

pub returns-in_default-clause-taken : goal.returns-in_default-clause-taken
returns-in_default-clause-taken g c =
    (None, subst (IsNth c.args.dump.now c.args.number) (ap (option_map entry_of) c.in_default.is) c.nth_list.ensures, (refl, c.put_no_list.ensures), refl)

pub returns-then-is_ok-clause-taken : goal.returns-then-is_ok-clause-taken
returns-then-is_ok-clause-taken g c =
    (Some (entry_of c.in-Some.list), subst (IsNth c.args.dump.now c.args.number) (ap (option_map entry_of) c.in-Some.is) c.nth_list.ensures, search rules, search rules)

pub returns-else-is_ok-clause-taken : goal.returns-else-is_ok-clause-taken
returns-else-is_ok-clause-taken g c =
    (Some (entry_of c.in-Some.list), subst (IsNth c.args.dump.now c.args.number) (ap (option_map entry_of) c.in-Some.is) c.nth_list.ensures, search rules, search rules)
