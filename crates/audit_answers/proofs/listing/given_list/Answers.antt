use Rattle.std.proofs.Common.{◌<◌, ◌^◌, ap, arith, length, option_map, refl, rules, subst}
use Rattle.hii_dumps.specs.code.Lists.{entry_of}
use Rattle.dump_audit.specs.Taking.{IsNth}
use Rattle.audit_answers.proofs.ListingLemmas.{nth_inside}
use Rattle.audit_answers.proofs.listing.given_list.Goals as goal

pub invariant_of-result-2 : goal.invariant_of-result-2
invariant_of-result-2 c =
    let nth = subst (IsNth c.args.file.now c.in-Some.number) (ap (option_map entry_of) c.in-Some-nth_list.is) c.nth_list.ensures in
    let inside = nth_inside c.args.file.now c.in-Some.number (entry_of c.in-Some-nth_list.list) nth in
    let few : length c.args.file.now < 2 ^ 64 = search rules in
    record { in_file = omega (arith, inside, few) }

pub returns-clause-listed : goal.returns-clause-listed
returns-clause-listed c =
    let nth = subst (IsNth c.args.file.now c.in-Some.number) (ap (option_map entry_of) c.in-Some-nth_list.is) c.nth_list.ensures in
    rw c.in-Some.is (entry_of c.in-Some-nth_list.list, nth, refl)
