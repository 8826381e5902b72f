use Rattle.std.proofs.Common.{inl, inr, ◌≡◌, take, drop, false, arith, ap, sym, ◌∙◌, subst}
use Rattle.std.proofs.lemmas.Bool.{cases_Bool}
use Rattle.std.proofs.lemmas.List.{length-drop}
use Rattle.hii_dumps.specs.Dumps.{SpellsDump, begins_with_list, stated_length}
use Rattle.hii_dumps.specs.code.Lists.{lists_of}
use Rattle.hii_dumps.proofs.ListLemmas.{one_more, spells, behind, fits}
use Rattle.hii_dumps.proofs.dump.Dump.read.Goals as goal

pub loop-length-preserved : goal.loop-length-preserved
loop-length-preserved c =
    let dump = c.args.dump.now in
    let end = c.loop-length.end in
    let same = behind dump end in
    let told : c.in-Some.length ≡ stated_length (drop end dump) = c.in-Some.ensures.1 ∙ ap stated_length same in
    let there = fits (drop end dump) (ap begins_with_list (sym same) ∙ c.in-Some.ensures.0) in
    record {
      lists = one_more dump end c.in-Some.length c.loop-length.invariant.lists told (omega (arith, told, there.0)) (omega (arith, told, there.1));
      inside = omega (arith, told, there.1, length-drop end dump, c.loop-length.invariant.inside);
    }

pub returns : goal.returns
returns c =
    let dump = c.args.dump.now in
    let end = c.loop-length.end in
    let same = behind dump end in
    let none : begins_with_list (drop end dump) ≡ false = elim (cases_Bool (begins_with_list (drop end dump))) [
      | inl begins ↦ absurd (c.in_default.ensures (ap begins_with_list same ∙ begins))
      | inr ends ↦ ends
    ] in
    subst (SpellsDump dump (lists_of (take end dump))) (sym same) (spells dump end c.loop-length.invariant.lists none)
