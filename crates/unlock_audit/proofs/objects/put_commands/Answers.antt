use Rattle.std.proofs.Common.{[], ◌∷◌, ◌++◌, Bool, List, ℕ, codes, map, refl, subst}
use Rattle.std.specs.Prelude.{if◌then◌else◌}
use Rattle.std.proofs.lemmas.List.{at_drop_all, at_drop_more}
use lib.IntN as int
use Rattle.hii_bytes.specs.Watching.{pen_of}
use Rattle.audit_json.specs.Objects.{quoted}
use Rattle.audit_json.proofs.ArrayLemmas.{Lists, lists_end}
use Rattle.question_objects.proofs.ListingLemmas.{value_next}
use Rattle.unlock_audit.specs.Told.{command_item, command_items}
use Rattle.unlock_audit.specs.declared.moves.Move.{Move}
use Rattle.unlock_audit.proofs.ToldLemmas.{submitted}
use Rattle.unlock_audit.proofs.objects.put_commands.Goals as goal

-- what stands behind the commands
abbrev last : Bool → List (List ℕ)
last again = if again then quoted (codes "submit") ∷ [] else []

pub loop-each-preserved : goal.loop-each-preserved
loop-each-preserved g c =
    let none : Move = record { id = 0; value = int.pos 0 } in
    value_next _ c.loop-each.invariant (at_drop_more (λ (ms : List Move). map command_item ms ++ last c.args.again) c.args.list.now c.loop-each.each-index none c.loop-each-test.true) c.put_command.ensures

pub returns : goal.returns
returns g c =
    let again = c.args.again in
    let list = c.args.list.now in
    let left = at_drop_all (λ (ms : List Move). map command_item ms ++ last again) list c.loop-each.each-index c.loop-each-test.false in
    let all = subst (λ (vs : List (List ℕ)). Lists (codes "commands") (command_items again list) vs c.loop-each.is_first (pen_of g.W.Write.contents c.args.out.now) (pen_of g.W.Write.contents c.loop-each.out)) left c.loop-each.invariant in
    lists_end (submitted again (quoted (codes "submit")) all c.put_submit-is_first.ensures.told) refl (rw c.put_submit-is_first.ensures.first at c.put_array_end.ensures)
