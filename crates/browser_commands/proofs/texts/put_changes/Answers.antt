use Rattle.std.proofs.Common.{List, ℕ, ◌++◌, length, take, get_or, sym, ap, subst, ◌∙◌, arith}
use Rattle.std.specs.List.{flat_map}
use Rattle.std.proofs.lemmas.List.{flat_map_more, take_more}
use Rattle.hii_bytes.specs.Watching.{pen_of, Writes}
use Rattle.hii_bytes.proofs.WritingLemmas.{◌⨾◌}
use Rattle.session_steps.specs.Texts.{changed_text, count_text}
use Rattle.browser_commands.proofs.texts.put_changes.Goals as goal

pub loop-id-preserved : goal.loop-id-preserved
loop-id-preserved g c =
    let ids = c.args.ids.now in
    let k = c.loop-id.id-index in
    let text = flat_map_more changed_text (count_text (length ids)) (take k ids) (get_or ids k 0) ∙ ap (λ (l : List ℕ). count_text (length ids) ++ flat_map changed_text l) (sym (take_more ids k 0 (omega arith))) in
    subst (Writes (pen_of g.W.Write.contents c.args.out.now) (pen_of g.W.Write.contents c.put_changed.new.out)) text (c.loop-id.invariant ⨾ c.put_changed.ensures)
