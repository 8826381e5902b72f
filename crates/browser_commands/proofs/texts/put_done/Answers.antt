use Rattle.std.proofs.Common.{◌≡◌, true, false, rules, subst, inl, inr, take-append-drop}
use Rattle.std.proofs.lemmas.Bool.{cases_Bool}
use Rattle.std.proofs.lemmas.List.{take_rest}
use Rattle.hii_bytes.specs.Watching.{pen_of, has_failed, Writes}
use Rattle.hii_bytes.proofs.WritingLemmas.{Writes-taken, ◌⨾◌}
use Rattle.session_steps.specs.Texts.{ok_text}
use Rattle.browser_commands.proofs.texts.put_done.Goals as goal

-- the writer takes a part, and then the rest is put
pub returns-then-taken : goal.returns-then-taken
returns-then-taken g c =
    let n = c.in-Ok.taken in
    let a = pen_of g.W.Write.contents c.args.out.now in
    let b = pen_of g.W.Write.contents c.write.new.self in
    let end = pen_of g.W.Write.contents c.put.new.self in
    let sound : has_failed c.args.out.now ≡ false = elim (cases_Bool (has_failed c.args.out.now)) [ inl h ↦ let bad : false ≡ true = c.in-Ok.ensures.stays h in (cc) | inr h ↦ h ] in
    let front = Writes-taken a b ok_text n c.in-Ok.ensures.bound c.in-Ok.ensures.bytes c.in-Ok.ensures.counted sound (c.in-Ok.ensures.some (search rules)) in
    let rest = subst (Writes b end) (take_rest ok_text n) c.put.ensures in
    subst (Writes a end) (take-append-drop n ok_text) (front ⨾ rest)
