use Rattle.std.proofs.Common.{◌≡◌, ◌<◌, true, false, length, subst, sym, rules, inl, inr}
use Rattle.std.proofs.lemmas.List.{take_rest, nil_from_length}
use Rattle.std.proofs.lemmas.Bool.{cases_Bool}
use Rattle.hii_bytes.specs.Watching.{pen_of, has_failed}
use Rattle.hii_bytes.specs.code.Writing.{Stands}
use Rattle.hii_bytes.proofs.WritingLemmas.{Stands-start, Stands-more, Stands-end, Stands-all, Writes-none, Writes-erred, Writes-taken}
use Rattle.hii_bytes.proofs.watched.Watched.put.Goals as goal

pub loop-rest-init : goal.loop-rest-init
loop-rest-init g c = Stands-start _ c.args.bytes.now

pub returns-in-Ok-eq0 : goal.returns-in-Ok-eq0
returns-in-Ok-eq0 g c =
    let some : 0 < length c.loop-rest.rest.now = search rules in
    let bytes = rw c.in-Ok-eq0.field-0-test at c.in-Ok-eq0.ensures.bytes in
    let count = rw c.in-Ok-eq0.field-0-test at c.in-Ok-eq0.ensures.counted in
    Stands-end _ _ _ _ _ c.loop-rest.invariant (Writes-none _ _ _ bytes count (c.in-Ok-eq0.ensures.none c.in-Ok-eq0.field-0-test some) some)

pub loop-rest-preserved : goal.loop-rest-preserved
loop-rest-preserved g c =
    let rest = c.loop-rest.rest.now in
    let pen = pen_of g.W.Write.contents in
    let sound : has_failed c.loop-rest.self ≡ false = elim (cases_Bool (has_failed c.loop-rest.self)) [ inl h ↦ let bad : false ≡ true = c.in-Ok.ensures.stays h in (cc) | inr h ↦ h ] in
    let written = Writes-taken (pen c.loop-rest.self) (pen c.write.new.self) rest c.in-Ok.n c.in-Ok.ensures.bound c.in-Ok.ensures.bytes c.in-Ok.ensures.counted sound (c.in-Ok.ensures.some (search rules)) in
    subst (Stands (pen c.args.self.now) (pen c.write.new.self) c.args.bytes.now) (sym (take_rest rest c.in-Ok.n))
    (Stands-more _ _ _ _ _ c.in-Ok.n c.loop-rest.invariant written)

pub returns-in-Err : goal.returns-in-Err
returns-in-Err g c = Stands-end _ _ _ _ _ c.loop-rest.invariant (Writes-erred _ _ _ c.in-Err.ensures.bytes c.in-Err.ensures.not_counted c.in-Err.ensures.err (search rules))

pub returns : goal.returns
returns g c = Stands-all _ _ _ _ c.loop-rest.invariant (search (rules, nil_from_length))
