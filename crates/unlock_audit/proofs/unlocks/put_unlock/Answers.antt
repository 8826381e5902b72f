use Rattle.std.proofs.Common.{◌≡◌, [], List, Result, Ok, Err, ℕ, refl, subst, sym}
use Rattle.std.specs.Prelude.{OnErr}
use Rattle.hii_bytes.specs.Watching.{Pen, pen_of}
use Rattle.hii_bytes.proofs.WritingLemmas.{writes_nil}
use Rattle.question_audit.specs.code.Beginnings.{Begins}
use Rattle.question_audit.proofs.BeginningLemmas.{at_error}
use Rattle.unlock_audit.specs.Tries.{discarded}
use Rattle.unlock_audit.specs.Told.{asked_told}
use Rattle.unlock_audit.proofs.unlocks.put_unlock.Goals as goal

-- where nothing was written, each text was begun
begun_by_nothing : {T E A : Type 0} (pen : A → Pen) (old new : A) (text : List ℕ) (r : Result T E) → OnErr r (new ≡ old) → OnErr r (Begins (pen old) (pen new) text)
begun_by_nothing pen old new text (Ok x) same = tt
begun_by_nothing pen old new text (Err x) same =
    subst (λ n. Begins (pen old) (pen n) text) (sym same) (record { front = []; rest = text; parts = refl; written = writes_nil (pen old) })

pub returns-in_default-clause-told : goal.returns-in_default-clause-told
returns-in_default-clause-told g c = rw c.in_default.is record { there = refl; told = c.in_ok-put_all.ensures.told }

pub returns-clause-begun : goal.returns-clause-begun
returns-clause-begun g c =
    begun_by_nothing (pen_of g.W.Write.contents) c.args.out.now c.put_one.new.out (asked_told c.args.telling (discarded c.args.browser.now.state) c.args.id) c.put_one.result c.put_one.ensures.nothing
