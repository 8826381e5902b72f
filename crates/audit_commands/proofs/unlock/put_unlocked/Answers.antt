use Rattle.std.proofs.lemmas.Result.{IfOk-weaker, on_err_weaker}
use Rattle.hii_bytes.specs.Watching.{pen_of}
use Rattle.audit_commands.proofs.UnlockingLemmas.{begins_of, unlocks_of}
use Rattle.audit_commands.proofs.unlock.put_unlocked.Goals as goal

pub returns-clause-told : goal.returns-clause-told
returns-clause-told g c = λ asked origin is.
    IfOk-weaker c.put_unlock.result _ _
    (λ is_there tells. unlocks_of c.args.telling is_there asked c.args.id c.args.opened.browser.state (pen_of g.W.Write.contents c.args.out.now) (pen_of g.W.Write.contents c.put_unlock.new.out) is.opens tells)
    c.put_unlock.ensures.told

pub returns-clause-begun : goal.returns-clause-begun
returns-clause-begun g c = λ asked origin is.
    on_err_weaker c.put_unlock.result
    (λ begun. begins_of c.args.telling asked c.args.id c.args.opened.browser.state (pen_of g.W.Write.contents c.args.out.now) (pen_of g.W.Write.contents c.put_unlock.new.out) is.opens begun)
    c.put_unlock.ensures.begun
