use Rattle.std.proofs.Common.{ap}
use Rattle.hii_bytes.proofs.WritingLemmas.{Stands-start, past_piece}
use Rattle.hii_languages.specs.code.Views.{chars_left}
use Rattle.question_audit.specs.code.Escaped.{escaped, escaped_text}
use Rattle.question_audit.proofs.escaping.Escaping.put_shown.Goals as goal

pub loop-c-init : goal.loop-c-init
loop-c-init g c = Stands-start _ _

pub loop-c-preserved : goal.loop-c-preserved
loop-c-preserved g c =
    past_piece _ _ _ _ _ (escaped c.args.self c.in-Some.c) (escaped_text c.args.self (chars_left c.next.new.self)) (ap (escaped_text c.args.self) c.in-Some.ensures.steps) c.loop-c.invariant
    c.put_char.ensures
