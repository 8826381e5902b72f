use Rattle.std.proofs.Common.{subst}
use Rattle.std.specs.Io.Buffered.{writer_contents}
use Rattle.setup_serving.specs.Serving.{RunLeaves, ends_before, ends_of}
use Rattle.setup_serving.proofs.AtFaultLemmas.{leaves_bytes}
use Rattle.setup_serving.proofs.HeadlineLemmas.{serves_headline}
use Rattle.setup_serving.proofs.ServingLemmas.{begins_new, serves_known}
use Rattle.setup_serving.proofs.serving.serve.Goals as goal

pub returns-clause-serves : goal.returns-clause-serves
returns-clause-serves g c =
    let now = c.serve_watched-ended.new in
    let after = ends_of g.R.Read.remaining g.A.Write.contents g.O.Write.contents now.script now.answers now.out in
    subst (λ before. RunLeaves c.args.given before c.serve_watched-ended.result after)
    (begins_new g.R.Read.remaining g.A.Write.contents g.O.Write.contents c.args.script c.args.answers c.args.out c.new-script.result c.new-answers.result c.new-out.result
    c.new-script.ensures.inner c.new-answers.ensures.inner c.new-answers.ensures.sound c.new-answers.ensures.none_taken c.new-out.ensures.inner c.new-out.ensures.sound c.new-out.ensures.none_taken)
    c.serve_watched-ended.ensures.serves

-- The clause on a known script follows from the one on any.

pub returns-clause-whole : goal.returns-clause-whole
returns-clause-whole g c =
    let now = c.serve_watched-ended.new in
    serves_known c.args.given (ends_before (g.R.Read.remaining c.args.script) (writer_contents g.A.Write.contents c.args.answers) (g.O.Write.contents c.args.out))
    (ends_of g.R.Read.remaining g.A.Write.contents g.O.Write.contents now.script now.answers now.out) c.serve_watched-ended.result (returns-clause-serves g c)

pub returns-clause-headline : goal.returns-clause-headline
returns-clause-headline g c =
    let now = c.serve_watched-ended.new in
    serves_headline c.args.given (ends_before (g.R.Read.remaining c.args.script) (writer_contents g.A.Write.contents c.args.answers) (g.O.Write.contents c.args.out))
    (ends_of g.R.Read.remaining g.A.Write.contents g.O.Write.contents now.script now.answers now.out) c.serve_watched-ended.result (g.R.Read.remaining c.args.script) (returns-clause-whole g c)

pub returns-clause-at_fault : goal.returns-clause-at_fault
returns-clause-at_fault g c =
    let now = c.serve_watched-ended.new in
    leaves_bytes c.args.given (ends_before (g.R.Read.remaining c.args.script) (writer_contents g.A.Write.contents c.args.answers) (g.O.Write.contents c.args.out))
    (ends_of g.R.Read.remaining g.A.Write.contents g.O.Write.contents now.script now.answers now.out) c.serve_watched-ended.result (returns-clause-serves g c)
