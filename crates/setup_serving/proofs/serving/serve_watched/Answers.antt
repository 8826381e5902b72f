use Rattle.std.proofs.Common.{refl}
use Rattle.setup_serving.proofs.ServingLemmas.{refused_serves}
use Rattle.setup_serving.proofs.serving.serve_watched.Goals as goal

pub returns-in-Ok-clause-serves : goal.returns-in-Ok-clause-serves
returns-in-Ok-clause-serves g c = c.run.ensures.serves c.args.given c.in-Ok.ensures.opened

pub returns-in-Err-clause-serves : goal.returns-in-Err-clause-serves
returns-in-Err-clause-serves g c = refused_serves _ _ _ c.refuse.result c.in-Err.fault c.refuse.ensures.passed_on refl refl c.in-Err.ensures.refused c.refuse.ensures.told
