-- What an audit looks at, of what a session begins with (own rule).
use Rattle.session_steps.specs.State.{State, texts, world_of}
use Rattle.session_steps.specs.Step.{sources}
use Rattle.question_audit.specs.Audited.{Audited}

abbrev pub audited_at : State → Audited
audited_at s = record {
  texts = texts s;
  world = world_of s;
  stores = s.working;
  sources = sources s;
}
