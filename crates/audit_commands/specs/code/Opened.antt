-- A session over what is asked for, as it is held.
use Rattle.std.specs.Prelude.{◌≡◌}
use Rattle.question_audit.specs.declared.origin.Origin.{Origin}
use Rattle.audit_commands.specs.Auditing.{Asked, Starts, placed_in}
use Rattle.audit_commands.specs.declared.opened.Opened.{Opened}

-- It is opened over what is asked for, and its package stands there, where its list begins at a place of the file.
pub record IsOpened (asked : Asked) (origin : Origin) (opened : Opened) : Type 0 where
  pub opens : Starts asked opened.browser.state
  pub placed : opened.place ≡ placed_in origin opens.source.place
