-- What is asked for, as it is given.
use Rattle.setup_files.specs.declared.given.Given.{Given}
use Rattle.audit_commands.specs.Auditing.{Asked}

abbrev pub given_asked : Given → Asked
given_asked given = record {
  list = given.list.now;
  forms = given.forms;
  stores = given.stores.now;
  lang = given.lang.now;
}
