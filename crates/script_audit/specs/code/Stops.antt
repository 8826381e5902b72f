-- Where the run of a script ends.
use Rattle.script_audit.specs.Script.{Line}
use Rattle.script_audit.specs.Walk as spec
use Rattle.script_audit.specs.declared.stop.Stop.{Stop}

abbrev pub line_meant : Stop → Line
line_meant stop = record { number = stop.number; bytes = stop.line.now }

abbrev pub stop_meant : Stop → spec.Stop
stop_meant stop = record { line = line_meant stop; reply = stop.reply }
