-- What warnings tell by a number.
use Rattle.ifr_nodes.specs.Nodes.{nodes_of}
use Rattle.check_audit.specs.WarningLines as spec
use Rattle.check_audit.specs.declared.warning_lines.Details.{Details}

abbrev pub details_of : Details → spec.Details
details_of d = record { spans = d.spans.now; nodes = nodes_of d.ifr.now; lacks = d.lacks.now }
