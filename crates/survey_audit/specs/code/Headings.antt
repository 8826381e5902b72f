-- How a heading is seen.
use Rattle.hii_packages.specs.code.Package.{package_of}
use Rattle.survey_audit.specs.Lines as lines
use Rattle.survey_audit.specs.declared.heading.Heading.{Heading}

abbrev pub heading_of : Heading → lines.Heading
heading_of h = record {
  telling = h.telling;
  list = h.list;
  number = h.number;
  spoken = h.strings.now;
  source = package_of h.source;
  base = h.base;
}
