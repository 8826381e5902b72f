use Rattle.hii_bytes.specs.Watching.{pen_of}
use Rattle.survey_commands.specs.code.Views.{asked_view, numbered}
use Rattle.survey_commands.proofs.PackageLemmas.{Goes}
use Rattle.survey_commands.proofs.packages.put_packages.Given as goal

-- what is found of the forms packages before those that are left is told
abbrev pub invariant-loop-source : goal.invariant-loop-source
invariant-loop-source g l =
    Goes (asked_view g.F.StoreFiles.known l.asked) (numbered l.list_number l.list) l.source-iterator l.number (pen_of g.W.Write.contents l.fn.out) (pen_of g.W.Write.contents l.out)
