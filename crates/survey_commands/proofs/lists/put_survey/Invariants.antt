use Rattle.hii_bytes.specs.Watching.{pen_of}
use Rattle.survey_commands.specs.code.Views.{asked_view}
use Rattle.survey_commands.proofs.ListLemmas.{GoesOver}
use Rattle.survey_commands.proofs.lists.put_survey.Given as goal

-- the lists so far are told
abbrev pub invariant-loop-list : goal.invariant-loop-list
invariant-loop-list g l = GoesOver (asked_view g.F.StoreFiles.known l.asked) l.dump l.list-iterator l.number (pen_of g.W.Write.contents l.fn.out) (pen_of g.W.Write.contents l.out)
