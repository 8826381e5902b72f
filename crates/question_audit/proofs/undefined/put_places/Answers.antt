use Rattle.std.proofs.Common.{ap, ◌∙◌}
use Rattle.hii_bytes.proofs.WritingLemmas.{Stands-start, ◌⨾◌, past_piece}
use Rattle.ifr_scopes.specs.code.Lists.{guard_node}
use Rattle.question_audit.specs.QuestionLines.{places_behind}
use Rattle.question_audit.proofs.UndefinedLemmas.{place_told}
use Rattle.question_audit.proofs.undefined.put_places.Goals as goal

pub loop-guard-init : goal.loop-guard-init
loop-guard-init g c = record { written = Stands-start _ _; own = c.requires.own }

pub loop-guard-preserved : goal.loop-guard-preserved
loop-guard-preserved g c =
    let place = place_told c.from.result (guard_node c.in-Some.guard).place (c.from.ensures ∙ c.place.ensures) c.put_place.ensures in
    record {
      written = past_piece _ _ _ _ _ _ _ (ap places_behind c.in-Some.ensures.found) c.loop-guard.invariant.written (c.put.ensures ⨾ place);
      own = c.next_undefined.ensures.own;
    }
