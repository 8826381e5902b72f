use Rattle.std.proofs.Common.{ap}
use Rattle.std.specs.List.{flat_map}
use Rattle.hii_bytes.proofs.WritingLemmas.{◌⨾◌, Stands-all, past_piece}
use Rattle.hii_languages.specs.code.Views.{chars_left}
use Rattle.audit_json.specs.Json.{json_char}
use Rattle.audit_json.proofs.strings.put_json_shown.Goals as goal

pub loop-c-preserved : goal.loop-c-preserved
loop-c-preserved g c =
    past_piece _ _ _ _ _ (json_char c.in-Some.c) (flat_map json_char (chars_left c.next.new.self)) (ap (flat_map json_char) c.in-Some.ensures.steps) c.loop-c.invariant c.put_json_char.ensures

pub returns : goal.returns
returns g c = Stands-all _ _ _ _ c.loop-c.invariant (ap (flat_map json_char) c.in_default.ensures.steps.0) ⨾ c.put-2.ensures
