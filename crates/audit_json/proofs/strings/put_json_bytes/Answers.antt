use Rattle.std.proofs.Common.{◌+◌, drop, get_or}
use Rattle.std.specs.List.{flat_map}
use Rattle.std.proofs.lemmas.List.{at_drop_all, at_drop_more}
use Rattle.hii_bytes.proofs.WritingLemmas.{◌⨾◌, Stands-all, past_piece}
use Rattle.audit_json.specs.Json.{json_char}
use Rattle.audit_json.proofs.strings.put_json_bytes.Goals as goal

pub loop-byte-preserved : goal.loop-byte-preserved
loop-byte-preserved g c =
    let text = c.args.text.now in
    let i = c.loop-byte.byte-index in
    past_piece _ _ _ _ _ (json_char (get_or text i 0)) (flat_map json_char (drop (i + 1) text)) (at_drop_more (flat_map json_char) text i 0 c.loop-byte-test.true) c.loop-byte.invariant
    (rw c.from.ensures at c.put_json_char.ensures)

pub returns : goal.returns
returns g c = Stands-all _ _ _ _ c.loop-byte.invariant (at_drop_all (flat_map json_char) c.args.text.now c.loop-byte.byte-index c.loop-byte-test.false) ⨾ c.put-2.ensures
