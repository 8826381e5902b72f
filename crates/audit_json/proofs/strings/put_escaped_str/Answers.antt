use Rattle.std.proofs.Common.{[], ◌∷◌, ◌++◌, subst, sym, ap, ◌∙◌, map-id}
use Rattle.std.proofs.lemmas.Iterator.{YieldsList-from_chars}
use Rattle.std.proofs.lemmas.Iterator.Consumers.{YieldsList-end}
use Rattle.std.proofs.lemmas.List.Concat.{flat_map-append}
use Rattle.std.proofs.lemmas.List.{append-nil}
use Rattle.hii_bytes.specs.Watching.{Writes}
use Rattle.hii_bytes.proofs.WritingLemmas.{writes_nil, writes_trans}
use Rattle.audit_json.specs.Json.{escaped, json_char}
use Rattle.audit_json.proofs.strings.put_escaped_str.Goals as goal

pub loop-c-init : goal.loop-c-init
loop-c-init g c = writes_nil _

pub loop-c-preserved : goal.loop-c-preserved
loop-c-preserved g c =
    let more = flat_map-append json_char c.loop-c.yielded (c.in-Some.c ∷ []) ∙ ap (λ l. escaped c.loop-c.yielded ++ l) (append-nil (json_char c.in-Some.c)) in
    subst (Writes _ _) (sym more) (writes_trans c.loop-c.invariant c.put_json_char.ensures)

pub returns : goal.returns
returns g c =
    let end = YieldsList-end (YieldsList-from_chars c.args.text.now c.utf8.text cc) c.loop-c.yielded _ c.loop-c.yielded_by _ _ c.in-None.is c.next.ensures.steps in
    subst (Writes _ _) (ap escaped (sym (map-id c.loop-c.yielded) ∙ end.0)) c.loop-c.invariant
