use Rattle.std.proofs.Common.{◌≡◌, ◌==◌, ◌∙◌, ◌∷◌, ap, codes, drop, false, rules, slice_index, take, true}
use Rattle.std.specs.Str.{bytes_eq}
use Rattle.std.specs.Str.Parse.{without_leading_plus}
use Rattle.audit_options.specs.Ids.{small_number}
use Rattle.audit_options.proofs.IdLemmas.{begins_not, parsed_small}
use Rattle.audit_options.proofs.ids.id_in.Goals as goal

pub returns-in-Some-2 : goal.returns-in-Some-2
returns-in-Some-2 c =
    let digits = c.in-Some.digits.now in
    let unsigned : (slice_index digits 0 == 43) ≡ false = search rules in
    let read = rw unsigned at (parsed_small 16 (without_leading_plus digits) c.from_str_radix.result c.from_str_radix.ensures.value) in
    let cases = c.in-Some.ensures.cases in
    let text : c.args.text.now ≡ 48 ∷ 120 ∷ drop 2 c.args.text.now = rw cases.1.0 at cases.1.1 in
    let behind : digits ≡ drop 2 c.args.text.now = rw cases.1.0 at cases.2 in
    let hex : bytes_eq (take 2 c.args.text.now) (codes "0x") ≡ true = ap (λ t. bytes_eq (take 2 t) (codes "0x")) text in
    rw hex (c.ok.ensures.value ∙ read ∙ ap (small_number 16) behind)

pub returns-in-None : goal.returns-in-None
returns-in-None c =
    let read = parsed_small 10 (without_leading_plus c.args.text.now) c.parse.result c.parse.ensures.value.0 in
    let decimal = begins_not c.args.text.now (codes "0x") c.in-None.ensures.cases in
    rw decimal (c.ok-in-None.ensures.value ∙ read)
