use Rattle.std.proofs.Common.{◌≡◌, ◌∙◌, ◌++◌, Some, ap, codes, false, refl, subst, sym, string_bytes}
use Rattle.std.specs.List.{list_any}
use Rattle.std.specs.Str.{IsUtf8}
use Rattle.hii_bytes.specs.Numbers.{AreBytes}
use Rattle.ifr_scopes.specs.Stores.{store_guid, store_name}
use Rattle.ifr_scopes.specs.code.Lists.{store_node}
use Rattle.audit_text.specs.Texts.{guid_text}
use Rattle.store_commands.specs.Sources.{is_slash}
use Rattle.store_commands.proofs.SourceLemmas.{guid_is_text, no_path, path_is}
use Rattle.store_commands.proofs.sources.variable_path.Goals.{in_default-via-in-Ok+in_default, in_default-via-in_default}
use Rattle.store_commands.proofs.sources.variable_path.Goals as goal

pub returns-in_default : goal.returns-in_default
returns-in_default c =
    let n = store_node c.args.store in
    let bytes : AreBytes (store_guid n.op) = subst AreBytes (c.bytes.ensures.same ∙ c.guid-guid.ensures) c.are_bytes.ensures in
    let digits : c.as_slice.result.now ≡ guid_text false (store_guid n.op) = c.as_slice.ensures.value ∙ c.guid_digits-digits.ensures ∙ ap (guid_text false) c.guid-guid.ensures in
    elim c.in_default.branch [
      | in_default-via-in-Ok+in_default w ↦ absurd (w.in_default.ensures'.cases.0 (subst IsUtf8 (sym digits) (guid_is_text (store_guid n.op) bytes)))
      | in_default-via-in_default w ↦ no_path c.args.folder.now n (λ text. w.in_default.ensures.cases.0 (subst IsUtf8 (sym c.name.ensures) text))
    ]

pub returns : goal.returns
returns c =
    let n = store_node c.args.store in
    let digits : c.as_slice.result.now ≡ guid_text false (store_guid n.op) = c.as_slice.ensures.value ∙ c.guid_digits-digits.ensures ∙ ap (guid_text false) c.guid-guid.ensures in
    let named : c.in-Ok-Ok.name.now ≡ store_name n.op = c.in-Ok-Ok.ensures.cases.0 ∙ c.name.ensures in
    let text : IsUtf8 (store_name n.op) = subst IsUtf8 c.name.ensures c.in-Ok-Ok.ensures.cases.1 in
    let none : list_any is_slash (store_name n.op) ≡ false = subst (λ name. list_any is_slash name ≡ false) c.name-2.ensures (sym c.contains.ensures.value ∙ c.if-contains.false) in
    let path : string_bytes c.push_str-4.new.self ≡ c.args.folder.now ++ codes "/" ++ store_name n.op ++ codes "-" ++ guid_text false (store_guid n.op) =
    rw (c.in_ok-push_str-4.ensures.bytes, c.in_ok-push_str-3.ensures.bytes, c.in_ok-push_str-2.ensures.bytes, c.in_ok-push_str.ensures.bytes, c.in_ok-path.ensures.ok, named, c.in-Ok-Ok.ensures'.cases.0, digits) refl in
    ap (λ t. Some t) path ∙ sym (path_is c.args.folder.now n text none)
