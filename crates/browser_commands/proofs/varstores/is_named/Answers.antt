use Rattle.std.proofs.Common.{◌≡◌, ◌∙◌, ◌&&◌, Bool, true, ℕ, List, sym, ap}
use Rattle.std.specs.Prelude.{Decides, is_some}
use Rattle.std.specs.Str.{bytes_eq}
use Rattle.std.proofs.lemmas.Bool.{and_from, and_parts}
use Rattle.std.proofs.lemmas.Bool.Decides.{same_from_decides}
use Rattle.std.proofs.lemmas.Slice.Eq.{bytes_eq-Decides}
use Rattle.browser_rules.specs.Configuration.{Header}
use Rattle.config_text.specs.code.Views.{header_view}
use Rattle.ifr_scopes.specs.Stores.{store_guid, store_name, store_size}
use Rattle.ifr_scopes.specs.code.Lists.{store_node}
use Rattle.browser_commands.proofs.varstores.is_named.Goals as goal

-- a header has three parts where each of them is its own
has_parts : (h : Header) (guid name path : List ℕ) → Decides (bytes_eq h.guid guid && (bytes_eq h.name name && bytes_eq h.path path)) (h ≡ record { guid = guid; name = name; path = path })
has_parts h guid name path = (
  λ e.
      let first = and_parts (bytes_eq h.guid guid) (bytes_eq h.name name && bytes_eq h.path path) e in
      let second = and_parts (bytes_eq h.name name) (bytes_eq h.path path) first.1 in
      let its_guid = (bytes_eq-Decides h.guid guid).0 first.0 in
      let its_name = (bytes_eq-Decides h.name name).0 second.0 in
      let its_path = (bytes_eq-Decides h.path path).0 second.1 in
      λ i. record { guid = its_guid i; name = its_name i; path = its_path i },
  λ e.
      and_from (bytes_eq h.guid guid) (bytes_eq h.name name && bytes_eq h.path path) ((bytes_eq-Decides h.guid guid).1 (ap (λ (n : Header). n.guid) e))
      (and_from (bytes_eq h.name name) (bytes_eq h.path path) ((bytes_eq-Decides h.name name).1 (ap (λ (n : Header). n.name) e)) ((bytes_eq-Decides h.path path).1 (ap (λ (n : Header). n.path) e))),
)

pub returns-then-is_some : goal.returns-then-is_some
returns-then-is_some c =
    let op = (store_node c.args.store).op in
    let h = header_view c.args.header in
    let some : is_some (store_size op) ≡ true = sym (c.is_some.ensures ∙ ap is_some c.size.ensures) ∙ c.if-is_some.true in
    let guid : c.bytes.result.now ≡ store_guid op = c.bytes.ensures.same ∙ c.guid.ensures in
    same_from_decides _ _ (rw (guid, c.name.ensures) at c.names.ensures) (has_parts h (store_guid op) (store_name op) c.args.path.now)
    ∙ sym (ap (λ (b : Bool). b && (bytes_eq h.guid (store_guid op) && (bytes_eq h.name (store_name op) && bytes_eq h.path c.args.path.now))) some)
