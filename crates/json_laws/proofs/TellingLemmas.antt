-- What tells facts, part by part.
use Rattle.std.proofs.Common.{◌≡◌, ℤ, pos, nat_abs, ℕ, ◌^◌, ◌<◌, true, List, [], ◌∷◌, ◌++◌, map, decimal, codes, refl, sym, ap, ap₂, subst, ◌∙◌}
use Rattle.std.specs.Fmt.{signed_decimal}
use Rattle.std.specs.List.{AllByRecursion}
use Rattle.std.specs.Str.{all_scalars}
use Rattle.std.proofs.str.Laws.{scalars-append}
use Rattle.audit_json.specs.Json.{escaped, json_text}
use Rattle.audit_json.specs.Objects.{array_member, fault_member, first_member, inner_object, joined, member, object as object_line, quoted}
use Rattle.hii_bytes.specs.declared.cause.Fault.{Fault}
use Rattle.json_laws.specs.Reading.{Value, number, string, array, object, Items, no_items, item, no_facts, fact, decoded}
use Rattle.json_laws.specs.laws.Written.{CanBeTold, IsWord, alone, behind, each_written, fault_facts, line_of, written}
use Rattle.json_laws.specs.laws.Telling.{IsReadBack, SpellsText, TellsFacts, TellsValue, TellValues}
use Rattle.json_laws.proofs.ObjectLemmas.{array_told, can_behind, fault_can, fault_told, member_told, object_back, told_behind}
use Rattle.json_laws.proofs.WordLemmas.{escaped_behind, word_escaped, word_is_quoted, word_is_text}

-- ---- values

pub tells_value : (v : Value) → CanBeTold v → TellsValue (written v)
tells_value v can = record { value = v; good = can; same = refl }

pub tells_number : (n : ℕ) → n < 2 ^ 64 → TellsValue (decimal n)
tells_number n small = tells_value (number (pos n)) small

pub tells_integer : (n : ℤ) → nat_abs n < 2 ^ 64 → TellsValue (signed_decimal n)
tells_integer n small = tells_value (number n) small

pub tells_text : (characters : List ℕ) → all_scalars characters ≡ true → TellsValue (json_text characters)
tells_text characters scalars = tells_value (string characters) scalars

pub tells_word : (w : List ℕ) → IsWord w → TellsValue (quoted w)
tells_word w plain = record { value = string w; good = word_is_text w plain; same = word_is_quoted w plain }

-- ---- texts between quotation marks, piece by piece

pub spells_text : (characters : List ℕ) → all_scalars characters ≡ true → SpellsText (escaped characters)
spells_text characters scalars = record { characters = characters; good = scalars; same = refl }

pub spells_word : (w : List ℕ) → IsWord w → SpellsText w
spells_word w plain = record { characters = w; good = word_is_text w plain; same = sym (word_escaped w plain) }

pub spells_behind : {one other : List ℕ} → SpellsText one → SpellsText other → SpellsText (one ++ other)
spells_behind {one} {other} a b = record {
  characters = a.characters ++ b.characters;
  good = scalars-append a.characters b.characters a.good b.good;
  same = ap₂ (λ (l m : List ℕ). l ++ m) a.same b.same ∙ sym (escaped_behind a.characters b.characters);
}

pub tells_spelled : {spelled : List ℕ} → SpellsText spelled → TellsValue (quoted spelled)
tells_spelled {spelled} s = record { value = string s.characters; good = s.good; same = ap quoted s.same }

pub tell_none : TellValues []
tell_none = record { values = no_items; good = tt; same = refl }

pub tell_more : {text : List ℕ} {texts : List (List ℕ)} → TellsValue text → TellValues texts → TellValues (text ∷ texts)
tell_more {text} {texts} one others = record {
  values = item one.value others.values;
  good = (one.good, others.good);
  same = ap₂ (λ (l : List ℕ) (ls : List (List ℕ)). l ∷ ls) one.same others.same;
}

pub each_told : {X : Type 0} (P : X → Type 0) (f : X → List ℕ) (xs : List X) → ((x : X) → P x → TellsValue (f x)) → AllByRecursion P xs → TellValues (map f xs)
each_told P f [] one all = tell_none
each_told P f (x ∷ xs) one all = tell_more (one x all.0) (each_told P f xs one all.1)

pub tells_array : {texts : List (List ℕ)} → TellValues texts → TellsValue (codes "[" ++ joined texts ++ codes "]")
tells_array {texts} t = record {
  value = array t.values;
  good = t.good;
  same = ap (λ (ls : List (List ℕ)). codes "[" ++ joined ls ++ codes "]") t.same;
}

pub tells_inner : {text others : List ℕ} (key : List ℕ) → IsWord key → TellsValue text → TellsFacts others → TellsValue (inner_object (first_member key text ++ others))
tells_inner {text} {others} key plain one rest = record {
  value = object (fact key one.value rest.facts);
  good = (plain, one.good, rest.good);
  same = ap₂ (λ (l m : List ℕ). inner_object (first_member key l ++ m)) one.same rest.same;
}

-- ---- members

pub tells_nothing : TellsFacts []
tells_nothing = record { facts = no_facts; good = tt; same = refl }

pub tells_behind : {one other : List ℕ} → TellsFacts one → TellsFacts other → TellsFacts (one ++ other)
tells_behind {one} {other} a b = record {
  facts = behind a.facts b.facts;
  good = can_behind a.facts b.facts a.good b.good;
  same = ap₂ (λ (l m : List ℕ). l ++ m) a.same b.same ∙ sym (told_behind a.facts b.facts);
}

pub tells_member : {text : List ℕ} (key : List ℕ) → IsWord key → TellsValue text → TellsFacts (member key text)
tells_member {text} key plain t = record {
  facts = alone key t.value;
  good = (plain, t.good, tt);
  same = ap (λ (l : List ℕ). member key l) t.same ∙ member_told key t.value;
}

pub tells_array_member : {texts : List (List ℕ)} (key : List ℕ) → IsWord key → TellValues texts → TellsFacts (array_member key texts)
tells_array_member {texts} key plain t = by_values t.values t.good t.same
  where
    by_values : (values : Items) → CanBeTold (array values) → texts ≡ each_written values → TellsFacts (array_member key texts)
    by_values no_items good same = subst (λ (ls : List (List ℕ)). TellsFacts (array_member key ls)) (sym same) tells_nothing
    by_values (item v values) good same =
        subst (λ (ls : List (List ℕ)). TellsFacts (array_member key ls)) (sym same)
        (record { facts = alone key (array (item v values)); good = (plain, good, tt); same = array_told key v values })

pub tells_fault : (key : List ℕ) (fault : Fault) → IsWord key → fault.place < 2 ^ 64 → TellsFacts (fault_member key fault)
tells_fault key fault plain place = record { facts = alone key (object (fault_facts fault)); good = (plain, fault_can fault place, tt); same = fault_told key fault }

-- ---- objects

pub read_back : {members : List ℕ} (kind : List ℕ) → IsWord kind → TellsFacts members → IsReadBack kind (object_line kind members)
read_back {members} kind plain t =
    let same : object_line kind members ≡ line_of kind t.facts = ap (object_line kind) t.same in
    record { facts = t.facts; good = t.good; same = same; read = ap decoded same ∙ object_back kind t.facts plain t.good }
