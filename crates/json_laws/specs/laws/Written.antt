-- Values as the members of objects of audits are written, and a line as facts.
use Rattle.std.specs.Prelude.{◌≡◌, ℕ, ◌^◌, ◌<◌, ◌==◌, ◌&&◌, nat_le, not, true, Bool, List, [], ◌∷◌, ◌++◌, codes, nat_abs, pos, ⊤}
use Rattle.std.specs.Fmt.{signed_decimal}
use Rattle.std.specs.List.{list_all}
use Rattle.std.specs.Str.{all_scalars}
use Rattle.hii_bytes.specs.Cause.{name_of, number_of}
use Rattle.hii_bytes.specs.declared.cause.Cause.{Cause}
use Rattle.hii_bytes.specs.declared.cause.Fault.{Fault}
use Rattle.audit_json.specs.Json.{json_text}
use Rattle.audit_json.specs.Objects.{first_member, inner_object, joined, member, object as object_line}
use Rattle.json_laws.specs.Reading.{Value, number, string, truth, array, object, Items, no_items, item, Facts, no_facts, fact}

abbrev mutual
  pub written : Value → List ℕ
  written (number n) = signed_decimal n
  written (string characters) = json_text characters
  written truth = codes "true"
  written (array values) = codes "[" ++ joined (each_written values) ++ codes "]"
  written (object members) = inner_object (inner_members members)

  pub each_written : Items → List (List ℕ)
  each_written no_items = []
  each_written (item value values) = written value ∷ each_written values

  pub inner_members : Facts → List ℕ
  inner_members no_facts = []
  inner_members (fact key value members) = first_member key (written value) ++ told members

  -- members behind others
  pub told : Facts → List ℕ
  told no_facts = []
  told (fact key value members) = member key (written value) ++ told members

-- the values of a list
abbrev pub items_of : List Value → Items
items_of [] = no_items
items_of (value ∷ values) = item value (items_of values)

-- a fact alone, and facts behind others
abbrev pub alone : List ℕ → Value → Facts
alone key value = fact key value no_facts

abbrev pub behind : Facts → Facts → Facts
behind no_facts others = others
behind (fact key value members) others = fact key value (behind members others)

-- ---- a line, which is an object of a kind, and what it says

abbrev pub line_of : List ℕ → Facts → List ℕ
line_of kind members = object_line kind (told members)

abbrev pub said_by : List ℕ → Facts → Value
said_by kind members = object (fact (codes "kind") (string kind) members)

-- a cause, and a fault at a place
abbrev pub cause_facts : Cause → Facts
cause_facts cause = fact (codes "cause") (number (pos (number_of cause))) (alone (codes "name") (string (name_of cause)))

abbrev pub fault_facts : Fault → Facts
fault_facts fault = behind (cause_facts fault.cause) (alone (codes "at") (number (pos fault.place)))

-- ---- what can be told

-- a word has printable characters of ASCII alone, of which none is escaped
abbrev pub is_plain : ℕ → Bool
is_plain c = nat_le 0x20 c && nat_le c 0x7E && not (c == 34) && not (c == 92)

abbrev pub IsWord : List ℕ → Type 0
IsWord word = list_all is_plain word ≡ true

-- Numbers have 64 bits, texts are characters, and names are words.
abbrev mutual
  pub CanBeTold : Value → Type 0
  CanBeTold (number n) = nat_abs n < 2 ^ 64
  CanBeTold (string characters) = all_scalars characters ≡ true
  CanBeTold truth = ⊤
  CanBeTold (array values) = EachCanBeTold values
  CanBeTold (object members) = FactsCanBeTold members

  pub EachCanBeTold : Items → Type 0
  EachCanBeTold no_items = ⊤
  EachCanBeTold (item value values) = CanBeTold value × EachCanBeTold values

  pub FactsCanBeTold : Facts → Type 0
  FactsCanBeTold no_facts = ⊤
  FactsCanBeTold (fact key value members) = IsWord key × CanBeTold value × FactsCanBeTold members
