-- Values and lines, read back.
use Rattle.std.proofs.Common.{◌≡◌, ℤ, pos, nat_abs, ℕ, ◌+◌, ◌^◌, ◌<◌, true, List, [], ◌∷◌, ◌++◌, length, map, Option, Some, None, decimal, codes, option_and_then, refl, sym, ap, ap₂, ◌∙◌, arith, append_assoc, append-nil, length-append}
use Rattle.std.specs.Fmt.{signed_decimal}
use Rattle.std.specs.List.{AllByRecursion}
use Rattle.std.specs.Str.{all_scalars, chars, is_utf8}
use Rattle.std.proofs.lemmas.Bool.{cond-true}
use Rattle.std.proofs.lemmas.Str.{chars-encodes, is_utf8-from_IsUtf8}
use Rattle.audit_json.specs.Json.{escaped, json_text}
use Rattle.audit_text.specs.Texts.{guid_text}
use Rattle.hii_bytes.specs.Cause.{name_of, number_of}
use Rattle.hii_bytes.specs.Numbers.{AreBytes}
use Rattle.hii_bytes.specs.declared.cause.Cause.{Cause}
use Rattle.hii_bytes.specs.declared.cause.Cause.TheVariants.{OutOfMemory}
use Rattle.hii_bytes.specs.declared.cause.Fault.{Fault}
use Rattle.audit_json.specs.Objects.{array_member, cause_members, error_object, fault_member, first_member, guid_member, inner_object, joined, member, member_key, number_member, object as object_line, object_kind, quoted, refused_at_object, refused_object, text_member, true_member, word_member}
use Rattle.json_laws.specs.Reading.{Value, number, string, truth, array, object, Items, no_items, item, Facts, no_facts, fact, all, bind, decoded, done, if_last, is_space, json, repeated, then_read}
use Rattle.json_laws.specs.laws.Written.{CanBeTold, EachCanBeTold, IsWord, FactsCanBeTold, each_written, inner_members, alone, behind, cause_facts, fault_facts, items_of, line_of, said_by, told, written}
use Rattle.json_laws.proofs.NumberLemmas.{NoDigit}
use Rattle.json_laws.proofs.ValueLemmas.{read_value, spelled}
use Rattle.json_laws.proofs.WordLemmas.{guid_word, word_escaped, word_is_quoted, word_is_text}
use Rattle.json_laws.proofs.SpellingLemmas.{Spells, low_char, spelled_behind, value_spelled}

in_utf8 : {cs bs : List ℕ} → Spells cs bs → decoded bs ≡ json cs
in_utf8 {cs} {bs} s =
    cond-true (is_utf8 bs) (json (chars bs)) None (is_utf8-from_IsUtf8 bs (cs, (s.scalars, s.same)))
    ∙ ap (λ (l : List ℕ). json (chars l)) (sym s.same) ∙ ap json (chars-encodes cs s.scalars)

-- the last value of a text
last_read : (v : Value) (t : List ℕ) → CanBeTold v → NoDigit t → option_and_then if_last (then_read (all is_space) (λ _. done v) t) ≡ Some v → json (spelled v ++ t) ≡ Some v
last_read v t can none last =
    let whole : length (spelled v ++ t) ≡ length (spelled v) + length t = length-append (spelled v) t in
    ap (λ (o : Option (Value × List ℕ)). option_and_then if_last (bind o λ v. then_read (all is_space) λ _. done v)) (read_value v (length (spelled v ++ t)) t can none (omega arith)) ∙ last

pub value_back : (v : Value) → CanBeTold v → decoded (written v) ≡ Some v
unfolding repeated
value_back v can = in_utf8 (value_spelled v can) ∙ ap json (sym (append-nil (spelled v))) ∙ last_read v [] can refl refl

line_back : (v : Value) → CanBeTold v → decoded (written v ++ codes "\n") ≡ Some v
unfolding repeated
line_back v can = in_utf8 (spelled_behind (value_spelled v can) (low_char 10 (omega arith))) ∙ last_read v (10 ∷ []) can refl refl

pub text_back : (cs : List ℕ) → all_scalars cs ≡ true → decoded (json_text cs) ≡ Some (string cs)
text_back cs scalars = value_back (string cs) scalars

pub number_back : (n : ℕ) → n < 2 ^ 64 → decoded (decimal n) ≡ Some (number (pos n))
number_back n small = value_back (number (pos n)) small

pub signed_back : (z : ℤ) → nat_abs z < 2 ^ 64 → decoded (signed_decimal z) ≡ Some (number z)
signed_back z small = value_back (number z) small

-- ---- objects

line_bytes : (word members : List ℕ) → codes "{\"kind\":\"" ++ word ++ codes "\"" ++ members ++ codes "}\n"
    ≡ inner_object ((codes "\"kind\":" ++ (34 ∷ (word ++ 34 ∷ []))) ++ members) ++ codes "\n"
line_bytes word members = simp append_assoc

line_is : (kind : List ℕ) (members : Facts) → IsWord kind → line_of kind members ≡ written (said_by kind members) ++ codes "\n"
line_is kind members plain =
    line_bytes kind (told members)
    ∙ ap (λ (l : List ℕ). inner_object ((codes "\"kind\":" ++ (34 ∷ (l ++ 34 ∷ []))) ++ told members) ++ codes "\n") (sym (word_escaped kind plain))

pub object_back : (kind : List ℕ) (members : Facts) → IsWord kind → FactsCanBeTold members → decoded (line_of kind members) ≡ Some (said_by kind members)
object_back kind members plain can =
    ap decoded (line_is kind members plain) ∙ line_back (said_by kind members) (refl, word_is_text kind plain, can)

-- ---- other facts, other lines

pub same_value : (v w : Value) → CanBeTold v → CanBeTold w → written v ≡ written w → v ≡ w
same_value v w one other same =
    let both : Some v ≡ Some w = sym (value_back v one) ∙ ap decoded same ∙ value_back w other in
    cc

pub same_facts : (kind word : List ℕ) (members others : Facts) → IsWord kind → IsWord word → FactsCanBeTold members → FactsCanBeTold others
    → line_of kind members ≡ line_of word others → (kind ≡ word) × (members ≡ others)
same_facts kind word members others plain other can could same =
    let both : Some (said_by kind members) ≡ Some (said_by word others) = sym (object_back kind members plain can) ∙ ap decoded same ∙ object_back word others other could in
    (cc, cc)

-- ---- members

pub word_told : (key w : List ℕ) → IsWord w → word_member key w ≡ told (alone key (string w))
word_told key w plain = ap (member key) (word_is_quoted w plain) ∙ sym (append-nil (member key (json_text w)))

pub guid_told : (key guid : List ℕ) → AreBytes guid → guid_member key guid ≡ told (alone key (string (guid_text true guid)))
guid_told key guid are = word_told key (guid_text true guid) (guid_word true guid are)

pub told_behind : (members others : Facts) → told (behind members others) ≡ told members ++ told others
told_behind no_facts others = refl
told_behind (fact key v members) others =
    ap (λ (l : List ℕ). member key (written v) ++ l) (told_behind members others) ∙ sym (append_assoc (member key (written v)) (told members) (told others))

pub can_behind : (members others : Facts) → FactsCanBeTold members → FactsCanBeTold others → FactsCanBeTold (behind members others)
can_behind no_facts others can too = too
can_behind (fact key v members) others can too = (can.0, can.1, can_behind members others can.2 too)

pub array_told : (key : List ℕ) (v : Value) (values : Items) → array_member key (each_written (item v values)) ≡ told (alone key (array (item v values)))
array_told key v values =
    let inside = joined (each_written (item v values)) in
    append_assoc (member_key key ++ codes "[") inside (codes "]") ∙ append_assoc (member_key key) (codes "[") (inside ++ codes "]")
    ∙ sym (append-nil (member key (written (array (item v values)))))

pub number_told : (key : List ℕ) (n : ℕ) → number_member key n ≡ told (alone key (number (pos n)))
number_told key n = sym (append-nil (number_member key n))

pub text_told : (key characters : List ℕ) → text_member key characters ≡ told (alone key (string characters))
text_told key characters = sym (append-nil (text_member key characters))

pub member_told : (key : List ℕ) (v : Value) → member key (written v) ≡ told (alone key v)
member_told key v = sym (append-nil (member key (written v)))

pub truth_told : (key : List ℕ) → true_member key ≡ told (alone key truth)
truth_told key = member_told key truth

pub no_array_told : (key : List ℕ) → array_member key (each_written no_items) ≡ told no_facts
no_array_told key = refl

pub inner_told : (key : List ℕ) (v : Value) (members : Facts) → inner_object (first_member key (written v) ++ told members) ≡ written (object (fact key v members))
inner_told key v members = refl

pub members_told : (members others : Facts) → told members ++ told others ≡ told (behind members others)
members_told members others = sym (told_behind members others)

pub items_written : (values : List Value) → each_written (items_of values) ≡ map written values
items_written [] = refl
items_written (v ∷ values) = ap (λ (l : List (List ℕ)). written v ∷ l) (items_written values)

pub items_can : (values : List Value) → AllByRecursion CanBeTold values → EachCanBeTold (items_of values)
items_can [] can = tt
items_can (v ∷ values) can = (can.0, items_can values can.1)

pub behind_comma : (key : List ℕ) (v : Value) (members : Facts) → codes "," ++ inner_members (fact key v members) ≡ told (fact key v members)
behind_comma key v members = refl

-- ---- objects that are written in parts

grouped : (front key text : List ℕ) → front ++ key ++ 34 ∷ [] ++ text ++ 34 ∷ 125 ∷ 10 ∷ [] ≡ front ++ (key ++ 34 ∷ (text ++ 34 ∷ [])) ++ 125 ∷ 10 ∷ []
grouped front key text = simp append_assoc

parts_bytes : (kind key text : List ℕ) → object_kind kind ++ member_key key ++ codes "\"" ++ text ++ codes "\"}\n" ≡ object_line kind (member key (quoted text))
parts_bytes kind key text = grouped (object_kind kind) (member_key key) text

pub parts_told : (kind key characters : List ℕ) → object_kind kind ++ member_key key ++ codes "\"" ++ escaped characters ++ codes "\"}\n" ≡ line_of kind (alone key (string characters))
parts_told kind key characters = parts_bytes kind key (escaped characters) ∙ ap (object_line kind) (text_told key characters)

-- ---- refusals

pub fault_told : (key : List ℕ) (fault : Fault) → fault_member key fault ≡ told (alone key (object (fault_facts fault)))
fault_told key fault =
    let first = first_member (codes "cause") (decimal (number_of fault.cause)) in
    let name = text_member (codes "name") (name_of fault.cause) in
    let at = number_member (codes "at") fault.place in
    ap (λ (l : List ℕ). member key (inner_object l)) (append_assoc first name at ∙ ap (λ (l : List ℕ). first ++ (name ++ l)) (sym (append-nil at)))
    ∙ member_told key (object (fault_facts fault))

named_so : (cause : Cause) → (IsWord (name_of cause)) × (number_of cause < 2 ^ 64)
named_so OutOfMemory = (refl, omega arith)
named_so _ = (refl, omega arith)

cause_can : (cause : Cause) → FactsCanBeTold (cause_facts cause)
cause_can cause = let it = named_so cause in (refl, it.1, (refl, word_is_text (name_of cause) it.0, tt))

pub fault_can : (fault : Fault) → fault.place < 2 ^ 64 → FactsCanBeTold (fault_facts fault)
fault_can fault place = can_behind (cause_facts fault.cause) (alone (codes "at") (number (pos fault.place))) (cause_can fault.cause) (refl, place, tt)

pub error_back : (line : List ℕ) → all_scalars line ≡ true → decoded (error_object line) ≡ Some (said_by (codes "error") (alone (codes "text") (string line)))
error_back line scalars =
    ap (λ (l : List ℕ). decoded (object_line (codes "error") l)) (text_told (codes "text") line)
    ∙ object_back (codes "error") (alone (codes "text") (string line)) refl (refl, scalars, tt)

cause_told : (cause : Cause) → cause_members cause ≡ told (cause_facts cause)
cause_told cause = ap (λ (l : List ℕ). number_member (codes "cause") (number_of cause) ++ l) (text_told (codes "name") (name_of cause))

pub refused_back : (cause : Cause) → decoded (refused_object cause) ≡ Some (said_by (codes "refused") (cause_facts cause))
refused_back cause =
    ap (λ (l : List ℕ). decoded (object_line (codes "refused") l)) (cause_told cause) ∙ object_back (codes "refused") (cause_facts cause) refl (cause_can cause)

pub refused_at_back : (fault : Fault) → fault.place < 2 ^ 64 → decoded (refused_at_object fault) ≡ Some (said_by (codes "refused") (fault_facts fault))
refused_at_back fault place =
    let at = alone (codes "at") (number (pos fault.place)) in
    ap (λ (l : List ℕ). decoded (object_line (codes "refused") l))
    (ap₂ (λ (l m : List ℕ). l ++ m) (cause_told fault.cause) (number_told (codes "at") fault.place) ∙ sym (told_behind (cause_facts fault.cause) at))
    ∙ object_back (codes "refused") (fault_facts fault) refl (fault_can fault place)
