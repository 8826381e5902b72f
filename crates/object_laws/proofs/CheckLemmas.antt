-- Objects of `check` tell facts.
use Rattle.std.proofs.Common.{◌≡◌, ℕ, ◌^◌, ◌<◌, true, false, List, [], ◌++◌, Option, codes, refl, arith}
use Rattle.std.specs.Str.{all_scalars}
use Rattle.std.proofs.lemmas.Bool.{cond_both}
use Rattle.browser_rules.specs.Opcodes.{number}
use Rattle.browser_rules.specs.Packages.{Package}
use Rattle.browser_rules.specs.Strings.{Spoken}
use Rattle.hii_bytes.specs.Numbers.{AreBytes}
use Rattle.hii_bytes.specs.declared.cause.Cause.{Cause}
use Rattle.hii_bytes.specs.Cause.{name_of, number_of}
use Rattle.hii_bytes.specs.declared.cause.Cause.TheVariants.{NoForms, OpOutside}
use Rattle.hii_bytes.specs.declared.cause.Fault.{Fault}
use Rattle.ifr_opcodes.specs.Fields.{form_set_guid, form_set_title}
use Rattle.audit_text.specs.Texts.{digits_of, guid_text}
use Rattle.audit_json.specs.Objects.{cause_members, guid_member, number_member}
use Rattle.dump_audit.specs.Contents.{begins_with_form_set, opcodes_of}
use Rattle.opcode_audit.specs.Words.{name_or_number}
use Rattle.check_audit.specs.Lines.{Setting, also_object, byte_object, form_set_members, head_object, mostly_object, opcode_object, text_of}
use Rattle.check_audit.specs.Mostly.{is_guid, mostly_at, mostly_of}
use Rattle.json_laws.specs.laws.Telling.{IsReadBack, TellsFacts}
use Rattle.json_laws.specs.laws.Written.{IsWord}
use Rattle.json_laws.proofs.ObjectLemmas.{fault_can}
use Rattle.json_laws.proofs.TellingLemmas.{read_back, tells_behind, tells_member, tells_nothing, tells_number, tells_text, tells_word}
use Rattle.json_laws.proofs.WordLemmas.{all_bytes, are_bytes, bytes_drop, bytes_word, guid_word}
use Rattle.object_laws.proofs.OpcodeLemmas.{name_word}
use Rattle.object_laws.proofs.SplitLemmas.{guid_bytes, title_small}

-- ---- words

cause_word : (cause : Cause) → IsWord (mostly_of cause)
cause_word NoForms = refl
cause_word _ = refl

pub mostly_word : (cause : Cause) (op : Option (List ℕ)) → IsWord (mostly_at cause op)
mostly_word OpOutside op = cond_both (is_guid op) _ (mostly_of OpOutside) IsWord (λ _. refl) (λ _. refl)
mostly_word cause op = cause_word cause

-- ---- a forms package

-- the GUID of the form set with which a forms package begins
pub guid_member_told : (p : Package) → AreBytes p.bytes → TellsFacts (guid_member (codes "guid") (form_set_guid (opcodes_of p)))
guid_member_told p are =
    let guid = form_set_guid (opcodes_of p) in
    tells_member (codes "guid") refl (tells_word (guid_text true guid) (guid_word true guid (are_bytes guid (guid_bytes (opcodes_of p) (bytes_drop 4 p.bytes (all_bytes p.bytes are))))))

pub set_told : (spoken : List Spoken) (p : Package) → AreBytes p.bytes → ((id : ℕ) → id < 2 ^ 64 → all_scalars (text_of spoken id) ≡ true) → TellsFacts (form_set_members spoken p)
set_told spoken p are shows =
    let op = opcodes_of p in
    let all = bytes_drop 4 p.bytes (all_bytes p.bytes are) in
    cond_both (begins_with_form_set p) _ [] TellsFacts
    (λ _. tells_behind (guid_member_told p are) (tells_member (codes "title") refl (tells_text (text_of spoken (form_set_title op)) (shows (form_set_title op) (title_small op all)))))
    (λ _. tells_nothing)

pub number_member_told : (key : List ℕ) (n : ℕ) → IsWord key → n < 2 ^ 64 → TellsFacts (number_member key n)
number_member_told key n plain small = tells_member key plain (tells_number n small)

pub head_back : (s : Setting) (n : ℕ) (p : Package) → n < 2 ^ 64 → s.base < 2 ^ 64 → AreBytes p.bytes
    → ((id : ℕ) → id < 2 ^ 64 → all_scalars (text_of s.spoken id) ≡ true) → IsReadBack (codes "forms") (head_object s n p)
head_back s n p small base are shows =
    read_back (codes "forms") refl
    (tells_behind (tells_behind (number_member_told (codes "package") n refl small) (number_member_told (codes "at") s.base refl base)) (set_told s.spoken p are shows))

-- ---- a fault

pub byte_back : (byte : ℕ) → byte < 2 ^ 64 → IsReadBack (codes "byte") (byte_object byte)
byte_back byte small = read_back (codes "byte") refl (number_member_told (codes "byte") byte refl small)

pub opcode_at_back : (op : List ℕ) → AreBytes op → IsReadBack (codes "opcode") (opcode_object op)
opcode_at_back op are =
    let first : number op < 256 = are 0 in
    read_back (codes "opcode") refl
    (tells_behind (tells_behind (tells_member (codes "opcode") refl (tells_word (name_or_number (number op)) (name_word (number op) first)))
    (number_member_told (codes "code") (number op) refl (omega arith)))
    (tells_member (codes "bytes") refl (tells_word (digits_of false op) (bytes_word false op are))))

pub mostly_back : (cause : Cause) (op : Option (List ℕ)) → IsReadBack (codes "mostly") (mostly_object (mostly_at cause op))
mostly_back cause op = read_back (codes "mostly") refl (tells_member (codes "text") refl (tells_word (mostly_at cause op) (mostly_word cause op)))

-- a fault with its place
place_told : (fault : Fault) → fault.place < 2 ^ 64 → TellsFacts (cause_members fault.cause ++ number_member (codes "at") fault.place)
place_told fault place =
    let can = fault_can fault place in
    tells_behind
    (tells_behind (number_member_told (codes "cause") (number_of fault.cause) refl can.1) (tells_member (codes "name") refl (tells_text (name_of fault.cause) can.2.1)))
    (number_member_told (codes "at") fault.place refl place)

pub also_back : (fault : Fault) (byte : ℕ) → fault.place < 2 ^ 64 → byte < 2 ^ 64 → IsReadBack (codes "also") (also_object fault byte)
also_back fault byte place small = read_back (codes "also") refl (tells_behind (place_told fault place) (number_member_told (codes "byte") byte refl small))
