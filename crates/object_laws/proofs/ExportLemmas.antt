-- Objects of `export`, and those of `diff` that tell bytes, tell facts.
use Rattle.std.proofs.Common.{◌==◌, ℕ, ◌^◌, ◌<◌, ◌≤◌, false, List, [], ◌∷◌, length, take, Option, Some, None, IfSome, codes, refl, arith}
use Rattle.std.specs.List.{AllByRecursion, filter}
use Rattle.byteorder.specs.Endian.{little_number}
use Rattle.hii_bytes.specs.Numbers.{AreBytes, number_in}
use Rattle.ifr_opcodes.specs.Forest.{Node}
use Rattle.ifr_nodes.specs.Nodes.{is_store}
use Rattle.ifr_scopes.specs.Stores.{store_id}
use Rattle.audit_text.specs.Texts.{digits_of}
use Rattle.audit_json.specs.Objects.{text_member}
use Rattle.question_audit.specs.QuestionLines.{name_of, store_with}
use Rattle.image_audit.specs.Difference.{differing, run_object}
use Rattle.image_audit.specs.Export.{store_object}
use Rattle.image_audit.specs.Lines.{piece_object}
use Rattle.json_laws.specs.laws.Telling.{IsReadBack, TellsFacts}
use Rattle.json_laws.proofs.ListLemmas.{found_of, some_of}
use Rattle.json_laws.proofs.TellingLemmas.{read_back, tells_behind, tells_member, tells_text, tells_word}
use Rattle.json_laws.proofs.WordLemmas.{Bytes, all_bytes, are_bytes, bytes_are_text, bytes_take, bytes_word}
use Rattle.object_laws.proofs.CheckLemmas.{number_member_told}
use Rattle.object_laws.proofs.OpcodeLemmas.{number_small}
use Rattle.object_laws.proofs.StoreLemmas.{name_bytes_of}

abbrev HaveBytes : List Node → Type 0
HaveBytes ns = AllByRecursion (λ n. Bytes n.op) ns

name_bytes : (o : Option Node) → IfSome o (λ n. Bytes n.op) → Bytes (name_of o)
name_bytes None all = tt
name_bytes (Some store) all = name_bytes_of store.op all

all_nodes : (ns : List Node) → AllByRecursion (λ n. AreBytes n.op) ns → HaveBytes ns
all_nodes [] are = tt
all_nodes (n ∷ ns) are = (all_bytes n.op are.0, all_nodes ns are.1)

pub name_told : (ns : List Node) (id : ℕ) → AllByRecursion (λ n. AreBytes n.op) ns → TellsFacts (text_member (codes "name") (name_of (store_with ns id)))
name_told ns id are =
    let name = name_of (store_with ns id) in
    let all : Bytes name = name_bytes (store_with ns id) (found_of (λ (n : Node). Bytes n.op) (λ n. store_id n.op == id) (filter is_store ns) (some_of (λ (n : Node). Bytes n.op) is_store ns (all_nodes ns are))) in
    tells_member (codes "name") refl (tells_text name (bytes_are_text name (are_bytes name all)))

pub store_held_back : (ns : List Node) (id : ℕ) (bytes : List ℕ) → AllByRecursion (λ n. AreBytes n.op) ns → id < 2 ^ 64 → length bytes < 2 ^ 64
    → IsReadBack (codes "store") (store_object ns id bytes)
store_held_back ns id bytes are small size =
    read_back (codes "store") refl
    (tells_behind (tells_behind (number_member_told (codes "id") id refl small) (name_told ns id are)) (number_member_told (codes "size") (length bytes) refl size))

value_small : (bytes : List ℕ) → Bytes bytes → length bytes ≤ 8 → little_number (length bytes) bytes < 2 ^ 64
unfolding number_in
value_small bytes all few = number_small bytes (length bytes) all few

pub piece_back : (ns : List Node) (id store at : ℕ) (bytes : List ℕ) → AllByRecursion (λ n. AreBytes n.op) ns → id < 2 ^ 64 → at < 2 ^ 64 → AreBytes bytes → length bytes ≤ 8
    → IsReadBack (codes "set") (piece_object ns id store at bytes)
piece_back ns id store at bytes are small place bytes_are few =
    let size : length bytes < 2 ^ 64 = omega arith in
    read_back (codes "set") refl
    (tells_behind
    (tells_behind (tells_behind (tells_behind (number_member_told (codes "id") id refl small) (name_told ns store are)) (number_member_told (codes "offset") at refl place))
    (number_member_told (codes "width") (length bytes) refl size))
    (number_member_told (codes "value") (little_number (length bytes) bytes) refl (value_small bytes (all_bytes bytes bytes_are) few)))

pub run_back : (ns : List Node) (store at : ℕ) (xs ys : List ℕ) → AllByRecursion (λ n. AreBytes n.op) ns → store < 2 ^ 64 → at < 2 ^ 64 → AreBytes xs → AreBytes ys
    → IsReadBack (codes "bytes") (run_object ns store at xs ys)
run_back ns store at xs ys are small place xs_are ys_are =
    let width = differing xs ys in
    read_back (codes "bytes") refl
    (tells_behind
    (tells_behind (tells_behind (tells_behind (number_member_told (codes "store") store refl small) (name_told ns store are)) (number_member_told (codes "offset") at refl place))
    (tells_member (codes "old") refl (tells_word (digits_of false (take width xs)) (bytes_word false (take width xs) (are_bytes (take width xs) (bytes_take width xs (all_bytes xs xs_are)))))))
    (tells_member (codes "new") refl (tells_word (digits_of false (take width ys)) (bytes_word false (take width ys) (are_bytes (take width ys) (bytes_take width ys (all_bytes ys ys_are)))))))
