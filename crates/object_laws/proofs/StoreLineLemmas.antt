-- Lines of `image`, `export` and `diff` stay one line.
use Rattle.std.proofs.Common.{ℕ, false, List, length, take, Option, Some, None, option_map, chars, string_bytes, codes, refl}
use Rattle.std.proofs.lemmas.Str.{IsUtf8-string_bytes, scalars-chars}
use Rattle.hii_bytes.specs.Numbers.{AreBytes}
use Rattle.ifr_opcodes.specs.Fields.{question_id}
use Rattle.ifr_opcodes.specs.Forest.{Node}
use Rattle.ifr_scopes.specs.Stores.{store_id, store_name}
use Rattle.guard_policy.specs.Policy.{fixed}
use Rattle.laid_defaults.specs.Laying.{Laid}
use Rattle.audit_text.specs.Texts.{digits_of}
use Rattle.store_audit.specs.Defaulted.{count_line}
use Rattle.store_audit.specs.Fillings.{alias_text, count_from, filled_line, names_text, reason, refused_line, source_text, wanted_of}
use Rattle.store_audit.specs.declared.fillings.Source.{Source}
use Rattle.store_audit.specs.declared.fillings.Source.TheVariants.{File, Config, Zeros, Missing}
use Rattle.question_audit.specs.Audited.{Audited}
use Rattle.question_audit.specs.QuestionLines.{name_of, store_with}
use Rattle.image_audit.specs.Difference.{differing, run_line, value_line, verdict_line, verdict_text}
use Rattle.image_audit.specs.Export.{store_line}
use Rattle.image_audit.specs.Lines.{number_text, piece_line}
use Rattle.json_laws.proofs.WordLemmas.{all_bytes, are_bytes, bytes_take, bytes_word}
use Rattle.object_laws.specs.laws.Differences.{CanTellValue}
use Rattle.object_laws.specs.laws.Lines.{IsLine, IsSafe}
use Rattle.object_laws.specs.laws.Questions.{ShowsTexts}
use Rattle.object_laws.proofs.DifferenceLemmas.{verdict_word}
use Rattle.object_laws.proofs.FactLineLemmas.{prompt_safe}
use Rattle.object_laws.proofs.LineLemmas.{decimal_safe}
use Rattle.object_laws.proofs.QuestionLineLemmas.{field_safe, value_safe}
use Rattle.object_laws.proofs.SafeLemmas.{line_closed, line_safe, safe_behind, safe_nothing, store_name_safe, text_safe, word_safe}
use Rattle.object_laws.proofs.StoreLemmas.{reason_word}
use Rattle.object_laws.proofs.UnlockLemmas.{number_word}

-- ---- what stores are filled with

names_safe : (n : Node) → IsSafe (names_text n)
names_safe n = safe_behind (safe_behind (decimal_safe (store_id n.op)) (word_safe (codes " ") refl)) (store_name_safe (store_name n.op))

alias_safe : (o : Option (List ℕ)) → IsSafe (alias_text o)
alias_safe None = safe_nothing
alias_safe (Some name) = safe_behind (word_safe (codes ", where its name is ") refl) (store_name_safe name)

source_safe : (source : Source) → IsSafe (source_text source)
source_safe (File path bytes is_variable) = text_safe (chars (string_bytes path)) (scalars-chars (string_bytes path) (IsUtf8-string_bytes path))
source_safe (Config given) = safe_behind (word_safe (codes "config") refl) (alias_safe (option_map (λ name. name.items) given.alias))
source_safe Zeros = word_safe (codes "zeros") refl
source_safe Missing = word_safe (codes "-") refl

pub filled_is_line : (n : Node) (source : Source) → IsLine (filled_line n source)
filled_is_line n source =
    let space : IsSafe (codes " ") = word_safe (codes " ") refl in
    line_safe (safe_behind (safe_behind (safe_behind (safe_behind (safe_behind (word_safe (codes "STORE ") refl) (names_safe n)) space) (decimal_safe (count_from (wanted_of n) source))) space) (source_safe source))

pub unfit_is_line : (n : Node) (source : Source) → IsLine (refused_line n source)
unfit_is_line n source = line_safe (safe_behind (safe_behind (word_safe (codes "store ") refl) (names_safe n)) (word_safe (reason n source) (reason_word n source)))

pub count_is_line : (laid : Laid) (class : ℕ) → IsLine (count_line laid class)
count_is_line laid class = line_safe (safe_behind (safe_behind (safe_behind (word_safe (codes "DEFAULTS ") refl) (decimal_safe laid.count)) (word_safe (codes " of class ") refl)) (decimal_safe class))

-- ---- what stores hold

pub held_is_line : (ns : List Node) (id : ℕ) (bytes : List ℕ) → IsLine (store_line ns id bytes)
held_is_line ns id bytes =
    let space : IsSafe (codes " ") = word_safe (codes " ") refl in
    line_safe
    (safe_behind (safe_behind (safe_behind (safe_behind (safe_behind (word_safe (codes "STORE ") refl) (decimal_safe id)) space) (store_name_safe (name_of (store_with ns id)))) space) (decimal_safe (length bytes)))

pub piece_is_line : (ns : List Node) (store at : ℕ) (bytes : List ℕ) → AreBytes bytes → IsLine (piece_line ns store at bytes)
piece_is_line ns store at bytes are =
    line_safe (safe_behind (safe_behind (field_safe ns record { store = store; offset = at; width = length bytes }) (word_safe (codes "=") refl)) (word_safe (number_text bytes) (number_word bytes are)))

-- ---- what another image holds otherwise

first_safe : (width : ℕ) (bytes : List ℕ) → AreBytes bytes → IsSafe (digits_of false (take width bytes))
first_safe width bytes are = word_safe (digits_of false (take width bytes)) (bytes_word false (take width bytes) (are_bytes (take width bytes) (bytes_take width bytes (all_bytes bytes are))))

pub run_is_line : (ns : List Node) (store at : ℕ) (xs ys : List ℕ) → AreBytes xs → AreBytes ys → IsLine (run_line ns store at xs ys)
run_is_line ns store at xs ys xs_are ys_are =
    let width = differing xs ys in
    line_safe
    (safe_behind
    (safe_behind (safe_behind (safe_behind (safe_behind (word_safe (codes "BYTES ") refl) (field_safe ns record { store = store; offset = at; width = width })) (word_safe (codes " ") refl)) (first_safe width xs xs_are))
    (word_safe (codes " -> ") refl))
    (first_safe width ys ys_are))

pub value_is_line : (a b : Audited) (n : Node) → CanTellValue a.texts a.world a.stores n → CanTellValue b.texts b.world b.stores n → IsLine (value_line a b n)
value_is_line a b n old new =
    line_closed (codes "]")
    (safe_behind
    (safe_behind
    (safe_behind
    (safe_behind
    (safe_behind (safe_behind (safe_behind (word_safe (codes "VALUE ") refl) (decimal_safe (question_id n.op))) (word_safe (codes " ") refl)) (prompt_safe a n old.shows old.bytes))
    (word_safe (codes " [") refl))
    (value_safe a n old))
    (word_safe (codes "] -> [") refl))
    (value_safe b n new))
    (word_safe (codes "]") refl)

pub verdict_is_line : (a b : Audited) (n : Node) → ShowsTexts a.texts → AreBytes n.op → IsLine (verdict_line a b n)
verdict_is_line a b n shows are =
    line_safe
    (safe_behind
    (safe_behind
    (safe_behind
    (safe_behind
    (safe_behind
    (safe_behind (safe_behind (word_safe (codes "VERDICT ") refl) (decimal_safe (question_id n.op))) (word_safe (codes " [") refl))
    (word_safe (verdict_text (fixed a.world n)) (verdict_word (fixed a.world n))))
    (word_safe (codes " -> ") refl))
    (word_safe (verdict_text (fixed b.world n)) (verdict_word (fixed b.world n))))
    (word_safe (codes "] ") refl))
    (prompt_safe a n shows are))
