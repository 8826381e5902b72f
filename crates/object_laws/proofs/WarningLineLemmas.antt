-- Lines in which `check` warns, and those of `survey`, stay one line.
use Rattle.std.proofs.Common.{◌||◌, not, ℕ, suc, Bool, true, false, List, [], ◌∷◌, ◌++◌, Option, Some, None, IfSome, map, slice_get, codes, refl}
use Rattle.std.specs.Fmt.{signed_decimal}
use Rattle.std.specs.List.{AllByRecursion}
use Rattle.std.proofs.lemmas.Bool.{cond_both}
use Rattle.browser_rules.specs.Strings.{Spoken}
use Rattle.hii_bytes.specs.Texts.{place_text}
use Rattle.ifr_opcodes.specs.Fields.{form_id}
use Rattle.ifr_opcodes.specs.Forest.{Node, node_at}
use Rattle.ifr_opcodes.specs.Opcode.{number}
use Rattle.ifr_nodes.specs.NodeExpressions.{expression_tree}
use Rattle.condition_text.specs.Senses.{sense}
use Rattle.condition_text.specs.Texts.{text}
use Rattle.hii_values.specs.declared.denial.DenialKind.{DenialKind}
use Rattle.hii_questions.specs.Fields.{Asked, Field, is_same_field, meets}
use Rattle.audit_text.specs.Words.{opcode_name}
use Rattle.check_audit.specs.Constants.{constant_at, constant_guards, holds_always}
use Rattle.check_audit.specs.GivenDefaults.{refused}
use Rattle.check_audit.specs.Lacks.{Lack, numbered_lacks}
use Rattle.check_audit.specs.Overlaps.{field_of_laid, laid_at, overlap_of}
use Rattle.check_audit.specs.WarningLines.{Details, bounds_text, constant_text, denial_word, lack_of, lack_text, overlap_text, textless_text, unreached_text, verdict_word, warning_line}
use Rattle.check_audit.specs.Warnings.{asking, is_textless, numbered_bounds, textless_at, unreached_at}
use Rattle.check_audit.proofs.EachLemmas.{Holds}
use Rattle.json_laws.specs.laws.Written.{IsWord}
use Rattle.json_laws.proofs.ConditionLemmas.{condition_word}
use Rattle.json_laws.proofs.WordLemmas.{opcode_word, signed_word}
use Rattle.object_laws.specs.laws.Lines.{IsLine, IsSafe}
use Rattle.object_laws.proofs.LineLemmas.{decimal_safe, place_safe}
use Rattle.object_laws.proofs.SafeLemmas.{language_safe, line_safe, safe_behind, safe_nothing, word_safe}
use Rattle.object_laws.proofs.WarningLemmas.{Span, denial_is_word}

warned_line : {text : List ℕ} (place : ℕ) (word : List ℕ) → IsWord word → IsSafe text → IsLine (codes "WARN " ++ place_text place ++ codes " " ++ word ++ codes " " ++ text ++ codes "\n")
warned_line place word plain safe =
    line_safe
    (safe_behind (safe_behind (safe_behind (safe_behind (safe_behind (word_safe (codes "WARN ") refl) (place_safe place)) (word_safe (codes " ") refl)) (word_safe word plain)) (word_safe (codes " ") refl)) safe)

-- ---- what is told behind a word

lack_safe : (is_there : Bool) → IsSafe (lack_of is_there)
lack_safe true = word_safe (codes ": it has no answer here") refl
lack_safe false = word_safe (codes ": no such question") refl

bounds_safe : (o : Option Span) → IsSafe (bounds_text o)
bounds_safe None = safe_nothing
bounds_safe (Some span) =
    safe_behind (safe_behind (word_safe (signed_decimal span.minimum) (signed_word span.minimum)) (word_safe (codes " is above ") refl)) (word_safe (signed_decimal span.maximum) (signed_word span.maximum))

holds_safe : (holds : Bool) → IsSafe (verdict_word holds)
holds_safe true = word_safe (codes " holds: ") refl
holds_safe false = word_safe (codes " does not hold: ") refl

constant_safe : (holds : Bool) (o : Option Node) → IsSafe (constant_text holds o)
constant_safe holds None = safe_nothing
constant_safe holds (Some g) =
    let said = sense (expression_tree g) in
    safe_behind (safe_behind (word_safe (opcode_name (number g.op)) (opcode_word (number g.op))) (holds_safe holds)) (word_safe (text said) (condition_word said))

shared_safe : (question other : ℕ) → IsSafe (overlap_text record { question = question; other = other })
shared_safe question other =
    safe_behind (safe_behind (safe_behind (word_safe (codes "question ") refl) (decimal_safe question)) (word_safe (codes " shares bytes with question ") refl)) (decimal_safe other)

textless_safe : (id : ℕ) → IsSafe (textless_text id)
textless_safe id = safe_behind (decimal_safe id) (word_safe (codes ": no text") refl)

unreached_safe : (form : ℕ) → IsSafe (unreached_text form)
unreached_safe form = safe_behind (word_safe (codes "no reference names form ") refl) (decimal_safe form)

lacking_safe : (o : Option Lack) → IsSafe (lack_text o)
lacking_safe None = safe_nothing
lacking_safe (Some lack) =
    safe_behind
    (safe_behind
    (safe_behind (safe_behind (safe_behind (safe_behind (language_safe lack.language) (word_safe (codes ": ") refl)) (decimal_safe lack.lacks)) (word_safe (codes " of ") refl)) (decimal_safe lack.texts))
    (word_safe (codes " texts are those of ") refl))
    (language_safe lack.first)

-- ---- warnings of each word

pub asks_line : (d : Details) (place id : ℕ) (is_there : Bool) → IsLine (warning_line d (asking place id is_there))
asks_line d place id is_there = warned_line place (codes "asks") refl (safe_behind (decimal_safe id) (lack_safe is_there))

pub bounds_line : (d : Details) (k : ℕ) (ns : List Node) → AllByRecursion (λ w. IsLine (warning_line d w)) (numbered_bounds k ns)
bounds_line d k [] = tt
bounds_line d k (n ∷ ns) = (warned_line n.place (codes "bounds") refl (bounds_safe (slice_get d.spans k)), bounds_line d (suc k) ns)

pub constant_line : (d : Details) (ns : List Node) (g : Node) → IsLine (warning_line d (constant_at ns g))
constant_line d ns g = warned_line g.place (codes "constant") refl (constant_safe (holds_always ns g) (node_at d.nodes g.place))

pub language_line : (d : Details) (k : ℕ) (lacks : List Lack) → AllByRecursion (λ w. IsLine (warning_line d w)) (numbered_lacks k lacks)
language_line d k [] = tt
language_line d k (lack ∷ lacks) = (warned_line 4 (codes "language") refl (lacking_safe (slice_get d.lacks k)), language_line d (suc k) lacks)

pub default_line : (d : Details) (q : Asked) (n : Node) (denial : Option DenialKind) → IsLine (warning_line d (refused q n denial))
default_line d q n denial =
    warned_line n.place (codes "default") refl
    (safe_behind (safe_behind (safe_behind (safe_behind (decimal_safe _) (word_safe (codes " of question ") refl)) (decimal_safe _)) (word_safe (codes ": ") refl)) (word_safe (denial_word denial) (denial_is_word denial)))

pub overlap_line : (d : Details) (n m : Node) (before next : Field) → IfSome (overlap_of (laid_at n before) (laid_at m next)) (λ w. IsLine (warning_line d w))
overlap_line d n m before next =
    let one = field_of_laid (laid_at n before) in
    let other = field_of_laid (laid_at m next) in
    cond_both (is_same_field one other || not (meets other one)) None _ (λ o. IfSome o (λ w. IsLine (warning_line d w))) (λ _. tt) (λ _. warned_line m.place (codes "overlap") refl (shared_safe _ _))

pub text_line : (d : Details) (spoken : List Spoken) (place id : ℕ) → IfSome (textless_at spoken place id) (λ w. IsLine (warning_line d w))
text_line d spoken place id =
    cond_both (is_textless spoken id) _ None (λ o. IfSome o (λ w. IsLine (warning_line d w)))
    (λ _. warned_line place (codes "text") refl (textless_safe id)) (λ _. tt)

pub unreached_line : (d : Details) (named : ℕ → Bool) (form : Node) → IfSome (unreached_at named form) (λ w. IsLine (warning_line d w))
unreached_line d named form =
    cond_both (named (form_id form.op)) None _ (λ o. IfSome o (λ w. IsLine (warning_line d w))) (λ _. tt)
    (λ _. warned_line form.place (codes "unreached") refl (unreached_safe (form_id form.op)))

-- ---- all of them

each_constant : (d : Details) (ns gs : List Node) → AllByRecursion (λ w. IsLine (warning_line d w)) (map (constant_at ns) gs)
each_constant d ns [] = tt
each_constant d ns (g ∷ gs) = (constant_line d ns g, each_constant d ns gs)

pub lines_hold : (d : Details) (ns : List Node) → Holds (λ w. IsLine (warning_line d w)) ns
lines_hold d ns = record {
  asks = asks_line d;
  bounds = λ place k. warned_line place (codes "bounds") refl (bounds_safe (slice_get d.spans k));
  constant = each_constant d ns (constant_guards ns);
  default = default_line d;
  language = λ k. warned_line 4 (codes "language") refl (lacking_safe (slice_get d.lacks k));
  overlap = λ place question other. warned_line place (codes "overlap") refl (shared_safe question other);
  text = λ place id. warned_line place (codes "text") refl (textless_safe id);
  unreached = λ place form. warned_line place (codes "unreached") refl (unreached_safe form);
}
