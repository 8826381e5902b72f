-- Lines of `apply` stay one line.
use Rattle.std.proofs.Common.{ℕ, List, IfSome, codes, refl}
use Rattle.bstr.specs.Utf8.{lossy_chars}
use Rattle.hii_bytes.specs.Numbers.{AreBytes}
use Rattle.ifr_opcodes.specs.Fields.{question_id, statement_prompt}
use Rattle.ifr_opcodes.specs.Forest.{Node}
use Rattle.hii_varstore.specs.Stores.{StoreMap}
use Rattle.hii_questions.specs.Fields.{Asked, question_with}
use Rattle.audit_json.specs.declared.telling.Telling.TheVariants.{Lines}
use Rattle.session_steps.specs.declared.reply.Reply.{Reply}
use Rattle.script_audit.specs.Apply.{change_told, ids_told, over_stores, unsubmitted_told}
use Rattle.script_audit.specs.Because.{answer_told, because_told, condition_text, line_chars, line_told, reason_words}
use Rattle.script_audit.specs.Depends.{depends_told}
use Rattle.script_audit.specs.Script.{Line}
use Rattle.script_audit.specs.Told.{error_told}
use Rattle.script_audit.specs.Values.{Seen}
use Rattle.json_laws.specs.laws.Written.{IsWord}
use Rattle.object_laws.specs.laws.Differences.{CanTellValue}
use Rattle.object_laws.specs.laws.Lines.{IsLine, IsSafe}
use Rattle.object_laws.specs.laws.Questions.{ShowsTexts}
use Rattle.object_laws.specs.laws.Scripts.{HasMessage}
use Rattle.object_laws.proofs.FactLineLemmas.{id_safe}
use Rattle.object_laws.proofs.FieldLemmas.{two_bytes}
use Rattle.object_laws.proofs.LineLemmas.{decimal_safe}
use Rattle.object_laws.proofs.LossyLemmas.{lossy_are_text, taken_are_text}
use Rattle.object_laws.proofs.SafeLemmas.{line_closed, line_safe, safe_behind, text_safe, word_safe}
use Rattle.object_laws.proofs.ScriptLemmas.{Way, answer_spelled, condition_text_word, ids_word, question_spelled, reason_spelled, value_spelled}

safely : Way Lines IsSafe
safely = record { word = word_safe; text = text_safe; behind = safe_behind }

-- ---- the line at which a script ends, its answer, why, and on what this depends

pub script_line_is_line : (line : Line) → AreBytes line.bytes → IsLine (line_told Lines line)
script_line_is_line line are =
    line_safe
    (safe_behind (safe_behind (safe_behind (word_safe (codes "line ") refl) (decimal_safe line.number)) (word_safe (codes ": ") refl))
    (text_safe (line_chars line.bytes) (taken_are_text 200 (lossy_chars line.bytes) (lossy_are_text line.bytes are))))

pub answer_is_line : (a : Seen) (reply : Reply) → ShowsTexts a.texts → HasMessage reply → IsLine (answer_told Lines a reply)
answer_is_line a reply shows small = line_safe (answer_spelled safely a reply shows small)

because_line : {its : List ℕ} → IsSafe its → IsLine (because_told Lines its)
because_line safe = line_safe (safe_behind (word_safe (codes "because  ") refl) safe)

pub condition_is_line : (package_place : ℕ) (state : List ℕ) (c : Node) → IsWord state → IsLine (because_told Lines (condition_text package_place state c))
condition_is_line package_place state c plain = because_line (word_safe (condition_text package_place state c) (condition_text_word package_place state c plain))

pub reason_is_line : (ns : List Node) (line : List ℕ) (reply : Reply) → AreBytes line → IsLine (because_told Lines (reason_words Lines ns line reply))
reason_is_line ns line reply are = because_line (reason_spelled safely ns line reply are)

pub depends_is_line : (a : Seen) (id : ℕ) → IfSome (question_with a.world.nodes id) (CanTellValue a.texts a.world a.stores) → IsLine (depends_told Lines a id)
depends_is_line a id can =
    line_safe (safe_behind (safe_behind (safe_behind (word_safe (codes "depends  ") refl) (id_safe id)) (word_safe (codes " ") refl)) (question_spelled safely a (question_with a.world.nodes id) can))

-- ---- what is left

pub unsubmitted_is_line : (qs : List Asked) → IsLine (unsubmitted_told Lines qs)
unsubmitted_is_line qs = line_safe (safe_behind (word_safe (codes "not submitted:") refl) (word_safe (ids_told qs) (ids_word qs)))

pub change_is_line : (a : Seen) (one other : StoreMap) (n : Node) → CanTellValue a.texts a.world one n → CanTellValue a.texts a.world other n → IsLine (change_told Lines a one other n)
change_is_line a one other n old new =
    line_closed (codes "]")
    (safe_behind
    (safe_behind
    (safe_behind
    (safe_behind
    (safe_behind (safe_behind (safe_behind (word_safe (codes "CHANGED ") refl) (decimal_safe (question_id n.op))) (word_safe (codes " ") refl))
    (text_safe (a.texts (statement_prompt n.op)) (old.shows (statement_prompt n.op) (two_bytes n.op 2 old.bytes))))
    (word_safe (codes " [") refl))
    (value_spelled safely (over_stores a one) n old))
    (word_safe (codes "] -> [") refl))
    (value_spelled safely (over_stores a other) n new))
    (word_safe (codes "]") refl)

pub error_is_line : (said : List ℕ) → IsWord said → IsLine (error_told Lines said)
error_is_line said plain = line_safe (word_safe said plain)
