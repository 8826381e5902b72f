-- Lines of `survey` stay one line.
use Rattle.std.proofs.Common.{◌≡◌, ℕ, ◌^◌, ◌<◌, true, codes, IfSome, refl}
use Rattle.std.specs.Str.{all_scalars}
use Rattle.std.proofs.lemmas.Bool.{cond_both}
use Rattle.hii_bytes.specs.Numbers.{AreBytes}
use Rattle.hii_bytes.specs.declared.cause.Fault.{Fault}
use Rattle.ifr_opcodes.specs.Fields.{form_set_guid}
use Rattle.ifr_opcodes.specs.Forest.{Node}
use Rattle.hii_questions.specs.Fields.{asked}
use Rattle.audit_text.specs.Texts.{guid_text}
use Rattle.dump_audit.specs.Contents.{begins_with_form_set, opcodes_of}
use Rattle.question_audit.specs.Audited.{Audited}
use Rattle.question_audit.specs.ScriptValues.{default_taken}
use Rattle.store_audit.specs.declared.fillings.Source.{Source}
use Rattle.check_audit.specs.Lines.{text_of}
use Rattle.survey_audit.specs.Lines.{Heading, counts_line, counts_words, fault_line, guid_words, head_words, list_fault_line, numbers_words, tally_words, unfit_line}
use Rattle.survey_audit.specs.Opened.{found_line}
use Rattle.survey_audit.specs.declared.counts.Counts.{Counts}
use Rattle.survey_audit.specs.declared.tally.Tally.{Tally}
use Rattle.json_laws.proofs.WordLemmas.{all_bytes}
use Rattle.object_laws.specs.laws.Differences.{CanTellValue}
use Rattle.object_laws.specs.laws.Lines.{IsLine, IsSafe}
use Rattle.object_laws.specs.laws.Questions.{HasUnits}
use Rattle.object_laws.proofs.LineLemmas.{decimal_safe, fault_safe, set_guid_safe, set_safe}
use Rattle.object_laws.proofs.QuestionLineLemmas.{question_is_line}
use Rattle.object_laws.proofs.SafeLemmas.{line_behind, line_safe, safe_behind, word_safe}
use Rattle.object_laws.proofs.StoreLineLemmas.{unfit_is_line}

numbers_safe : (h : Heading) → IsSafe (numbers_words h)
numbers_safe h =
    let space : IsSafe (codes " ") = word_safe (codes " ") refl in safe_behind (safe_behind (safe_behind (decimal_safe h.list) space) (decimal_safe h.number)) space

head_safe : (h : Heading) → AreBytes h.source.bytes → ((id : ℕ) → id < 2 ^ 64 → all_scalars (text_of h.spoken id) ≡ true) → IsSafe (head_words h)
head_safe h are shows = safe_behind (safe_behind (safe_behind (word_safe (codes "SET ") refl) (numbers_safe h)) (set_safe h.spoken h.source are shows)) (word_safe (codes ": ") refl)

tally_safe : (t : Tally) → IsSafe (tally_words t)
tally_safe t =
    safe_behind
    (safe_behind
    (safe_behind
    (safe_behind
    (safe_behind
    (safe_behind
    (safe_behind
    (safe_behind
    (safe_behind (safe_behind (safe_behind (word_safe (codes "open ") refl) (decimal_safe t.changeable)) (word_safe (codes ", grayed ") refl)) (decimal_safe t.grayed))
    (word_safe (codes ", hidden ") refl))
    (decimal_safe t.hidden))
    (word_safe (codes ", disabled ") refl))
    (decimal_safe t.disabled))
    (word_safe (codes ", fixed ") refl))
    (decimal_safe t.fixed))
    (word_safe (codes ", constant ") refl))
    (decimal_safe t.constant)

counts_safe : (c : Counts) → IsSafe (counts_words c)
counts_safe c =
    safe_behind
    (safe_behind (safe_behind (safe_behind (safe_behind (word_safe (codes "forms ") refl) (decimal_safe c.forms)) (word_safe (codes ", questions ") refl)) (decimal_safe c.questions)) (word_safe (codes ", ") refl))
    (tally_safe c.tally)

pub counts_is_line : (h : Heading) (c : Counts) → AreBytes h.source.bytes → ((id : ℕ) → id < 2 ^ 64 → all_scalars (text_of h.spoken id) ≡ true) → IsLine (counts_line h c)
counts_is_line h c are shows = line_safe (safe_behind (head_safe h are shows) (counts_safe c))

pub unfit_set_is_line : (h : Heading) (n : Node) (source : Source) → AreBytes h.source.bytes → ((id : ℕ) → id < 2 ^ 64 → all_scalars (text_of h.spoken id) ≡ true) → IsLine (unfit_line h n source)
unfit_set_is_line h n source are shows = line_behind (head_safe h are shows) (unfit_is_line n source)

guid_words_safe : (h : Heading) → AreBytes h.source.bytes → IsSafe (guid_words h.source)
guid_words_safe h are =
    cond_both (begins_with_form_set h.source) (guid_text true (form_set_guid (opcodes_of h.source))) (codes "-") IsSafe (λ _. set_guid_safe h.source (all_bytes h.source.bytes are)) (λ _. word_safe (codes "-") refl)

pub set_fault_is_line : (h : Heading) (fault : Fault) → AreBytes h.source.bytes → IsLine (fault_line h fault)
set_fault_is_line h fault are =
    line_safe (safe_behind (safe_behind (safe_behind (safe_behind (word_safe (codes "SET ") refl) (numbers_safe h)) (guid_words_safe h are)) (word_safe (codes " ") refl)) (fault_safe fault))

pub whole_fault_is_line : (list : ℕ) (fault : Fault) → IsLine (list_fault_line list fault)
whole_fault_is_line list fault = line_safe (safe_behind (safe_behind (safe_behind (word_safe (codes "SET ") refl) (decimal_safe list)) (word_safe (codes " - - ") refl)) (fault_safe fault))

pub found_is_line : (h : Heading) (a : Audited) (n : Node) → CanTellValue a.texts a.world a.stores n → IfSome (default_taken a (asked a.world.nodes n) 0) HasUnits → IsLine (found_line h a n)
found_is_line h a n can units = line_behind (numbers_safe h) (question_is_line a n can units)
