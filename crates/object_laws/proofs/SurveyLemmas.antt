-- Objects of `survey` tell facts.
use Rattle.std.proofs.Common.{ℕ, ◌^◌, ◌<◌, [], Some, codes, refl}
use Rattle.std.proofs.lemmas.Bool.{cond_both}
use Rattle.hii_bytes.specs.Numbers.{AreBytes}
use Rattle.hii_bytes.specs.declared.cause.Fault.{Fault}
use Rattle.ifr_opcodes.specs.Forest.{Node}
use Rattle.dump_audit.specs.Contents.{begins_with_form_set}
use Rattle.question_audit.specs.Audited.{Audited}
use Rattle.question_objects.specs.declared.detail.Detail.TheVariants.{Listed}
use Rattle.store_audit.specs.declared.fillings.Source.{Source}
use Rattle.survey_audit.specs.Lines.{Heading, counts_object, fault_object, head_members, list_fault_object, numbers_members, tally_members, unfit_object}
use Rattle.survey_audit.specs.Opened.{found_object}
use Rattle.survey_audit.specs.declared.counts.Counts.{Counts}
use Rattle.survey_audit.specs.declared.tally.Tally.{Tally}
use Rattle.json_laws.specs.laws.Telling.{IsReadBack, TellsFacts}
use Rattle.json_laws.proofs.TellingLemmas.{read_back, tells_behind, tells_fault, tells_member, tells_nothing}
use Rattle.object_laws.specs.laws.Questions.{CanShow}
use Rattle.object_laws.specs.laws.Survey.{AreFew, CanHead}
use Rattle.object_laws.proofs.CheckLemmas.{guid_member_told, number_member_told, set_told}
use Rattle.object_laws.proofs.QuestionLemmas.{question_told}
use Rattle.object_laws.proofs.StoreLemmas.{refused_told}

numbers_told : (h : Heading) → h.list < 2 ^ 64 → h.number < 2 ^ 64 → TellsFacts (numbers_members h)
numbers_told h list number = tells_behind (number_member_told (codes "list") h.list refl list) (number_member_told (codes "package") h.number refl number)

head_told : (h : Heading) → CanHead h → TellsFacts (head_members h)
head_told h can = tells_behind (numbers_told h can.list can.number) (set_told h.spoken h.source can.bytes can.shows)

tally_told : (t : Tally) → t.changeable < 2 ^ 64 → t.grayed < 2 ^ 64 → t.hidden < 2 ^ 64 → t.disabled < 2 ^ 64 → t.fixed < 2 ^ 64 → t.constant < 2 ^ 64 → TellsFacts (tally_members t)
tally_told t changeable grayed hidden disabled fixed constant =
    tells_behind
    (tells_behind
    (tells_behind
    (tells_behind (tells_behind (number_member_told (codes "open") t.changeable refl changeable) (number_member_told (codes "grayed") t.grayed refl grayed))
    (number_member_told (codes "hidden") t.hidden refl hidden))
    (number_member_told (codes "disabled") t.disabled refl disabled))
    (number_member_told (codes "fixed") t.fixed refl fixed))
    (number_member_told (codes "constant") t.constant refl constant)

pub counts_back : (h : Heading) (c : Counts) → CanHead h → AreFew c → IsReadBack (codes "set") (counts_object h c)
counts_back h c can few =
    read_back (codes "set") refl
    (tells_behind (head_told h can)
    (tells_behind (tells_behind (number_member_told (codes "forms") c.forms refl few.forms) (number_member_told (codes "questions") c.questions refl few.questions))
    (tally_told c.tally few.changeable few.grayed few.hidden few.disabled few.fixed few.constant)))

pub unfit_back : (h : Heading) (n : Node) (source : Source) → CanHead h → IsReadBack (codes "set") (unfit_object h n source)
unfit_back h n source can = read_back (codes "set") refl (tells_behind (head_told h can) (tells_member (codes "reason") refl (refused_told n source)))

pub set_fault_back : (h : Heading) (fault : Fault) → CanHead h → fault.place < 2 ^ 64 → IsReadBack (codes "set") (fault_object h fault)
set_fault_back h fault can place =
    read_back (codes "set") refl
    (tells_behind (tells_behind (numbers_told h can.list can.number) (cond_both (begins_with_form_set h.source) _ [] TellsFacts (λ _. guid_member_told h.source can.bytes) (λ _. tells_nothing)))
    (tells_fault (codes "fault") fault refl place))

pub list_fault_back : (list : ℕ) (fault : Fault) → list < 2 ^ 64 → fault.place < 2 ^ 64 → IsReadBack (codes "set") (list_fault_object list fault)
list_fault_back list fault small place =
    read_back (codes "set") refl (tells_behind (number_member_told (codes "list") list refl small) (tells_fault (codes "fault") fault refl place))

pub found_back : (h : Heading) (a : Audited) (form n : Node) → h.list < 2 ^ 64 → h.number < 2 ^ 64 → CanShow a h.base n → AreBytes form.op
    → IsReadBack (codes "question") (found_object h a form n)
found_back h a form n list number can within =
    read_back (codes "question") refl (tells_behind (numbers_told h list number) (question_told Listed a h.base (Some form) n can within))
