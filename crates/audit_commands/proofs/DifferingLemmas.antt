-- What is said of two images.
use Rattle.std.proofs.Common.{◌≡◌, ◌↔◌, ◌∙◌, ℕ, List, [], ap, ap₂, inl, inr, refl, sym, subst}
use Rattle.hii_bytes.specs.Faults.{Refuses}
use Rattle.hii_bytes.specs.declared.cause.Fault.{Fault}
use Rattle.hii_bytes.proofs.FaultLemmas.{then_first}
use Rattle.browser_rules.specs.Packages.{Package}
use Rattle.browser_rules.specs.Strings.{Spoken, chosen}
use Rattle.ifr_nodes.specs.Nodes.{nodes_of}
use Rattle.hii_varstore.specs.Stores.{StoreMap}
use Rattle.guard_policy.specs.World.{removed_at}
use Rattle.session_steps.specs.Opening.{IsOpenFault, layout_in}
use Rattle.session_steps.specs.State.{State}
use Rattle.session_steps.proofs.SourceLemmas.{one_source}
use Rattle.browser_commands.proofs.OpeningLemmas.{opens_no_fault, refuses_second}
use Rattle.question_audit.specs.Audited.{Audited}
use Rattle.audit_json.specs.declared.telling.Telling.{Telling}
use Rattle.image_audit.specs.Difference.{difference_told}
use Rattle.image_audit.proofs.EqualLemmas.{same_told, told_same}
use Rattle.audit_commands.specs.Auditing.{Asked, Starts}
use Rattle.survey_audit.specs.AuditedAt.{audited_at}
use Rattle.audit_commands.specs.Differing.{IsDiffFault, over}

-- ---- what refuses

pub one_refuses : (asked : Asked) (image : List ℕ) (fault : Fault) → Refuses (IsOpenFault asked.list asked.forms asked.stores) fault → Refuses (IsDiffFault asked image) fault
one_refuses asked image fault (inl memory) = inl memory
one_refuses asked image fault (inr least) = inr (then_first (IsOpenFault asked.list asked.forms asked.stores) (IsOpenFault asked.list asked.forms image) fault least)

pub other_refuses : (asked : Asked) (image : List ℕ) (one : State) (fault : Fault) → Starts asked one → Refuses (IsOpenFault asked.list asked.forms image) fault → Refuses (IsDiffFault asked image) fault
other_refuses asked image one fault opens r =
    refuses_second (IsOpenFault asked.list asked.forms asked.stores) (IsOpenFault asked.list asked.forms image) fault
    (opens_no_fault asked.list asked.forms asked.stores asked.lang one opens) r

-- both sessions are over one forms package
pub one_package : (asked : Asked) (image : List ℕ) (one other : State) → Starts asked one → Starts (over asked image) other → other.ifr ≡ one.ifr
one_package asked image one other opens opens_other =
    opens_other.bytes ∙ ap (λ (p : Package). p.bytes) (one_source asked.list asked.forms opens_other.source opens.source opens_other.found opens.found) ∙ sym opens.bytes

-- ---- nothing is told exactly of the same stores

audited_same : (asked : Asked) (image : List ℕ) (one other : State) → Starts asked one → Starts (over asked image) other → one.working ≡ other.working → audited_at one ≡ audited_at other
audited_same asked image one other opens opens_other same =
    let ifr : one.ifr ≡ other.ifr = sym (one_package asked image one other opens opens_other) in
    let spoken : one.spoken ≡ other.spoken = opens.texts.1 ∙ sym opens_other.texts.1 in
    let language : one.language ≡ other.language = opens.language_is ∙ ap (λ (spoken : List Spoken). chosen spoken asked.lang) spoken ∙ sym opens_other.language_is in
    let removed : one.removed ≡ other.removed = opens.removed ∙ ap₂ (λ (ifr : List ℕ) (m : StoreMap). removed_at (nodes_of ifr) m) ifr same ∙ sym opens_other.removed in
    rw (ifr, spoken, language, removed, same) refl

pub tells_equal : (telling : Telling) (asked : Asked) (image : List ℕ) (one other : State) → Starts asked one → Starts (over asked image) other
    → (difference_told telling (audited_at one) (audited_at other) ≡ []) ↔ (one.working ≡ other.working)
tells_equal telling asked image one other opens opens_other = (
  λ none.
      let package_same = one_package asked image one other opens opens_other in
      told_same telling (audited_at one) (audited_at other) opens.stores.laid (opens_other.stores.laid ∙ ap layout_in package_same) opens.browsable.stores none,
  λ same. subst (λ (b : Audited). difference_told telling (audited_at one) b ≡ []) (audited_same asked image one other opens opens_other same) (same_told telling (audited_at one)),
)
