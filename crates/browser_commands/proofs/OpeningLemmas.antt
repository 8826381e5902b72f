-- Which bytes open a session, and with which faults they do not.
use Rattle.std.proofs.Common.{◌≡◌, ℕ, List, [], ◌∷◌, sym, ap, subst, ◌∙◌, inl, inr}
use Rattle.std.specs.Prelude.{filter}
use Rattle.browser_rules.specs.Faults.{string_faults}
use Rattle.browser_rules.specs.Packages.{Package, device_path}
use Rattle.browser_rules.specs.Strings.{Spoken, chosen}
use Rattle.hii_bytes.specs.declared.cause.Cause.{Cause}
use Rattle.hii_bytes.specs.declared.cause.Fault.{Fault}
use Rattle.hii_bytes.specs.Faults.{HasNone, IsAmong, IsLeast, Refuses, RefusesAmong, Then, out_of_memory}
use Rattle.hii_bytes.proofs.ChapterFaultLemmas.{are_among, none_among, same_refusal}
use Rattle.hii_bytes.proofs.FaultLemmas.{then_first, then_second, then_none}
use Rattle.ifr_opcodes.specs.Forest.{Node, places}
use Rattle.ifr_nodes.specs.Accepted.{IsAccepted, IsPackageFault}
use Rattle.ifr_nodes.specs.Nodes.{nodes_of, is_form}
use Rattle.ifr_nodes.proofs.AcceptedLemmas.{accepted_no_fault}
use Rattle.hii_varstore.specs.Layout.{Shape}
use Rattle.hii_varstore.specs.Image.{SpellsImage}
use Rattle.hii_varstore.specs.Stores.{StoreMap}
use Rattle.hii_varstore.specs.StoreNodes.{IsStoreFault}
use Rattle.hii_varstore.specs.Faults.{IsImageFault}
use Rattle.hii_varstore.proofs.FaultLemmas as image_faults
use Rattle.hii_questions.specs.Faults.{IsQuestionFault}
use Rattle.guard_policy.specs.World.{removed_at}
use Rattle.session_steps.specs.State.{State}
use Rattle.session_steps.specs.Opening.{forms_bytes, HasSource, HasTexts, layout_in, IsSourceFault, IsTextFault, IsFormSetFault, IsBrowsingFault, IsOpenFault, Opens, IsBrowsable}
use Rattle.session_steps.proofs.SourceLemmas.{no_source_fault, source_bytes}

-- ---- what can be browsed has no fault

-- the faults of a forms package behind those of the package itself
abbrev Later : List ℕ → Cause → ℕ → Type 0
Later ifr = Then (IsStoreFault (nodes_of ifr)) (IsQuestionFault (nodes_of ifr))

pub browsable_no_fault : (ifr : List ℕ) → IsBrowsable ifr → HasNone (IsFormSetFault ifr)
browsable_no_fault ifr b =
    then_none (IsPackageFault ifr) (Later ifr) (accepted_no_fault ifr b.accepted)
    (then_none (IsStoreFault (nodes_of ifr)) (IsQuestionFault (nodes_of ifr)) b.stores b.questions)

-- the list's forms package of the number is found, these are its bytes, and the list's string packages say this
pub record IsFound (list : List ℕ) (n : ℕ) (ifr : List ℕ) : Type 0 where
  pub source : Package
  pub found : HasSource list n source
  pub is : ifr ≡ source.bytes
  pub spoken : List Spoken
  pub texts : HasTexts list spoken

-- of the packages of the list, as they are seen
pub is_found : (list seen : List ℕ) (n : ℕ) (source : Package) (ifr : List ℕ) (spoken : List Spoken) → seen ≡ list → HasSource list n source → ifr ≡ source.bytes → HasTexts seen spoken → IsFound list n ifr
is_found list seen n source ifr spoken same found is says =
    record { source = source; found = found; is = is; spoken = spoken; texts = subst (λ (bytes : List ℕ). HasTexts bytes spoken) same says }

no_text_fault : (list : List ℕ) (spoken : List Spoken) → HasTexts list spoken → HasNone (IsTextFault list)
no_text_fault list spoken says = (none_among (string_faults list)).0 says.0

-- Where the list and its string packages have no fault, the forms package of the number can be browsed and the image spells its
-- stores, there is no fault.
pub sound_no_fault : (list : List ℕ) (n : ℕ) (image : List ℕ) (source : Package) (spoken : List Spoken) (stores : StoreMap) → HasSource list n source → HasTexts list spoken
    → IsBrowsable source.bytes → SpellsImage (layout_in source.bytes) image stores → HasNone (IsOpenFault list n image)
sound_no_fault list n image source spoken stores found says browsable is =
    let ifr = source.bytes in
    then_none (IsSourceFault list n) (Then (IsTextFault list) (IsBrowsingFault (forms_bytes list n) image)) (no_source_fault list n source found)
    (then_none (IsTextFault list) (IsBrowsingFault (forms_bytes list n) image) (no_text_fault list spoken says)
    (subst (λ ifr. HasNone (IsBrowsingFault ifr image)) (sym (source_bytes list n source found))
    (then_none (IsFormSetFault ifr) (IsImageFault (layout_in ifr) image) (browsable_no_fault ifr browsable) (image_faults.no_fault (layout_in ifr) image stores is))))

pub opens_no_fault : (list : List ℕ) (n : ℕ) (image language : List ℕ) (start : State) → Opens list n image language start → HasNone (IsOpenFault list n image)
opens_no_fault list n image language start o =
    sound_no_fault list n image o.source start.spoken start.working o.found o.texts (subst IsBrowsable o.bytes o.browsable)
    (subst (λ ifr. SpellsImage (layout_in ifr) image start.working) o.bytes o.stores)

-- where the bytes open a session, the only fault is out of memory
pub only_memory : (list : List ℕ) (n : ℕ) (stores language : List ℕ) (start : State) (fault : Fault) → Opens list n stores language start → Refuses (IsOpenFault list n stores) fault → fault ≡ out_of_memory
only_memory list n stores language start fault o (inl memory) = memory
only_memory list n stores language start fault o (inr least) = absurd (opens_no_fault list n stores language start o fault.cause fault.place least.told)

-- ---- the part that refuses

refuses_first : (First Second : Cause → ℕ → Type 0) (fault : Fault) → Refuses First fault → Refuses (Then First Second) fault
refuses_first First Second fault (inl memory) = inl memory
refuses_first First Second fault (inr least) = inr (then_first First Second fault least)

pub refuses_second : (First Second : Cause → ℕ → Type 0) (fault : Fault) → HasNone First → Refuses Second fault → Refuses (Then First Second) fault
refuses_second First Second fault none (inl memory) = inl memory
refuses_second First Second fault none (inr least) = inr (then_second First Second fault none least)

-- a part of the forms package refuses, where those before it have no fault
pub package_refuses : (ifr : List ℕ) (fault : Fault) → Refuses (IsPackageFault ifr) fault → Refuses (IsFormSetFault ifr) fault
package_refuses ifr fault r = refuses_first (IsPackageFault ifr) (Later ifr) fault r

pub stores_refuse : (ifr : List ℕ) (fault : Fault) → IsAccepted ifr → Refuses (IsStoreFault (nodes_of ifr)) fault → Refuses (IsFormSetFault ifr) fault
stores_refuse ifr fault a r =
    refuses_second (IsPackageFault ifr) (Later ifr) fault (accepted_no_fault ifr a)
    (refuses_first (IsStoreFault (nodes_of ifr)) (IsQuestionFault (nodes_of ifr)) fault r)

pub questions_refuse : (ifr : List ℕ) (fault : Fault) → IsAccepted ifr → HasNone (IsStoreFault (nodes_of ifr)) → Refuses (IsQuestionFault (nodes_of ifr)) fault → Refuses (IsFormSetFault ifr) fault
questions_refuse ifr fault a sound r =
    refuses_second (IsPackageFault ifr) (Later ifr) fault (accepted_no_fault ifr a)
    (refuses_second (IsStoreFault (nodes_of ifr)) (IsQuestionFault (nodes_of ifr)) fault sound r)

-- likewise, where it is these bytes
pub stores_refuse_in : (ifr bytes : List ℕ) (fault : Fault) → ifr ≡ bytes → IsAccepted ifr → Refuses (IsStoreFault (nodes_of ifr)) fault → Refuses (IsFormSetFault bytes) fault
stores_refuse_in ifr bytes fault is a r = subst (λ bytes. Refuses (IsFormSetFault bytes) fault) is (stores_refuse ifr fault a r)

pub questions_refuse_in : (ifr bytes : List ℕ) (fault : Fault) → ifr ≡ bytes → IsAccepted ifr → HasNone (IsStoreFault (nodes_of ifr)) → Refuses (IsQuestionFault (nodes_of ifr)) fault → Refuses (IsFormSetFault bytes) fault
questions_refuse_in ifr bytes fault is a sound r = subst (λ bytes. Refuses (IsFormSetFault bytes) fault) is (questions_refuse ifr fault a sound r)

-- the list refuses
pub refuses_source : (list : List ℕ) (n : ℕ) (stores : List ℕ) (fault : Fault) → IsLeast (IsSourceFault list n) fault → Refuses (IsOpenFault list n stores) fault
refuses_source list n stores fault least = refuses_first (IsSourceFault list n) _ fault (inr least)

-- the list's string packages refuse
pub refuses_texts : (list seen : List ℕ) (n : ℕ) (stores : List ℕ) (source : Package) (fault : Fault) → seen ≡ list → HasSource list n source → RefusesAmong (string_faults seen) fault → Refuses (IsOpenFault list n stores) fault
refuses_texts list seen n stores source fault same found r =
    refuses_second (IsSourceFault list n) (Then (IsTextFault list) (IsBrowsingFault (forms_bytes list n) stores)) fault (no_source_fault list n source found)
    (refuses_first (IsTextFault list) (IsBrowsingFault (forms_bytes list n) stores) fault (subst (λ (bytes : List ℕ). Refuses (IsTextFault bytes) fault) same ((same_refusal (string_faults seen) (IsAmong (string_faults seen)) fault (are_among (string_faults seen))).0 r)))

-- the list's forms package refuses, or the image
refuses_later : (list : List ℕ) (n : ℕ) (stores ifr : List ℕ) (fault : Fault) → IsFound list n ifr → Refuses (IsBrowsingFault ifr stores) fault → Refuses (IsOpenFault list n stores) fault
refuses_later list n stores ifr fault f r =
    refuses_second (IsSourceFault list n) (Then (IsTextFault list) (IsBrowsingFault (forms_bytes list n) stores)) fault (no_source_fault list n f.source f.found)
    (refuses_second (IsTextFault list) (IsBrowsingFault (forms_bytes list n) stores) fault (no_text_fault list f.spoken f.texts)
    (subst (λ ifr. Refuses (IsBrowsingFault ifr stores) fault) (f.is ∙ sym (source_bytes list n f.source f.found)) r))

pub refuses_form_set : (list : List ℕ) (n : ℕ) (stores ifr : List ℕ) (fault : Fault) → IsFound list n ifr → Refuses (IsFormSetFault ifr) fault → Refuses (IsOpenFault list n stores) fault
refuses_form_set list n stores ifr fault f r =
    refuses_later list n stores ifr fault f (refuses_first (IsFormSetFault ifr) (IsImageFault (layout_in ifr) stores) fault r)

pub refuses_package : (list : List ℕ) (n : ℕ) (stores ifr : List ℕ) (fault : Fault) → IsFound list n ifr → Refuses (IsPackageFault ifr) fault → Refuses (IsOpenFault list n stores) fault
refuses_package list n stores ifr fault f r = refuses_form_set list n stores ifr fault f (package_refuses ifr fault r)

pub refuses_stores : (list : List ℕ) (n : ℕ) (stores ifr : List ℕ) (fault : Fault) → IsFound list n ifr → IsAccepted ifr → Refuses (IsStoreFault (nodes_of ifr)) fault → Refuses (IsOpenFault list n stores) fault
refuses_stores list n stores ifr fault f a r = refuses_form_set list n stores ifr fault f (stores_refuse ifr fault a r)

pub refuses_questions : (list : List ℕ) (n : ℕ) (stores ifr : List ℕ) (shape : Shape) (fault : Fault) → IsFound list n ifr → IsAccepted ifr
    → HasNone (IsStoreFault (nodes_of ifr)) → shape ≡ layout_in ifr → Refuses (IsQuestionFault (nodes_of ifr)) fault → Refuses (IsOpenFault list n stores) fault
refuses_questions list n stores ifr shape fault f a sound laid r =
    refuses_form_set list n stores ifr fault f (questions_refuse ifr fault a sound r)

-- a package that can be browsed, of its parts
pub browsable : (ifr : List ℕ) (shape : Shape) → IsAccepted ifr → HasNone (IsStoreFault (nodes_of ifr)) → shape ≡ layout_in ifr → HasNone (IsQuestionFault (nodes_of ifr)) → IsBrowsable ifr
browsable ifr shape a sound laid questions = record {
  accepted = a;
  stores = sound;
  questions = questions;
}

pub refuses_image : (list : List ℕ) (n : ℕ) (stores ifr : List ℕ) (shape : Shape) (fault : Fault) → IsFound list n ifr → IsBrowsable ifr
    → shape ≡ layout_in ifr → Refuses (IsImageFault shape stores) fault → Refuses (IsOpenFault list n stores) fault
refuses_image list n stores ifr shape fault f b laid r =
    refuses_later list n stores ifr fault f
    (refuses_second (IsFormSetFault ifr) (IsImageFault (layout_in ifr) stores) fault (browsable_no_fault ifr b)
    (subst (λ shape. Refuses (IsImageFault shape stores) fault) laid r))

-- what the bytes open
pub opened : (list seen : List ℕ) (n : ℕ) (stores language : List ℕ) (source : Package) (start : State) (shape : Shape) (first : Node) (others : List Node)
    → seen ≡ list → HasSource list n source → start.ifr ≡ source.bytes → HasTexts seen start.spoken → start.language ≡ chosen start.spoken language
    → IsBrowsable start.ifr → shape ≡ layout_in start.ifr → SpellsImage shape stores start.committed
    → start.working ≡ start.committed → start.removed ≡ removed_at (nodes_of start.ifr) start.working → filter is_form (nodes_of start.ifr) ≡ first ∷ others → start.form ≡ first.place → start.history ≡ [] → start.path ≡ device_path seen
    → Opens list n stores language start
opened list seen n stores language source start shape first others read found is says chose b laid spelled same removed forms place none path = record {
  source = source;
  found = found;
  bytes = is;
  path = path ∙ ap device_path read;
  texts = subst (λ (bytes : List ℕ). HasTexts bytes start.spoken) read says;
  language_is = chose;
  browsable = b;
  stores = subst (SpellsImage (layout_in start.ifr) stores) (sym same) (subst (λ shape. SpellsImage shape stores start.committed) laid spelled);
  submitted = sym same;
  removed = removed;
  others = places others;
  forms = ap places forms ∙ ap (λ (p : ℕ). p ∷ places others) (sym place);
  history = none;
}
