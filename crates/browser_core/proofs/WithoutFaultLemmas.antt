-- What bytes without a fault open.
use Rattle.std.proofs.Common.{◌≡◌, ℕ, ◌≤◌, ◌<◌, ◌^◌, List, [], length, refl, sym, subst, inl, inr}
use Rattle.browser_rules.specs.Faults.{list_faults, number_faults, string_faults}
use Rattle.browser_rules.specs.Packages.{Package}
use Rattle.browser_rules.specs.Strings.{spoken_in}
use Rattle.hii_bytes.specs.declared.cause.Cause.{Cause}
use Rattle.hii_bytes.specs.declared.cause.Fault.{Fault}
use Rattle.hii_bytes.specs.Faults.{HasNone, IsLeastAmong, Then}
use Rattle.hii_bytes.proofs.ChapterFaultLemmas.{none_among}
use Rattle.ifr_opcodes.specs.Forest as forest
use Rattle.ifr_opcodes.proofs.ForestLemmas.{is_tree_of}
use Rattle.ifr_nodes.specs.Accepted.{IsAccepted, IsPackageFault}
use Rattle.ifr_nodes.specs.Framing.{IsFramingFault}
use Rattle.ifr_nodes.specs.Structure.{IsStructureFault}
use Rattle.ifr_nodes.specs.ReferenceFaults.{IsReferenceFault}
use Rattle.ifr_nodes.specs.Nodes.{nodes_of}
use Rattle.hii_varstore.specs.Layout.{Shape}
use Rattle.hii_varstore.specs.Stores.{StoreMap}
use Rattle.hii_varstore.specs.Image.{SpellsImage}
use Rattle.hii_varstore.specs.StoreNodes.{IsStoreFault}
use Rattle.hii_varstore.specs.Faults.{IsImageFault}
use Rattle.hii_questions.specs.Faults.{IsQuestionFault}
use Rattle.session_steps.specs.Opening.{HasSource, layout_in, IsSourceFault, IsTextFault, IsFormSetFault, IsBrowsingFault, IsOpenFault, IsBrowsable}
use Rattle.browser_core.specs.laws.Good.{AreGood}
use Rattle.browser_core.proofs.GoodBytesLemmas.{good_where_browsable}
use Rattle.session_steps.proofs.SourceLemmas.{list_refuses, number_refuses, source_bytes}

-- ---- two parts without a fault

none_first : (First Second : Cause → ℕ → Type 0) → HasNone (Then First Second) → HasNone First
none_first First Second none c p fault = none c p (inl fault)

none_second : (First Second : Cause → ℕ → Type 0) → HasNone (Then First Second) → HasNone Second
none_second First Second none c p fault = none c p (inr (none_first First Second none, fault))

-- ---- a forms package

accepted_without : (ifr : List ℕ) → 4 ≤ length ifr → length ifr < 2 ^ 32 → (HasNone (IsFramingFault ifr) → (f : forest.Forest) × forest.SpellsForest ifr f)
    → HasNone (IsPackageFault ifr) → IsAccepted ifr
accepted_without ifr header small frames none =
    let nodes = none_second (IsFramingFault ifr) (Then (IsStructureFault (nodes_of ifr)) (IsReferenceFault (nodes_of ifr))) none in
    let spelled = frames (none_first (IsFramingFault ifr) (Then (IsStructureFault (nodes_of ifr)) (IsReferenceFault (nodes_of ifr))) none) in
    record {
      checked = record {
        header = header;
        small = small;
        spelled = subst (forest.SpellsForest ifr) (sym (is_tree_of ifr spelled.0 spelled.1)) spelled.1;
        sound = none_first (IsStructureFault (nodes_of ifr)) (IsReferenceFault (nodes_of ifr)) nodes;
      };
      referred = none_second (IsStructureFault (nodes_of ifr)) (IsReferenceFault (nodes_of ifr)) nodes;
    }

browsable_without : (ifr : List ℕ) → (HasNone (IsPackageFault ifr) → IsAccepted ifr) → HasNone (IsFormSetFault ifr) → IsBrowsable ifr
browsable_without ifr accepts none =
    let others = none_second (IsPackageFault ifr) (Then (IsStoreFault (nodes_of ifr)) (IsQuestionFault (nodes_of ifr))) none in
    record {
      accepted = accepts (none_first (IsPackageFault ifr) (Then (IsStoreFault (nodes_of ifr)) (IsQuestionFault (nodes_of ifr))) none);
      stores = none_first (IsStoreFault (nodes_of ifr)) (IsQuestionFault (nodes_of ifr)) others;
      questions = none_second (IsStoreFault (nodes_of ifr)) (IsQuestionFault (nodes_of ifr)) others;
    }

-- ---- a session

-- bytes without a fault are good, where frames and images without a fault are what they are to be
pub good_without_fault : (list : List ℕ) (n : ℕ) (image : List ℕ) (source : Package) → HasSource list n source
    → 4 ≤ length source.bytes → length source.bytes < 2 ^ 32
    → (HasNone (IsFramingFault source.bytes) → (f : forest.Forest) × forest.SpellsForest source.bytes f)
    → ((shape : Shape) (image : List ℕ) → HasNone (IsImageFault shape image) → (m : StoreMap) × SpellsImage shape image m)
    → HasNone (IsOpenFault list n image) → AreGood list n image
good_without_fault list n image source found header small frames images none =
    let same = source_bytes list n source found in
    let later = none_second (IsSourceFault list n) (Then (IsTextFault list) (IsBrowsingFault _ image)) none in
    let browsing = subst (λ ifr. HasNone (IsBrowsingFault ifr image)) same (none_second (IsTextFault list) (IsBrowsingFault _ image) later) in
    let texts = (none_among (string_faults list)).1 (none_first (IsTextFault list) (IsBrowsingFault _ image) later) in
    let accepts = accepted_without source.bytes header small frames in
    let stores = images (layout_in source.bytes) image (none_second (IsFormSetFault source.bytes) (IsImageFault (layout_in source.bytes) image) browsing) in
    record {
      source = source;
      found = found;
      spoken = spoken_in list;
      texts = (texts, refl);
      good = good_where_browsable source.bytes (browsable_without source.bytes accepts (none_first (IsFormSetFault source.bytes) (IsImageFault (layout_in source.bytes) image) browsing));
      stores = stores.0;
      image_is = stores.1;
    }

-- Where the list or the number is refused there is a fault.
pub where_list_refuses : (list : List ℕ) (n : ℕ) (image : List ℕ) (fault : Fault) → IsLeastAmong (list_faults list) fault → HasNone (IsOpenFault list n image) → AreGood list n image
where_list_refuses list n image fault least none = absurd (none fault.cause fault.place (inl (list_refuses list n fault least).told))

pub where_number_refuses : (list seen : List ℕ) (n : ℕ) (image : List ℕ) (fault : Fault) → seen ≡ list → list_faults list ≡ [] → IsLeastAmong (number_faults seen n) fault
    → HasNone (IsOpenFault list n image) → AreGood list n image
where_number_refuses list seen n image fault same sound least none =
    let refused = number_refuses list n fault sound (subst (λ (bytes : List ℕ). IsLeastAmong (number_faults bytes n) fault) same least) in
    absurd (none fault.cause fault.place (inl refused.told))
