-- What is said of an image.
use Rattle.std.proofs.Common.{◌≡◌, ◌∙◌, ℕ, Bool, true, false, List, [], Option, None, Some, ap, inl, inr, length, option_map, refl, subst, sym}
use Rattle.std.specs.Borrow.{Bor}
use Rattle.std.specs.Option.{IfSome, option_copied}
use Rattle.std.specs.Io.Buffered.{writer_buffer, writer_contents}
use Rattle.std.specs.declared.io.BufWriter.{BufWriter}
use Rattle.hii_bytes.specs.Faults.{HasNone, Refuses, Then}
use Rattle.hii_bytes.specs.Watching.{has_failed, inner_of, pen_of}
use Rattle.hii_bytes.specs.declared.cause.Cause.{Cause}
use Rattle.hii_bytes.specs.declared.cause.Fault.{Fault}
use Rattle.hii_bytes.specs.declared.watched.Watched.{Watched}
use Rattle.hii_bytes.proofs.FaultLemmas.{then_first, then_none}
use Rattle.ifr_opcodes.specs.Forest.{Node}
use Rattle.ifr_nodes.specs.Nodes.{nodes_of}
use Rattle.hii_varstore.specs.Faults.{IsImageFault}
use Rattle.hii_varstore.specs.Layout.{Shape, size_of}
use Rattle.hii_varstore.specs.Stores.{StoreMap, bytes_of, shape_of}
use Rattle.hii_varstore.proofs.FaultLemmas.{no_fault}
use Rattle.hii_varstore.proofs.WriteLemmas.{sizes}
use Rattle.session_steps.specs.Opening.{forms_bytes, layout_in}
use Rattle.session_steps.proofs.SourceLemmas.{source_bytes}
use Rattle.browser_commands.proofs.OpeningLemmas.{refuses_second}
use Rattle.audit_text.specs.Passing.{PassesOn}
use Rattle.store_audit.specs.Declaring.{IsDeclaredFault}
use Rattle.audit_json.specs.declared.telling.Telling.{Telling}
use Rattle.image_audit.specs.Export.{PutsBytes, store_told}
use Rattle.audit_answers.specs.Endings.{TellsAndWrites}
use Rattle.store_commands.specs.Exporting.{IsImaged, IsImagedFault, IsOtherFault, IsPairFault, SaysExport, SpellsOther}
use Rattle.store_commands.specs.Storing.{IsDeclaredBy}
use Rattle.audit_answers.specs.code.Endings.{Commits}
use Rattle.store_commands.specs.code.Exporting.{SaysStore}
use Rattle.audit_answers.specs.declared.ended.Ended.{Ended}
use Rattle.audit_answers.specs.declared.ended.Ended.TheVariants.{Done, Refused, WriteAnswers, WriteOut, NoMemory}
use Rattle.audit_answers.proofs.EndingLemmas.{left, tells_and_writes}

-- ---- what refuses

-- the first of two parts
first_refuses : (First Second : Cause → ℕ → Type 0) (fault : Fault) → Refuses First fault → Refuses (Then First Second) fault
first_refuses First Second fault (inl memory) = inl memory
first_refuses First Second fault (inr least) = inr (then_first First Second fault least)

module _ (list : List ℕ) (n : ℕ) (image : List ℕ) (fault : Fault) where
  pub list_refuses : Refuses (IsDeclaredFault list n) fault → Refuses (IsImagedFault list n image) fault
  list_refuses r = first_refuses (IsDeclaredFault list n) (IsImageFault (layout_in (forms_bytes list n)) image) fault r

  pub image_refuses : (ifr : List ℕ) → IsDeclaredBy list n ifr → Refuses (IsImageFault (layout_in ifr) image) fault → Refuses (IsImagedFault list n image) fault
  image_refuses ifr d r =
      refuses_second (IsDeclaredFault list n) (IsImageFault (layout_in (forms_bytes list n)) image) fault d.sound
      (subst (λ (bytes : List ℕ). Refuses (IsImageFault (layout_in bytes) image) fault) (d.bytes ∙ sym (source_bytes list n d.source d.found)) r)

  pub pair_refuses : (other : Option (List ℕ)) → Refuses (IsImagedFault list n image) fault → Refuses (IsPairFault list n image other) fault
  pair_refuses other r = first_refuses (IsImagedFault list n image) (IsOtherFault (layout_in (forms_bytes list n)) other) fault r

  pub other_refuses : (other : Option (List ℕ)) (ifr : List ℕ) (stores : StoreMap) → IsImaged list n image ifr stores → Refuses (IsOtherFault (layout_in ifr) other) fault
      → Refuses (IsPairFault list n image other) fault
  other_refuses other ifr stores is r =
      let d = is.declared in
      let same = d.bytes ∙ sym (source_bytes list n d.source d.found) in
      refuses_second (IsImagedFault list n image) (IsOtherFault (layout_in (forms_bytes list n)) other) fault
      (then_none (IsDeclaredFault list n) (IsImageFault (layout_in (forms_bytes list n)) image) d.sound
      (subst (λ (bytes : List ℕ). HasNone (IsImageFault (layout_in bytes) image)) same (no_fault (layout_in ifr) image stores is.spelled)))
      (subst (λ (bytes : List ℕ). Refuses (IsOtherFault (layout_in bytes) other) fault) same r)

-- the stores of the other image are those of the list
pub other_laid : (shape : Shape) (image : Option (List ℕ)) (others : Option StoreMap) → SpellsOther shape image others → IfSome others (λ m. shape_of m ≡ shape)
other_laid shape None others none = rw none tt
other_laid shape (Some image) others (m, spelled, is) = rw is spelled.laid

pub given_laid : (shape : Shape) (image : Option (List ℕ)) (others : Option StoreMap) (given : Option (Bor StoreMap)) → option_copied given ≡ others → SpellsOther shape image others
    → IfSome given (λ m. shape_of m.now ≡ shape)
given_laid shape image others None same spells = tt
given_laid shape image others (Some m) same spells = rw (← same) at (other_laid shape image others spells)

-- ---- the bytes of a store

-- an image that has no bytes of a store is that of stores among which it is not
none_declared : (list : List ℕ) (n : ℕ) (image ifr : List ℕ) (stores : StoreMap) (id : ℕ) → IsImaged list n image ifr stores → bytes_of stores id ≡ None → size_of (layout_in ifr) id ≡ None
none_declared list n image ifr stores id is none =
    subst (λ (shape : Shape). size_of shape id ≡ None) is.spelled.laid (sizes stores id ∙ ap (option_map (λ (bytes : List ℕ). length bytes)) none)

pub says_export : (telling : Telling) (list : List ℕ) (n : ℕ) (image ifr : List ℕ) (stores : StoreMap) (id : ℕ) → IsImaged list n image ifr stores → (bytes : List ℕ) (ended : Ended) (text : List ℕ)
    → SaysStore telling (nodes_of ifr) stores id bytes ended text → SaysExport telling list n image id bytes ended text
says_export telling list n image ifr stores id is bytes Done text said = record { ifr = ifr; stores = stores; imaged = is; held = said.0; line = said.1 }
says_export telling list n image ifr stores id is bytes Refused text said =
    inr (record { ifr = ifr; stores = stores; imaged = is; none = none_declared list n image ifr stores id is said.0; said = said.1 })
says_export telling list n image ifr stores id is bytes WriteAnswers text said = absurd said
says_export telling list n image ifr stores id is bytes WriteOut text said = record { ifr = ifr; stores = stores; imaged = is; held = said.0; line = said.1 }
says_export telling list n image ifr stores id is bytes NoMemory text said = absurd said

-- they are written behind the line
pub writes_store : {A Z O : Type 0} (telling : Telling) (contents : A → Option (List ℕ)) (file : O → Option (List ℕ)) (ns : List Node) (stores : StoreMap) (id : ℕ) (bytes : List ℕ)
    → (start new : Watched (BufWriter A Z)) (old mid last : Watched O) (ended : Ended) → bytes_of stores id ≡ Some bytes
    → PassesOn (pen_of (writer_contents contents) start) (pen_of (writer_contents contents) new) (store_told telling ns id bytes) → PutsBytes bytes (has_failed new) file old mid
    → (has_failed new ≡ false → writer_buffer (inner_of new) ≡ []) → (has_failed new ≡ true → (ended ≡ WriteAnswers) × (last ≡ mid)) → (has_failed new ≡ false → Commits file mid ended last)
    → TellsAndWrites (SaysStore telling ns stores id) contents file start old ended new last
writes_store telling contents file ns stores id bytes start new old mid last ended holds told taken held unwritten commits =
    tells_and_writes (SaysStore telling ns stores id) contents file start new old mid last told.between bytes _ ended (holds, refl) (holds, refl) told.written told.passed held
    (λ broken. subst (λ (b : Bool). PutsBytes bytes b file old mid) broken taken) unwritten commits
    (λ sound. left file old mid last bytes ended (subst (λ (b : Bool). PutsBytes bytes b file old mid) sound taken) (commits sound))
