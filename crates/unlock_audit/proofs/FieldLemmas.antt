-- What is written of a field is read back, and told.
use Rattle.std.proofs.Common.{◌≡◌, ℕ, Option, Some, None, Result, Ok, Err, List, [], ◌++◌, length, refl, sym, ap, subst, ◌∙◌}
use Rattle.std.specs.Prelude.{ℤ, option_and_then, option_map}
use Rattle.std.proofs.lemmas.Bool.{eqb-false}
use Rattle.ifr_opcodes.specs.Forest.{Node}
use Rattle.ifr_nodes.specs.Nodes.{nodes_of}
use Rattle.hii_varstore.specs.Stores.{StoreMap, bytes_of_field, shape_of, with_bytes}
use Rattle.hii_varstore.specs.code.Ranges.{HasRange, IsCut}
use Rattle.hii_varstore.proofs.WriteLemmas.{field_back}
use Rattle.hii_values.specs.FieldTypes.{FieldType}
use Rattle.hii_values.specs.Inputs.{whole}
use Rattle.hii_values.specs.Types.{type_of}
use Rattle.hii_values.specs.declared.denial.DenialKind.{DenialKind}
use Rattle.hii_questions.specs.Fields.{Asked, Field, asked, question_with}
use Rattle.hii_questions.specs.Fits.{fits_field}
use Rattle.hii_questions.proofs.LawLemmas.{fits_wide}
use Rattle.audit_json.specs.declared.telling.Telling.{Telling}
use Rattle.question_audit.proofs.AskedLemmas.{IsFoundWith}
use Rattle.session_steps.specs.State.{State}
use Rattle.unlock_audit.specs.Told.{bytes_text, field_text, taken_text, value_text, write_text}
use Rattle.unlock_audit.specs.Tries.{bytes_taken, with_taken, with_value, with_written}
use Rattle.unlock_audit.specs.declared.moves.Move.{Move}
use Rattle.unlock_audit.proofs.RunLemmas.{written_with}

-- ---- nothing is told where nothing is written

none_of : (telling : Telling) (ns : List Node) (stores : StoreMap) (field : Option Field) (r : Result (List ℕ) DenialKind) → with_taken stores field r ≡ None → taken_text telling ns field r ≡ []
none_of telling ns stores None (Err why) e = refl
none_of telling ns stores (Some field) (Err why) e = refl
none_of telling ns stores field (Ok bytes) e = absurd cc

none_with : (telling : Telling) (ns : List Node) (stores : StoreMap) (value : ℤ) (o : Option Asked) → option_and_then (with_value stores value) o ≡ None → value_text telling ns value o ≡ []
none_with telling ns stores value None e = refl
none_with telling ns stores value (Some q) e = none_of telling ns stores q.field (bytes_taken q value) e

pub nothing_written : (telling : Telling) (s : State) (m : Move) → with_written s m ≡ None → write_text telling (nodes_of s.ifr) m ≡ []
nothing_written telling s m e = none_with telling (nodes_of s.ifr) s.committed m.value (option_map (asked (nodes_of s.ifr)) (question_with (nodes_of s.ifr) m.id)) e

-- ---- the new bytes are read back

taken_back : (m : StoreMap) (field : Field) (r : Result (List ℕ) DenialKind) (stores : StoreMap) → with_taken m (Some field) r ≡ Some stores → HasRange (shape_of m) field.store field.offset field.width
    → ((bytes : List ℕ) → r ≡ Ok bytes → length bytes ≡ field.width) → (bytes : List ℕ) × (r ≡ Ok bytes) × (bytes_of_field stores field.store field.offset field.width ≡ Some bytes)
taken_back m field (Err why) stores e range fills = absurd cc
taken_back m field (Ok bytes) stores e range fills =
    let size : length bytes ≡ field.width = fills bytes refl in
    let same : with_bytes m field.store field.offset bytes ≡ stores = cc in
    let back = field_back m field.store field.offset bytes (subst (λ (w : ℕ). HasRange (shape_of m) field.store field.offset w) (sym size) range) in
    let whole_back : bytes_of_field (with_bytes m field.store field.offset bytes) field.store field.offset field.width ≡ Some bytes =
    subst (λ (w : ℕ). bytes_of_field (with_bytes m field.store field.offset bytes) field.store field.offset w ≡ Some bytes) size back in
    (bytes, refl, subst (λ (st : StoreMap). bytes_of_field st field.store field.offset field.width ≡ Some bytes) same whole_back)

fills_field : (ns : List Node) (q : Asked) (field : Field) (value : ℤ) (bytes : List ℕ) → q ≡ asked ns q.node → q.field ≡ Some field → fits_field (type_of q.node) (Some field) (whole value) ≡ Ok bytes → length bytes ≡ field.width
fills_field ns q field value bytes own e fit =
    let has = ap (λ (r : Asked). r.field) (sym own) ∙ e in
    fits_wide ns q.node (whole value) field bytes has (ap (λ (o : Option Field). fits_field (type_of q.node) o (whole value)) has ∙ fit)

pub written_back : (s : State) (m : Move) (q : Asked) (field : Field) (stores : StoreMap) → IsFoundWith s.ifr m.id q → q.field ≡ Some field → with_written s m ≡ Some stores
    → HasRange (shape_of s.committed) field.store field.offset field.width
    → (bytes : List ℕ) × (fits_field (type_of q.node) (Some field) (whole m.value) ≡ Ok bytes) × (bytes_of_field stores field.store field.offset field.width ≡ Some bytes)
written_back s m q field stores found e is range =
    let ns = nodes_of s.ifr in
    let taken : with_taken s.committed (Some field) (fits_field (type_of q.node) (Some field) (whole m.value)) ≡ Some stores =
    ap (λ (o : Option Field). with_taken s.committed o (fits_field (type_of q.node) o (whole m.value))) (sym e) ∙ sym (written_with s m q found.with_id found.own) ∙ is in
    taken_back s.committed field (fits_field (type_of q.node) (Some field) (whole m.value)) stores taken range (λ bytes fit. fills_field ns q field m.value bytes found.own e fit)

-- ---- and told

text_with : (telling : Telling) (ns : List Node) (m : Move) (q : Asked) → question_with ns m.id ≡ Some q.node → q ≡ asked ns q.node → write_text telling ns m ≡ taken_text telling ns q.field (bytes_taken q m.value)
text_with telling ns m q is own = ap (λ (o : Option Node). value_text telling ns m.value (option_map (asked ns) o)) is ∙ ap (λ (r : Asked). value_text telling ns m.value (Some r)) (sym own)

pub no_field_told : (telling : Telling) (s : State) (m : Move) (q : Asked) → IsFoundWith s.ifr m.id q → q.field ≡ None → write_text telling (nodes_of s.ifr) m ≡ []
no_field_told telling s m q found e =
    text_with telling (nodes_of s.ifr) m q found.with_id found.own ∙ ap (λ (o : Option Field). taken_text telling (nodes_of s.ifr) o (fits_field (type_of q.node) o (whole m.value))) e ∙ by_type (type_of q.node)
  where
    by_type : (t : Option FieldType) → taken_text telling (nodes_of s.ifr) None (fits_field t None (whole m.value)) ≡ []
    by_type None = refl
    by_type (Some t) = refl

pub field_told : (telling : Telling) (s : State) (m : Move) (q : Asked) (field : Field) (stores : StoreMap) (bytes : List ℕ) → IsFoundWith s.ifr m.id q → q.field ≡ Some field → with_written s m ≡ Some stores
    → HasRange (shape_of s.committed) field.store field.offset field.width → bytes_of_field stores field.store field.offset field.width ≡ Some bytes
    → write_text telling (nodes_of s.ifr) m ≡ field_text telling (nodes_of s.ifr) field ++ bytes_text bytes
field_told telling s m q field stores bytes found e is range there =
    let ns = nodes_of s.ifr in
    let back = written_back s m q field stores found e is range in
    let both : ◌≡◌ {A = Option (List ℕ)} (Some back.0) (Some bytes) = sym back.2 ∙ there in
    let same : back.0 ≡ bytes = cc in
    text_with telling ns m q found.with_id found.own ∙ ap (λ (o : Option Field). taken_text telling ns o (fits_field (type_of q.node) o (whole m.value))) e
    ∙ ap (taken_text telling ns (Some field)) back.1 ∙ ap (λ (bs : List ℕ). field_text telling ns field ++ bytes_text bs) same

-- the bytes are there
pub field_is_there : (s : State) (m : Move) (q : Asked) (field : Field) (stores : StoreMap) → IsFoundWith s.ifr m.id q → q.field ≡ Some field → with_written s m ≡ Some stores
    → HasRange (shape_of s.committed) field.store field.offset field.width → IsCut field.width (bytes_of_field stores field.store field.offset field.width) → ⊥
field_is_there s m q field stores found e is range cut =
    let back = written_back s m q field stores found e is range in
    let size = fills_field (nodes_of s.ifr) q field m.value back.0 found.own e back.1 in
    not_cut back.0 (subst (IsCut field.width) back.2 cut) size
  where
    not_cut : (bytes : List ℕ) → IsCut field.width (Some bytes) → length bytes ≡ field.width → ⊥
    not_cut bytes other size = eqb-false _ _ other size
