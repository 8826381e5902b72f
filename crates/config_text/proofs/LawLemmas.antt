-- What the grammar says of a text is what is read of it.
use Rattle.std.proofs.Common.{◌≡◌, ◌&&◌, ℕ, ◌<◌, ltb, Bool, true, false, List, [], ◌∷◌, ◌++◌, length, Option, Some, None, Result, Ok, Err, codes, refl, sym, ap, subst, ◌∙◌, arith, inl, inr, append-nil, append_assoc, if◌then◌else◌}
use Rattle.std.specs.Char.{digit_value}
use Rattle.std.specs.List.{All, AllZip, join_with_byte, list_all}
use Rattle.std.specs.Str.Parse.{AllDigits, IsNumeral}
use Rattle.std.proofs.lemmas.Bool.{and_parts, and_from, cases_Bool, ne_eqb}
use Rattle.std.proofs.lemmas.List.Elements.{All-nil, All-cons}
use Rattle.std.proofs.lemmas.List.Folds.{list_all-append}
use Rattle.std.proofs.lemmas.List.Splits.{slice_split_none, slice_split_at}
use Rattle.hii_bytes.specs.declared.cause.Cause.{Cause}
use Rattle.hii_bytes.specs.declared.cause.Cause.TheVariants.{BadNumber, ValueWidth}
use Rattle.config_text.specs.code.Parts.{is_between, text_parts}
use Rattle.config_text.specs.laws.Numbers.{IsOffset, IsWidth, AreValueDigits}
use Rattle.config_text.specs.code.PartReading.{fits_width, are_hex, offset_in, width_in}
use Rattle.browser_rules.specs.Configuration.{Header, Block}
use Rattle.config_text.specs.laws.Grammar.{IsHeader, IsBlock, IsConfiguration, all_parts}
use Rattle.config_text.specs.code.Reading.{Wanted, wants_offset, wants_width, wants_value, key_of, PartStep, Head, number_step, width_step, step_of, part_step, areas_before, then_areas, areas_in, named_by, named_areas, head_areas, head_in, reading_of, are_header_digits}
use Rattle.config_text.specs.laws.Faults.{IsBegun, IsBadBody, IsBadFirst, IsConfigurationFault}
use Rattle.config_text.specs.declared.kind.TextKind.{TextKind}
use Rattle.config_text.specs.declared.kind.TextKind.TheVariants.{Ask, Tell}
use Rattle.config_text.proofs.StepLemmas.{areas_before_nil, areas_before_more}
use Rattle.config_text.proofs.ReadLemmas.{body_in-of, body_in-lacks, offset-from, offset-is, width-from, width-is, numeral-is, numeral-from, hex-to}
use Rattle.config_text.proofs.HeaderLemmas.{header_parts, head-is, head-of, header-is, header-from}

-- ---- one part

part_read : (kind : TextKind) (wanted : Wanted) (body : List ℕ) (parts : List (List ℕ))
    → areas_in kind wanted ((key_of wanted ++ body) ∷ parts) ≡ then_areas (step_of kind wanted body) (λ next. areas_in kind next parts)
part_read kind wanted body parts = ap (λ o. then_areas (part_step kind wanted o) (λ next. areas_in kind next parts)) (body_in-of (key_of wanted) body)

offset_read : (kind : TextKind) (body : List ℕ) (n : ℕ) (parts : List (List ℕ)) → IsOffset body n → areas_in kind wants_offset ((codes "OFFSET=" ++ body) ∷ parts) ≡ areas_in kind (wants_width n) parts
offset_read kind body n parts h =
    let step : Option ℕ → Result PartStep Cause = number_step (λ m. record { areas = []; wanted = wants_width m }) in
    part_read kind wants_offset body parts
    ∙ ap (λ o. then_areas (step o) (λ next. areas_in kind next parts)) (offset-from body n h)
    ∙ areas_before_nil (areas_in kind (wants_width n) parts)

width_read : (kind : TextKind) (n : ℕ) (body : List ℕ) (m : ℕ) (parts : List (List ℕ)) → IsWidth body m
    → areas_in kind (wants_width n) ((codes "WIDTH=" ++ body) ∷ parts) ≡ then_areas (Ok (width_step kind n m)) (λ next. areas_in kind next parts)
width_read kind n body m parts h =
    part_read kind (wants_width n) body parts ∙ ap (λ o. then_areas (number_step (width_step kind n) o) (λ next. areas_in kind next parts)) (width-from body m h)

-- the step of a value, by its tests
value_step : (kind : TextKind) (n m : ℕ) (body : List ℕ) (digits fit : Bool) → (ltb 0 (length body) && are_hex body) ≡ digits → fits_width m body ≡ fit
    → step_of kind (wants_value n m) body ≡ (if digits then if fit then Ok record { areas = record { offset = n; width = m; digits = body } ∷ []; wanted = wants_offset } else Err ValueWidth else Err BadNumber)
value_step kind n m body digits fit e f =
    let good : Result PartStep Cause = Ok record { areas = record { offset = n; width = m; digits = body } ∷ []; wanted = wants_offset } in
    let inner : Bool → Result PartStep Cause = λ b. if b then good else Err ValueWidth in
    ap (λ b. if b then inner (fits_width m body) else Err BadNumber) e ∙ ap (λ b. if digits then inner b else Err BadNumber) f

value_read : (n m : ℕ) (body : List ℕ) (parts : List (List ℕ)) → AreValueDigits m body
    → areas_in Tell (wants_value n m) ((codes "VALUE=" ++ body) ∷ parts) ≡ areas_before (record { offset = n; width = m; digits = body } ∷ []) (areas_in Tell wants_offset parts)
value_read n m body parts h =
    part_read Tell (wants_value n m) body parts ∙ ap (λ s. then_areas s (λ next. areas_in Tell next parts)) (value_step Tell n m body true true (numeral-from body h.0) h.1)

-- ---- elements

element_read : (kind : TextKind) (element parts : List (List ℕ)) (area : Block) → IsBlock kind element area → areas_in kind wants_offset (element ++ parts) ≡ areas_before (area ∷ []) (areas_in kind wants_offset parts)
element_read Ask element parts area (offset, width, whole, o, w, none) =
    let plain : List ℕ → Block = λ digits. record { offset = area.offset; width = area.width; digits = digits } in
    ap (λ ps. areas_in Ask wants_offset (ps ++ parts)) whole
    ∙ offset_read Ask offset area.offset ((codes "WIDTH=" ++ width) ∷ parts) o
    ∙ width_read Ask area.offset width area.width parts w
    ∙ ap (λ digits. areas_before (plain digits ∷ []) (areas_in Ask wants_offset parts)) (sym none)
element_read Tell element parts area (offset, width, whole, o, w, v) =
    ap (λ ps. areas_in Tell wants_offset (ps ++ parts)) whole
    ∙ offset_read Tell offset area.offset ((codes "WIDTH=" ++ width) ∷ (codes "VALUE=" ++ area.digits) ∷ parts) o
    ∙ width_read Tell area.offset width area.width ((codes "VALUE=" ++ area.digits) ∷ parts) w
    ∙ areas_before_nil (areas_in Tell (wants_value area.offset area.width) ((codes "VALUE=" ++ area.digits) ∷ parts))
    ∙ value_read area.offset area.width area.digits parts v

elements_read : (kind : TextKind) (elements : List (List (List ℕ))) (rest : List (List ℕ)) (areas : List Block) → AllZip (IsBlock kind) elements areas
    → areas_in kind wants_offset (all_parts elements ++ rest) ≡ areas_before areas (areas_in kind wants_offset rest)
elements_read kind [] rest [] h = sym (areas_before_nil (areas_in kind wants_offset rest))
elements_read kind [] rest (area ∷ areas) h = absurd h
elements_read kind (element ∷ elements) rest [] h = absurd h
elements_read kind (element ∷ elements) rest (area ∷ areas) h =
    ap (areas_in kind wants_offset) (append_assoc element (all_parts elements) rest)
    ∙ element_read kind element (all_parts elements ++ rest) area h.0
    ∙ ap (areas_before (area ∷ [])) (elements_read kind elements rest areas h.1)
    ∙ areas_before_more (area ∷ []) areas (areas_in kind wants_offset rest)

-- ---- what is wrong

begun_read : (kind : TextKind) (begun rest : List (List ℕ)) (wanted : Wanted) → IsBegun kind begun wanted → areas_in kind wants_offset (begun ++ rest) ≡ areas_in kind wanted rest
begun_read kind begun rest wants_offset h = ap (λ b. areas_in kind wants_offset (b ++ rest)) h
begun_read kind begun rest (wants_width n) (offset, whole, o) = ap (λ b. areas_in kind wants_offset (b ++ rest)) whole ∙ offset_read kind offset n rest o
begun_read Ask begun rest (wants_value n m) h = let bad : ◌≡◌ {A = TextKind} Ask Tell = h.0 in (cc)
begun_read Tell begun rest (wants_value n m) (tells, offset, width, whole, o, w) =
    ap (λ b. areas_in Tell wants_offset (b ++ rest)) whole
    ∙ offset_read Tell offset n ((codes "WIDTH=" ++ width) ∷ rest) o
    ∙ width_read Tell n width m rest w
    ∙ areas_before_nil (areas_in Tell (wants_value n m) rest)

no_number : (o : Option ℕ) (step : ℕ → PartStep) → ((n : ℕ) → o ≡ Some n → ⊥) → number_step step o ≡ Err BadNumber
no_number None step h = refl
no_number (Some n) step h = absurd (h n refl)

no_numeral : (body : List ℕ) → (IsNumeral 16 body → ⊥) → (ltb 0 (length body) && are_hex body) ≡ false
no_numeral body h = elim (cases_Bool (ltb 0 (length body) && are_hex body)) [ inl e ↦ absurd (h (numeral-is body e)) | inr e ↦ e ]

body_bad : (kind : TextKind) (wanted : Wanted) (body : List ℕ) (cause : Cause) → IsBadBody wanted body cause → step_of kind wanted body ≡ Err cause
body_bad kind wants_offset body cause (is, none) =
    no_number (offset_in body) (λ m. record { areas = []; wanted = wants_width m }) (λ n e. none n (offset-is body n e)) ∙ ap Err (sym is)
body_bad kind (wants_width n) body cause (is, none) = no_number (width_in body) (width_step kind n) (λ m e. none m (width-is body m e)) ∙ ap Err (sym is)
body_bad kind (wants_value n m) body cause (inl (is, none)) = value_step kind n m body false (fits_width m body) (no_numeral body none) refl ∙ ap Err (sym is)
body_bad kind (wants_value n m) body cause (inr (is, numeral, wide)) = value_step kind n m body true false (numeral-from body numeral) wide ∙ ap Err (sym is)

first_bad : (kind : TextKind) (wanted : Wanted) (parts : List (List ℕ)) (cause : Cause) → IsBadFirst wanted parts cause → areas_in kind wanted parts ≡ Err cause
first_bad kind wants_offset [] cause (is, other) = absurd (other refl)
first_bad kind (wants_width n) [] cause (is, other) = ap Err (sym is)
first_bad kind (wants_value n m) [] cause (is, other) = ap Err (sym is)
first_bad kind wanted (part ∷ parts) cause (inl (is, lacks)) =
    ap (λ o. then_areas (part_step kind wanted o) (λ next. areas_in kind next parts)) (body_in-lacks (key_of wanted) part lacks) ∙ ap Err (sym is)
first_bad kind wanted (part ∷ parts) cause (inr (body, is, bad)) =
    ap (λ p. areas_in kind wanted (p ∷ parts)) is ∙ part_read kind wanted body parts ∙ ap (λ s. then_areas s (λ next. areas_in kind next parts)) (body_bad kind wanted body cause bad)

-- ---- the header before

-- what is named, with blocks
abbrev named_result : Header → Result (List Block) Cause → Result (Header × List Block) Cause
named_result named (Err cause) = Err cause
named_result named (Ok areas) = Ok (named, areas)

named_same : (head : Head) (named : Header) (r : Result (List Block) Cause) → named_by head.guid head.name head.path ≡ named → named_areas head r ≡ named_result named r
named_same head named (Ok areas) e = ap (λ n. Ok (n, areas)) e
named_same head named (Err cause) e = refl

header_read : (kind : TextKind) (header rest : List (List ℕ)) (named : Header) (parts : List (List ℕ)) (r : Result (List Block) Cause) → IsHeader header named → parts ≡ header ++ rest
    → areas_in kind wants_offset rest ≡ r → head_areas kind (head_in parts) ≡ named_result named r
header_read kind header rest named parts r h whole e =
    let is = header-from header named h in
    let same : parts ≡ header_parts is.guid is.name is.path rest = whole ∙ ap (λ ps. ps ++ rest) is.whole in
    let head : Head = record { guid = is.guid; name = is.name; path = is.path; rest = rest } in
    ap (head_areas kind) (ap head_in same ∙ head-of is.guid is.name is.path rest is.good) ∙ ap (named_areas head) e ∙ named_same head named r is.same

pub fault_read : (kind : TextKind) (text : List ℕ) (cause : Cause) → IsConfigurationFault kind text cause → reading_of kind text ≡ Err cause
fault_read kind text cause (inl (is, none)) = go (head_in (text_parts text)) refl
  where
    go : (o : Option Head) → head_in (text_parts text) ≡ o → head_areas kind o ≡ Err cause
    go None e = ap Err (sym is)
    go (Some head) e =
        let h = head-is (text_parts text) head e in
        absurd (none (record {
          header = header_parts head.guid head.name head.path [];
          rest = head.rest;
          named = named_by head.guid head.name head.path;
          whole = h.whole;
          is_header = header-is head.guid head.name head.path h.good;
        }))
fault_read kind text cause (inr h) =
    header_read kind h.header (all_parts h.blocks ++ (h.begun ++ h.rest)) h.named (text_parts text) (Err cause) h.is_header h.whole
    (elements_read kind h.blocks (h.begun ++ h.rest) h.areas h.are_blocks
    ∙ ap (areas_before h.areas) (begun_read kind h.begun h.rest h.wanted h.is_begun ∙ first_bad kind h.wanted h.rest cause h.bad))

-- ---- the parts of a text of the grammar

-- none of the bytes stands between two parts
abbrev pub is_clean : List ℕ → Bool
is_clean text = list_all (λ b. if is_between b then false else true) text

abbrev pub are_clean : List (List ℕ) → Bool
are_clean parts = list_all is_clean parts

clean_lacks : (text : List ℕ) → is_clean text ≡ true → All (λ b. is_between b ≡ false) text
clean_lacks [] e = All-nil (λ b. is_between b ≡ false)
clean_lacks (b ∷ text) e = let p = and_parts _ _ e in All-cons (λ x. is_between x ≡ false) b text (go (is_between b) p.0) (clean_lacks text p.1)
  where
    go : (c : Bool) → (if c then false else true) ≡ true → c ≡ false
    go true e = let bad : false ≡ true = e in (cc)
    go false e = refl

pub parts_joined : (part : List ℕ) (parts : List (List ℕ)) → are_clean (part ∷ parts) ≡ true → text_parts (join_with_byte 38 (part ∷ parts)) ≡ part ∷ parts
parts_joined part [] e = let p = and_parts _ _ e in slice_split_none is_between part (clean_lacks part p.0)
parts_joined part (next ∷ parts) e =
    let p = and_parts _ _ e in
    slice_split_at is_between part 38 (join_with_byte 38 (next ∷ parts)) (clean_lacks part p.0) refl ∙ ap (λ ps. part ∷ ps) (parts_joined next parts p.1)

pub clean_digits : (text : List ℕ) → AllDigits 16 text → is_clean text ≡ true
clean_digits [] h = refl
clean_digits (b ∷ text) h =
    let other : is_between b ≡ false = ne_eqb b 38 (λ e. let bad : digit_value 38 < 16 = subst (λ x. digit_value x < 16) e h.0 in omega (arith, bad)) in
    and_from _ _ (ap (λ c. if c then false else true) other) (clean_digits text h.1)

pub clean_header : (guid name path : List ℕ) → are_header_digits guid name path ≡ true → are_clean (header_parts guid name path []) ≡ true
clean_header guid name path good =
    let p = and_parts _ _ good in
    let g = and_parts _ _ (and_parts _ _ p.0).0 in
    let r = and_parts _ _ p.1 in
    let n = and_parts _ _ r.0 in
    let d = and_parts _ _ r.1 in
    and_from _ _ (clean_digits guid (hex-to guid g.0)) (and_from _ _ (clean_digits name (hex-to name n.0)) (and_from _ _ (clean_digits path (hex-to path d.0)) refl))

clean_element : (kind : TextKind) (element : List (List ℕ)) (area : Block) → IsBlock kind element area → are_clean element ≡ true
clean_element Ask element area (offset, width, whole, o, w, none) =
    ap are_clean whole ∙ and_from _ _ (clean_digits offset o.digits.1) (and_from _ _ (clean_digits width w.0.digits.1) refl)
clean_element Tell element area (offset, width, whole, o, w, v) =
    ap are_clean whole ∙ and_from _ _ (clean_digits offset o.digits.1) (and_from _ _ (clean_digits width w.0.digits.1) (and_from _ _ (clean_digits area.digits v.0.1) refl))

clean_elements : (kind : TextKind) (elements : List (List (List ℕ))) (areas : List Block) → AllZip (IsBlock kind) elements areas → are_clean (all_parts elements) ≡ true
clean_elements kind [] [] h = refl
clean_elements kind [] (area ∷ areas) h = absurd h
clean_elements kind (element ∷ elements) [] h = absurd h
clean_elements kind (element ∷ elements) (area ∷ areas) h =
    list_all-append is_clean element (all_parts elements) ∙ and_from _ _ (clean_element kind element area h.0) (clean_elements kind elements areas h.1)

pub text_read : (kind : TextKind) (text : List ℕ) (named : Header) (areas : List Block) → IsConfiguration kind text named areas → reading_of kind text ≡ Ok (named, areas)
text_read kind text named areas h =
    let is = header-from h.header named h.is_header in
    let elements = all_parts h.blocks in
    let whole : h.header ++ elements ≡ header_parts is.guid is.name is.path elements = ap (λ ps. ps ++ elements) is.whole in
    let clean : are_clean (header_parts is.guid is.name is.path elements) ≡ true =
    list_all-append is_clean (header_parts is.guid is.name is.path []) elements
    ∙ and_from _ _ (clean_header is.guid is.name is.path is.good) (clean_elements kind h.blocks areas h.are_blocks) in
    let parts : text_parts text ≡ h.header ++ elements =
    ap text_parts (h.whole ∙ ap (join_with_byte 38) whole)
    ∙ parts_joined (codes "GUID=" ++ is.guid) ((codes "NAME=" ++ is.name) ∷ (codes "PATH=" ++ is.path) ∷ elements) clean ∙ sym whole in
    let blocks : areas_in kind wants_offset elements ≡ Ok areas =
    ap (areas_in kind wants_offset) (sym (append-nil elements)) ∙ elements_read kind h.blocks [] areas h.are_blocks ∙ ap Ok (append-nil areas) in
    header_read kind h.header elements named (text_parts text) (Ok areas) h.is_header parts blocks

-- ---- one reading

abbrev View : Type 0
View = Header × List Block

-- what a result gives, or another view
abbrev view_or : View → Result View Cause → View
view_or other (Ok view) = view
view_or other (Err cause) = other

abbrev cause_or : Cause → Result View Cause → Cause
cause_or other (Ok view) = other
cause_or other (Err cause) = cause

pub one_text : (kind : TextKind) (text : List ℕ) (named other : Header) (areas others : List Block) → IsConfiguration kind text named areas → IsConfiguration kind text other others → (named ≡ other) × (areas ≡ others)
one_text kind text named other areas others h k =
    let e : ◌≡◌ {A = Result View Cause} (Ok (named, areas)) (Ok (other, others)) = sym (text_read kind text named areas h) ∙ text_read kind text other others k in
    (ap (λ r. (view_or (named, areas) r).0) e, ap (λ r. (view_or (named, areas) r).1) e)

pub one_fault : (kind : TextKind) (text : List ℕ) (cause other : Cause) → IsConfigurationFault kind text cause → IsConfigurationFault kind text other → cause ≡ other
one_fault kind text cause other h k =
    let e : ◌≡◌ {A = Result View Cause} (Err cause) (Err other) = sym (fault_read kind text cause h) ∙ fault_read kind text other k in
    ap (λ r. cause_or cause r) e

pub no_fault : (kind : TextKind) (text : List ℕ) (cause : Cause) (named : Header) (areas : List Block) → IsConfigurationFault kind text cause → IsConfiguration kind text named areas → ⊥
no_fault kind text cause named areas h k =
    let bad : ◌≡◌ {A = Result View Cause} (Err cause) (Ok (named, areas)) = sym (fault_read kind text cause h) ∙ text_read kind text named areas k in (cc)
