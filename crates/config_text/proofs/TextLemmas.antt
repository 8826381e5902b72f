-- What is read of a text is what the grammar says of it.
use Rattle.std.proofs.Common.{◌≡◌, ◌&&◌, ◌<◌, arith, is_ok, ℕ, ltb, true, false, List, [], ◌∷◌, ◌++◌, length, Option, Some, None, Result, Ok, Err, codes, refl, sym, ap, subst, ◌∙◌, inl, inr, append_assoc, if◌then◌else◌}
use Rattle.std.specs.List.{AllZip, join_with_byte}
use Rattle.std.proofs.lemmas.Bool.{cases_Bool, cond-true, cond-false}
use Rattle.std.proofs.lemmas.List.Splits.{join_with_byte-slice_split}
use Rattle.hii_bytes.specs.declared.cause.Cause.{Cause}
use Rattle.hii_bytes.specs.declared.cause.Cause.TheVariants.{BadElement, BadNumber, ValueWidth}
use Rattle.config_text.specs.code.Parts.{text_parts}
use Rattle.config_text.specs.code.PartReading.{body_in, are_hex, offset_in, width_in, fits_width}
use Rattle.browser_rules.specs.Configuration.{Header, Block, blocks_asked}
use Rattle.config_text.specs.laws.Grammar.{IsBlock, IsConfiguration, all_parts}
use Rattle.config_text.specs.code.Reading.{Wanted, wants_offset, wants_width, wants_value, key_of, PartStep, Head, number_step, width_step, step_of, part_step, areas_before, then_areas, at_end, areas_in, named_by, named_areas, head_areas, head_in, reading_of}
use Rattle.config_text.specs.laws.Faults.{IsBegun, IsBadFirst, BeginsWithHeader, IsConfigurationFault}
use Rattle.config_text.specs.code.Elements.{parts_behind, areas_behind, are_elements, areas_or_none, areas_of}
use Rattle.config_text.proofs.PartLemmas.{behind_some}
use Rattle.config_text.specs.declared.kind.TextKind.{TextKind}
use Rattle.config_text.specs.declared.kind.TextKind.TheVariants.{Ask, Tell}
use Rattle.config_text.proofs.StepLemmas.{areas_before_nil}
use Rattle.config_text.proofs.ReadLemmas.{body_in-is, body_in-none, offset-from, offset-is, width-from, width-is, numeral-is, numeral-from}
use Rattle.config_text.proofs.HeaderLemmas.{header_parts, head-is, head-of, header-is, header-from}

-- ---- from the function

-- whole elements and the begun one, and then a part that is wrong
record IsBad (kind : TextKind) (parts : List (List ℕ)) (cause : Cause) : Type 0 where
  elements : List (List (List ℕ))
  begun : List (List ℕ)
  rest : List (List ℕ)
  areas : List Block
  wanted : Wanted
  whole : parts ≡ all_parts elements ++ (begun ++ rest)
  are_blocks : AllZip (IsBlock kind) elements areas
  is_begun : IsBegun kind begun wanted
  bad : IsBadFirst wanted rest cause

record AreAreas (kind : TextKind) (parts : List (List ℕ)) (areas : List Block) : Type 0 where
  elements : List (List (List ℕ))
  whole : parts ≡ all_parts elements
  are_blocks : AllZip (IsBlock kind) elements areas

-- what a result says of the parts
abbrev Told : TextKind → List (List ℕ) → Result (List Block) Cause → Type 0
Told kind parts (Ok areas) = AreAreas kind parts areas
Told kind parts (Err cause) = IsBad kind parts cause

told_bad : (kind : TextKind) (begun rest : List (List ℕ)) (wanted : Wanted) (cause : Cause) → IsBegun kind begun wanted → IsBadFirst wanted rest cause
    → Told kind (begun ++ rest) (Err cause)
told_bad kind begun rest wanted cause h bad = record {
  elements = [];
  begun = begun;
  rest = rest;
  areas = [];
  wanted = wanted;
  whole = refl;
  are_blocks = tt;
  is_begun = h;
  bad = bad;
}

-- an element before others
told_more : (kind : TextKind) (element parts : List (List ℕ)) (area : Block) (r : Result (List Block) Cause) → IsBlock kind element area → Told kind parts r
    → Told kind (element ++ parts) (areas_before (area ∷ []) r)
told_more kind element parts area (Ok areas) h told = record {
  elements = element ∷ told.elements;
  whole = ap (λ ps. element ++ ps) told.whole;
  are_blocks = (h, told.are_blocks);
}
told_more kind element parts area (Err cause) h told = record {
  elements = element ∷ told.elements;
  begun = told.begun;
  rest = told.rest;
  areas = area ∷ told.areas;
  wanted = told.wanted;
  whole = ap (λ ps. element ++ ps) told.whole ∙ sym (append_assoc element (all_parts told.elements) (told.begun ++ told.rest));
  are_blocks = (h, told.are_blocks);
  is_begun = told.is_begun;
  bad = told.bad;
}

-- what is told of the parts behind the first one
abbrev Follow : TextKind → List (List ℕ) → Type 0
Follow kind parts = (wanted : Wanted) (begun : List (List ℕ)) → IsBegun kind begun wanted → Told kind (begun ++ parts) (areas_in kind wanted parts)

-- the result of a part and of those behind it
abbrev result_of : TextKind → Wanted → List ℕ → List (List ℕ) → Result (List Block) Cause
result_of kind wanted body parts = then_areas (step_of kind wanted body) (λ next. areas_in kind next parts)

told_offset : (kind : TextKind) (part body : List ℕ) (parts begun : List (List ℕ)) → part ≡ codes "OFFSET=" ++ body → begun ≡ [] → Follow kind parts
    → Told kind (begun ++ part ∷ parts) (result_of kind wants_offset body parts)
told_offset kind part body parts begun is none follow = go (offset_in body) refl
  where
    go : (o : Option ℕ) → offset_in body ≡ o
        → Told kind (begun ++ part ∷ parts) (then_areas (number_step (λ n. record { areas = []; wanted = wants_width n }) o) (λ next. areas_in kind next parts))
    go None e = told_bad kind begun (part ∷ parts) wants_offset BadNumber none (inr (body, is, (refl, λ n h. let bad : ◌≡◌ {A = Option ℕ} None (Some n) = sym e ∙ offset-from body n h in (cc))))
    go (Some n) e =
        let one : List (List ℕ) = (codes "OFFSET=" ++ body) ∷ [] in
        let same : one ++ parts ≡ begun ++ part ∷ parts = sym (ap (λ b. b ++ part ∷ parts) none ∙ ap (λ p. p ∷ parts) is) in
        subst (Told kind (begun ++ part ∷ parts)) (sym (areas_before_nil (areas_in kind (wants_width n) parts)))
        (subst (λ ps. Told kind ps (areas_in kind (wants_width n) parts)) same (follow (wants_width n) one (body, refl, offset-is body n e)))

-- the offset before, and the width
width_parts : (part body offset : List ℕ) (parts begun : List (List ℕ)) → part ≡ codes "WIDTH=" ++ body → begun ≡ (codes "OFFSET=" ++ offset) ∷ []
    → begun ++ part ∷ parts ≡ (codes "OFFSET=" ++ offset) ∷ (codes "WIDTH=" ++ body) ∷ parts
width_parts part body offset parts begun is areas_before = ap (λ b. b ++ part ∷ parts) areas_before ∙ ap (λ p. (codes "OFFSET=" ++ offset) ∷ p ∷ parts) is

told_width : (kind : TextKind) (n : ℕ) (part body : List ℕ) (parts begun : List (List ℕ)) → part ≡ codes "WIDTH=" ++ body → IsBegun kind begun (wants_width n) → Follow kind parts
    → Told kind (begun ++ part ∷ parts) (result_of kind (wants_width n) body parts)
told_width kind n part body parts begun is (offset, one, number) follow = go kind follow (width_in body) refl
  where
    go : (kind : TextKind) → Follow kind parts → (o : Option ℕ) → width_in body ≡ o
        → Told kind (begun ++ part ∷ parts) (then_areas (number_step (width_step kind n) o) (λ next. areas_in kind next parts))
    go kind follow None e = told_bad kind begun (part ∷ parts) (wants_width n) BadNumber (offset, one, number)
        (inr (body, is, (refl, λ m h. let bad : ◌≡◌ {A = Option ℕ} None (Some m) = sym e ∙ width-from body m h in (cc))))
    go Ask follow (Some m) e =
        let element : List (List ℕ) = (codes "OFFSET=" ++ offset) ∷ (codes "WIDTH=" ++ body) ∷ [] in
        let area : Block = record { offset = n; width = m; digits = [] } in
        let result : Result (List Block) Cause = areas_before (area ∷ []) (areas_in Ask wants_offset parts) in
        subst (λ ps. Told Ask ps result) (sym (width_parts part body offset parts begun is one))
        (told_more Ask element parts area (areas_in Ask wants_offset parts) (offset, body, refl, number, width-is body m e, refl) (follow wants_offset [] refl))
    go Tell follow (Some m) e =
        let element : List (List ℕ) = (codes "OFFSET=" ++ offset) ∷ (codes "WIDTH=" ++ body) ∷ [] in
        subst (Told Tell (begun ++ part ∷ parts)) (sym (areas_before_nil (areas_in Tell (wants_value n m) parts)))
        (subst (λ ps. Told Tell ps (areas_in Tell (wants_value n m) parts)) (sym (width_parts part body offset parts begun is one))
        (follow (wants_value n m) element (refl, offset, body, refl, number, width-is body m e)))

told_value : (kind : TextKind) (n m : ℕ) (part body : List ℕ) (parts begun : List (List ℕ)) → part ≡ codes "VALUE=" ++ body → IsBegun kind begun (wants_value n m) → Follow kind parts
    → Told kind (begun ++ part ∷ parts) (result_of kind (wants_value n m) body parts)
told_value Ask n m part body parts begun is h follow = let bad : ◌≡◌ {A = TextKind} Ask Tell = h.0 in (cc)
told_value Tell n m part body parts begun is (tells, offset, width, two, number, number_2) follow =
    let numeral = ltb 0 (length body) && are_hex body in
    let area : Block = record { offset = n; width = m; digits = body } in
    let good : Result PartStep Cause = Ok record { areas = area ∷ []; wanted = wants_offset } in
    let inner : Result PartStep Cause = (if fits_width m body then good else Err ValueWidth) in
    let rest : List (List ℕ) → Result (List Block) Cause = λ ps. areas_before (area ∷ []) (areas_in Tell wants_offset ps) in
    let begins : IsBegun Tell begun (wants_value n m) = (tells, offset, width, two, number, number_2) in
    let told : Result PartStep Cause → Type 0 = λ step. Told Tell (begun ++ part ∷ parts) (then_areas step (λ next. areas_in Tell next parts)) in
    elim (cases_Bool numeral) [
      | inr other ↦ subst told (sym (cond-false numeral inner (Err BadNumber) other))
          (told_bad Tell begun (part ∷ parts) (wants_value n m) BadNumber begins
          (inr (body, is, inl (refl, λ h. let bad : true ≡ false = sym (numeral-from body h) ∙ other in (cc)))))
      | inl digits ↦ subst told (sym (cond-true numeral inner (Err BadNumber) digits)) (elim (cases_Bool (fits_width m body)) [
        | inr wide ↦ subst told (sym (cond-false (fits_width m body) good (Err ValueWidth) wide))
            (told_bad Tell begun (part ∷ parts) (wants_value n m) ValueWidth begins (inr (body, is, inr (refl, numeral-is body digits, wide))))
        | inl fit ↦
            let element : List (List ℕ) = (codes "OFFSET=" ++ offset) ∷ (codes "WIDTH=" ++ width) ∷ (codes "VALUE=" ++ body) ∷ [] in
            let whole : element ++ parts ≡ begun ++ part ∷ parts =
            sym (ap (λ b. b ++ part ∷ parts) two ∙ ap (λ p. (codes "OFFSET=" ++ offset) ∷ (codes "WIDTH=" ++ width) ∷ p ∷ parts) is) in
            subst told (sym (cond-true (fits_width m body) good (Err ValueWidth) fit))
            (subst (λ ps. Told Tell ps (rest parts)) whole
            (told_more Tell element parts area (areas_in Tell wants_offset parts) (offset, width, refl, number, number_2, (numeral-is body digits, fit)) (follow wants_offset [] refl)))
      ])
    ]

told_body : (kind : TextKind) (wanted : Wanted) (part body : List ℕ) (parts begun : List (List ℕ)) → part ≡ key_of wanted ++ body → IsBegun kind begun wanted → Follow kind parts
    → Told kind (begun ++ part ∷ parts) (result_of kind wanted body parts)
told_body kind wants_offset part body parts begun is h follow = told_offset kind part body parts begun is h follow
told_body kind (wants_width n) part body parts begun is h follow = told_width kind n part body parts begun is h follow
told_body kind (wants_value n m) part body parts begun is h follow = told_value kind n m part body parts begun is h follow

told_part : (kind : TextKind) (wanted : Wanted) (part : List ℕ) (parts begun : List (List ℕ)) → IsBegun kind begun wanted → Follow kind parts
    → Told kind (begun ++ part ∷ parts) (areas_in kind wanted (part ∷ parts))
told_part kind wanted part parts begun h follow = go (body_in (key_of wanted) part) refl
  where
    go : (o : Option (List ℕ)) → body_in (key_of wanted) part ≡ o → Told kind (begun ++ part ∷ parts) (then_areas (part_step kind wanted o) (λ next. areas_in kind next parts))
    go None e = told_bad kind begun (part ∷ parts) wanted BadElement h (inl (refl, body_in-none (key_of wanted) part e))
    go (Some body) e = told_body kind wanted part body parts begun (body_in-is (key_of wanted) part body e) h follow

told_end : (kind : TextKind) (wanted : Wanted) (begun : List (List ℕ)) → IsBegun kind begun wanted → Told kind (begun ++ []) (at_end wanted)
told_end kind wants_offset begun h = record { elements = []; whole = ap (λ b. b ++ []) h; are_blocks = tt }
told_end kind (wants_width n) begun h = told_bad kind begun [] (wants_width n) BadElement h (refl, λ e. let bad : wants_width n ≡ wants_offset = e in (cc))
told_end kind (wants_value n m) begun h = told_bad kind begun [] (wants_value n m) BadElement h (refl, λ e. let bad : wants_value n m ≡ wants_offset = e in (cc))

told : (kind : TextKind) (parts : List (List ℕ)) → Follow kind parts
told kind [] = told_end kind
told kind (part ∷ parts) = λ wanted begun h. told_part kind wanted part parts begun h (told kind parts)

-- what a result says of a text
abbrev pub Outcome : TextKind → List ℕ → Result (Header × List Block) Cause → Type 0
Outcome kind text (Ok (named, areas)) = IsConfiguration kind text named areas
Outcome kind text (Err cause) = IsConfigurationFault kind text cause

no_header : (parts : List (List ℕ)) → head_in parts ≡ None → BeginsWithHeader parts → ⊥
no_header parts e h =
    let r = header-from h.header h.named h.is_header in
    let rest = h.rest in
    let same : parts ≡ header_parts r.guid r.name r.path rest = h.whole ∙ ap (λ ps. ps ++ rest) r.whole in
    let bad : ◌≡◌ {A = Option Head} None (Some record { guid = r.guid; name = r.name; path = r.path; rest = rest }) = sym e ∙ ap head_in same ∙ head-of r.guid r.name r.path rest r.good in
    (cc)

outcome_head : (kind : TextKind) (text : List ℕ) (head : Head) (r : Result (List Block) Cause) → head_in (text_parts text) ≡ Some head → Told kind head.rest r
    → Outcome kind text (named_areas head r)
outcome_head kind text head (Ok areas) e told =
    let is = head-is (text_parts text) head e in
    let header = header_parts head.guid head.name head.path in
    record {
      header = header [];
      blocks = told.elements;
      whole = sym (join_with_byte-slice_split 38 text) ∙ ap (join_with_byte 38) (is.whole ∙ ap header told.whole);
      is_header = header-is head.guid head.name head.path is.good;
      are_blocks = told.are_blocks;
    }
outcome_head kind text head (Err cause) e told =
    let is = head-is (text_parts text) head e in
    let header = header_parts head.guid head.name head.path in
    inr (record {
      header = header [];
      blocks = told.elements;
      begun = told.begun;
      rest = told.rest;
      named = named_by head.guid head.name head.path;
      areas = told.areas;
      wanted = told.wanted;
      whole = is.whole ∙ ap header told.whole;
      is_header = header-is head.guid head.name head.path is.good;
      are_blocks = told.are_blocks;
      is_begun = told.is_begun;
      bad = told.bad;
    })

pub outcome : (kind : TextKind) (text : List ℕ) → Outcome kind text (reading_of kind text)
outcome kind text = go (head_in (text_parts text)) refl
  where
    go : (o : Option Head) → head_in (text_parts text) ≡ o → Outcome kind text (head_areas kind o)
    go None e = inl (refl, no_header (text_parts text) e)
    go (Some head) e = outcome_head kind text head (areas_in kind wants_offset head.rest) e (told kind head.rest wants_offset [] refl)

pub read_good : (kind : TextKind) (text : List ℕ) (named : Header) (areas : List Block) → reading_of kind text ≡ Ok (named, areas) → IsConfiguration kind text named areas
read_good kind text named areas e = subst (Outcome kind text) e (outcome kind text)

pub read_bad : (kind : TextKind) (text : List ℕ) (cause : Cause) → reading_of kind text ≡ Err cause → IsConfigurationFault kind text cause
read_bad kind text cause e = subst (Outcome kind text) e (outcome kind text)

-- ---- a request that asks for blocks of its own

no_blocks : (blocks : List (List (List ℕ))) → AllZip (IsBlock Ask) blocks [] → all_parts blocks ≡ []
no_blocks [] h = refl
no_blocks (block ∷ blocks) h = absurd h

pub asked_own : (text : List ℕ) (size : ℕ) → are_elements Ask text ≡ true → 0 < length text → blocks_asked (areas_of Ask text) size ≡ areas_of Ask text
asked_own text size sound some = go (areas_behind Ask text) sound (told Ask (parts_behind text) wants_offset [] refl)
  where
    go : (r : Result (List Block) Cause) → is_ok r ≡ true → Told Ask (parts_behind text) r → blocks_asked (areas_or_none r) size ≡ areas_or_none r
    go (Err cause) ok h = let bad : false ≡ true = ok in (cc)
    go (Ok []) ok h =
        let none : length (parts_behind text) ≡ 0 = ap length (h.whole ∙ no_blocks h.elements h.are_blocks) in
        absurd (omega (arith, none, behind_some text some))
    go (Ok (area ∷ areas)) ok h = refl
