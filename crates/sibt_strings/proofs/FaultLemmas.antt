-- The faults of a string package, and what one without a fault says.
use Rattle.std.proofs.Common.{◌≡◌, ◌≢◌, ◌⊎◌, ℕ, zero, suc, ◌+◌, ◌<◌, ◌≤◌, List, [], ◌∷◌, ◌++◌, length, Option, None, Some, Result, Ok, Err, true, false, refl, ap, sym, ◌∙◌, subst, inl, inr, arith}
use Rattle.std.specs.Prelude.{◌||◌, nat_lt, is_none, unwrap_or, Contains}
use Rattle.std.specs.Option.{option_map, is_some}
use Rattle.std.specs.Result.{result_unwrap_or}
use Rattle.std.proofs.lemmas.Bool.{false≢true, true≢false, cases_lt, le-ltb}
use Rattle.std.proofs.lemmas.Bool.Decides.{nat_tests}
use Rattle.std.proofs.lemmas.List.{length-drop}
use Rattle.browser_rules.specs.Words as chapter
use Rattle.browser_rules.specs.Packages.{Package}
use Rattle.browser_rules.specs.Strings.{Spoken, Texts, info_offset, language_of, texts_of, spoken_by}
use Rattle.browser_rules.specs.Faults.{Fault, fault_at, fault_if, fault_of_texts, string_package_faults}
use Rattle.hii_bytes.specs.Causes.{cause_for, fault_for}
use Rattle.hii_bytes.specs.Cause.{number_of}
use Rattle.hii_bytes.specs.Faults.{IsLeastAmong}
use Rattle.hii_bytes.specs.declared.cause.Cause.TheVariants.{StringHeader, LanguageText}
use Rattle.hii_bytes.specs.declared.cause.Fault.{Fault as CodeFault}
use Rattle.hii_bytes.proofs.ChapterFaultLemmas.{least_alone, some_faults}
use Rattle.sibt_strings.specs.laws.Spelling.{Speaks}
use Rattle.sibt_strings.specs.code.Blocks.{texts_said}
use Rattle.sibt_strings.specs.code.Parts.{HasFixedPart, blocks_of}
use Rattle.sibt_strings.specs.code.Views.{blocks_in, spoken_in, HoldsBlocks, IsBlockFault}
use Rattle.sibt_strings.proofs.BlockLemmas.{held_are}
use Rattle.sibt_strings.proofs.ReadLemmas.{blocks_texts, stop_read, all_read, all_spelled}
use Rattle.sibt_strings.proofs.TextLemmas.{cases_option}

-- ---- the fixed part

abbrev IsBadHeader : List ℕ → Type 0
IsBadHeader bytes = (length bytes < 46) ⊎ (info_offset bytes < 46) ⊎ (length bytes < info_offset bytes)

header_cases : (bytes : List ℕ) → IsBadHeader bytes ⊎ HasFixedPart bytes
header_cases bytes =
    elim (cases_lt (length bytes) 46) [
      | inl short ↦ inl (inl short)
      | inr long ↦ elim (cases_lt (info_offset bytes) 46) [
        | inl low ↦ inl (inr (inl low))
        | inr low ↦ elim (cases_lt (length bytes) (info_offset bytes)) [
          | inl high ↦ inl (inr (inr high))
          | inr high ↦ inr (record { long = long; low = low; high = high })
        ]
      ]
    ]

bad_test : (n m : ℕ) → (n < 46) ⊎ (m < 46) ⊎ (n < m) → (nat_lt n 46 || nat_lt m 46 || nat_lt n m) ≡ true
bad_test n m bad = grind (arith, nat_tests)

header_fault : (p : Package) → IsBadHeader p.bytes → string_package_faults p ≡ fault_at chapter.StringHeader p.place
header_fault p bad = let is = bad_test (length p.bytes) (info_offset p.bytes) bad in rw is refl

pub least_header : (p : Package) → IsBadHeader p.bytes → IsLeastAmong (string_package_faults p) (record { cause = StringHeader; place = p.place })
least_header p bad = least_alone (string_package_faults p) (record { cause = StringHeader; place = p.place }) (header_fault p bad)

-- the faults behind a fixed part
abbrev faults_behind : ℕ → Option (List ℕ) → Result Texts (chapter.Cause × ℕ) → List Fault
faults_behind place language texts = fault_if (is_none language) chapter.LanguageText (place + 46) ++ fault_of_texts texts

behind_header : (p : Package) → HasFixedPart p.bytes → string_package_faults p ≡ faults_behind p.place (language_of p) (texts_of p)
behind_header p h =
    let long = le-ltb (length p.bytes) 46 h.long in
    let low = le-ltb (info_offset p.bytes) 46 h.low in
    let high = le-ltb (length p.bytes) (info_offset p.bytes) h.high in
    rw (long, low, high) refl

faults_are : (p : Package) → HasFixedPart p.bytes → (language : Option (List ℕ)) (texts : Result Texts (chapter.Cause × ℕ)) → language_of p ≡ language → texts_of p ≡ texts
    → string_package_faults p ≡ faults_behind p.place language texts
faults_are p h language texts l t = behind_header p h ∙ ap (λ l. faults_behind p.place l (texts_of p)) l ∙ ap (faults_behind p.place language) t

-- ---- the texts

few_blocks : (p : Package) → length (blocks_of p.bytes) ≤ length p.bytes
few_blocks p = omega (arith, length-drop (info_offset p.bytes) p.bytes)

texts_are : (p : Package) (held : HoldsBlocks (blocks_of p.bytes)) → texts_of p ≡ Ok (texts_said (blocks_in (length (blocks_of p.bytes)) (blocks_of p.bytes)))
texts_are p held =
    blocks_texts (length p.bytes) (p.place + info_offset p.bytes) (blocks_of p.bytes) (blocks_in (length (blocks_of p.bytes)) (blocks_of p.bytes)) (few_blocks p)
    (held_are (blocks_of p.bytes) held)

texts_fault : (p : Package) (fault : CodeFault) → IsBlockFault (blocks_of p.bytes) fault → texts_of p ≡ Err (cause_for fault.cause, p.place + (info_offset p.bytes + fault.place))
texts_fault p fault bad = told ∙ ap (λ q. Err (cause_for fault.cause, q)) place
  where
    place : p.place + info_offset p.bytes + fault.place ≡ p.place + (info_offset p.bytes + fault.place)
    place = omega arith

    told : texts_of p ≡ Err (cause_for fault.cause, p.place + info_offset p.bytes + fault.place)
    told = elim bad [
      | inl x ↦ stop_read (length p.bytes) (p.place + info_offset p.bytes) fault.place (blocks_of p.bytes) _ (cause_for fault.cause) (few_blocks p) x.1 (inl (refl, ap cause_for x.0))
      | inr x ↦ stop_read (length p.bytes) (p.place + info_offset p.bytes) fault.place (blocks_of p.bytes) _ (cause_for fault.cause) (few_blocks p) x.1 (inr (refl, ap cause_for x.0))
    ]

-- ---- the least fault

abbrev listed : CodeFault → Fault
listed f = fault_for f.cause f.place

-- where one is told there is one
pub some_least : (faults : List Fault) (fault : CodeFault) → IsLeastAmong faults fault → faults ≡ [] → ⊥
some_least faults fault least none = omega (arith, (subst (λ (fs : List Fault). Contains fs (listed fault)) none least.among).1)

one_of_two : (f g h : Fault) → Contains (f ∷ g ∷ []) h → (f ≡ h) ⊎ (g ≡ h)
one_of_two f g h (zero, within, e) = inl e
one_of_two f g h (suc zero, within, e) = inr e
one_of_two f g h (suc (suc k), within, e) = absurd (omega (arith, within))

-- a fault comes before another
abbrev IsBefore : CodeFault → CodeFault → Type 0
IsBefore f g = (f.place < g.place) ⊎ ((f.place ≡ g.place) × (number_of f.cause ≤ number_of g.cause))

least_first : (f g : CodeFault) → IsBefore f g → IsLeastAmong (listed f ∷ listed g ∷ []) f
least_first f g before = record {
  among = (0, omega arith, refl);
  least = λ other among. elim (one_of_two (listed f) (listed g) other among) [
    | inl same ↦ subst (λ (h : Fault). (f.place < h.place) ⊎ ((f.place ≡ h.place) × (number_of f.cause ≤ (chapter.number_and_name h.cause).0))) same (inr (refl, omega arith))
    | inr same ↦ subst (λ (h : Fault). (f.place < h.place) ⊎ ((f.place ≡ h.place) × (number_of f.cause ≤ (chapter.number_and_name h.cause).0))) same before
  ];
}

least_second : (f g : CodeFault) → IsBefore g f → IsLeastAmong (listed f ∷ listed g ∷ []) g
least_second f g before = record {
  among = (1, omega arith, refl);
  least = λ other among. elim (one_of_two (listed f) (listed g) other among) [
    | inl same ↦ subst (λ (h : Fault). (g.place < h.place) ⊎ ((g.place ≡ h.place) × (number_of g.cause ≤ (chapter.number_and_name h.cause).0))) same before
    | inr same ↦ subst (λ (h : Fault). (g.place < h.place) ⊎ ((g.place ≡ h.place) × (number_of g.cause ≤ (chapter.number_and_name h.cause).0))) same (inr (refl, omega arith))
  ];
}

abbrev fault_of_language : Package → CodeFault
fault_of_language p = record { cause = LanguageText; place = p.place + 46 }

abbrev fault_of_block : Package → CodeFault → CodeFault
fault_of_block p fault = record { cause = fault.cause; place = p.place + (info_offset p.bytes + fault.place) }

-- the fault of the language where the blocks are whole
pub only_language : (p : Package) (blocks : List ℕ) → HasFixedPart p.bytes → blocks ≡ blocks_of p.bytes → language_of p ≡ None → HoldsBlocks blocks
    → IsLeastAmong (string_package_faults p) (fault_of_language p)
only_language p blocks fixed same none held =
    least_alone (string_package_faults p) (fault_of_language p) (faults_are p fixed None _ none (texts_are p (subst HoldsBlocks same held)))

-- the fault of the language where that of a block is behind it
pub least_language : (p : Package) (blocks : List ℕ) (fault : CodeFault) → HasFixedPart p.bytes → blocks ≡ blocks_of p.bytes → language_of p ≡ None → IsBlockFault blocks fault
    → 46 < info_offset p.bytes + fault.place → IsLeastAmong (string_package_faults p) (fault_of_language p)
least_language p blocks fault fixed same none bad later =
    subst (λ (fs : List Fault). IsLeastAmong fs (fault_of_language p)) (sym (faults_are p fixed None _ none (texts_fault p fault (subst (λ b. IsBlockFault b fault) same bad))))
    (least_first (fault_of_language p) (fault_of_block p fault) (inl (omega (arith, later))))

-- the fault of a block, unless the language has one before it
pub least_block : (p : Package) (blocks : List ℕ) (fault : CodeFault) → HasFixedPart p.bytes → blocks ≡ blocks_of p.bytes → IsBlockFault blocks fault
    → (language_of p ≢ None) ⊎ (info_offset p.bytes + fault.place ≤ 46) → IsLeastAmong (string_package_faults p) (fault_of_block p fault)
least_block p blocks fault fixed same bad first =
    elim (cases_option (language_of p)) [
      | inr some ↦ least_alone (string_package_faults p) (fault_of_block p fault) (faults_are p fixed (Some some.0) _ some.1 texts)
      | inl none ↦ subst (λ (fs : List Fault). IsLeastAmong fs (fault_of_block p fault)) (sym (faults_are p fixed None _ none texts))
          (least_second (fault_of_language p) (fault_of_block p fault) (before none))
    ]
  where
    texts : texts_of p ≡ Err (cause_for fault.cause, p.place + (info_offset p.bytes + fault.place))
    texts = texts_fault p fault (subst (λ b. IsBlockFault b fault) same bad)

    small : number_of fault.cause ≤ 9
    small = elim bad [ inl x ↦ omega (arith, ap number_of x.0) | inr x ↦ omega (arith, ap number_of x.0) ]

    before : language_of p ≡ None → IsBefore (fault_of_block p fault) (fault_of_language p)
    before none = elim first [
      | inl some ↦ absurd (some none)
      | inr early ↦ inr (omega (arith, early, fixed.low), omega (arith, small))
    ]

-- nothing is read where there is nothing
pub none_mapped : {X Y : Type 0} (f : X → Y) (r : Option X) (l : Option Y) → option_map f r ≡ l → is_some r ≡ false → l ≡ None
none_mapped f None l e h = sym e
none_mapped f (Some x) l e h = absurd (true≢false h)

pub some_mapped : {X Y : Type 0} (f : X → Y) (r : Option X) (l : Option Y) → option_map f r ≡ l → is_some r ≡ true → l ≢ None
some_mapped f None l e h = absurd (false≢true h)
some_mapped f (Some x) l e h = λ n. some_none (f x) (e ∙ n)
  where
    some_none : {Y : Type 0} (y : Y) → Some y ≡ None → ⊥
    some_none y e = cc

-- ---- what is said

-- a package with this language and these texts has no fault, and they are what it says
said_is : (p : Package) (spoken : Spoken) → HasFixedPart p.bytes → language_of p ≡ Some spoken.language → texts_of p ≡ Ok spoken.texts
    → (spoken ≡ spoken_by p) × (string_package_faults p ≡ [])
said_is p spoken fixed language texts = (
  sym (ap (λ l. (let s : Spoken = record { language = unwrap_or l []; texts = result_unwrap_or (texts_of p) [] } in s)) language
      ∙ ap (λ t. (let s : Spoken = record { language = spoken.language; texts = result_unwrap_or t [] } in s)) texts),
  faults_are p fixed (Some spoken.language) (Ok spoken.texts) language texts,
)

-- a language and whole blocks are what is said
pub parts_say : (p : Package) (language blocks : List ℕ) → HasFixedPart p.bytes → blocks ≡ blocks_of p.bytes → language_of p ≡ Some language → HoldsBlocks blocks
    → (spoken_in language blocks ≡ spoken_by p) × (string_package_faults p ≡ [])
parts_say p language blocks fixed same language_is held =
    subst (λ b. (spoken_in language b ≡ spoken_by p) × (string_package_faults p ≡ [])) (sym same)
    (said_is p (spoken_in language (blocks_of p.bytes)) fixed language_is (texts_are p (subst HoldsBlocks same held)))

-- what is spelled is read
pub speech_read : (p : Package) (spoken : Spoken) → Speaks p spoken → (spoken ≡ spoken_by p) × (string_package_faults p ≡ [])
speech_read p spoken h =
    let texts = all_read (blocks_of p.bytes) h.whole_blocks (length p.bytes) (p.place + info_offset p.bytes) h.are (few_blocks p) in
    said_is p spoken h.fixed h.language (texts ∙ ap (λ t. Ok t) (sym h.texts))

pub one_speech : (p : Package) (spoken other : Spoken) → Speaks p spoken → Speaks p other → spoken ≡ other
one_speech p spoken other h g = (speech_read p spoken h).0 ∙ sym (speech_read p other g).0

-- where there is no fault the language and the texts are there
parts_there : (place : ℕ) (language : Option (List ℕ)) (texts : Result Texts (chapter.Cause × ℕ)) → faults_behind place language texts ≡ []
    → (l : List ℕ) × (ts : Texts) × (language ≡ Some l) × (texts ≡ Ok ts)
parts_there place None texts e = absurd (some_faults _ _ e)
parts_there place (Some l) (Ok ts) e = (l, ts, refl, refl)
parts_there place (Some l) (Err (cause, at)) e = absurd (some_faults _ _ e)

-- what is read without a fault is spelled
pub read_speech : (p : Package) → string_package_faults p ≡ [] → Speaks p (spoken_by p)
read_speech p none =
    elim (header_cases p.bytes) [
      | inl bad ↦ absurd (some_faults _ _ (sym (header_fault p bad) ∙ none))
      | inr fixed ↦ (
          let parts = parts_there p.place (language_of p) (texts_of p) (sym (behind_header p fixed) ∙ none) in
          let all = all_spelled (blocks_of p.bytes) parts.1 (length p.bytes) (p.place + info_offset p.bytes) parts.3 in
          record {
            fixed = fixed;
            language = parts.2 ∙ ap (λ l. Some (unwrap_or l [])) (sym parts.2);
            whole_blocks = all.0;
            are = all.1;
            texts = ap (λ t. result_unwrap_or t []) parts.3 ∙ sym all.2;
          })
    ]
