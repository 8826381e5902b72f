-- Blocks are read as they are spelled.
use Rattle.std.proofs.Common.{◌≡◌, ◌⊎◌, inl, inr, ℕ, zero, suc, ◌+◌, ◌-◌, ◌≤◌, ◌==◌, ◌&&◌, Bool, true, false, if◌then◌else◌, List, [], ◌∷◌, ◌++◌, length, take, drop, map, Option, None, Some, refl, ap, sym, ◌∙◌, subst, arith, append_assoc, length-append}
use Rattle.std.specs.Prelude.{nat_lt, slice_index}
use Rattle.std.specs.List.{AllByRecursion, flat_map}
use Rattle.std.specs.Option.{option_map, option_and_then}
use Rattle.std.proofs.lemmas.Bool.{cond-false, eqb-true, and_parts, ltb-false, le-ltb}
use Rattle.std.proofs.lemmas.List.{append-nil, take-append-drop, drop_at, length-take-le}
use Rattle.std.proofs.Math.Seq.{drop-append-add}
use Rattle.hii_bytes.specs.Numbers.{number_in}
use Rattle.sibt_strings.specs.code.Blocks.{Block, Texts, Duplicate, Skip, Extension, Front, End, Whole, BadBlock, texts_block, with_fields, extension_block, front_of, Leads, AreBlocks}
use Rattle.browser_rules.specs.Strings.{cut_text, cut_texts}
use Rattle.sibt_strings.specs.laws.Spelling.{WholeBlock, string_ucs2, string_ucs2_font, strings_ucs2, strings_ucs2_font, duplicate, skip2, skip1, ext1, ext2, ext4, IsText, SpellsNumber, HasGoodFields, spell_text, spell_texts, spell, said, AreSpelled}
use Rattle.sibt_strings.specs.declared.block_types.TheConstants.{END, STRING_UCS2, STRING_UCS2_FONT, STRINGS_UCS2, STRINGS_UCS2_FONT, DUPLICATE, SKIP2, SKIP1, EXT1, EXT2, EXT4}

-- what one of two branches gives
branch : {X : Type 0} (b : Bool) (x y w : X) → (if b then x else y) ≡ w → ((b ≡ true) × (x ≡ w)) ⊎ ((b ≡ false) × (y ≡ w))
branch true x y w e = inl (refl, e)
branch false x y w e = inr (refl, e)

same_some : {X : Type 0} {x y : X} → Some x ≡ Some y → x ≡ y
same_some e = cc

-- ---- texts

text_cut : (text rest : List ℕ) → IsText text → cut_text (text ++ 0 ∷ 0 ∷ rest) ≡ Some (text, rest)
unfolding cut_text
text_cut [] rest is = refl
text_cut (low ∷ []) rest is = absurd is
text_cut (low ∷ high ∷ text) rest (other, is) = rw (other, text_cut text rest is) refl

-- What is cut off is a text, and its zero unit stands behind it.
record IsCut (bytes text rest : List ℕ) : Type 0 where
  is : IsText text
  whole : bytes ≡ text ++ 0 ∷ 0 ∷ rest

both_zero : (low high : ℕ) → (low == 0) && (high == 0) ≡ true → (low ≡ 0) × (high ≡ 0)
both_zero low high e = let parts = and_parts (low == 0) (high == 0) e in (eqb-true low 0 parts.0, eqb-true high 0 parts.1)

cut_back : (bytes text rest : List ℕ) → cut_text bytes ≡ Some (text, rest) → IsCut bytes text rest
unfolding cut_text
cut_back [] text rest e = absurd cc
cut_back (low ∷ []) text rest e = absurd cc
cut_back (low ∷ high ∷ bytes) text rest e = elim (branch ((low == 0) && (high == 0)) _ _ _ e) [
  | inl (zeros, same) ↦ zero_unit (both_zero low high zeros).0 (both_zero low high zeros).1 (ap (λ (t : List ℕ × List ℕ). t.0) (same_some same)) (ap (λ (t : List ℕ × List ℕ). t.1) (same_some same))
  | inr (other, same) ↦ more (λ t r here. cut_back bytes t r here) other (cut_text bytes) refl same
]
  where
    zero_unit : low ≡ 0 → high ≡ 0 → [] ≡ text → bytes ≡ rest → IsCut (low ∷ high ∷ bytes) text rest
    zero_unit l h text_is rest_is =
        record {
          is = subst IsText text_is tt;
          whole = ap (λ x. x ∷ high ∷ bytes) l ∙ ap (λ x. 0 ∷ x ∷ bytes) h ∙ ap (λ r. 0 ∷ 0 ∷ r) rest_is ∙ ap (λ t. t ++ 0 ∷ 0 ∷ rest) text_is;
        }

    more : ((text rest : List ℕ) → cut_text bytes ≡ Some (text, rest) → IsCut bytes text rest) → (low == 0) && (high == 0) ≡ false → (t : Option (List ℕ × List ℕ)) → cut_text bytes ≡ t → option_map {U = List ℕ × List ℕ} (λ t. (low ∷ high ∷ t.0, t.1)) t ≡ Some (text, rest)
        → IsCut (low ∷ high ∷ bytes) text rest
    more inside other None here same = absurd cc
    more inside other (Some t) here same =
        let text_is : low ∷ high ∷ t.0 ≡ text = ap (λ (t : List ℕ × List ℕ). t.0) (same_some same) in
        let rest_is : t.1 ≡ rest = ap (λ (t : List ℕ × List ℕ). t.1) (same_some same) in
        let inner = inside t.0 t.1 here in
        record {
          is = subst IsText text_is (other, inner.is);
          whole = ap (λ b. low ∷ high ∷ b) inner.whole ∙ ap (λ r. low ∷ high ∷ t.0 ++ 0 ∷ 0 ∷ r) rest_is ∙ ap (λ x. x ++ 0 ∷ 0 ∷ rest) text_is;
        }

text_spelled : (text rest : List ℕ) → spell_text text ++ rest ≡ text ++ 0 ∷ 0 ∷ rest
text_spelled text rest = append_assoc text (0 ∷ 0 ∷ []) rest

texts_cut : (texts : List (List ℕ)) (rest : List ℕ) → AllByRecursion IsText texts → cut_texts (length texts) (spell_texts texts ++ rest) ≡ Some (texts, rest)
unfolding cut_texts
texts_cut [] rest are = refl
texts_cut (text ∷ texts) rest (is, are) =
    ap (λ bytes. cut_texts (suc (length texts)) bytes) (append_assoc (spell_text text) (spell_texts texts) rest ∙ text_spelled text (spell_texts texts ++ rest))
    ∙ rw (text_cut text (spell_texts texts ++ rest) is, texts_cut texts rest are) refl

-- What is cut off are so many texts with their zero units.
record AreCut (n : ℕ) (bytes : List ℕ) (texts : List (List ℕ)) (rest : List ℕ) : Type 0 where
  are : AllByRecursion IsText texts
  many : length texts ≡ n
  whole : bytes ≡ spell_texts texts ++ rest

texts_back : (n : ℕ) (bytes : List ℕ) (texts : List (List ℕ)) (rest : List ℕ) → cut_texts n bytes ≡ Some (texts, rest) → AreCut n bytes texts rest
unfolding cut_texts
texts_back zero bytes texts rest e =
    let texts_is : [] ≡ texts = ap (λ (t : List (List ℕ) × List ℕ). t.0) (same_some e) in
    let rest_is : bytes ≡ rest = ap (λ (t : List (List ℕ) × List ℕ). t.1) (same_some e) in
    record { are = subst (AllByRecursion IsText) texts_is tt; many = ap length (sym texts_is); whole = rest_is ∙ ap (λ ts. spell_texts ts ++ rest) texts_is }
texts_back (suc n) bytes texts rest e = first (λ bytes texts rest here. texts_back n bytes texts rest here) (cut_text bytes) refl e
  where
    others : ((bytes : List ℕ) (texts : List (List ℕ)) (rest : List ℕ) → cut_texts n bytes ≡ Some (texts, rest) → AreCut n bytes texts rest) → (t : List ℕ × List ℕ) → cut_text bytes ≡ Some t → (ts : Option (List (List ℕ) × List ℕ)) → cut_texts n t.1 ≡ ts
        → option_map {U = List (List ℕ) × List ℕ} (λ ts. (t.0 ∷ ts.0, ts.1)) ts ≡ Some (texts, rest) → AreCut (suc n) bytes texts rest
    others more t here None behind same = absurd cc
    others more_back t here (Some ts) behind same =
        let texts_is : t.0 ∷ ts.0 ≡ texts = ap (λ (t : List (List ℕ) × List ℕ). t.0) (same_some same) in
        let rest_is : ts.1 ≡ rest = ap (λ (t : List (List ℕ) × List ℕ). t.1) (same_some same) in
        let one = cut_back bytes t.0 t.1 here in
        let more = more_back t.1 ts.0 ts.1 behind in
        record {
          are = subst (AllByRecursion IsText) texts_is (one.is, more.are);
          many = ap length (sym texts_is) ∙ ap suc more.many;
          whole =
              one.whole ∙ sym (text_spelled t.0 t.1) ∙ ap (λ b. spell_text t.0 ++ b) more.whole
              ∙ sym (append_assoc (spell_text t.0) (spell_texts ts.0) ts.1) ∙ ap (λ r. spell_texts (t.0 ∷ ts.0) ++ r) rest_is ∙ ap (λ x. spell_texts x ++ rest) texts_is;
        }

    first : ((bytes : List ℕ) (texts : List (List ℕ)) (rest : List ℕ) → cut_texts n bytes ≡ Some (texts, rest) → AreCut n bytes texts rest) → (t : Option (List ℕ × List ℕ)) → cut_text bytes ≡ t → option_and_then {U = List (List ℕ) × List ℕ} (λ t. option_map (λ ts. (t.0 ∷ ts.0, ts.1)) (cut_texts n t.1)) t ≡ Some (texts, rest)
        → AreCut (suc n) bytes texts rest
    first more None here same = absurd cc
    first more (Some t) here same = others more t here (cut_texts n t.1) refl same

-- ---- blocks

two_bytes : (bytes : List ℕ) → length bytes ≡ 2 → (a b : ℕ) × (bytes ≡ a ∷ b ∷ [])
two_bytes [] e = absurd (omega (arith, e))
two_bytes (a ∷ []) e = absurd (omega (arith, e))
two_bytes (a ∷ b ∷ []) e = (a, b, refl)
two_bytes (a ∷ b ∷ c ∷ more) e = absurd (omega (arith, e))

four_bytes : (bytes : List ℕ) → length bytes ≡ 4 → (a b c d : ℕ) × (bytes ≡ a ∷ b ∷ c ∷ d ∷ [])
four_bytes [] e = absurd (omega (arith, e))
four_bytes (a ∷ []) e = absurd (omega (arith, e))
four_bytes (a ∷ b ∷ []) e = absurd (omega (arith, e))
four_bytes (a ∷ b ∷ c ∷ []) e = absurd (omega (arith, e))
four_bytes (a ∷ b ∷ c ∷ d ∷ []) e = (a, b, c, d, refl)
four_bytes (a ∷ b ∷ c ∷ d ∷ f ∷ more) e = absurd (omega (arith, e))

-- the fields are there
there : (n : ℕ) (body : List ℕ) (front : Front) → n ≤ length body → with_fields n body front ≡ front
there n body front le = cond-false (nat_lt (length body) n) _ _ (le-ltb (length body) n le)

-- an extension of its length, whose header is there, and what stands behind it
extension_read : (header size : ℕ) (bytes rest : List ℕ) → header ≤ size → length bytes ≡ size → extension_block header size (bytes ++ rest) ≡ Whole Extension rest
extension_read header size bytes rest long is =
    cond-false (nat_lt size header) _ _ (le-ltb size header long) ∙ cond-false (nat_lt (length (bytes ++ rest)) size) _ _ (le-ltb (length (bytes ++ rest)) size (omega (arith, is, length-append bytes rest)))
    ∙ ap (λ r. Whole Extension r) (drop_at bytes rest size is)

strings_read : (a b : ℕ) (texts : List (List ℕ)) (rest : List ℕ) → number_in (a ∷ b ∷ []) 0 2 ≡ length texts → AllByRecursion IsText texts
    → front_of (STRINGS_UCS2 ∷ a ∷ b ∷ spell_texts texts ++ rest) ≡ Whole (Texts texts) rest
unfolding front_of number_in
strings_read a b texts rest is are =
    there 2 (a ∷ b ∷ spell_texts texts ++ rest) _ (omega arith) ∙ ap (λ n. texts_block (cut_texts n (spell_texts texts ++ rest))) is ∙ ap texts_block (texts_cut texts rest are)

font_strings_read : (font a b : ℕ) (texts : List (List ℕ)) (rest : List ℕ) → number_in (a ∷ b ∷ []) 0 2 ≡ length texts → AllByRecursion IsText texts
    → front_of (STRINGS_UCS2_FONT ∷ font ∷ a ∷ b ∷ spell_texts texts ++ rest) ≡ Whole (Texts texts) rest
unfolding front_of number_in
font_strings_read font a b texts rest is are =
    there 3 (font ∷ a ∷ b ∷ spell_texts texts ++ rest) _ (omega arith) ∙ ap (λ n. texts_block (cut_texts n (spell_texts texts ++ rest))) is ∙ ap texts_block (texts_cut texts rest are)

duplicate_read : (a b : ℕ) (rest : List ℕ) → front_of (DUPLICATE ∷ a ∷ b ∷ rest) ≡ Whole (Duplicate (number_in (a ∷ b ∷ []) 0 2)) rest
unfolding front_of number_in
duplicate_read a b rest = there 2 (a ∷ b ∷ rest) _ (omega arith)

skip_read : (a b : ℕ) (rest : List ℕ) → front_of (SKIP2 ∷ a ∷ b ∷ rest) ≡ Whole (Skip (number_in (a ∷ b ∷ []) 0 2)) rest
unfolding front_of number_in
skip_read a b rest = there 2 (a ∷ b ∷ rest) _ (omega arith)

extension2_read : (kind a b : ℕ) (body rest : List ℕ) → number_in (a ∷ b ∷ []) 0 2 ≡ 4 + length body → front_of (EXT2 ∷ kind ∷ a ∷ b ∷ body ++ rest) ≡ Whole Extension rest
unfolding front_of number_in
extension2_read kind a b body rest is =
    there 3 (kind ∷ a ∷ b ∷ body ++ rest) _ (omega arith) ∙ ap (λ n. extension_block 4 n (EXT2 ∷ kind ∷ a ∷ b ∷ body ++ rest)) is
    ∙ extension_read 4 (4 + length body) (EXT2 ∷ kind ∷ a ∷ b ∷ body) rest (omega arith) (omega arith)

extension4_read : (kind a b c d : ℕ) (body rest : List ℕ) → number_in (a ∷ b ∷ c ∷ d ∷ []) 0 4 ≡ 6 + length body → front_of (EXT4 ∷ kind ∷ a ∷ b ∷ c ∷ d ∷ body ++ rest) ≡ Whole Extension rest
unfolding front_of number_in
extension4_read kind a b c d body rest is =
    there 5 (kind ∷ a ∷ b ∷ c ∷ d ∷ body ++ rest) _ (omega arith) ∙ ap (λ n. extension_block 6 n (EXT4 ∷ kind ∷ a ∷ b ∷ c ∷ d ∷ body ++ rest)) is
    ∙ extension_read 6 (6 + length body) (EXT4 ∷ kind ∷ a ∷ b ∷ c ∷ d ∷ body) rest (omega arith) (omega arith)

-- a block that is spelled is read
pub block_read : (block : WholeBlock) (rest : List ℕ) → HasGoodFields block → front_of (spell block ++ rest) ≡ Whole (said block) rest
unfolding front_of cut_texts
block_read (string_ucs2 text) rest is = ap (λ bytes. texts_block (cut_texts 1 bytes)) (text_spelled text rest) ∙ rw (text_cut text rest is) refl
block_read (string_ucs2_font font text) rest is =
    there 1 (font ∷ spell_text text ++ rest) _ (omega arith) ∙ ap (λ bytes. texts_block (cut_texts 1 bytes)) (text_spelled text rest) ∙ rw (text_cut text rest is) refl
block_read (strings_ucs2 count texts) rest (number, are) =
    let (a, b, e) = two_bytes count number.long in
    rw e (strings_read a b texts rest (subst (λ x. number_in x 0 2 ≡ length texts) e number.is) are)
block_read (strings_ucs2_font font count texts) rest (number, are) =
    let (a, b, e) = two_bytes count number.long in
    rw e (font_strings_read font a b texts rest (subst (λ x. number_in x 0 2 ≡ length texts) e number.is) are)
block_read (duplicate id) rest long =
    let (a, b, e) = two_bytes id long in
    rw e (duplicate_read a b rest)
block_read (skip2 count) rest long =
    let (a, b, e) = two_bytes count long in
    rw e (skip_read a b rest)
block_read (skip1 count) rest fits = there 1 (count ∷ rest) _ (omega arith)
block_read (ext1 kind size body) rest is =
    there 2 (kind ∷ size ∷ body ++ rest) _ (omega arith)
    ∙ extension_read 3 size (EXT1 ∷ kind ∷ size ∷ body) rest (omega (arith, is)) (omega (arith, is))
block_read (ext2 kind size body) rest number =
    let (a, b, e) = two_bytes size number.long in
    rw e (extension2_read kind a b body rest (subst (λ x. number_in x 0 2 ≡ 4 + length body) e number.is))
block_read (ext4 kind size body) rest number =
    let (a, b, c, d, e) = four_bytes size number.long in
    rw e (extension4_read kind a b c d body rest (subst (λ x. number_in x 0 4 ≡ 6 + length body) e number.is))

-- ---- what is read is spelled

-- The bytes begin with a block that says this, and the rest stands behind it.
pub record IsSpelled (bytes : List ℕ) (block : Block) (rest : List ℕ) : Type 0 where
  pub spelled : WholeBlock
  pub fitting : HasGoodFields spelled
  pub says : said spelled ≡ block
  pub whole : bytes ≡ spell spelled ++ rest

-- what texts are at the front of the bytes behind the block's fields, where they are whole
texts_found : (n : ℕ) (bytes : List ℕ) (block : Block) (rest : List ℕ) → texts_block (cut_texts n bytes) ≡ Whole block rest
    → (texts : List (List ℕ)) × (block ≡ Texts texts) × AreCut n bytes texts rest
texts_found n bytes block rest e = found (cut_texts n bytes) refl e
  where
    found : (t : Option (List (List ℕ) × List ℕ)) → cut_texts n bytes ≡ t → texts_block t ≡ Whole block rest → (texts : List (List ℕ)) × (block ≡ Texts texts) × AreCut n bytes texts rest
    found None here same = absurd cc
    found (Some t) here same =
        let rest_is : t.1 ≡ rest = cc in
        let block_is : Texts t.0 ≡ block = cc in
        (t.0, sym block_is, texts_back n bytes t.0 rest (here ∙ ap (λ r. Some (t.0, r)) rest_is))

-- the fields are there
fields_found : (n : ℕ) (body : List ℕ) (front : Front) (block : Block) (rest : List ℕ) → with_fields n body front ≡ Whole block rest → (n ≤ length body) × (front ≡ Whole block rest)
fields_found n body front block rest e = elim (branch (nat_lt (length body) n) _ _ _ e) [
  | inl (short, same) ↦ absurd cc
  | inr (long, same) ↦ (ltb-false (length body) n long, same)
]

-- an extension is as long as it says
extension_found : (header size : ℕ) (bytes : List ℕ) (block : Block) (rest : List ℕ) → extension_block header size bytes ≡ Whole block rest
    → (block ≡ Extension) × (header ≤ size) × (size ≤ length bytes) × (rest ≡ drop size bytes)
extension_found header size bytes block rest e = elim (branch (nat_lt size header) _ _ _ e) [
  | inl (short, same) ↦ absurd cc
  | inr (long, more) ↦ elim (branch (nat_lt (length bytes) size) _ _ _ more) [
    | inl (short, same) ↦ absurd cc
    | inr (there, same) ↦
        let block_is : Extension ≡ block = cc in
        let rest_is : drop size bytes ≡ rest = cc in
        (sym block_is, ltb-false size header long, ltb-false (length bytes) size there, sym rest_is)
  ]
]

-- at least two bytes, and those behind them
begins_with_one : (bytes : List ℕ) → 1 ≤ length bytes → (a : ℕ) × (more : List ℕ) × (bytes ≡ a ∷ more)
begins_with_one [] le = absurd (omega (arith, le))
begins_with_one (a ∷ more) le = (a, more, refl)

begins_with_two : (bytes : List ℕ) → 2 ≤ length bytes → (a b : ℕ) × (more : List ℕ) × (bytes ≡ a ∷ b ∷ more)
begins_with_two [] le = absurd (omega (arith, le))
begins_with_two (a ∷ []) le = absurd (omega (arith, le))
begins_with_two (a ∷ b ∷ more) le = (a, b, more, refl)

begins_with_three : (bytes : List ℕ) → 3 ≤ length bytes → (a b c : ℕ) × (more : List ℕ) × (bytes ≡ a ∷ b ∷ c ∷ more)
begins_with_three [] le = absurd (omega (arith, le))
begins_with_three (a ∷ []) le = absurd (omega (arith, le))
begins_with_three (a ∷ b ∷ []) le = absurd (omega (arith, le))
begins_with_three (a ∷ b ∷ c ∷ more) le = (a, b, c, more, refl)

begins_with_five : (bytes : List ℕ) → 5 ≤ length bytes → (a b c d f : ℕ) × (more : List ℕ) × (bytes ≡ a ∷ b ∷ c ∷ d ∷ f ∷ more)
begins_with_five (a ∷ b ∷ c ∷ d ∷ f ∷ more) le = (a, b, c, d, f, more, refl)
begins_with_five [] le = absurd (omega (arith, le))
begins_with_five (a ∷ []) le = absurd (omega (arith, le))
begins_with_five (a ∷ b ∷ []) le = absurd (omega (arith, le))
begins_with_five (a ∷ b ∷ c ∷ []) le = absurd (omega (arith, le))
begins_with_five (a ∷ b ∷ c ∷ d ∷ []) le = absurd (omega (arith, le))

-- a block of one text
one_text : (bytes front body : List ℕ) (block : Block) (rest : List ℕ) (spelled : List ℕ → WholeBlock) → bytes ≡ front ++ body
    → ((text : List ℕ) → IsText text → HasGoodFields (spelled text)) → ((text : List ℕ) → (said (spelled text) ≡ Texts (text ∷ [])) × (spell (spelled text) ≡ front ++ spell_text text))
    → texts_block (cut_texts 1 body) ≡ Whole block rest → IsSpelled bytes block rest
one_text bytes front body block rest spelled is fits spells e =
    let found = texts_found 1 body block rest e in
    one found.0 found.1 found.2
  where
    one : (texts : List (List ℕ)) → block ≡ Texts texts → AreCut 1 body texts rest → IsSpelled bytes block rest
    one [] same cut = absurd (omega (arith, cut.many))
    one (text ∷ []) same cut = record {
      spelled = spelled text;
      fitting = fits text cut.are.0;
      says = (spells text).0 ∙ sym same;
      whole =
          is ∙ ap (λ b. front ++ b) (cut.whole ∙ ap (λ x. x ++ rest) (append-nil (spell_text text))) ∙ sym (append_assoc front (spell_text text) rest)
          ∙ ap (λ x. x ++ rest) (sym (spells text).1);
    }
    one (text ∷ other ∷ texts) same cut = absurd (omega (arith, cut.many))

-- a block of several texts
some_texts : (bytes front body : List ℕ) (a b : ℕ) (block : Block) (rest : List ℕ) (spelled : List ℕ → List (List ℕ) → WholeBlock) → bytes ≡ front ++ a ∷ b ∷ body
    → ((count : List ℕ) (texts : List (List ℕ)) → SpellsNumber count 2 (length texts) → AllByRecursion IsText texts → HasGoodFields (spelled count texts))
    → ((count : List ℕ) (texts : List (List ℕ)) → (said (spelled count texts) ≡ Texts texts) × (spell (spelled count texts) ≡ front ++ (count ++ spell_texts texts)))
    → texts_block (cut_texts (number_in (a ∷ b ∷ []) 0 2) body) ≡ Whole block rest → IsSpelled bytes block rest
some_texts bytes front body a b block rest spelled is fits spells e =
    let (texts, same, cut) = texts_found (number_in (a ∷ b ∷ []) 0 2) body block rest e in
    record {
      spelled = spelled (a ∷ b ∷ []) texts;
      fitting = fits (a ∷ b ∷ []) texts (record { long = refl; is = sym cut.many }) cut.are;
      says = (spells (a ∷ b ∷ []) texts).0 ∙ sym same;
      whole =
          is ∙ ap (λ x. front ++ a ∷ b ∷ x) cut.whole ∙ sym (append_assoc front (a ∷ b ∷ spell_texts texts) rest)
          ∙ ap (λ x. x ++ rest) (sym (spells (a ∷ b ∷ []) texts).1);
    }

-- an extension whose header takes so many bytes of the front
some_extension : (bytes front body : List ℕ) (size : ℕ) (block : Block) (rest : List ℕ) (spelled : List ℕ → WholeBlock) → bytes ≡ front ++ body
    → ((more : List ℕ) → size ≡ length front + length more → HasGoodFields (spelled more)) → ((more : List ℕ) → (said (spelled more) ≡ Extension) × (spell (spelled more) ≡ front ++ more))
    → extension_block (length front) size bytes ≡ Whole block rest → IsSpelled bytes block rest
some_extension bytes front body size block rest spelled is fits spells e =
    let (same, long, there, behind) = extension_found (length front) size bytes block rest e in
    let n : ℕ = size - length front in
    let more : List ℕ = take n body in
    let whole_size : length bytes ≡ length front + length body = ap length is ∙ length-append front body in
    let more_size : length more ≡ n = length-take-le n body (omega (arith, long, there, whole_size)) in
    let rest_is : rest ≡ drop n body =
    behind ∙ ap (drop size) is ∙ ap (λ k. drop k (front ++ body)) (omega (arith, long)) ∙ drop-append-add front body n in
    record {
      spelled = spelled more;
      fitting = fits more (omega (arith, long, more_size));
      says = (spells more).0 ∙ sym same;
      whole =
          is ∙ ap (λ b. front ++ b) (sym (take-append-drop n body)) ∙ sym (append_assoc front more (drop n body)) ∙ ap (λ r. (front ++ more) ++ r) (sym rest_is)
          ∙ ap (λ x. x ++ rest) (sym (spells more).1);
    }

-- ---- what the fields of each kind of block give

font_text_found : (body : List ℕ) (block : Block) (rest : List ℕ) → with_fields 1 body (texts_block (cut_texts 1 (drop 1 body))) ≡ Whole block rest → IsSpelled (STRING_UCS2_FONT ∷ body) block rest
font_text_found body block rest e =
    let (long, same) = fields_found 1 body _ block rest e in
    let (font, more, is) = begins_with_one body long in
    one_text (STRING_UCS2_FONT ∷ body) (STRING_UCS2_FONT ∷ font ∷ []) more block rest (string_ucs2_font font) (ap (λ b. STRING_UCS2_FONT ∷ b) is) (λ text is. is) (λ text. (refl, refl))
    (subst (λ b. texts_block (cut_texts 1 (drop 1 b)) ≡ Whole block rest) is same)

texts_found_in : (body : List ℕ) (block : Block) (rest : List ℕ) → with_fields 2 body (texts_block (cut_texts (number_in body 0 2) (drop 2 body))) ≡ Whole block rest → IsSpelled (STRINGS_UCS2 ∷ body) block rest
unfolding number_in
texts_found_in body block rest e =
    let (long, same) = fields_found 2 body _ block rest e in
    let (a, b, more, is) = begins_with_two body long in
    some_texts (STRINGS_UCS2 ∷ body) (STRINGS_UCS2 ∷ []) more a b block rest strings_ucs2 (ap (λ b. STRINGS_UCS2 ∷ b) is) (λ count texts number are. (number, are)) (λ count texts. (refl, refl))
    (subst (λ b. texts_block (cut_texts (number_in b 0 2) (drop 2 b)) ≡ Whole block rest) is same)

font_texts_found : (body : List ℕ) (block : Block) (rest : List ℕ) → with_fields 3 body (texts_block (cut_texts (number_in body 1 2) (drop 3 body))) ≡ Whole block rest
    → IsSpelled (STRINGS_UCS2_FONT ∷ body) block rest
unfolding number_in
font_texts_found body block rest e =
    let (long, same) = fields_found 3 body _ block rest e in
    let (font, a, b, more, is) = begins_with_three body long in
    some_texts (STRINGS_UCS2_FONT ∷ body) (STRINGS_UCS2_FONT ∷ font ∷ []) more a b block rest (strings_ucs2_font font) (ap (λ b. STRINGS_UCS2_FONT ∷ b) is) (λ count texts number are. (number, are))
    (λ count texts. (refl, refl)) (subst (λ b. texts_block (cut_texts (number_in b 1 2) (drop 3 b)) ≡ Whole block rest) is same)

duplicate_found : (body : List ℕ) (block : Block) (rest : List ℕ) → with_fields 2 body (Whole (Duplicate (number_in body 0 2)) (drop 2 body)) ≡ Whole block rest → IsSpelled (DUPLICATE ∷ body) block rest
unfolding number_in
duplicate_found body block rest e =
    let (long, same) = fields_found 2 body _ block rest e in
    let (a, b, more, is) = begins_with_two body long in
    let here : Whole (Duplicate (number_in (a ∷ b ∷ []) 0 2)) more ≡ Whole block rest = subst (λ b. Whole (Duplicate (number_in b 0 2)) (drop 2 b) ≡ Whole block rest) is same in
    let block_is : Duplicate (number_in (a ∷ b ∷ []) 0 2) ≡ block = cc in
    let rest_is : more ≡ rest = cc in
    record { spelled = duplicate (a ∷ b ∷ []); fitting = refl; says = block_is; whole = ap (λ b. DUPLICATE ∷ b) is ∙ ap (λ r. DUPLICATE ∷ a ∷ b ∷ r) rest_is }

skip2_found : (body : List ℕ) (block : Block) (rest : List ℕ) → with_fields 2 body (Whole (Skip (number_in body 0 2)) (drop 2 body)) ≡ Whole block rest → IsSpelled (SKIP2 ∷ body) block rest
unfolding number_in
skip2_found body block rest e =
    let (long, same) = fields_found 2 body _ block rest e in
    let (a, b, more, is) = begins_with_two body long in
    let here : Whole (Skip (number_in (a ∷ b ∷ []) 0 2)) more ≡ Whole block rest = subst (λ b. Whole (Skip (number_in b 0 2)) (drop 2 b) ≡ Whole block rest) is same in
    let block_is : Skip (number_in (a ∷ b ∷ []) 0 2) ≡ block = cc in
    let rest_is : more ≡ rest = cc in
    record { spelled = skip2 (a ∷ b ∷ []); fitting = refl; says = block_is; whole = ap (λ b. SKIP2 ∷ b) is ∙ ap (λ r. SKIP2 ∷ a ∷ b ∷ r) rest_is }

skip1_found : (body : List ℕ) (block : Block) (rest : List ℕ) → with_fields 1 body (Whole (Skip (slice_index body 0)) (drop 1 body)) ≡ Whole block rest → IsSpelled (SKIP1 ∷ body) block rest
skip1_found body block rest e =
    let (long, same) = fields_found 1 body _ block rest e in
    let (count, more, is) = begins_with_one body long in
    let here : Whole (Skip count) more ≡ Whole block rest = subst (λ b. Whole (Skip (slice_index b 0)) (drop 1 b) ≡ Whole block rest) is same in
    let block_is : Skip count ≡ block = cc in
    let rest_is : more ≡ rest = cc in
    record { spelled = skip1 count; fitting = tt; says = block_is; whole = ap (λ b. SKIP1 ∷ b) is ∙ ap (λ r. SKIP1 ∷ count ∷ r) rest_is }

extension1_found : (body : List ℕ) (block : Block) (rest : List ℕ) → with_fields 2 body (extension_block 3 (slice_index body 1) (EXT1 ∷ body)) ≡ Whole block rest → IsSpelled (EXT1 ∷ body) block rest
extension1_found body block rest e =
    let (long, same) = fields_found 2 body _ block rest e in
    let (kind, size, more, is) = begins_with_two body long in
    some_extension (EXT1 ∷ body) (EXT1 ∷ kind ∷ size ∷ []) more size block rest (ext1 kind size) (ap (λ b. EXT1 ∷ b) is) (λ more fits. fits) (λ more. (refl, refl))
    (ap (λ b. extension_block 3 (slice_index b 1) (EXT1 ∷ body)) (sym is) ∙ same)

extension2_found : (body : List ℕ) (block : Block) (rest : List ℕ) → with_fields 3 body (extension_block 4 (number_in body 1 2) (EXT2 ∷ body)) ≡ Whole block rest → IsSpelled (EXT2 ∷ body) block rest
unfolding number_in
extension2_found body block rest e =
    let (long, same) = fields_found 3 body _ block rest e in
    let (kind, a, b, more, is) = begins_with_three body long in
    some_extension (EXT2 ∷ body) (EXT2 ∷ kind ∷ a ∷ b ∷ []) more (number_in (a ∷ b ∷ []) 0 2) block rest (ext2 kind (a ∷ b ∷ [])) (ap (λ b. EXT2 ∷ b) is)
    (λ more fits. record { long = refl; is = fits }) (λ more. (refl, refl)) (ap (λ b. extension_block 4 (number_in b 1 2) (EXT2 ∷ body)) (sym is) ∙ same)

extension4_found : (body : List ℕ) (block : Block) (rest : List ℕ) → with_fields 5 body (extension_block 6 (number_in body 1 4) (EXT4 ∷ body)) ≡ Whole block rest → IsSpelled (EXT4 ∷ body) block rest
unfolding number_in
extension4_found body block rest e =
    let (long, same) = fields_found 5 body _ block rest e in
    let (kind, a, b, c, d, more, is) = begins_with_five body long in
    some_extension (EXT4 ∷ body) (EXT4 ∷ kind ∷ a ∷ b ∷ c ∷ d ∷ []) more (number_in (a ∷ b ∷ c ∷ d ∷ []) 0 4) block rest (ext4 kind (a ∷ b ∷ c ∷ d ∷ [])) (ap (λ b. EXT4 ∷ b) is)
    (λ more fits. record { long = refl; is = fits }) (λ more. (refl, refl)) (ap (λ b. extension_block 6 (number_in b 1 4) (EXT4 ∷ body)) (sym is) ∙ same)

-- what holds of the bytes with a number in front holds with what is equal to it
of_kind : (kind code : ℕ) (body : List ℕ) (block : Block) (rest : List ℕ) → kind == code ≡ true → IsSpelled (code ∷ body) block rest → IsSpelled (kind ∷ body) block rest
of_kind kind code body block rest is spelled = subst (λ k. IsSpelled (k ∷ body) block rest) (sym (eqb-true kind code is)) spelled

if_cases : (P : Front → Type 0) (b : Bool) (x y : Front) → (b ≡ true → P x) → (b ≡ false → P y) → P (if b then x else y)
if_cases P true x y of_true of_false = of_true refl
if_cases P false x y of_true of_false = of_false refl

-- what holds of what each kind of block gives holds of what stands at the front
front_all : (P : Front → Type 0) (kind : ℕ) (body : List ℕ) → (kind == END ≡ true → P End) → (kind == STRING_UCS2 ≡ true → P (texts_block (cut_texts 1 body)))
    → (kind == STRING_UCS2_FONT ≡ true → P (with_fields 1 body (texts_block (cut_texts 1 (drop 1 body)))))
    → (kind == STRINGS_UCS2 ≡ true → P (with_fields 2 body (texts_block (cut_texts (number_in body 0 2) (drop 2 body)))))
    → (kind == STRINGS_UCS2_FONT ≡ true → P (with_fields 3 body (texts_block (cut_texts (number_in body 1 2) (drop 3 body)))))
    → (kind == DUPLICATE ≡ true → P (with_fields 2 body (Whole (Duplicate (number_in body 0 2)) (drop 2 body))))
    → (kind == SKIP2 ≡ true → P (with_fields 2 body (Whole (Skip (number_in body 0 2)) (drop 2 body)))) → (kind == SKIP1 ≡ true → P (with_fields 1 body (Whole (Skip (slice_index body 0)) (drop 1 body))))
    → (kind == EXT1 ≡ true → P (with_fields 2 body (extension_block 3 (slice_index body 1) (kind ∷ body))))
    → (kind == EXT2 ≡ true → P (with_fields 3 body (extension_block 4 (number_in body 1 2) (kind ∷ body))))
    → (kind == EXT4 ≡ true → P (with_fields 5 body (extension_block 6 (number_in body 1 4) (kind ∷ body)))) → P BadBlock → P (front_of (kind ∷ body))
unfolding front_of
front_all P kind body end text font_text texts font_texts dup two one ext_1 ext_2 ext_4 bad =
    if_cases P (kind == END) _ _ end (λ _. if_cases P (kind == STRING_UCS2) _ _ text (λ _. if_cases P (kind == STRING_UCS2_FONT) _ _ font_text
    (λ _. if_cases P (kind == STRINGS_UCS2) _ _ texts (λ _. if_cases P (kind == STRINGS_UCS2_FONT) _ _ font_texts (λ _. if_cases P (kind == DUPLICATE) _ _ dup
    (λ _. if_cases P (kind == SKIP2) _ _ two (λ _. if_cases P (kind == SKIP1) _ _ one (λ _. if_cases P (kind == EXT1) _ _ ext_1 (λ _. if_cases P (kind == EXT2) _ _ ext_2
    (λ _. if_cases P (kind == EXT4) _ _ ext_4 (λ _. bad)))))))))))

front_found : (kind : ℕ) (body : List ℕ) (block : Block) (rest : List ℕ) → front_of (kind ∷ body) ≡ Whole block rest → IsSpelled (kind ∷ body) block rest
front_found kind body block rest = front_all (λ f. f ≡ Whole block rest → IsSpelled (kind ∷ body) block rest) kind body (λ is e. absurd cc)
    (λ is e. of_kind kind STRING_UCS2 body block rest is (one_text (STRING_UCS2 ∷ body) (STRING_UCS2 ∷ []) body block rest string_ucs2 refl (λ text is. is) (λ text. (refl, refl)) e))
    (λ is e. of_kind kind STRING_UCS2_FONT body block rest is (font_text_found body block rest e)) (λ is e. of_kind kind STRINGS_UCS2 body block rest is (texts_found_in body block rest e))
    (λ is e. of_kind kind STRINGS_UCS2_FONT body block rest is (font_texts_found body block rest e)) (λ is e. of_kind kind DUPLICATE body block rest is (duplicate_found body block rest e))
    (λ is e. of_kind kind SKIP2 body block rest is (skip2_found body block rest e)) (λ is e. of_kind kind SKIP1 body block rest is (skip1_found body block rest e))
    (λ is e. of_kind kind EXT1 body block rest is (extension1_found body block rest (ap (λ k. with_fields 2 body (extension_block 3 (slice_index body 1) (k ∷ body))) (sym (eqb-true kind EXT1 is)) ∙ e)))
    (λ is e. of_kind kind EXT2 body block rest is (extension2_found body block rest (ap (λ k. with_fields 3 body (extension_block 4 (number_in body 1 2) (k ∷ body))) (sym (eqb-true kind EXT2 is)) ∙ e)))
    (λ is e. of_kind kind EXT4 body block rest is (extension4_found body block rest (ap (λ k. with_fields 5 body (extension_block 6 (number_in body 1 4) (k ∷ body))) (sym (eqb-true kind EXT4 is)) ∙ e)))
    (λ e. absurd cc)

-- a block that is read is spelled
pub block_found : (bytes : List ℕ) (block : Block) (rest : List ℕ) → front_of bytes ≡ Whole block rest → IsSpelled bytes block rest
unfolding front_of
block_found [] block rest e = absurd cc
block_found (kind ∷ body) block rest e = front_found kind body block rest e

-- ---- several blocks

end_read : (rest : List ℕ) → front_of (END ∷ rest) ≡ End
unfolding front_of
end_read rest = refl

spelled_lead : (blocks : List WholeBlock) (rest : List ℕ) → AllByRecursion HasGoodFields blocks → Leads (flat_map spell blocks ++ rest) (map said blocks) rest
spelled_lead [] rest fit = refl
spelled_lead (b ∷ blocks) rest fit = (
  flat_map spell blocks ++ rest,
  ap front_of (append_assoc (spell b) (flat_map spell blocks) rest) ∙ block_read b (flat_map spell blocks ++ rest) fit.0,
  spelled_lead blocks rest fit.1,
)

-- spelled blocks are read, up to the end
pub blocks_read : (bytes : List ℕ) (blocks : List WholeBlock) → AreSpelled bytes blocks → AreBlocks bytes (map said blocks)
blocks_read bytes blocks are = (
  END ∷ are.rest,
  subst (λ b. Leads b (map said blocks) (END ∷ are.rest)) (sym are.whole) (spelled_lead blocks (END ∷ are.rest) are.fitting),
  end_read are.rest,
)

-- Spelled blocks that say all this.
pub record SpellsAll (bytes : List ℕ) (blocks : List Block) : Type 0 where
  pub spelled : List WholeBlock
  pub are : AreSpelled bytes spelled
  pub say : map said spelled ≡ blocks

fields_no_end : (n : ℕ) (body : List ℕ) (front : Front) → (front ≡ End → ⊥) → with_fields n body front ≡ End → ⊥
fields_no_end n body front other e = elim (branch (nat_lt (length body) n) _ _ _ e) [
  | inl (_, same) ↦ cc
  | inr (_, same) ↦ other same
]

texts_no_end : (t : Option (List (List ℕ) × List ℕ)) → texts_block t ≡ End → ⊥
texts_no_end None e = cc
texts_no_end (Some t) e = cc

whole_no_end : (block : Block) (rest : List ℕ) → Whole block rest ≡ End → ⊥
whole_no_end block rest e = cc

extension_no_end : (header size : ℕ) (bytes : List ℕ) → extension_block header size bytes ≡ End → ⊥
extension_no_end header size bytes e = elim (branch (nat_lt size header) _ _ _ e) [
  | inl (_, same) ↦ cc
  | inr (_, more) ↦ elim (branch (nat_lt (length bytes) size) _ _ _ more) [ inl (_, same) ↦ cc | inr (_, same) ↦ cc ]
]

field_texts_no_end : (n : ℕ) (body : List ℕ) (count : ℕ) (bytes : List ℕ) → with_fields n body (texts_block (cut_texts count bytes)) ≡ End → ⊥
field_texts_no_end n body count bytes = fields_no_end n body (texts_block (cut_texts count bytes)) (texts_no_end (cut_texts count bytes))

field_block_no_end : (n : ℕ) (body : List ℕ) (block : Block) (rest : List ℕ) → with_fields n body (Whole block rest) ≡ End → ⊥
field_block_no_end n body block rest = fields_no_end n body (Whole block rest) (whole_no_end block rest)

field_extension_no_end : (n : ℕ) (body : List ℕ) (header size : ℕ) (bytes : List ℕ) → with_fields n body (extension_block header size bytes) ≡ End → ⊥
field_extension_no_end n body header size bytes = fields_no_end n body (extension_block header size bytes) (extension_no_end header size bytes)

-- the end block stands where the blocks end
end_found : (bytes : List ℕ) → front_of bytes ≡ End → (rest : List ℕ) × (bytes ≡ END ∷ rest)
unfolding front_of
end_found [] e = absurd cc
end_found (kind ∷ body) e = (
  body,
  front_all (λ f. f ≡ End → kind ∷ body ≡ END ∷ body) kind body (λ is e. ap (λ k. k ∷ body) (eqb-true kind END is)) (λ is e. absurd (texts_no_end (cut_texts 1 body) e))
      (λ is e. absurd (field_texts_no_end 1 body 1 (drop 1 body) e)) (λ is e. absurd (field_texts_no_end 2 body (number_in body 0 2) (drop 2 body) e))
      (λ is e. absurd (field_texts_no_end 3 body (number_in body 1 2) (drop 3 body) e)) (λ is e. absurd (field_block_no_end 2 body (Duplicate (number_in body 0 2)) (drop 2 body) e))
      (λ is e. absurd (field_block_no_end 2 body (Skip (number_in body 0 2)) (drop 2 body) e)) (λ is e. absurd (field_block_no_end 1 body (Skip (slice_index body 0)) (drop 1 body) e))
      (λ is e. absurd (field_extension_no_end 2 body 3 (slice_index body 1) (kind ∷ body) e)) (λ is e. absurd (field_extension_no_end 3 body 4 (number_in body 1 2) (kind ∷ body) e))
      (λ is e. absurd (field_extension_no_end 5 body 6 (number_in body 1 4) (kind ∷ body) e)) (λ e. absurd cc) e,
)

-- blocks that are read are spelled
pub blocks_found : (bytes : List ℕ) (blocks : List Block) → AreBlocks bytes blocks → SpellsAll bytes blocks
blocks_found bytes [] (rest, same, end) =
    let (more, is) = end_found rest end in
    record { spelled = []; are = record { fitting = tt; rest = more; whole = sym same ∙ is }; say = refl }
blocks_found bytes (b ∷ blocks) (rest, (behind, here, leads), end) =
    let one = block_found bytes b behind here in
    let more = blocks_found behind blocks (rest, leads, end) in
    record {
      spelled = one.spelled ∷ more.spelled;
      are = record {
        fitting = (one.fitting, more.are.fitting);
        rest = more.are.rest;
        whole = one.whole ∙ ap (λ b. spell one.spelled ++ b) more.are.whole ∙ sym (append_assoc (spell one.spelled) (flat_map spell more.spelled) (END ∷ more.are.rest));
      };
      say = ap (λ b. b ∷ map said more.spelled) one.says ∙ ap (λ bs. b ∷ bs) more.say;
    }
