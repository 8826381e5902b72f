-- Blocks are what the chapter Strings reads, with the texts before them.
use Rattle.std.proofs.Common.{◌≡◌, ◌≢◌, ◌⊎◌, inl, inr, ℕ, zero, suc, ◌+◌, ◌-◌, ◌<◌, ◌≤◌, Bool, true, false, ◌&&◌, Option, Some, None, Result, Ok, Err, List, [], ◌∷◌, ◌++◌, length, drop, map, refl, ap, sym, ◌∙◌, subst, arith, length-append}
use Rattle.std.specs.Prelude.{nat_lt, nat_le, not, if◌then◌else◌, slice_index}
use Rattle.std.proofs.lemmas.Bool.{cases_Bool, cases_eq, le-ltb, ne_eqb}
use Rattle.std.proofs.lemmas.Bool.Decides.{nat_tests}
use Rattle.hii_bytes.specs.Numbers.{number_in}
use Rattle.browser_rules.specs.Words.{Cause, StringBlock, StringText}
use Rattle.browser_rules.specs.Strings.{cut_texts, texts_from}
use Rattle.browser_rules.specs.Strings as chapter
use Rattle.sibt_strings.specs.laws.Spelling.{WholeBlock, string_ucs2, HasGoodFields, AreSpelled, added, said, spell}
use Rattle.sibt_strings.specs.code.Blocks.{Block, Front, End, Whole, CutText, BadBlock, texts_block, extension_block, front_of, Leads, AreBlocks, StandsAt, added_by, with_block, with_blocks, texts_said, front_with}
use Rattle.sibt_strings.proofs.SpellingLemmas.{block_read, block_found, blocks_read, blocks_found}

-- ---- what stands at the front

and_false : (b : Bool) → (b && false) ≡ false
and_false true = refl
and_false false = refl

texts_front : (texts : chapter.Texts) (o : Option (List (List ℕ) × List ℕ)) → chapter.texts_block o ≡ front_with texts (texts_block o)
texts_front texts None = refl
texts_front texts (Some t) = refl

extension_front : (texts : chapter.Texts) (header size : ℕ) (bytes : List ℕ) → chapter.extension header size bytes ≡ front_with texts (extension_block header size bytes)
extension_front texts header size bytes =
    elim (cases_Bool (nat_lt size header)) [
      | inl low ↦ rw low refl
      | inr header ↦ elim (cases_Bool (nat_lt (length bytes) size)) [ inl high ↦ rw (header, high) refl | inr inside ↦ rw (header, inside) refl ]
    ]

number_behind : (k : ℕ) (body : List ℕ) (at width : ℕ) → number_in (k ∷ body) (suc at) width ≡ number_in body at width
unfolding number_in
number_behind k body at width = refl

-- a block of so many fields is cut where they are not there
has_fields : (left fields : ℕ) → nat_le (suc fields) (suc left) ≡ not (nat_lt left fields)
has_fields left fields = grind (arith, nat_tests)

fields_front : (texts : chapter.Texts) (is_cut : Bool) (found : chapter.Front) (front : Front) → found ≡ front_with texts front
    → (if not is_cut && true then found else chapter.no_block) ≡ front_with texts (if is_cut then BadBlock else front)
fields_front texts true found front same = refl
fields_front texts false found front same = same

-- the same stands at the front by the chapter
abbrev pub IsReadAlike : chapter.Texts → List ℕ → Type 0
IsReadAlike texts bytes = chapter.front_of texts bytes ≡ front_with texts (front_of bytes)

at_0x00 : (texts : chapter.Texts) (body : List ℕ) → IsReadAlike texts (0x00 ∷ body)
unfolding chapter.front_of front_of
at_0x00 texts body =
    let a = has_fields (length body) 0 in
    let b = le-ltb (length body) 0 (omega arith) in
    simp (and_false, a, b)

at_0x14 : (texts : chapter.Texts) (body : List ℕ) → IsReadAlike texts (0x14 ∷ body)
unfolding chapter.front_of front_of
at_0x14 texts body =
    let a = has_fields (length body) 0 in
    let b = le-ltb (length body) 0 (omega arith) in
    simp (and_false, a, b) (texts_front texts (cut_texts 1 body))

at_0x15 : (texts : chapter.Texts) (body : List ℕ) → IsReadAlike texts (0x15 ∷ body)
unfolding chapter.front_of front_of
at_0x15 texts body =
    let a = has_fields (length body) 1 in
    simp (and_false, a) (fields_front texts (nat_lt (length body) 1) _ _ (texts_front texts (cut_texts 1 (drop 1 body))))

at_0x16 : (texts : chapter.Texts) (body : List ℕ) → IsReadAlike texts (0x16 ∷ body)
unfolding chapter.front_of front_of
at_0x16 texts body =
    let n = number_behind 0x16 body 0 2 in
    let a = has_fields (length body) 2 in
    simp (and_false, a) (fields_front texts (nat_lt (length body) 2) _ _ (simp (n) (texts_front texts (cut_texts (number_in body 0 2) (drop 2 body)))))

at_0x17 : (texts : chapter.Texts) (body : List ℕ) → IsReadAlike texts (0x17 ∷ body)
unfolding chapter.front_of front_of
at_0x17 texts body =
    let n = number_behind 0x17 body 1 2 in
    let a = has_fields (length body) 3 in
    simp (and_false, a) (fields_front texts (nat_lt (length body) 3) _ _ (simp (n) (texts_front texts (cut_texts (number_in body 1 2) (drop 3 body)))))

at_0x20 : (texts : chapter.Texts) (body : List ℕ) → IsReadAlike texts (0x20 ∷ body)
unfolding chapter.front_of front_of
at_0x20 texts body =
    let n = number_behind 0x20 body 0 2 in
    let a = has_fields (length body) 2 in
    simp (and_false, a) (fields_front texts (nat_lt (length body) 2) _ _ (simp (n)))

at_0x21 : (texts : chapter.Texts) (body : List ℕ) → IsReadAlike texts (0x21 ∷ body)
unfolding chapter.front_of front_of
at_0x21 texts body =
    let n = number_behind 0x21 body 0 2 in
    let a = has_fields (length body) 2 in
    simp (and_false, a) (fields_front texts (nat_lt (length body) 2) _ _ (simp (n)))

at_0x22 : (texts : chapter.Texts) (body : List ℕ) → IsReadAlike texts (0x22 ∷ body)
unfolding chapter.front_of front_of
at_0x22 texts body =
    let a = has_fields (length body) 1 in
    simp (and_false, a) (fields_front texts (nat_lt (length body) 1) _ _ refl)

at_0x30 : (texts : chapter.Texts) (body : List ℕ) → IsReadAlike texts (0x30 ∷ body)
unfolding chapter.front_of front_of
at_0x30 texts body =
    let a = has_fields (length body) 2 in
    simp (and_false, a) (fields_front texts (nat_lt (length body) 2) _ _ (extension_front texts 3 (slice_index body 1) (0x30 ∷ body)))

at_0x31 : (texts : chapter.Texts) (body : List ℕ) → IsReadAlike texts (0x31 ∷ body)
unfolding chapter.front_of front_of
at_0x31 texts body =
    let n = number_behind 0x31 body 1 2 in
    let a = has_fields (length body) 3 in
    simp (and_false, a) (fields_front texts (nat_lt (length body) 3) _ _ (simp (n) (extension_front texts 4 (number_in body 1 2) (0x31 ∷ body))))

at_0x32 : (texts : chapter.Texts) (body : List ℕ) → IsReadAlike texts (0x32 ∷ body)
unfolding chapter.front_of front_of
at_0x32 texts body =
    let n = number_behind 0x32 body 1 4 in
    let a = has_fields (length body) 5 in
    simp (and_false, a) (fields_front texts (nat_lt (length body) 5) _ _ (simp (n) (extension_front texts 6 (number_in body 1 4) (0x32 ∷ body))))

at_other : (texts : chapter.Texts) (kind : ℕ) (body : List ℕ) → kind ≢ 0x00 → kind ≢ 0x14 → kind ≢ 0x15 → kind ≢ 0x16 → kind ≢ 0x17 → kind ≢ 0x20 → kind ≢ 0x21 → kind ≢ 0x22 → kind ≢ 0x30 → kind ≢ 0x31 → kind ≢ 0x32
    → IsReadAlike texts (kind ∷ body)
unfolding chapter.front_of front_of
at_other texts kind body n00 n14 n15 n16 n17 n20 n21 n22 n30 n31 n32 =
    let e00 = ne_eqb kind 0x00 n00 in
    let e14 = ne_eqb kind 0x14 n14 in
    let e15 = ne_eqb kind 0x15 n15 in
    let e16 = ne_eqb kind 0x16 n16 in
    let e17 = ne_eqb kind 0x17 n17 in
    let e20 = ne_eqb kind 0x20 n20 in
    let e21 = ne_eqb kind 0x21 n21 in
    let e22 = ne_eqb kind 0x22 n22 in
    let e30 = ne_eqb kind 0x30 n30 in
    let e31 = ne_eqb kind 0x31 n31 in
    let e32 = ne_eqb kind 0x32 n32 in
    simp (and_false, e00, e14, e15, e16, e17, e20, e21, e22, e30, e31, e32)

at_no_bytes : (texts : chapter.Texts) → IsReadAlike texts []
unfolding chapter.front_of front_of
at_no_bytes texts = refl

pub same_front : (texts : chapter.Texts) (bytes : List ℕ) → chapter.front_of texts bytes ≡ front_with texts (front_of bytes)
same_front texts [] = at_no_bytes texts
same_front texts (kind ∷ body) =
    either 0x00 (at_0x00 texts body) λ n00.
    either 0x14 (at_0x14 texts body) λ n14.
    either 0x15 (at_0x15 texts body) λ n15.
    either 0x16 (at_0x16 texts body) λ n16.
    either 0x17 (at_0x17 texts body) λ n17.
    either 0x20 (at_0x20 texts body) λ n20.
    either 0x21 (at_0x21 texts body) λ n21.
    either 0x22 (at_0x22 texts body) λ n22.
    either 0x30 (at_0x30 texts body) λ n30.
    either 0x31 (at_0x31 texts body) λ n31.
    either 0x32 (at_0x32 texts body) λ n32.
    at_other texts kind body n00 n14 n15 n16 n17 n20 n21 n22 n30 n31 n32
  where
    either : (n : ℕ) → IsReadAlike texts (n ∷ body) → (kind ≢ n → IsReadAlike texts (kind ∷ body)) → IsReadAlike texts (kind ∷ body)
    either n same other = elim (cases_eq kind n) [ inl e ↦ subst (λ k. IsReadAlike texts (k ∷ body)) (sym e) same | inr e ↦ other e ]

-- a block that is spelled is read, with what it adds
pub spelled_read : (texts : chapter.Texts) (whole : WholeBlock) (rest : List ℕ) → HasGoodFields whole → chapter.front_of texts (spell whole ++ rest) ≡ chapter.block (added texts whole) rest
spelled_read texts whole rest fits = same_front texts (spell whole ++ rest) ∙ ap (front_with texts) (block_read whole rest fits)

-- a block that is read is spelled
abbrev BeginsWithSpelled : chapter.Texts → List ℕ → chapter.Texts → List ℕ → Type 0
BeginsWithSpelled texts bytes more rest = (whole : WholeBlock) × HasGoodFields whole × (added texts whole ≡ more) × (bytes ≡ spell whole ++ rest)

pub read_spelled : (texts : chapter.Texts) (bytes : List ℕ) (more : chapter.Texts) (rest : List ℕ) → chapter.front_of texts bytes ≡ chapter.block more rest → BeginsWithSpelled texts bytes more rest
read_spelled texts bytes more rest e = by (front_of bytes) refl (sym (same_front texts bytes) ∙ e)
  where
    by : (f : Front) → front_of bytes ≡ f → front_with texts f ≡ chapter.block more rest → BeginsWithSpelled texts bytes more rest
    by End here same = absurd cc
    by CutText here same = absurd cc
    by BadBlock here same = absurd cc
    by (Whole b behind) here same =
        let more_is : added_by texts b ≡ more = cc in
        let rest_is : behind ≡ rest = cc in
        let f = block_found bytes b behind here in
        (f.spelled, f.fitting, ap (added_by texts) f.says ∙ more_is, f.whole ∙ ap (λ r. spell f.spelled ++ r) rest_is)

-- ---- the texts of blocks

abbrev Found : Type 0
Found = Result chapter.Texts (Cause × ℕ)

-- a whole block takes a byte at least
block_shortens : (bytes : List ℕ) (block : Block) (rest : List ℕ) → front_of bytes ≡ Whole block rest → length rest < length bytes
block_shortens bytes block rest e =
    let s = block_found bytes block rest e in
    omega (arith, ap length s.whole, length-append (spell s.spelled) rest, some s.spelled)
  where
    some : (b : WholeBlock) → 0 < length (spell b)
    some (string_ucs2 text) = omega arith
    some _ = omega arith

-- nothing but no block stands at the front of no bytes
some_bytes : (bytes : List ℕ) (f : Front) → front_of bytes ≡ f → length bytes ≤ 0 → BadBlock ≡ f
unfolding front_of
some_bytes [] f e none = e
some_bytes (byte ∷ bytes) f e none = absurd (omega (arith, none))

-- what one step comes to
texts_more : (n : ℕ) (texts : chapter.Texts) (at : ℕ) (bytes : List ℕ) (block : Block) (rest : List ℕ) → front_of bytes ≡ Whole block rest
    → texts_from (suc n) texts at bytes ≡ texts_from n (with_block texts block) (at + (length bytes - length rest)) rest
unfolding texts_from
texts_more n texts at bytes block rest e = let front = same_front texts bytes ∙ ap (front_with texts) e in rw front refl

end_step : (n : ℕ) (texts : chapter.Texts) (at : ℕ) (bytes : List ℕ) → front_of bytes ≡ End → texts_from (suc n) texts at bytes ≡ Ok texts
unfolding texts_from
end_step n texts at bytes e = let front = same_front texts bytes ∙ ap (front_with texts) e in rw front refl

cut_step : (n : ℕ) (texts : chapter.Texts) (at : ℕ) (bytes : List ℕ) → front_of bytes ≡ CutText → texts_from (suc n) texts at bytes ≡ Err (StringText, at)
unfolding texts_from
cut_step n texts at bytes e = let front = same_front texts bytes ∙ ap (front_with texts) e in rw front refl

texts_end : (n : ℕ) (texts : chapter.Texts) (at : ℕ) (bytes : List ℕ) → front_of bytes ≡ End → length bytes ≤ n → texts_from n texts at bytes ≡ Ok texts
texts_end zero texts at bytes e few = absurd (bad_is_no_end (some_bytes bytes End e few))
  where
    bad_is_no_end : BadBlock ≡ End → ⊥
    bad_is_no_end e = cc
texts_end (suc n) texts at bytes e few = end_step n texts at bytes e

texts_cut : (n : ℕ) (texts : chapter.Texts) (at : ℕ) (bytes : List ℕ) → front_of bytes ≡ CutText → length bytes ≤ n → texts_from n texts at bytes ≡ Err (StringText, at)
texts_cut zero texts at bytes e few = absurd (bad_is_no_cut (some_bytes bytes CutText e few))
  where
    bad_is_no_cut : BadBlock ≡ CutText → ⊥
    bad_is_no_cut e = cc
texts_cut (suc n) texts at bytes e few = cut_step n texts at bytes e

texts_bad : (n : ℕ) (texts : chapter.Texts) (at : ℕ) (bytes : List ℕ) → front_of bytes ≡ BadBlock → texts_from n texts at bytes ≡ Err (StringBlock, at)
unfolding texts_from
texts_bad zero texts at bytes e = refl
texts_bad (suc n) texts at bytes e = let front = same_front texts bytes ∙ ap (front_with texts) e in rw front refl

-- What is read of bytes is what is read of the rest behind blocks that lead to it.
record Follows (n at : ℕ) (texts : chapter.Texts) (bytes : List ℕ) (blocks : List Block) (rest : List ℕ) : Type 0 where
  left : ℕ
  enough : length rest ≤ left
  less : length rest ≤ length bytes
  same : texts_from n texts at bytes ≡ texts_from left (with_blocks texts blocks) (at + (length bytes - length rest)) rest

leads_read : (blocks : List Block) (n at : ℕ) (texts : chapter.Texts) (bytes rest : List ℕ) → Leads bytes blocks rest → length bytes ≤ n → Follows n at texts bytes blocks rest
leads_read [] n at texts bytes rest same enough =
    let long : length rest ≡ length bytes = ap length same in
    let place : at ≡ at + (length bytes - length rest) = omega (arith, long) in
    record {
      left = n;
      enough = omega (arith, long, enough);
      less = omega (arith, long);
      same = ap (texts_from n texts at) (sym same) ∙ ap (λ p. texts_from n texts p rest) place;
    }
leads_read (b ∷ blocks) zero at texts bytes rest (behind, here, leads) enough = absurd (omega (arith, enough, block_shortens bytes b behind here))
leads_read (b ∷ blocks) (suc n) at texts bytes rest (behind, here, leads) enough =
    let shorter = block_shortens bytes b behind here in
    let f = leads_read blocks n (at + (length bytes - length behind)) (with_block texts b) behind rest leads (omega (arith, shorter, enough)) in
    let place : at + (length bytes - length behind) + (length behind - length rest) ≡ at + (length bytes - length rest) = omega (arith, shorter, f.less) in
    record {
      left = f.left;
      enough = f.enough;
      less = omega (arith, shorter, f.less);
      same = texts_more n texts at bytes b behind here ∙ f.same ∙ ap (λ p. texts_from f.left (with_blocks (with_block texts b) blocks) p rest) place;
    }

-- the texts of blocks up to an end, and the place of what is no whole block
pub blocks_texts : (n at : ℕ) (bytes : List ℕ) (blocks : List Block) → length bytes ≤ n → AreBlocks bytes blocks → texts_from n [] at bytes ≡ Ok (texts_said blocks)
blocks_texts n at bytes blocks enough (rest, leads, end) =
    let f = leads_read blocks n at [] bytes rest leads enough in
    f.same ∙ texts_end f.left (texts_said blocks) (at + (length bytes - length rest)) rest end f.enough

pub stop_read : (n at place : ℕ) (bytes : List ℕ) (front : Front) (cause : Cause) → length bytes ≤ n → StandsAt bytes front place
    → ((front ≡ BadBlock) × (cause ≡ StringBlock)) ⊎ ((front ≡ CutText) × (cause ≡ StringText)) → texts_from n [] at bytes ≡ Err (cause, at + place)
stop_read n at place bytes front cause enough (blocks, rest, leads, here, whole) why =
    let f = leads_read blocks n at [] bytes rest leads enough in
    let stop : ℕ = at + (length bytes - length rest) in
    let there : stop ≡ at + place = omega (arith, whole) in
    f.same ∙ elim why [
      | inl x ↦ texts_bad f.left (texts_said blocks) stop rest (here ∙ x.0) ∙ ap (λ c. Err (c, stop)) (sym x.1)
      | inr x ↦ texts_cut f.left (texts_said blocks) stop rest (here ∙ x.0) f.enough ∙ ap (λ c. Err (c, stop)) (sym x.1)
    ] ∙ ap (λ p. Err (cause, p)) there

same_ok : (a b : chapter.Texts) → ◌≡◌ {A = Found} (Ok a) (Ok b) → a ≡ b
same_ok a b e = cc

ok_is_no_err : (a : chapter.Texts) (b : Cause × ℕ) → ◌≡◌ {A = Found} (Err b) (Ok a) → ⊥
ok_is_no_err a b e = cc

no_texts : (texts : chapter.Texts) (at : ℕ) (bytes : List ℕ) → texts_from zero texts at bytes ≡ Err (StringBlock, at)
unfolding texts_from
no_texts texts at bytes = refl

-- texts that are read are those of blocks up to an end
abbrev AreOfBlocks : chapter.Texts → List ℕ → chapter.Texts → Type 0
AreOfBlocks texts bytes found = (blocks : List Block) × AreBlocks bytes blocks × (found ≡ with_blocks texts blocks)

pub texts_blocks : (n at : ℕ) (texts : chapter.Texts) (bytes : List ℕ) (found : chapter.Texts) → texts_from n texts at bytes ≡ Ok found → AreOfBlocks texts bytes found
texts_blocks zero at texts bytes found e = absurd (ok_is_no_err found _ (sym (no_texts texts at bytes) ∙ e))
texts_blocks (suc n) at texts bytes found e = by (front_of bytes) refl (λ place ts rest is. texts_blocks n place ts rest found is)
  where
    by : (f : Front) → front_of bytes ≡ f → ((place : ℕ) (ts : chapter.Texts) (rest : List ℕ) → texts_from n ts place rest ≡ Ok found → AreOfBlocks ts rest found) → AreOfBlocks texts bytes found
    by End here follow = ([], (bytes, refl, here), same_ok found texts (sym e ∙ end_step n texts at bytes here))
    by CutText here follow = absurd (ok_is_no_err found _ (sym (cut_step n texts at bytes here) ∙ e))
    by BadBlock here follow = absurd (ok_is_no_err found _ (sym (texts_bad (suc n) texts at bytes here) ∙ e))
    by (Whole block rest) here follow =
        let more = follow (at + (length bytes - length rest)) (with_block texts block) rest (sym (texts_more n texts at bytes block rest here) ∙ e) in
        (block ∷ more.0, (more.1.0, (rest, here, more.1.1), more.1.2), more.2)

-- spelled blocks are read, and what is read is spelled
pub all_read : (bytes : List ℕ) (blocks : List WholeBlock) (n at : ℕ) → AreSpelled bytes blocks → length bytes ≤ n → texts_from n [] at bytes ≡ Ok (texts_said (map said blocks))
all_read bytes blocks n at are enough = blocks_texts n at bytes (map said blocks) enough (blocks_read bytes blocks are)

pub all_spelled : (bytes : List ℕ) (texts : chapter.Texts) (n at : ℕ) → texts_from n [] at bytes ≡ Ok texts → (blocks : List WholeBlock) × AreSpelled bytes blocks × (texts_said (map said blocks) ≡ texts)
all_spelled bytes texts n at e =
    let r = texts_blocks n at [] bytes texts e in
    let all = blocks_found bytes r.0 r.1 in
    (all.spelled, all.are, ap texts_said all.say ∙ sym r.2)
