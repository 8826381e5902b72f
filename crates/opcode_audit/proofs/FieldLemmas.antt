-- Fields that stand one behind the other.
use Rattle.std.proofs.Common.{◌≡◌, ℕ, ◌+◌, Option, Some, None, List, [], ◌∷◌, ◌++◌, drop, refl, sym, ap, ◌∙◌, append_assoc, arith}
use Rattle.std.proofs.lemmas.List.{drop-drop}
use Rattle.opcode_audit.specs.Layouts.{Field}
use Rattle.opcode_audit.specs.Facts.{Fact, fact_in, facts_in}
use Rattle.opcode_audit.specs.code.Columns.{listed, size_of}
use Rattle.opcode_audit.specs.declared.field.Field as code

pub facts_append : (fs gs : List Field) (bytes : List ℕ) → facts_in (fs ++ gs) bytes ≡ facts_in fs bytes ++ facts_in gs (drop (size_of fs) bytes)
facts_append [] gs bytes = refl
facts_append (f ∷ fs) gs bytes =
    let first = fact_in f bytes in
    let others = facts_in fs (drop f.width bytes) in
    ap (λ (l : List Fact). first ++ l) (facts_append fs gs (drop f.width bytes))
    ∙ sym (append_assoc first others (facts_in gs (drop (size_of fs) (drop f.width bytes))))
    ∙ ap (λ (b : List ℕ). (first ++ others) ++ facts_in gs b) (drop-drop (size_of fs) f.width bytes)

pub size_append : (fs gs : List Field) → size_of (fs ++ gs) ≡ size_of fs + size_of gs
size_append [] gs = omega arith
size_append (f ∷ fs) gs = let more = size_append fs gs in omega (arith, more)

listed_first : (e : Option code.Field) (es : List (Option code.Field)) → listed (e ∷ es) ≡ listed (e ∷ []) ++ listed es
listed_first None es = refl
listed_first (Some f) es = refl

-- the first of some entries, and then the others
pub entry_facts : (e : Option code.Field) (es : List (Option code.Field)) (bytes rest : List ℕ) → rest ≡ drop (size_of (listed (e ∷ []))) bytes
    → facts_in (listed (e ∷ es)) bytes ≡ facts_in (listed (e ∷ [])) bytes ++ facts_in (listed es) rest
entry_facts e es bytes rest same =
    let one = listed (e ∷ []) in
    ap (λ (fs : List Field). facts_in fs bytes) (listed_first e es) ∙ facts_append one (listed es) bytes
    ∙ ap (λ (b : List ℕ). facts_in one bytes ++ facts_in (listed es) b) (sym same)

pub entry_behind : (e : Option code.Field) (es : List (Option code.Field)) (bytes rest : List ℕ) → rest ≡ drop (size_of (listed (e ∷ []))) bytes
    → drop (size_of (listed es)) rest ≡ drop (size_of (listed (e ∷ es))) bytes
entry_behind e es bytes rest same =
    let one = listed (e ∷ []) in
    ap (drop (size_of (listed es))) same ∙ drop-drop (size_of (listed es)) (size_of one) bytes
    ∙ ap (λ (n : ℕ). drop n bytes) (sym (ap size_of (listed_first e es) ∙ size_append one (listed es)))

-- what is known of an opcode: what its kind has, what its number has, and what stands behind these
pub facts_joined : {all : List Fact} (op rest behind : List ℕ) (head own tail both : List Field) → head ++ own ≡ both → rest ≡ drop (size_of head) (drop 2 op) → behind ≡ drop (size_of own) rest
    → all ≡ (facts_in head (drop 2 op) ++ facts_in own rest) ++ facts_in tail behind → all ≡ facts_in (both ++ tail) (drop 2 op)
facts_joined {all} op rest behind head own tail both is at_own at_tail e =
    let bytes = drop 2 op in
    let first : facts_in head bytes ++ facts_in own rest ≡ facts_in both bytes =
    ap (λ (r : List ℕ). facts_in head bytes ++ facts_in own r) at_own ∙ sym (facts_append head own bytes) ∙ ap (λ (fs : List Field). facts_in fs bytes) is in
    let size : size_of head + size_of own ≡ size_of both = sym (size_append head own) ∙ ap size_of is in
    let sizes : size_of own + size_of head ≡ size_of both = omega (arith, size) in
    let last : behind ≡ drop (size_of both) bytes =
    at_tail ∙ ap (drop (size_of own)) at_own ∙ drop-drop (size_of own) (size_of head) bytes ∙ ap (λ (n : ℕ). drop n bytes) (omega (arith, sizes)) in
    e ∙ ap (λ (l : List Fact). l ++ facts_in tail behind) first ∙ ap (λ (r : List ℕ). facts_in both bytes ++ facts_in tail r) last ∙ sym (facts_append both tail bytes)
