-- A password is shown by the first unit of its text.
use Rattle.std.proofs.Common.{◌≡◌, ℕ, suc, ◌*◌, true, false, ◌==◌, if◌then◌else◌, is_some, codes, Option, Some, None, option_map, MatchOption, List, [], ◌∷◌, length, take, refl, sym, ap, subst, ◌∙◌, arith}
use Rattle.std.proofs.lemmas.Bool.{cond-true, cond-false, eqb-true, eq-eqb}
use Rattle.ifr_expr.specs.Values.{Value, undefined}
use Rattle.ifr_opcodes.specs.Fields.{password_minimum, password_maximum}
use Rattle.ifr_opcodes.specs.Forest.{Node}
use Rattle.ifr_opcodes.specs.Opcode.{number}
use Rattle.ifr_opcodes.specs.declared.codes.TheConstants.{PASSWORD}
use Rattle.hii_varstore.specs.code.Ranges.{IsCut}
use Rattle.hii_values.specs.Answers.{answer_in}
use Rattle.hii_values.specs.FieldTypes.{FieldType, text, size_of_type}
use Rattle.hii_values.specs.Types.{is_password, type_of}
use Rattle.hii_values.specs.Items.{items_in, bytes_of_items}
use Rattle.hii_questions.specs.Answers.{value_of_bytes}
use Rattle.hii_questions.specs.Fields.{Field, field_width}
use Rattle.hii_questions.specs.code.Ranges.{HasWidth, range_in}
use Rattle.hii_questions.specs.declared.field_range.FieldRange.{FieldRange}
use Rattle.guard_policy.specs.World.{World}
use Rattle.form_page.specs.RowValues.{password_shown, password_text, stored_shown}

-- the field of a question is as wide as its type says
pub wide_as : (n : Node) (mine : Option FieldRange) (range : FieldRange) → HasWidth n mine → Some (range_in range) ≡ option_map range_in mine → field_width n ≡ Some range.width
wide_as n None range wide e = absurd cc
wide_as n (Some own) range wide e =
    let same : range_in range ≡ range_in own = cc in
    wide ∙ ap (λ (f : Field). Some f.width) (sym same)

abbrev of_type : Node → FieldType
of_type n = text (password_minimum n.op) (password_maximum n.op)

type_is : (n : Node) → is_password n ≡ true → type_of n ≡ Some (of_type n)
type_is n secret = let its : number n.op ≡ PASSWORD = eqb-true (number n.op) PASSWORD secret in rw its refl

size_is : (n : Node) (width : ℕ) → is_password n ≡ true → field_width n ≡ Some width → width ≡ size_of_type (of_type n)
size_is n width secret wide =
    let both : Some width ≡ Some (size_of_type (of_type n)) = sym wide ∙ ap (option_map size_of_type) (type_is n secret) in
    cc

-- what is shown of a password
pub secret_shown : (texts : ℕ → List ℕ) (w : World) (n : Node) (value : Value) → is_password n ≡ true → stored_shown texts w n value ≡ password_shown value
secret_shown texts w n value secret = let its : number n.op ≡ PASSWORD = eqb-true (number n.op) PASSWORD secret in rw its refl

-- a store that holds no field of that size
pub cut_password : (n : Node) (width : ℕ) (bytes : Option (List ℕ)) → is_password n ≡ true → field_width n ≡ Some width → IsCut width bytes → password_shown (value_of_bytes (type_of n) bytes) ≡ []
cut_password n width None secret wide cut = ap (λ (t : Option FieldType). password_shown (value_of_bytes t None)) (type_is n secret)
cut_password n width (Some bytes) secret wide cut =
    let other : (length bytes == size_of_type (of_type n)) ≡ false = subst (λ (w : ℕ). (length bytes == w) ≡ false) (size_is n width secret wide) cut in
    ap (λ (t : Option FieldType). password_shown (value_of_bytes t (Some bytes))) (type_is n secret)
    ∙ ap password_shown (cond-false (length bytes == size_of_type (of_type n)) (answer_in (of_type n) bytes) undefined other)

-- the text has units where it has a first
first_unit : (bytes : List ℕ) (r : Option ℕ) (after : List ℕ) → MatchOption r ((items_in 2 bytes ≡ []) × (after ≡ [])) (λ x. items_in 2 bytes ≡ x ∷ after)
    → (if is_some r then codes "****" else []) ≡ password_text (bytes_of_items 2 bytes)
first_unit bytes None after e = sym (ap (λ (its : List ℕ). password_text (take (length its * 2) bytes)) e.0)
first_unit [] (Some x) after e = absurd cc
first_unit (b ∷ bytes) (Some x) after e =
    let more : length (x ∷ after) * 2 ≡ suc (suc (length after * 2)) = omega arith in
    sym (ap (λ (its : List ℕ). password_text (take (length its * 2) (b ∷ bytes))) e ∙ ap (λ (k : ℕ). password_text (take k (b ∷ bytes))) more)

pub whole_password : (n : Node) (width : ℕ) (bytes : List ℕ) (r : Option ℕ) (after : List ℕ) → is_password n ≡ true → field_width n ≡ Some width → length bytes ≡ width
    → MatchOption r ((items_in 2 bytes ≡ []) × (after ≡ [])) (λ x. items_in 2 bytes ≡ x ∷ after) → (if is_some r then codes "****" else []) ≡ password_shown (value_of_bytes (type_of n) (Some bytes))
whole_password n width bytes r after secret wide sized step =
    let whole : (length bytes == size_of_type (of_type n)) ≡ true = eq-eqb (length bytes) (size_of_type (of_type n)) (sized ∙ size_is n width secret wide) in
    first_unit bytes r after step
    ∙ sym (ap (λ (t : Option FieldType). password_shown (value_of_bytes t (Some bytes))) (type_is n secret)
    ∙ ap password_shown (cond-true (length bytes == size_of_type (of_type n)) (answer_in (of_type n) bytes) undefined whole))
