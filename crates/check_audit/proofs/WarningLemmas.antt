-- Warnings are added one behind the other.
use Rattle.std.proofs.Common.{◌≡◌, ℕ, Bool, cond, Option, Some, None, List, [], ◌∷◌, ◌++◌, drop, sym, ap, ◌∙◌, append_assoc}
use Rattle.std.specs.Prelude.{MatchOption}
use Rattle.ifr_opcodes.specs.Fields.{form_id}
use Rattle.ifr_opcodes.specs.Forest.{Node}
use Rattle.ifr_scopes.specs.code.Lists.{form_node}
use Rattle.ifr_scopes.specs.declared.form.Form.{Form}
use Rattle.check_audit.specs.Warnings.{unreached_at}
use Rattle.check_audit.specs.declared.warning.Oddity.TheVariants.{Unreached}
use Rattle.check_audit.specs.declared.warning.Warning.{Warning}

-- those of two words
pub two_added : (w0 w1 w2 a b : List Warning) → w0 ≡ [] → w1 ≡ w0 ++ a → w2 ≡ w1 ++ b → w2 ≡ a ++ b
two_added w0 w1 w2 a b e0 e1 e2 =
    let one : w1 ≡ a = e1 ∙ ap (λ (l : List Warning). l ++ a) e0 in
    e2 ∙ ap (λ (l : List Warning). l ++ b) one

-- those of all, where the words a and b stand before c, and d and e behind it
pub all_added : (w0 w1 w2 w3 w4 w5 behind a b c d e f g h : List Warning) → w0 ≡ a ++ b → w1 ≡ w0 ++ c → behind ≡ d ++ e → w2 ≡ w1 ++ behind → w3 ≡ w2 ++ f → w4 ≡ w3 ++ g → w5 ≡ w4 ++ h
    → w5 ≡ (a ++ b ++ c ++ d ++ e) ++ f ++ g ++ h
all_added w0 w1 w2 w3 w4 w5 behind a b c d e f g h e0 e1 eb e2 e3 e4 e5 =
    let one : w1 ≡ a ++ b ++ c = e1 ∙ ap (λ (l : List Warning). l ++ c) e0 in
    let two : w2 ≡ a ++ b ++ c ++ d ++ e = e2 ∙ ap (λ (l : List Warning). l ++ behind) one ∙ ap (λ (l : List Warning). (a ++ b ++ c) ++ l) eb ∙ sym (append_assoc (a ++ b ++ c) d e) in
    let three = e3 ∙ ap (λ (l : List Warning). l ++ f) two in
    let four = e4 ∙ ap (λ (l : List Warning). l ++ g) three in
    e5 ∙ ap (λ (l : List Warning). l ++ h) four

-- what is left behind the first
pub behind_first : (first : Option Form) (old new : List Node) → MatchOption first ((old ≡ []) × (new ≡ [])) (λ form. old ≡ form_node form ∷ new) → new ≡ drop 1 old
behind_first None old new (none, nothing) = nothing ∙ sym (ap (drop 1) none)
behind_first (Some form) old new steps = sym (ap (drop 1) steps)

-- what is told of a form by one set of ids is told by another one of the same
pub same_set : (one other : ℕ → Bool) (form : Node) → ((id : ℕ) → one id ≡ other id) → unreached_at one form ≡ unreached_at other form
same_set one other form same =
    ap (λ (b : Bool). cond b None (Some (record { place = form.place; oddity = Unreached (form_id form.op) }))) (same (form_id form.op))
