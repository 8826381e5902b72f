-- Guards and rules are met among the nodes of a package.
use Rattle.std.proofs.Common.{◌≡◌, ℕ, Bool, true, false, if◌then◌else◌, List, [], ◌∷◌, sym, ap, subst, ◌∙◌}
use Rattle.std.specs.Prelude.{filter}
use Rattle.std.proofs.lemmas.Bool.{cond-true, cond-false, ne_eqb}
use Rattle.ifr_opcodes.specs.Forest.{Node}
use Rattle.ifr_opcodes.specs.Opcode.{number}
use Rattle.ifr_opcodes.specs.declared.codes.TheConstants.{RULE}
use Rattle.ifr_nodes.specs.Guards.{is_guard}
use Rattle.ifr_nodes.specs.Rules.{is_rule}
use Rattle.question_audit.specs.Audited.{Audited}
use Rattle.question_objects.specs.FormSets.{condition_object, guard_object, rule_object}

-- the first of those that pass a test is the first of all, where this passes it
pub met : (test : Node → Bool) (all left later rest : List Node) (n m : Node) → left ≡ filter test all → all ≡ n ∷ rest → test n ≡ true → left ≡ m ∷ later → (m ≡ n) × (later ≡ filter test rest)
met test all left later rest n m same e is steps =
    let both : m ∷ later ≡ n ∷ filter test rest = sym steps ∙ same ∙ ap (filter test) e ∙ cond-true (test n) (n ∷ filter test rest) (filter test rest) is in
    (cc, cc)

-- so there is one
pub not_none : (test : Node → Bool) (all left rest : List Node) (n : Node) → left ≡ filter test all → all ≡ n ∷ rest → test n ≡ true → left ≡ [] → ⊥
not_none test all left rest n same e is none =
    let both : [] ≡ n ∷ filter test rest = sym none ∙ same ∙ ap (filter test) e ∙ cond-true (test n) (n ∷ filter test rest) (filter test rest) is in
    absurd cc

-- where it fails it, they are among the others
pub passed_over : (test : Node → Bool) (all left rest : List Node) (n : Node) → left ≡ filter test all → all ≡ n ∷ rest → test n ≡ false → left ≡ filter test rest
passed_over test all left rest n same e is = same ∙ ap (filter test) e ∙ cond-false (test n) (n ∷ filter test rest) (filter test rest) is

pub guard_is_no_rule : (n : Node) → is_guard (number n.op) ≡ true → is_rule n ≡ false
guard_is_no_rule n is = ne_eqb (number n.op) RULE (λ same. let bad : is_guard RULE ≡ true = subst (λ (k : ℕ). is_guard k ≡ true) same is in absurd cc)

-- what is told of a guard, of a rule, and of another node
pub of_guard : (a : Audited) (package_place : ℕ) (n m : Node) → m ≡ n → is_guard (number n.op) ≡ true → guard_object a package_place m ≡ condition_object a package_place n
of_guard a package_place n m same is =
    ap (guard_object a package_place) same ∙ sym (cond-true (is_guard (number n.op)) (guard_object a package_place n) (if is_rule n then rule_object package_place n else []) is)

pub of_rule : (a : Audited) (package_place : ℕ) (n m : Node) → m ≡ n → is_guard (number n.op) ≡ false → is_rule n ≡ true → rule_object package_place m ≡ condition_object a package_place n
of_rule a package_place n m same other is =
    ap (rule_object package_place) same ∙ sym (cond-false (is_guard (number n.op)) (guard_object a package_place n) (if is_rule n then rule_object package_place n else []) other
    ∙ cond-true (is_rule n) (rule_object package_place n) [] is)

pub of_another : (a : Audited) (package_place : ℕ) (n : Node) → is_guard (number n.op) ≡ false → is_rule n ≡ false → [] ≡ condition_object a package_place n
of_another a package_place n other nor =
    sym (cond-false (is_guard (number n.op)) (guard_object a package_place n) (if is_rule n then rule_object package_place n else []) other
    ∙ cond-false (is_rule n) (rule_object package_place n) [] nor)
