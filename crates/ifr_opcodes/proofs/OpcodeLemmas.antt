-- Bytes are cut into whole opcodes in one way alone.
use Rattle.std.proofs.Common.{◌≡◌, ℕ, zero, suc, ◌+◌, ◌<◌, ◌≤◌, ◌%◌, Bool, true, false, eqb, List, [], ◌∷◌, ◌++◌, length, take, drop, refl, sym, ap, ◌∙◌, append_assoc, arith, lit≤}
use Rattle.std.specs.List.{concat, AllByRecursion}
use Rattle.std.proofs.lemmas.List.{take_at, drop_at, get_or_append_left, length-append}
use Rattle.std.proofs.lemmas.Bool.{ne_eqb, le-leb, lt-leb}
use Rattle.ifr_opcodes.specs.Opcode.{stated_length, has_scope, end, IsWhole}
use Rattle.ifr_opcodes.specs.code.Props.{spelled}
use Rattle.ifr_opcodes.specs.Reading.{cut}

abbrev pub AllWhole : List (List ℕ) → Type 0
AllWhole ops = AllByRecursion IsWhole ops

-- what follows an opcode does not change the length that it states
pub stated_at : (op more : List ℕ) → IsWhole op → stated_length (op ++ more) ≡ length op
stated_at op more w =
    let two : 1 < length op = omega (arith, w.long) in
    ap (λ n. n % 128) (get_or_append_left op more 0 1 two) ∙ sym w.sized

pub split_unique : (a b x y : List ℕ) → IsWhole a → IsWhole b → a ++ x ≡ b ++ y → (a ≡ b) × (x ≡ y)
split_unique a b x y u v e =
    let same : length a ≡ length b = sym (stated_at a x u) ∙ ap stated_length e ∙ stated_at b y v in (
      sym (take_at a x (length a) refl) ∙ ap (take (length a)) e ∙ take_at b y (length a) (sym same),
      sym (drop_at a x (length a) refl) ∙ ap (drop (length a)) e ∙ drop_at b y (length a) (sym same),
    )

-- a run of opcodes that is shorter than another over the same bytes is its front
pub longer_goes_on : (xs ys : List (List ℕ)) (r s : List ℕ) → AllWhole xs → AllWhole ys → concat xs ++ r ≡ concat ys ++ s → length (concat xs) < length (concat ys)
    → (op : List ℕ) × (more : List (List ℕ)) × (ys ≡ xs ++ op ∷ more) × IsWhole op × (r ≡ op ++ (concat more ++ s))
longer_goes_on [] [] r s u v e lt = absurd (omega arith)
longer_goes_on [] (op ∷ more) r s u v e lt = (op, more, refl, v.0, e ∙ append_assoc op (concat more) s)
longer_goes_on (a ∷ xs) [] r s u v e lt = absurd (omega arith)
longer_goes_on (a ∷ xs) (b ∷ ys) r s u v e lt =
    let parts = split_unique a b (concat xs ++ r) (concat ys ++ s) u.0 v.0 (sym (append_assoc a (concat xs) r) ∙ e ∙ append_assoc b (concat ys) s) in
    let lens : length a ≡ length b = ap length parts.0 in
    let less : length (concat xs) < length (concat ys) = omega (arith, length-append a (concat xs), length-append b (concat ys)) in
    let next = longer_goes_on xs ys r s u.1 v.1 parts.1 less in
    (next.0, next.1, (ap (λ (o : List ℕ). o ∷ ys) (sym parts.0) ∙ ap (λ (l : List (List ℕ)). a ∷ l) next.2), next.3, next.4)

-- what was cut is what was joined
pub cut-concat : (n : ℕ) (ops : List (List ℕ)) → AllWhole ops → length (concat ops) ≤ n → cut n (concat ops) ≡ ops
unfolding cut
cut-concat zero [] w le = refl
cut-concat (suc n) [] w le = refl
cut-concat zero (op ∷ ops) w le = absurd (omega (arith, w.0.long, length-append op (concat ops)))
cut-concat (suc n) (op ∷ ops) w le =
    let long : length op + length (concat ops) ≡ length (op ++ concat ops) = sym (length-append op (concat ops)) in
    let two : 2 ≤ length op = w.0.long in
    let some : eqb (length (op ++ concat ops)) 0 ≡ false = ne_eqb (length (op ++ concat ops)) 0 (λ e. omega arith) in
    let less : length (concat ops) ≤ n = omega arith in
    rw (some, stated_at op (concat ops) w.0, take_at op (concat ops) (length op) refl, drop_at op (concat ops) (length op) refl, cut-concat n ops w.1 less) refl

-- so bytes are joined of one list of opcodes at most
pub one_cut : (xs ys : List (List ℕ)) → AllWhole xs → AllWhole ys → concat xs ≡ concat ys → xs ≡ ys
one_cut xs ys u v e =
    sym (cut-concat (length (concat xs)) xs u (omega arith)) ∙ ap (cut (length (concat xs))) e ∙ cut-concat (length (concat xs)) ys v (omega (arith, ap length e))

pub AllWhole-append : (xs ys : List (List ℕ)) → AllWhole xs → AllWhole ys → AllWhole (xs ++ ys)
AllWhole-append [] ys u v = v
AllWhole-append (x ∷ xs) ys u v = (u.0, AllWhole-append xs ys u.1 v)

pub AllWhole-front : (xs ys : List (List ℕ)) → AllWhole (xs ++ ys) → AllWhole xs
AllWhole-front [] ys u = tt
AllWhole-front (x ∷ xs) ys u = (u.0, AllWhole-front xs ys u.1)

pub AllWhole-back : (xs ys : List (List ℕ)) → AllWhole (xs ++ ys) → AllWhole ys
AllWhole-back [] ys u = u
AllWhole-back (x ∷ xs) ys u = AllWhole-back xs ys u.1

pub concat-append : (xs ys : List (List ℕ)) → concat (xs ++ ys) ≡ concat xs ++ concat ys
concat-append [] ys = refl
concat-append (x ∷ xs) ys = ap (λ (l : List ℕ). x ++ l) (concat-append xs ys) ∙ sym (append_assoc x (concat xs) (concat ys))

pub end_whole : IsWhole end
end_whole = record { long = lit≤ tt; sized = refl; ends = λ e. refl }

-- whether an opcode has Scope shows in its second byte
pub has_scope_spelled : (code : ℕ) (scope : Bool) (body : List ℕ) → IsWhole (spelled code scope body) → has_scope (spelled code scope body) ≡ scope
has_scope_spelled code true body w = le-leb 128 (128 + (2 + length body)) (omega arith)
has_scope_spelled code false body w = let small : 0 + (2 + length body) < 128 = omega (arith, w.sized) in lt-leb 128 (0 + (2 + length body)) small
