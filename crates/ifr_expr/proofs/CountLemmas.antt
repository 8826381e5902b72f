-- How many values the opcodes of trees leave.
use Rattle.std.proofs.Common.{◌≡◌, ℕ, zero, suc, ◌+◌, ◌-◌, ◌≤◌, ◌<◌, max, Bool, true, false, cond, Some, Result, Ok, Err, List, [], ◌∷◌, ◌++◌, length, refl, sym, ap, ◌∙◌, append_assoc, arith}
use Rattle.std.proofs.lemmas.List.{append-nil}
use Rattle.std.proofs.lemmas.Bool.{lt-ltb, le-ltb}
use Rattle.hii_bytes.specs.declared.cause.Cause.TheVariants.{ExprShape, ExprDepth}
use Rattle.hii_bytes.specs.declared.cause.Fault.{Fault}
use Rattle.ifr_opcodes.specs.Forest.{Mark}
use Rattle.ifr_expr.specs.Trees.{Tree, leaf, one, two, post, takes, need, IsFitting, Means}
use Rattle.ifr_expr.specs.Counting.{or_zero, wanted, posts, AreFitting, needs, Spell}
use Rattle.ifr_expr.specs.code.Counting.{after, counted, counted_all}
use Rattle.ifr_expr.proofs.TreeLemmas.{some_need}

abbrev pub ok : ℕ → Result ℕ Fault
ok count = Ok count

-- ---- counting goes on opcode by opcode

pub count_step : (count : Result ℕ Fault) (op : Mark) (ops : List Mark) → counted_all count (op ∷ ops) ≡ counted_all (counted count op) ops
unfolding counted_all
count_step count op ops = refl

pub count_none : (count : Result ℕ Fault) → counted_all count [] ≡ count
unfolding counted_all
count_none count = refl

pub count_stays : (fault : Fault) (ops : List Mark) → counted_all (Err fault) ops ≡ Err fault
count_stays fault [] = count_none (Err fault)
count_stays fault (op ∷ ops) = count_step (Err fault) op ops ∙ count_stays fault ops

pub count-append : (count : Result ℕ Fault) (xs ys : List Mark) → counted_all count (xs ++ ys) ≡ counted_all (counted_all count xs) ys
count-append count [] ys = ap (λ (c : Result ℕ Fault). counted_all c ys) (sym (count_none count))
count-append count (x ∷ xs) ys =
    count_step count x (xs ++ ys) ∙ count-append (counted count x) xs ys ∙ ap (λ (c : Result ℕ Fault). counted_all c ys) (sym (count_step count x xs))

-- ---- one opcode

too_few : (a b : Bool) (e f : Fault) (n : ℕ) → a ≡ true → cond {A = Result ℕ Fault} a (Err e) (cond {A = Result ℕ Fault} b (Err f) (Ok n)) ≡ Err e
too_few a b e f n h = rw h refl

too_many : (a b : Bool) (e f : Fault) (n : ℕ) → a ≡ false → b ≡ true → cond {A = Result ℕ Fault} a (Err e) (cond {A = Result ℕ Fault} b (Err f) (Ok n)) ≡ Err f
too_many a b e f n h k = rw (h, k) refl

enough : (a b : Bool) (e f : Fault) (n : ℕ) → a ≡ false → b ≡ false → cond {A = Result ℕ Fault} a (Err e) (cond {A = Result ℕ Fault} b (Err f) (Ok n)) ≡ Ok n
enough a b e f n h k = rw (h, k) refl

pub after_few : (count : ℕ) (op : Mark) → count < wanted op → after count op ≡ Err (record { cause = ExprShape; place = op.place })
after_few count op h = too_few _ _ _ _ _ (lt-ltb count (wanted op) h)

pub after_many : (count : ℕ) (op : Mark) → wanted op ≤ count → 64 < count - wanted op + 1 → after count op ≡ Err (record { cause = ExprDepth; place = op.place })
after_many count op h k = too_many _ _ _ _ _ (le-ltb count (wanted op) h) (lt-ltb 64 (count - wanted op + 1) k)

pub after_some : (count : ℕ) (op : Mark) → wanted op ≤ count → count - wanted op + 1 ≤ 64 → after count op ≡ Ok (count - wanted op + 1)
after_some count op h k = enough _ _ _ _ _ (le-ltb count (wanted op) h) (le-ltb 64 (count - wanted op + 1) k)

-- ---- the opcodes of a tree leave one value more

pass : (count n left : ℕ) (op : Mark) (more : List Mark) → takes op ≡ Some n → n ≤ count → left ≤ 64 → count - n + 1 ≡ left → counted_all (Ok count) (op ∷ more) ≡ counted_all (Ok left) more
pass count n left op more t within few e =
    let w : wanted op ≡ n = ap or_zero t in
    let same : count - wanted op + 1 ≡ left = omega arith in
    count_step (Ok count) op more
    ∙ ap (λ (c : Result ℕ Fault). counted_all c more) (after_some count op (omega arith) (omega arith) ∙ ap ok same)

pub count-tree : (tree : Tree) (count : ℕ) (more : List Mark) → IsFitting tree → count + need tree ≤ 64 → counted_all (Ok count) (post tree ++ more) ≡ counted_all (Ok (count + 1)) more
count-tree (leaf op) count more h few = pass count 0 (count + 1) op more h (omega arith) few (omega arith)
count-tree (one op operand) count more h few =
    ap (counted_all (Ok count)) (append_assoc (post operand) (op ∷ []) more)
    ∙ count-tree operand count (op ∷ more) h.1 few
    ∙ pass (count + 1) 1 (count + 1) op more h.0 (omega arith) (omega (arith, some_need operand)) (omega arith)
count-tree (two op left right) count more h few =
    ap (counted_all (Ok count)) (append_assoc (post left) (post right ++ op ∷ []) more ∙ ap (λ (l : List Mark). post left ++ l) (append_assoc (post right) (op ∷ []) more))
    ∙ count-tree left count (post right ++ op ∷ more) h.1.0 (omega arith)
    ∙ count-tree right (count + 1) (op ∷ more) h.1.1 (omega arith)
    ∙ pass (count + 1 + 1) 2 (count + 1) op more h.0 (omega arith) (omega (arith, some_need left)) (omega arith)

count-trees : (trees : List Tree) (count : ℕ) → AreFitting trees → count + needs trees ≤ 64 → counted_all (Ok count) (posts trees) ≡ Ok (count + length trees)
count-trees [] count h few = count_none (Ok count) ∙ ap ok (omega arith)
count-trees (tree ∷ trees) count h few =
    count-tree tree count (posts trees) h.0 (omega arith)
    ∙ count-trees trees (count + 1) h.1 (omega arith)
    ∙ ap ok (omega arith)

pub spelled_count : (marks : List Mark) (trees : List Tree) → Spell marks trees → counted_all (Ok 0) marks ≡ Ok (length trees)
spelled_count marks trees s =
    ap (counted_all (Ok 0)) (sym s.spelled) ∙ count-trees trees 0 s.fitting (omega (arith, s.within)) ∙ ap ok (omega arith)

pub meant : (marks : List Mark) (tree : Tree) → Means marks tree → need tree ≤ 64 → Spell marks (tree ∷ [])
meant marks tree m few = record { spelled = append-nil (post tree) ∙ m.spelled; fitting = (m.fitting, tt); within = omega (arith, some_need tree) }

-- ---- one opcode behind trees makes trees again

posts-append : (xs ys : List Tree) → posts (xs ++ ys) ≡ posts xs ++ posts ys
posts-append [] ys = refl
posts-append (x ∷ xs) ys = ap (λ (l : List Mark). post x ++ l) (posts-append xs ys) ∙ sym (append_assoc (post x) (posts xs) (posts ys))

join_fitting : (xs ys : List Tree) → AreFitting xs → AreFitting ys → AreFitting (xs ++ ys)
join_fitting [] ys u v = v
join_fitting (x ∷ xs) ys u v = (u.0, join_fitting xs ys u.1 v)

front_fitting : (xs ys : List Tree) → AreFitting (xs ++ ys) → AreFitting xs
front_fitting [] ys u = tt
front_fitting (x ∷ xs) ys u = (u.0, front_fitting xs ys u.1)

back_fitting : (xs ys : List Tree) → AreFitting (xs ++ ys) → AreFitting ys
back_fitting [] ys u = u
back_fitting (x ∷ xs) ys u = back_fitting xs ys u.1

pub few_trees : (trees : List Tree) → length trees ≤ needs trees
few_trees [] = omega arith
few_trees (tree ∷ trees) = omega (arith, few_trees trees)

needs_leaf : (op : Mark) (trees : List Tree) → needs trees ≤ 64 → length trees + 1 ≤ 64 → needs (trees ++ leaf op ∷ []) ≤ 64
needs_leaf op trees h k = go trees 64 h k
  where
    go : (ts : List Tree) (n : ℕ) → needs ts ≤ n → length ts + 1 ≤ n → needs (ts ++ leaf op ∷ []) ≤ n
    go [] n h k = omega arith
    go (t ∷ ts) zero h k = absurd (omega arith)
    go (t ∷ ts) (suc n) h k = let later : needs (ts ++ leaf op ∷ []) ≤ n = go ts n (omega arith) (omega arith) in omega arith

needs_one : (op : Mark) (tree : Tree) (trees : List Tree) → needs (trees ++ one op tree ∷ []) ≡ needs (trees ++ tree ∷ [])
needs_one op tree [] = refl
needs_one op tree (t ∷ trees) = ap (λ (n : ℕ). max (need t) (n + 1)) (needs_one op tree trees)

needs_two : (op : Mark) (left right : Tree) (trees : List Tree) → needs (trees ++ two op left right ∷ []) ≤ needs (trees ++ left ∷ right ∷ [])
needs_two op left right [] = omega (arith, some_need right, some_need left)
needs_two op left right (t ∷ trees) = omega (arith, needs_two op left right trees)

pub with_leaf : (before : List Mark) (trees : List Tree) (op : Mark) → Spell before trees → takes op ≡ Some 0 → length trees + 1 ≤ 64 → Spell (before ++ op ∷ []) (trees ++ leaf op ∷ [])
with_leaf before trees op s t few = record {
  spelled = posts-append trees (leaf op ∷ []) ∙ ap (λ (l : List Mark). l ++ op ∷ []) s.spelled;
  fitting = join_fitting trees (leaf op ∷ []) s.fitting (t, tt);
  within = needs_leaf op trees s.within few;
}

pub with_one : (before : List Mark) (trees : List Tree) (tree : Tree) (op : Mark) → Spell before (trees ++ tree ∷ []) → takes op ≡ Some 1 → Spell (before ++ op ∷ []) (trees ++ one op tree ∷ [])
with_one before trees tree op s t =
    let old : posts trees ++ (post tree ++ []) ≡ before = sym (posts-append trees (tree ∷ [])) ∙ s.spelled in
    record {
      spelled = posts-append trees (one op tree ∷ []) ∙ same (posts trees) (post tree) (op ∷ []) ∙ ap (λ (l : List Mark). l ++ op ∷ []) old;
      fitting = join_fitting trees (one op tree ∷ []) (front_fitting trees (tree ∷ []) s.fitting) ((t, (back_fitting trees (tree ∷ []) s.fitting).0), tt);
      within = rw (needs_one op tree trees) s.within;
    }
  where
    same : (a b c : List Mark) → a ++ ((b ++ c) ++ []) ≡ (a ++ (b ++ [])) ++ c
    same a b c = simp (append-nil, append_assoc)

pub with_two : (before : List Mark) (trees : List Tree) (left right : Tree) (op : Mark) → Spell before (trees ++ left ∷ right ∷ []) → takes op ≡ Some 2 → Spell (before ++ op ∷ []) (trees ++ two op left right ∷ [])
with_two before trees left right op s t =
    let old : posts trees ++ (post left ++ (post right ++ [])) ≡ before = sym (posts-append trees (left ∷ right ∷ [])) ∙ s.spelled in
    let last = back_fitting trees (left ∷ right ∷ []) s.fitting in
    record {
      spelled = posts-append trees (two op left right ∷ []) ∙ same (posts trees) (post left) (post right) (op ∷ []) ∙ ap (λ (l : List Mark). l ++ op ∷ []) old;
      fitting = join_fitting trees (two op left right ∷ []) (front_fitting trees (left ∷ right ∷ []) s.fitting) ((t, (last.0, last.1.0)), tt);
      within = omega (arith, needs_two op left right trees, s.within);
    }
  where
    same : (a b c d : List Mark) → a ++ ((b ++ (c ++ d)) ++ []) ≡ (a ++ (b ++ (c ++ []))) ++ d
    same a b c d = simp (append-nil, append_assoc)

-- the last of some
pub last_off : {X : Type 0} (xs : List X) → 1 ≤ length xs → (front : List X) × (x : X) × (xs ≡ front ++ x ∷ [])
last_off [] h = absurd (omega arith)
last_off (x ∷ []) h = ([], x, refl)
last_off (x ∷ y ∷ xs) h = let rest = last_off (y ∷ xs) (omega arith) in (x ∷ rest.0, rest.1, ap (λ (l : List _). x ∷ l) rest.2)
