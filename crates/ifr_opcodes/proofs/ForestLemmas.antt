-- The opcodes of a forest, and the forest made of them again.
use Rattle.std.proofs.Common.{◌≡◌, ◌≢◌, ℕ, ◌+◌, ◌≤◌, true, false, cond, Bool, List, [], ◌∷◌, ◌++◌, length, drop, refl, sym, ap, ◌∙◌, append_assoc, arith, inl, inr}
use Rattle.std.specs.List.{concat}
use Rattle.std.proofs.lemmas.List.{append-nil, length-append}
use Rattle.std.proofs.lemmas.Bool.{ne_eqb, cases_Bool}
use Rattle.ifr_opcodes.specs.declared.codes.TheConstants.{END}
use Rattle.ifr_opcodes.specs.Opcode.{number, has_scope, end}
use Rattle.ifr_opcodes.specs.Forest.{Forest, none, node, opcodes, flat, AreNodes, SpellsForest}
use Rattle.ifr_opcodes.specs.Reading.{opcodes_in, first_forest, levels, tree_of}
use Rattle.ifr_opcodes.proofs.OpcodeLemmas.{AllWhole, AllWhole-append, concat-append, cut-concat, end_whole}

-- ---- the opcodes of a node

pub opcodes_scoped : (op : List ℕ) (children rest : Forest) (more : List (List ℕ)) → has_scope op ≡ true
    → opcodes (node op children rest) ++ more ≡ op ∷ (opcodes children ++ (end ∷ (opcodes rest ++ more)))
opcodes_scoped op children rest more e =
    rw e (ap (λ (l : List (List ℕ)). op ∷ l) (append_assoc (opcodes children ++ end ∷ []) (opcodes rest) more ∙ append_assoc (opcodes children) (end ∷ []) (opcodes rest ++ more)))

pub opcodes_plain : (op : List ℕ) (children rest : Forest) (more : List (List ℕ)) → has_scope op ≡ false
    → opcodes (node op children rest) ++ more ≡ op ∷ (opcodes rest ++ more)
opcodes_plain op children rest more e = rw e refl

inner_whole : (b : Bool) (inner others : List (List ℕ)) → AllWhole inner → AllWhole others → AllWhole (cond b (inner ++ end ∷ []) [] ++ others)
inner_whole true inner others u v = AllWhole-append (inner ++ end ∷ []) others (AllWhole-append inner (end ∷ []) u (end_whole, tt)) v
inner_whole false inner others u v = v

pub all_whole : (f : Forest) → AreNodes f → AllWhole (opcodes f)
all_whole none h = tt
all_whole (node op children rest) h = (h.0.whole, inner_whole (has_scope op) (opcodes children) (opcodes rest) (all_whole children h.1.0) (all_whole rest h.1.1))

-- how many bytes a node takes, and with the nodes behind it
pub size_scoped : (op : List ℕ) (children rest : Forest) → has_scope op ≡ true → length (flat (node op children rest)) ≡ length op + length (flat children) + 2 + length (flat rest)
size_scoped op children rest s =
    let all : opcodes (node op children rest) ≡ op ∷ (opcodes children ++ (end ∷ opcodes rest)) = sym (append-nil (opcodes (node op children rest))) ∙ opcodes_scoped op children rest [] s ∙ ap (λ (l : List (List ℕ)). op ∷ (opcodes children ++ (end ∷ l))) (append-nil (opcodes rest)) in
    let bytes : flat (node op children rest) ≡ op ++ (flat children ++ (end ++ flat rest)) = ap concat all ∙ ap (λ (l : List ℕ). op ++ l) (concat-append (opcodes children) (end ∷ opcodes rest)) in
    omega (arith, ap length bytes, length-append op (flat children ++ (end ++ flat rest)), length-append (flat children) (end ++ flat rest))

pub size_plain : (op : List ℕ) (children rest : Forest) → has_scope op ≡ false → length (flat (node op children rest)) ≡ length op + length (flat rest)
size_plain op children rest s = rw s (length-append op (flat rest))

-- what a node takes is what its opcode and its children take at least
pub takes : (op : List ℕ) (children rest : Forest) → AreNodes (node op children rest)
    → (length op + length (flat children) ≤ length (flat (node op children none))) × (length (flat (node op children rest)) ≡ length (flat (node op children none)) + length (flat rest))
takes op children rest h =
    elim (cases_Bool (has_scope op)) [
      | inl s ↦ (omega (arith, size_scoped op children none s), omega (arith, size_scoped op children none s, size_scoped op children rest s))
      | inr s ↦
          let bare : length (flat children) ≡ 0 = ap (λ (f : Forest). length (flat f)) (h.0.leaf s) in
          (omega (arith, size_plain op children none s, bare), omega (arith, size_plain op children none s, size_plain op children rest s))
    ]

-- ---- a forest is made again

abbrev pub graft : Forest → Forest → Forest
graft none g = g
graft (node op children rest) g = node op children (graft rest g)

pub graft-none : (f : Forest) → graft f none ≡ f
graft-none none = refl
graft-none (node op children rest) = ap (λ (r : Forest). node op children r) (graft-none rest)

pub levels_end : (ops : List (List ℕ)) → levels (end ∷ ops) ≡ (none, (levels ops).0 ∷ (levels ops).1)
unfolding levels
levels_end ops = refl

pub levels_plain : (op : List ℕ) (ops : List (List ℕ)) → number op ≢ END → has_scope op ≡ false → levels (op ∷ ops) ≡ (node op none (levels ops).0, (levels ops).1)
unfolding levels
levels_plain op ops n e = rw (ne_eqb (number op) END n, e) refl

pub levels_scoped : (op : List ℕ) (ops : List (List ℕ)) → number op ≢ END → has_scope op ≡ true
    → levels (op ∷ ops) ≡ (node op (levels ops).0 (first_forest (levels ops).1), drop 1 (levels ops).1)
unfolding levels
levels_scoped op ops n e = rw (ne_eqb (number op) END n, e) refl

pub levels-opcodes : (f : Forest) (more : List (List ℕ)) → AreNodes f → levels (opcodes f ++ more) ≡ (graft f (levels more).0, (levels more).1)
levels-opcodes none more h = refl
levels-opcodes (node op children rest) more h =
    elim (cases_Bool (has_scope op)) [
      | inl e ↦
          let inner : levels (opcodes children ++ (end ∷ (opcodes rest ++ more))) ≡ (children, graft rest (levels more).0 ∷ (levels more).1) =
          levels-opcodes children (end ∷ (opcodes rest ++ more)) h.1.0
          ∙ ap (λ (p : Forest × List Forest). (graft children p.0, p.1)) (levels_end (opcodes rest ++ more))
          ∙ ap (λ (p : Forest × List Forest). (graft children none, p.0 ∷ p.1)) (levels-opcodes rest more h.1.1)
          ∙ ap (λ (c : Forest). (c, graft rest (levels more).0 ∷ (levels more).1)) (graft-none children) in
          ap levels (opcodes_scoped op children rest more e)
          ∙ levels_scoped op (opcodes children ++ (end ∷ (opcodes rest ++ more))) h.0.no_end e
          ∙ ap (λ (p : Forest × List Forest). (node op p.0 (first_forest p.1), drop 1 p.1)) inner
      | inr e ↦
          ap levels (opcodes_plain op children rest more e)
          ∙ levels_plain op (opcodes rest ++ more) h.0.no_end e
          ∙ ap (λ (p : Forest × List Forest). (node op none p.0, p.1)) (levels-opcodes rest more h.1.1)
          ∙ ap (λ (c : Forest). (node op c (graft rest (levels more).0), (levels more).1)) (sym (h.0.leaf e))
    ]

-- what stands inside of a scope
pub children_again : (f : Forest) (more : List (List ℕ)) → AreNodes f → (levels (opcodes f ++ (end ∷ more))).0 ≡ f
children_again f more h = ap (λ (p : Forest × List Forest). p.0) (levels-opcodes f (end ∷ more) h) ∙ ap (λ (p : Forest × List Forest). graft f p.0) (levels_end more) ∙ graft-none f

pub opcodes_in_spelled : (bytes : List ℕ) (ops : List (List ℕ)) → AllWhole ops → bytes ≡ concat ops → opcodes_in bytes ≡ ops
opcodes_in_spelled bytes ops w e = ap opcodes_in e ∙ cut-concat (length (concat ops)) ops w (omega arith)

-- A package spells one forest at most.
pub is_tree_of : (bytes : List ℕ) (f : Forest) → SpellsForest bytes f → tree_of bytes ≡ f
unfolding tree_of levels
is_tree_of bytes f s =
    ap (λ (ops : List (List ℕ)). (levels ops).0) (opcodes_in_spelled (drop 4 bytes) (opcodes f) (all_whole f s.are_nodes) s.spelled ∙ sym (append-nil (opcodes f)))
    ∙ ap (λ (p : Forest × List Forest). p.0) (levels-opcodes f [] s.are_nodes)
    ∙ graft-none f
