-- Counting scopes tells whether opcodes are those of a forest.
use Rattle.std.proofs.Common.{◌≡◌, ◌≢◌, ℕ, zero, suc, ◌+◌, ◌<◌, ◌≤◌, max, Bool, true, false, cond, ltb, nat_lt, if◌then◌else◌, Option, Some, None, List, [], ◌∷◌, ◌++◌, length, drop, refl, sym, ap, subst, ◌∙◌, arith, inl, inr}
use Rattle.std.specs.List.{AllByRecursion}
use Rattle.std.specs.Option.{option_and_then}
use Rattle.std.proofs.lemmas.Bool.{ne_eqb, lt-ltb, ltb-true, cases_Bool, cases_eq, true≢false}
use Rattle.ifr_opcodes.specs.declared.codes.TheConstants.{END}
use Rattle.ifr_opcodes.specs.Opcode.{number, has_scope, end, is_end, IsWhole}
use Rattle.ifr_opcodes.specs.Forest.{Forest, none, node, opcodes, height, AreNodes}
use Rattle.ifr_opcodes.specs.Reading.{first_forest, levels}
use Rattle.ifr_opcodes.proofs.OpcodeLemmas.{AllWhole}
use Rattle.ifr_opcodes.proofs.ForestLemmas.{opcodes_scoped, opcodes_plain, levels_end, levels_plain, levels_scoped}

-- how many scopes are open after an opcode and after several, unless one ends or opens that may not
abbrev pub closed : ℕ → Option ℕ
closed zero = None
closed (suc d) = Some d

abbrev pub opened : ℕ → Option ℕ
opened d = if nat_lt d 64 then Some (suc d) else None

abbrev pub step : ℕ → List ℕ → Option ℕ
step d op = if is_end op then closed d else (if has_scope op then opened d else Some d)

unfoldable pub after : ℕ → List (List ℕ) → Option ℕ
after d [] = Some d
after d (op ∷ ops) = option_and_then (λ e. after e ops) (step d op)

abbrev pub sure : ℕ → Option ℕ
sure d = Some d

pub sure_is : (d e : ℕ) → sure d ≡ sure e → d ≡ e
sure_is d e h = cc

pub after_end : (d : ℕ) (ops : List (List ℕ)) → after (suc d) (end ∷ ops) ≡ after d ops
unfolding after
after_end d ops = refl

pub after_plain : (d : ℕ) (op : List ℕ) (ops : List (List ℕ)) → number op ≢ END → has_scope op ≡ false → after d (op ∷ ops) ≡ after d ops
unfolding after
after_plain d op ops n e = rw (ne_eqb (number op) END n, e) refl

pub after_scoped : (d : ℕ) (op : List ℕ) (ops : List (List ℕ)) → number op ≢ END → has_scope op ≡ true → d < 64 → after d (op ∷ ops) ≡ after (suc d) ops
unfolding after
after_scoped d op ops n e lt = rw (ne_eqb (number op) END n, e, lt-ltb d 64 lt) refl

-- a forest leaves as many scopes open as there were
pub after-opcodes : (f : Forest) (d : ℕ) (more : List (List ℕ)) → AreNodes f → height f + d ≤ 64 → after d (opcodes f ++ more) ≡ after d more
after-opcodes none d more h le = refl
after-opcodes (node op children rest) d more h le =
    elim (cases_Bool (has_scope op)) [
      | inl e ↦
          let le' : max (height children + 1) (height rest) + d ≤ 64 = subst (λ (b : Bool). max (cond b (height children + 1) 0) (height rest) + d ≤ 64) e le in
          let lt : d < 64 = omega arith in
          let inside : height children + suc d ≤ 64 = omega arith in
          let beside : height rest + d ≤ 64 = omega arith in
          ap (after d) (opcodes_scoped op children rest more e)
          ∙ after_scoped d op (opcodes children ++ (end ∷ (opcodes rest ++ more))) h.0.no_end e lt
          ∙ after-opcodes children (suc d) (end ∷ (opcodes rest ++ more)) h.1.0 inside
          ∙ after_end d (opcodes rest ++ more)
          ∙ after-opcodes rest d more h.1.1 beside
      | inr e ↦
          let beside : height rest + d ≤ 64 = omega arith in
          ap (after d) (opcodes_plain op children rest more e)
          ∙ after_plain d op (opcodes rest ++ more) h.0.no_end e
          ∙ after-opcodes rest d more h.1.1 beside
    ]

-- the forests of several levels: their opcodes, each behind an END, and how many scopes they open
abbrev pub outer : List Forest → List (List ℕ)
outer [] = []
outer (f ∷ fs) = end ∷ (opcodes f ++ outer fs)

abbrev pub OuterWithin : ℕ → List Forest → Type 0
OuterWithin d [] = Unit {0}
OuterWithin zero (f ∷ fs) = ⊥
OuterWithin (suc d) (f ∷ fs) = (height f + d ≤ 64) × OuterWithin d fs

-- the opcodes, inside of d scopes, are those of f and then those of fs
pub record IsLevels (d : ℕ) (ops : List (List ℕ)) (f : Forest) (fs : List Forest) : Type 0 where
  pub count : length fs ≡ d
  pub joined : opcodes f ++ outer fs ≡ ops
  pub inner_nodes : AreNodes f
  pub outer_nodes : AllByRecursion AreNodes fs
  pub inner_within : height f + d ≤ 64
  pub outer_within : OuterWithin d fs

abbrev pub AreLevels : ℕ → List (List ℕ) → Forest × List Forest → Type 0
AreLevels d ops p = IsLevels d ops p.0 p.1

nothing_after : (d : ℕ) → after d [] ≡ Some 0 → sure d ≡ sure 0
unfolding after
nothing_after d e = e

levels_none : (d : ℕ) → sure d ≡ sure 0 → d ≤ 64 → AreLevels d [] (levels [])
unfolding levels
levels_none d e le = record { count = sym (sure_is d 0 e); joined = refl; inner_nodes = tt; outer_nodes = tt; inner_within = omega arith; outer_within = tt }

pub at_end : (d : ℕ) (ops : List (List ℕ)) → after d (end ∷ ops) ≡ Some 0 → (k : ℕ) × (d ≡ suc k) × (after k ops ≡ Some 0)
unfolding after
at_end zero ops e = absurd cc
at_end (suc d) ops e = (d, refl, e)

pub at_scope : (d : ℕ) (op : List ℕ) (ops : List (List ℕ)) → number op ≢ END → has_scope op ≡ true → after d (op ∷ ops) ≡ Some 0 → (d < 64) × (after (suc d) ops ≡ Some 0)
unfolding after
at_scope d op ops n s e =
    let given : option_and_then (λ k. after k ops) (opened d) ≡ Some 0 = rw (ne_eqb (number op) END n, s) at e in
    go (ltb d 64) refl given
  where
    go : (b : Bool) → ltb d 64 ≡ b → option_and_then (λ k. after k ops) (cond b (Some (suc d)) None) ≡ Some 0 → (d < 64) × (after (suc d) ops ≡ Some 0)
    go true b h = (ltb-true d 64 b, h)
    go false b h = absurd cc

nested : (d : ℕ) (op : List ℕ) (ops : List (List ℕ)) (f : Forest) (fs : List Forest) → IsWhole op → number op ≢ END → has_scope op ≡ true
    → IsLevels (suc d) ops f fs → IsLevels d (op ∷ ops) (node op f (first_forest fs)) (drop 1 fs)
nested d op ops f [] w n s h = let bad : 0 ≡ suc d = h.count in absurd (omega arith)
nested d op ops f (g ∷ fs) w n s h =
    let high : max (height f + 1) (height g) + d ≤ 64 = omega (arith, h.inner_within, h.outer_within.0) in
    record {
      count = omega (arith, h.count);
      joined = opcodes_scoped op f g (outer fs) s ∙ ap (λ (l : List (List ℕ)). op ∷ l) h.joined;
      inner_nodes = (record { whole = w; no_end = n; leaf = λ e. absurd (true≢false (sym s ∙ e)) }, (h.inner_nodes, h.outer_nodes.0));
      outer_nodes = h.outer_nodes.1;
      inner_within = subst (λ (b : Bool). max (cond b (height f + 1) 0) (height g) + d ≤ 64) (sym s) high;
      outer_within = h.outer_within.1;
    }

plain : (d : ℕ) (op : List ℕ) (ops : List (List ℕ)) (f : Forest) (fs : List Forest) → IsWhole op → number op ≢ END → has_scope op ≡ false
    → IsLevels d ops f fs → IsLevels d (op ∷ ops) (node op none f) fs
plain d op ops f fs w n s h =
    let high : max 0 (height f) + d ≤ 64 = omega (arith, h.inner_within) in
    record {
      count = h.count;
      joined = opcodes_plain op none f (outer fs) s ∙ ap (λ (l : List (List ℕ)). op ∷ l) h.joined;
      inner_nodes = (record { whole = w; no_end = n; leaf = λ e. refl }, (tt, h.inner_nodes));
      outer_nodes = h.outer_nodes;
      inner_within = subst (λ (b : Bool). max (cond b (height none + 1) 0) (height f) + d ≤ 64) (sym s) high;
      outer_within = h.outer_within;
    }

ended : (k : ℕ) (ops : List (List ℕ)) (f : Forest) (fs : List Forest) → suc k ≤ 64 → IsLevels k ops f fs → IsLevels (suc k) (end ∷ ops) none (f ∷ fs)
ended k ops f fs le h = record {
  count = ap suc h.count;
  joined = ap (λ (l : List (List ℕ)). end ∷ l) h.joined;
  inner_nodes = tt;
  outer_nodes = (h.inner_nodes, h.outer_nodes);
  inner_within = omega arith;
  outer_within = (h.inner_within, h.outer_within);
}

-- opcodes that close all scopes are those of a forest at each level
pub are_levels : (ops : List (List ℕ)) (d : ℕ) → AllWhole ops → after d ops ≡ Some 0 → d ≤ 64 → AreLevels d ops (levels ops)
are_levels [] d w e le = levels_none d (nothing_after d e) le
are_levels (op ∷ ops) d w e le =
    elim (cases_eq (number op) END) [
      | inl n ↦
          let is : op ≡ end = w.0.ends n in
          let p = at_end d ops (ap (λ (o : List ℕ). after d (o ∷ ops)) (sym is) ∙ e) in
          let down : p.0 ≤ 64 = omega (arith, p.1) in
          let up : suc p.0 ≤ 64 = omega (arith, p.1) in
          let h = ended p.0 ops (levels ops).0 (levels ops).1 up (are_levels ops p.0 w.1 p.2 down) in
          rw (is, levels_end ops, p.1) h
      | inr n ↦
          elim (cases_Bool (has_scope op)) [
            | inl s ↦
                let p = at_scope d op ops n s e in
                rw (levels_scoped op ops n s) (nested d op ops (levels ops).0 (levels ops).1 w.0 n s (are_levels ops (suc d) w.1 p.1 (omega (arith, p.0))))
            | inr s ↦
                rw (levels_plain op ops n s) (plain d op ops (levels ops).0 (levels ops).1 w.0 n s (are_levels ops d w.1 (sym (after_plain d op ops n s) ∙ e) le))
          ]
    ]
