-- The longest run of opcodes, and why it stops.
use Rattle.std.proofs.Common.{◌≡◌, ℕ, zero, suc, ◌+◌, ◌-◌, ◌<◌, ◌≤◌, true, false, Option, Some, None, List, [], ◌∷◌, ◌++◌, length, take, drop, refl, sym, ap, subst, ◌∙◌, append_assoc, arith, inl, inr}
use Rattle.std.specs.List.{concat}
use Rattle.std.specs.Option.{option_and_then}
use Rattle.std.proofs.lemmas.List.{append-nil, nil_from_length, length-append, length-drop, take_rest, drop_at}
use Rattle.std.proofs.lemmas.Bool.{cases_lt, lt-ltb, ne_eqb, true≢false}
use Rattle.hii_bytes.specs.Cause.{number_of}
use Rattle.hii_bytes.specs.Faults.{IsLeast, HasNone}
use Rattle.hii_bytes.specs.declared.cause.Cause.{Cause}
use Rattle.hii_bytes.specs.declared.cause.Cause.TheVariants.{OpLength, EndExtra, ScopeOpen, TooDeep}
use Rattle.ifr_opcodes.specs.declared.codes.TheConstants.{END}
use Rattle.ifr_opcodes.specs.Opcode.{number, has_scope, end, IsWhole}
use Rattle.ifr_opcodes.specs.Forest.{Forest, opcodes, flat, height, AreNodes, SpellsForest}
use Rattle.ifr_opcodes.specs.Reading.{opcodes_in, levels, tree_of}
use Rattle.ifr_nodes.specs.Framing.{IsRun, BeginsWith, IsLongest, Stops, IsFramingFault}
use Rattle.ifr_opcodes.proofs.OpcodeLemmas.{AllWhole, AllWhole-append, AllWhole-front, concat-append, split_unique, longer_goes_on, one_cut, end_whole}
use Rattle.ifr_opcodes.proofs.ForestLemmas.{all_whole, opcodes_in_spelled}
use Rattle.ifr_nodes.proofs.CountLemmas.{step, after, sure, sure_is, after-opcodes, are_levels, outer}

none_some : (n : ℕ) → None ≡ sure n → ⊥
none_some n e = cc

pub after-append : (d : ℕ) (xs ys : List (List ℕ)) → after d (xs ++ ys) ≡ option_and_then (λ e. after e ys) (after d xs)
unfolding after
after-append d [] ys = refl
after-append d (op ∷ xs) ys = go (λ e. after-append e xs ys) (step d op)
  where
    go : ((e : ℕ) → after e (xs ++ ys) ≡ option_and_then (λ k. after k ys) (after e xs)) → (o : Option ℕ)
        → option_and_then (λ e. after e (xs ++ ys)) o ≡ option_and_then (λ e. after e ys) (option_and_then (λ e. after e xs) o)
    go h None = refl
    go h (Some e) = h e

-- one opcode more
pub after_push : (d e : ℕ) (ops : List (List ℕ)) (op : List ℕ) → after d ops ≡ Some e → after d (ops ++ op ∷ []) ≡ step e op
unfolding after
after_push d e ops op h = after-append d ops (op ∷ []) ∙ ap (option_and_then (λ e. after e (op ∷ []))) h ∙ go (step e op)
  where
    go : (o : Option ℕ) → option_and_then (λ e. Some e) o ≡ o
    go None = refl
    go (Some e) = refl

abbrev pub ends : ℕ → List (List ℕ)
ends zero = []
ends (suc n) = end ∷ ends n

after-ends : (n : ℕ) → after n (ends n) ≡ Some 0
unfolding after
after-ends zero = refl
after-ends (suc n) = after-ends n

ends_whole : (n : ℕ) → AllWhole (ends n)
ends_whole zero = tt
ends_whole (suc n) = (end_whole, ends_whole n)

-- opcodes that close all scopes are those of one forest
pub one_level : (ops : List (List ℕ)) → AllWhole ops → after 0 ops ≡ Some 0 → (opcodes (levels ops).0 ≡ ops) × AreNodes (levels ops).0 × (height (levels ops).0 ≤ 64)
one_level ops w e =
    let h = are_levels ops 0 w e (omega arith) in
    let none_left : (levels ops).1 ≡ [] = nil_from_length (levels ops).1 h.count in
    (sym (append-nil (opcodes (levels ops).0)) ∙ ap (λ fs. opcodes (levels ops).0 ++ outer fs) (sym none_left) ∙ h.joined, h.inner_nodes, omega (arith, h.inner_within))

pub is_run : (ops : List (List ℕ)) (d : ℕ) → AllWhole ops → after 0 ops ≡ Some d → IsRun ops
is_run ops d w e =
    let closed = ops ++ ends d in
    let h = one_level closed (AllWhole-append ops (ends d) w (ends_whole d)) (after-append 0 ops (ends d) ∙ ap (option_and_then (λ e. after e (ends d))) e ∙ after-ends d) in
    record { forest = (levels closed).0; more = ends d; goes_on = h.0; are_nodes = h.1; within = h.2 }

pub run_whole : (ops : List (List ℕ)) → IsRun ops → AllWhole ops
run_whole ops r = AllWhole-front ops r.more (subst AllWhole r.goes_on (all_whole r.forest r.are_nodes))

pub forest_closes : (f : Forest) → AreNodes f → height f ≤ 64 → after 0 (opcodes f) ≡ Some 0
unfolding after
forest_closes f n le = ap (after 0) (sym (append-nil (opcodes f))) ∙ after-opcodes f 0 [] n (omega arith)

run_closes : (ops : List (List ℕ)) (r : IsRun ops) → option_and_then (λ e. after e r.more) (after 0 ops) ≡ Some 0
run_closes ops r = sym (after-append 0 ops r.more) ∙ ap (after 0) (sym r.goes_on) ∙ forest_closes r.forest r.are_nodes r.within

-- where a walk stands: behind these opcodes, inside of depth scopes
pub record Stands (bytes : List ℕ) (rest : List ℕ) (depth : ℕ) : Type 0 where
  pub ops : List (List ℕ)
  pub whole : AllWhole ops
  pub level : after 0 ops ≡ Some depth
  pub spelled : drop 4 bytes ≡ concat ops ++ rest

-- no opcode may come next
pub record IsStopped (rest : List ℕ) (depth : ℕ) : Type 0 where
  pub refused : (op more : List ℕ) → IsWhole op → rest ≡ op ++ more → step depth op ≡ None
  pub unfinished : rest ≡ [] → 0 < depth

goes_on_to : (ops more : List (List ℕ)) (op : List ℕ) (d : ℕ) → after 0 ops ≡ Some d → step d op ≡ None → after 0 (ops ++ op ∷ more) ≡ None
unfolding after
goes_on_to ops more op d e n = after-append 0 ops (op ∷ more) ∙ ap (option_and_then (λ k. after k (op ∷ more))) e ∙ ap (option_and_then (λ k. after k more)) n

is_longest : (bytes rest : List ℕ) (depth : ℕ) (s : Stands bytes rest depth) → IsStopped rest depth → IsLongest bytes s.ops rest
is_longest bytes rest depth s stop = record { begins = record { run = is_run s.ops depth s.whole s.level; spelled = s.spelled }; longest = shorter }
  where
    shorter : (others : List (List ℕ)) (left : List ℕ) → BeginsWith bytes others left → length (concat others) ≤ length (concat s.ops)
    shorter others left b =
        elim (cases_lt (length (concat s.ops)) (length (concat others))) [
          | inl lt ↦
              let p = longer_goes_on s.ops others rest left s.whole (run_whole others b.run) (sym s.spelled ∙ b.spelled) lt in
              let none_after : after 0 others ≡ None = ap (after 0) p.2 ∙ goes_on_to s.ops p.1 p.0 depth s.level (stop.refused p.0 (concat p.1 ++ left) p.3 p.4) in
              let closes : option_and_then (λ e. after e b.run.more) (after 0 others) ≡ Some 0 = run_closes others b.run in
              absurd (none_some 0 (sym (ap (option_and_then (λ e. after e b.run.more)) none_after) ∙ closes))
          | inr le ↦ le
        ]

-- ---- one fault at most

same_rest : (bytes : List ℕ) (xs ys : List (List ℕ)) (r s : List ℕ) → IsLongest bytes xs r → IsLongest bytes ys s → (length (concat xs) ≡ length (concat ys)) × (r ≡ s)
same_rest bytes xs ys r s a b =
    let up = a.longest ys s b.begins in
    let down = b.longest xs r a.begins in
    let same : length (concat xs) ≡ length (concat ys) = omega arith in
    let whole : concat xs ++ r ≡ concat ys ++ s = sym a.begins.spelled ∙ b.begins.spelled in
    (same, sym (drop_at (concat xs) r (length (concat xs)) refl) ∙ ap (drop (length (concat xs))) whole ∙ drop_at (concat ys) s (length (concat xs)) (sym same))

some_front : (op more : List ℕ) → IsWhole op → [] ≡ op ++ more → ⊥
some_front op more w e = let none_left : 0 ≡ length (op ++ more) = ap length e in omega (arith, w.long, length-append op more)

no_scope : (op more rest : List ℕ) → IsWhole op → has_scope op ≡ true → end ++ rest ≡ op ++ more → ⊥
no_scope op more rest w s e =
    let is : end ≡ op = (split_unique end op rest more end_whole w e).0 in
    true≢false (sym s ∙ ap has_scope (sym is))

no_more : (bytes rest : List ℕ) (cause : Cause) → Stops bytes OpLength rest → Stops bytes cause rest → OpLength ≡ cause
no_more bytes rest OpLength h k = refl
no_more bytes rest EndExtra h k = absurd (h.1 end k.0 end_whole k.1)
no_more bytes rest ScopeOpen h k = absurd (h.0 k.0)
no_more bytes rest TooDeep h k = absurd (h.1 k.0 k.1 k.2 k.4)
no_more bytes rest _ h k = absurd k

an_end : (bytes rest : List ℕ) (cause : Cause) → Stops bytes EndExtra rest → Stops bytes cause rest → EndExtra ≡ cause
an_end bytes rest OpLength h k = absurd (k.1 end h.0 end_whole h.1)
an_end bytes rest EndExtra h k = refl
an_end bytes rest ScopeOpen h k = absurd (some_front end h.0 end_whole (sym k.0 ∙ h.1))
an_end bytes rest TooDeep h k = absurd (no_scope k.0 k.1 h.0 k.2 k.3 (sym h.1 ∙ k.4))
an_end bytes rest _ h k = absurd k

a_scope : (bytes rest : List ℕ) (cause : Cause) → Stops bytes TooDeep rest → Stops bytes cause rest → TooDeep ≡ cause
a_scope bytes rest OpLength h k = absurd (k.1 h.0 h.1 h.2 h.4)
a_scope bytes rest EndExtra h k = absurd (no_scope h.0 h.1 k.0 h.2 h.3 (sym k.1 ∙ h.4))
a_scope bytes rest ScopeOpen h k = absurd (some_front h.0 h.1 h.2 (sym k.0 ∙ h.4))
a_scope bytes rest TooDeep h k = refl
a_scope bytes rest _ h k = absurd k

-- where nothing is left no other cause stops a run
nothing_left : (bytes rest : List ℕ) (cause : Cause) → rest ≡ [] → Stops bytes cause rest → (cause ≡ ScopeOpen) × ((f : Forest) → SpellsForest bytes f → ⊥)
nothing_left bytes rest OpLength e k = absurd (k.0 e)
nothing_left bytes rest EndExtra e k = absurd (some_front end k.0 end_whole (sym e ∙ k.1))
nothing_left bytes rest ScopeOpen e k = (refl, k.1)
nothing_left bytes rest TooDeep e k = absurd (some_front k.0 k.1 k.2 (sym e ∙ k.4))
nothing_left bytes rest _ e k = absurd k

one_cause : (bytes rest : List ℕ) (a b : Cause) → Stops bytes a rest → Stops bytes b rest → a ≡ b
one_cause bytes rest OpLength b h k = no_more bytes rest b h k
one_cause bytes rest EndExtra b h k = an_end bytes rest b h k
one_cause bytes rest ScopeOpen b h k = sym (nothing_left bytes rest b h.0 k).0
one_cause bytes rest TooDeep b h k = a_scope bytes rest b h k
one_cause bytes rest _ b h k = absurd h

-- A package has one fault at most.
pub one_fault : (bytes : List ℕ) (a b : Cause) (p q : ℕ) → IsFramingFault bytes a p → IsFramingFault bytes b q → (p ≡ q) × (a ≡ b)
one_fault bytes a b p q f g =
    let same = same_rest bytes f.ops g.ops f.rest g.rest f.longest g.longest in
    (omega (arith, same.0, f.ends_there, g.ends_there), one_cause bytes g.rest a b (subst (Stops bytes a) same.1 f.stops) g.stops)

pub is_least : (bytes : List ℕ) (cause : Cause) (place : ℕ) → IsFramingFault bytes cause place → IsLeast (IsFramingFault bytes) (record { cause = cause; place = place })
is_least bytes cause place f = record {
  told = f;
  least = λ c p g. let same = one_fault bytes cause c place p f g in inr (same.0, let n : number_of cause ≡ number_of c = ap number_of same.1 in omega arith);
}

forest_run : (bytes : List ℕ) (f : Forest) → SpellsForest bytes f → BeginsWith bytes (opcodes f) []
forest_run bytes f s = record {
  run = record { forest = f; more = []; goes_on = sym (append-nil (opcodes f)); are_nodes = s.are_nodes; within = s.within };
  spelled = s.spelled ∙ sym (append-nil (flat f));
}

-- the longest run is all of a package that spells a forest
all_run : (bytes : List ℕ) (f : Forest) (ops : List (List ℕ)) (rest : List ℕ) → SpellsForest bytes f → IsLongest bytes ops rest → (rest ≡ []) × (concat ops ≡ flat f)
all_run bytes f ops rest s l =
    let le = l.longest (opcodes f) [] (forest_run bytes f s) in
    let same : concat ops ++ rest ≡ flat f = sym l.begins.spelled ∙ s.spelled in
    let nothing : rest ≡ [] = nil_from_length rest (omega (arith, le, length-append (concat ops) rest, ap length same)) in
    (nothing, sym (append-nil (concat ops)) ∙ ap (λ (x : List ℕ). concat ops ++ x) (sym nothing) ∙ same)

-- A package that spells a forest has none.
pub none_where_spelled : (bytes : List ℕ) (f : Forest) → SpellsForest bytes f → HasNone (IsFramingFault bytes)
none_where_spelled bytes f s cause place g =
    (nothing_left bytes g.rest cause (all_run bytes f g.ops g.rest s g.longest).0 g.stops).1 f s

-- nothing is left, and no scope is open
pub is_spelled : (bytes rest : List ℕ) (depth : ℕ) → Stands bytes rest depth → rest ≡ [] → depth ≡ 0 → SpellsForest bytes (tree_of bytes)
unfolding tree_of
is_spelled bytes rest depth s nothing closed =
    let all : drop 4 bytes ≡ concat s.ops = s.spelled ∙ ap (λ (l : List ℕ). concat s.ops ++ l) nothing ∙ append-nil (concat s.ops) in
    let h = one_level s.ops s.whole (s.level ∙ ap sure closed) in
    let cut_so : opcodes_in (drop 4 bytes) ≡ s.ops = opcodes_in_spelled (drop 4 bytes) s.ops s.whole all in
    let made : SpellsForest bytes (levels s.ops).0 = record { spelled = all ∙ ap concat (sym h.0); are_nodes = h.1; within = h.2 } in
    subst (λ (ops : List (List ℕ)). SpellsForest bytes (levels ops).0) (sym cut_so) made

-- one opcode further
pub further : (bytes rest more op : List ℕ) (depth next : ℕ) → Stands bytes rest depth → IsWhole op → rest ≡ op ++ more → step depth op ≡ Some next → Stands bytes more next
further bytes rest more op depth next s w e up = record {
  ops = s.ops ++ op ∷ [];
  whole = AllWhole-append s.ops (op ∷ []) s.whole (w, tt);
  level = after_push 0 depth s.ops op s.level ∙ up;
  spelled = s.spelled ∙ ap (λ (l : List ℕ). concat s.ops ++ l) e ∙ sym (append_assoc (concat s.ops) op more) ∙ ap (λ (l : List ℕ). l ++ more) (sym (concat-append s.ops (op ∷ []) ∙ ap (λ (l : List ℕ). concat s.ops ++ l) (append-nil op)));
}

pub from_start : (bytes : List ℕ) → Stands bytes (drop 4 bytes) 0
unfolding after
from_start bytes = record { ops = []; whole = tt; level = refl; spelled = refl }

-- ---- the goals of a walk over the opcodes

pub at_start : (bytes : List ℕ) → Stands bytes (take (length bytes - 4) (drop 4 bytes)) 0
at_start bytes = rw (take_rest bytes 4) (from_start bytes)

least_here : (bytes rest : List ℕ) (depth place : ℕ) (cause : Cause) → Stands bytes rest depth → length rest + 4 ≤ length bytes → place ≡ length bytes - length rest → IsStopped rest depth → Stops bytes cause rest
    → IsLeast (IsFramingFault bytes) (record { cause = cause; place = place })
least_here bytes rest depth place cause s le at stop why =
    let ends : place ≡ 4 + length (concat s.ops) = omega (arith, ap length s.spelled, length-drop 4 bytes, length-append (concat s.ops) rest) in
    is_least bytes cause place (record { ops = s.ops; rest = rest; longest = is_longest bytes rest depth s stop; ends_there = ends; stops = why })

stopped_by : (rest op more : List ℕ) (depth : ℕ) → IsWhole op → rest ≡ op ++ more → step depth op ≡ None → IsStopped rest depth
stopped_by rest op more depth w e refused = record {
  refused = λ op' more' w' e'. ap (step depth) (split_unique op' op more' more w' w (sym e' ∙ e)).0 ∙ refused;
  unfinished = λ nothing. absurd (omega (arith, w.long, ap length e, ap length nothing, length-append op more));
}

pub no_opcode : (bytes rest : List ℕ) (depth place : ℕ) → Stands bytes rest depth → length rest + 4 ≤ length bytes → place ≡ length bytes - length rest → (rest ≡ [] → ⊥) → ((op more : List ℕ) → IsWhole op → rest ≡ op ++ more → ⊥)
    → IsLeast (IsFramingFault bytes) (record { cause = OpLength; place = place })
no_opcode bytes rest depth place s le at some missing =
    least_here bytes rest depth place OpLength s le at (record { refused = λ op more w e. absurd (missing op more w e); unfinished = λ e. absurd (some e) }) (some, missing)

pub extra_end : (bytes rest op more : List ℕ) (place : ℕ) → Stands bytes rest 0 → length rest + 4 ≤ length bytes → place ≡ length bytes - length rest → IsWhole op → rest ≡ op ++ more → number op ≡ END
    → IsLeast (IsFramingFault bytes) (record { cause = EndExtra; place = place })
extra_end bytes rest op more place s le at w e n =
    let is : op ≡ end = w.ends n in
    least_here bytes rest 0 place EndExtra s le at (stopped_by rest op more 0 w e (ap (step 0) is)) (more, e ∙ ap (λ (o : List ℕ). o ++ more) is)

pub too_deep : (bytes rest op more : List ℕ) (place : ℕ) → Stands bytes rest 64 → length rest + 4 ≤ length bytes → place ≡ length bytes - length rest → IsWhole op → rest ≡ op ++ more → (number op ≡ END → ⊥) → has_scope op ≡ true
    → IsLeast (IsFramingFault bytes) (record { cause = TooDeep; place = place })
too_deep bytes rest op more place s le at w e n scoped =
    least_here bytes rest 64 place TooDeep s le at (stopped_by rest op more 64 w e (rw (ne_eqb (number op) END n, scoped) refl)) (op, more, w, scoped, e)

pub still_open : (bytes rest : List ℕ) (depth : ℕ) → Stands bytes rest depth → length rest + 4 ≤ length bytes → rest ≡ [] → (depth ≡ 0 → ⊥)
    → IsLeast (IsFramingFault bytes) (record { cause = ScopeOpen; place = length bytes })
still_open bytes rest depth s le nothing deep =
    let stop : IsStopped rest depth = record {
      refused = λ op more w e. absurd (some_front op more w (sym nothing ∙ e));
      unfinished = λ _. omega arith;
    } in
    least_here bytes rest depth (length bytes) ScopeOpen s le (omega (arith, ap length nothing)) stop (nothing, unspelled stop)
  where
    unspelled : IsStopped rest depth → (f : Forest) → SpellsForest bytes f → ⊥
    unspelled stop f sp =
        let all = all_run bytes f s.ops rest sp (is_longest bytes rest depth s stop) in
        let same : s.ops ≡ opcodes f = one_cut s.ops (opcodes f) s.whole (all_whole f sp.are_nodes) all.1 in
        deep (sure_is depth 0 (sym s.level ∙ ap (after 0) same ∙ forest_closes f sp.are_nodes sp.within))

step_end : (depth : ℕ) → (depth ≡ 0 → ⊥) → step depth end ≡ Some (depth - 1)
step_end zero h = absurd (h refl)
step_end (suc d) h = let e : suc d - 1 ≡ d = omega arith in rw e refl

pub past_end : (bytes rest op more : List ℕ) (depth : ℕ) → Stands bytes rest depth → (depth ≡ 0 → ⊥) → IsWhole op → rest ≡ op ++ more → number op ≡ END → Stands bytes more (depth - 1)
past_end bytes rest op more depth s some w e n = further bytes rest more op depth (depth - 1) s w e (ap (step depth) (w.ends n) ∙ step_end depth some)

pub past_scope : (bytes rest op more : List ℕ) (depth : ℕ) → Stands bytes rest depth → depth < 64 → IsWhole op → rest ≡ op ++ more → (number op ≡ END → ⊥) → has_scope op ≡ true → Stands bytes more (depth + 1)
past_scope bytes rest op more depth s lt w e n scoped =
    let next : suc depth ≡ depth + 1 = omega arith in
    further bytes rest more op depth (depth + 1) s w e (rw (ne_eqb (number op) END n, scoped, lt-ltb depth 64 lt, next) refl)

pub past_plain : (bytes rest op more : List ℕ) (depth : ℕ) → Stands bytes rest depth → IsWhole op → rest ≡ op ++ more → (number op ≡ END → ⊥) → has_scope op ≡ false → Stands bytes more depth
past_plain bytes rest op more depth s w e n bare = further bytes rest more op depth depth s w e (rw (ne_eqb (number op) END n, bare) refl)
