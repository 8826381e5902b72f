-- Ids and conditions that are added.
use Rattle.std.proofs.Common.{◌≡◌, ℕ, suc, ◌+◌, ◌-◌, ◌<◌, ◌≤◌, List, [], ◌∷◌, ◌++◌, length, drop, get_or, map, refl, sym, ap, ◌∙◌, arith, append-nil}
use Rattle.std.specs.Prelude.{Some, None, slice_get}
use Rattle.std.specs.List.{flat_map, range_with_len}
use Rattle.std.proofs.lemmas.List.{at_drop_more}
use Rattle.std.proofs.lemmas.Option.{slice_get_read}
use Rattle.ifr_opcodes.specs.Forest.{Node}
use Rattle.ifr_nodes.specs.Guards.{guards}
use Rattle.ifr_nodes.specs.Nodes.{options}
use Rattle.hii_questions.specs.Fields.{question_with}
use Rattle.question_audit.specs.OptionFacts.{own_guards}
use Rattle.unlock_audit.specs.Asking.{Asking, around_id, asking_nothing, conditions_around, conditions_of, ids_in, numbers_from, with_conditions, with_id, with_ids}

-- the first of what is left of a list
pub drop_item : {X Y : Type 0} (f : X → Y) (xs : List X) (i : ℕ) (x : X) → i < length xs → x ≡ get_or xs i x → map f (drop i xs) ≡ f x ∷ map f (drop (i + 1) xs)
drop_item f xs i x lt e = at_drop_more (map f) xs i x lt ∙ ap (λ y. f y ∷ map f (drop (i + 1) xs)) (sym e)

pub drop_first : {X : Type 0} (xs : List X) (i : ℕ) (x : X) → i < length xs → x ≡ get_or xs i x → drop i xs ≡ x ∷ drop (i + 1) xs
drop_first xs i x lt e = at_drop_more (λ l. l) xs i x lt ∙ ap (λ y. y ∷ drop (i + 1) xs) (sym e)

pub ids_append : (ids xs ys : List ℕ) → with_ids ids (xs ++ ys) ≡ with_ids (with_ids ids xs) ys
ids_append ids [] ys = refl
ids_append ids (x ∷ xs) ys = ids_append (with_id ids x) xs ys

pub ids_next : (all : Node → List ℕ) (old new found first its : List ℕ) (left rest : List Node) (n : Node) → left ≡ n ∷ rest → new ≡ with_ids old found → found ≡ all n
    → with_ids old (flat_map all left) ≡ its → with_ids new (flat_map all rest) ≡ its
ids_next all old new found first its left rest n e f g inv =
    ap (λ l. with_ids l (flat_map all rest)) (f ∙ ap (with_ids old) g) ∙ sym (ids_append old (all n) (flat_map all rest)) ∙ ap (λ l. with_ids old (flat_map all l)) (sym e) ∙ inv

-- ---- the numbers of ids

pub numbers_next : (n : ℕ) → n < 64 → numbers_from n ≡ n ∷ numbers_from (n + 1)
unfolding numbers_from
numbers_next n lt = let more : 64 - n ≡ suc (64 - (n + 1)) = omega arith in ap (range_with_len n) more

pub numbers_end : (n : ℕ) → 64 ≤ n → numbers_from n ≡ []
unfolding numbers_from
numbers_end n le = let none : 64 - n ≡ 0 = omega arith in ap (range_with_len n) none

-- ---- conditions

pub add_none : (ns : List Node) (a : Asking) (cs : List Node) → cs ≡ [] → with_conditions ns a cs ≡ a
add_none ns a cs e = ap (with_conditions ns a) e ∙ nothing ns a
  where
    nothing : (ns : List Node) (a : Asking) → with_conditions ns a [] ≡ a
    nothing ns a = let same : a.conditions ++ [] ≡ a.conditions = append-nil a.conditions in ap (λ l. record { ids = a.ids; conditions = l }) same

-- the question of the id of a number
pub around_of : (ns : List Node) (ids : List ℕ) (number id : ℕ) (n : Node) → slice_get ids number ≡ Some id → question_with ns id ≡ Some n → around_id ns (slice_get ids number) ≡ conditions_around n
around_of ns ids number id n e f = ap (around_id ns) e ∙ ap conditions_of f

pub around_none : (ns : List Node) (ids : List ℕ) (number id : ℕ) → slice_get ids number ≡ Some id → question_with ns id ≡ None → around_id ns (slice_get ids number) ≡ []
around_none ns ids number id e f = ap (around_id ns) e ∙ ap conditions_of f

pub around_past : (ns : List Node) (ids : List ℕ) (number : ℕ) → slice_get ids number ≡ None → around_id ns (slice_get ids number) ≡ []
around_past ns ids number e = ap (around_id ns) e

mapped : {A B : Type 0} (f : A → B) (xs ys : List A) → map f (xs ++ ys) ≡ map f xs ++ map f ys
mapped f [] ys = refl
mapped f (x ∷ xs) ys = ap (λ l. f x ∷ l) (mapped f xs ys)

-- conditions are added to both lists
pub conditions_added : {G : Type 0} (node : G → Node) (ns : List Node) (n : Node) (old new around own : List G) (ids with : List ℕ) → map node around ≡ map node [] ++ guards n → map node own ≡ map node around ++ flat_map (own_guards n.place) (options n)
    → with ≡ with_ids ids (flat_map (ids_in ns) (map node own)) → new ≡ old ++ own
    → record { ids = with; conditions = map node new } ≡ with_conditions ns record { ids = ids; conditions = map node old } (conditions_around n)
conditions_added node ns n old new around own ids with e f g h =
    let all : map node own ≡ conditions_around n = f ∙ ap (λ l. l ++ flat_map (own_guards n.place) (options n)) e in
    let one : with ≡ with_ids ids (flat_map (ids_in ns) (conditions_around n)) = g ∙ ap (λ l. with_ids ids (flat_map (ids_in ns) l)) all in
    let two : map node new ≡ map node old ++ conditions_around n = ap (map node) h ∙ mapped node old own ∙ ap (λ l. map node old ++ l) all in
    cc

pub empty_asking : {G : Type 0} (node : G → Node) (ids : List ℕ) (gs : List G) → ids ≡ [] → gs ≡ [] → ◌≡◌ {A = Asking} record { ids = ids; conditions = map node gs } asking_nothing
empty_asking node ids gs e f = let none : map node gs ≡ [] = ap (map node) f in cc

pub read_there : (ids slice : List ℕ) (number id : ℕ) → slice ≡ ids → number < length slice → id ≡ get_or slice number id → slice_get ids number ≡ Some id
read_there ids slice number id e lt is = ap (λ l. slice_get l number) (sym e) ∙ slice_get_read slice (length slice) number id refl lt is
