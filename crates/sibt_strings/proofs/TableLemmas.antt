-- A table finds the texts of ids.
use Rattle.std.proofs.Common.{◌≡◌, ◌≢◌, ℕ, zero, suc, ◌+◌, ◌-◌, ◌<◌, ◌≤◌, ◌^◌, ◌==◌, true, false, inl, inr, if◌then◌else◌, List, [], ◌∷◌, ◌++◌, length, get_or, map, replicate, Option, None, Some, Ok, Err, refl, ap, sym, ◌∙◌, subst, arith, append_assoc, length-append}
use Rattle.std.specs.Option.{option_map}
use Rattle.std.specs.List.Sorted.{IsBinarySearchResult, IsNonDecreasingBy}
use Rattle.std.specs.Ordering.{nat_cmp, ordering_index}
use Rattle.std.proofs.lemmas.Cmp.{ranked}
use Rattle.std.proofs.lemmas.List.{append-nil, drop_all, map_push}
use Rattle.std.proofs.lemmas.List.Sorted.{IsNonDecreasingBy-from_default}
use Rattle.std.proofs.lemmas.Bool.{cases_eq, cases_lt, cond-true, cond-false}
use Rattle.std.proofs.lemmas.Bool.Decides.{nat_tests}
use Rattle.sibt_strings.specs.code.Blocks.{Block, Texts, Duplicate, Skip, End, Whole, front_of, texts_said, with_block, with_blocks}
use Rattle.browser_rules.specs.Strings.{cut_text, cut_texts, text_at}
use Rattle.sibt_strings.specs.code.Views.{EndsWith, HoldsBlocks}
use Rattle.sibt_strings.specs.code.Table.{place_of, text_of_place, Rises, IsTable, HasTable, IsNext, IsTabled, Adds, StepsTo}
use Rattle.sibt_strings.specs.declared.place.TextPlace.{TextPlace}
use Rattle.sibt_strings.specs.declared.places.TextPlaces.{TextPlaces}
use Rattle.sibt_strings.specs.declared.places.Step.{Step}
use Rattle.sibt_strings.specs.declared.places.Step.TheVariants as step
use Rattle.sibt_strings.proofs.BlockLemmas.{LeadsTo, leads_start, leads_on, held_blocks}
use Rattle.sibt_strings.proofs.EndLemmas.{ends_all, ends_place, ends_trans}
use Rattle.sibt_strings.proofs.IdLemmas.{OptionText, text_at-left, text_at-right, text_at-past, length-with_block}
use Rattle.sibt_strings.proofs.TextLemmas.{cut_ends, texts_none, texts_first}

no_place : TextPlace
no_place = record { id = 0; place = 0 }

rises_weaker : (low high more : ℕ) (places : List TextPlace) → high ≤ more → Rises low high places → Rises low more places
rises_weaker low high more [] le r = omega arith
rises_weaker low high more (p ∷ places) le r = (r.0, rises_weaker (p.id + 1) high more places le r.1)

rises_push : (low high : ℕ) (places : List TextPlace) (p : TextPlace) → Rises low high places → high ≤ p.id → Rises low (p.id + 1) (places ++ p ∷ [])
rises_push low high [] p r le = (omega arith, omega arith)
rises_push low high (q ∷ places) p r le = (r.0, rises_push (q.id + 1) high places p r.1 le)

rises_from : (low high : ℕ) (places : List TextPlace) → Rises low high places → (i : ℕ) (d : TextPlace) → i < length places → low ≤ (get_or places i d).id
rises_from low high [] r i d lt = absurd (omega arith)
rises_from low high (p ∷ places) r zero d lt = r.0
rises_from low high (p ∷ places) r (suc i) d lt = omega (arith, r.0, rises_from (p.id + 1) high places r.1 i d (omega arith))

rises_between : (low high : ℕ) (places : List TextPlace) → Rises low high places → (i j : ℕ) (d : TextPlace) → i < j → j < length places → (get_or places i d).id < (get_or places j d).id
rises_between low high [] r i j d lt within = absurd (omega arith)
rises_between low high (p ∷ places) r i zero d lt within = absurd (omega arith)
rises_between low high (p ∷ places) r zero (suc j) d lt within = omega (arith, rises_from (p.id + 1) high places r.1 j d (omega arith))
rises_between low high (p ∷ places) r (suc i) (suc j) d lt within = rises_between (p.id + 1) high places r.1 i j d (omega arith) (omega arith)

-- an id from the upper bound on has no place
place_of-past : (low high : ℕ) (places : List TextPlace) (id : ℕ) → Rises low high places → high ≤ id → place_of places id ≡ None
place_of-past low high [] id r le = refl
place_of-past low high (p ∷ places) id r le =
    let below : p.id + 1 ≤ high = bound (p.id + 1) places r.1 in
    grind (arith, nat_tests, place_of-past (p.id + 1) high places id r.1 le)
  where
    bound : (low : ℕ) (places : List TextPlace) → Rises low high places → low ≤ high
    bound low [] r = r
    bound low (q ∷ places) r = omega (arith, r.0, bound (q.id + 1) places r.1)

-- the place at the end is that of its id
place_of-push_same : (places : List TextPlace) (p : TextPlace) → place_of places p.id ≡ None → place_of (places ++ p ∷ []) p.id ≡ Some p.place
place_of-push_same [] p none = grind (arith, nat_tests)
place_of-push_same (q ∷ places) p none = elim (cases_eq q.id p.id) [
  | inl same ↦ absurd (some_none q.place (sym (cond-true (q.id == p.id) (Some q.place) (place_of places p.id) (is same)) ∙ none))
  | inr other ↦ cond-false (q.id == p.id) (Some q.place) (place_of (places ++ p ∷ []) p.id) (isnt other)
      ∙ place_of-push_same places p (sym (cond-false (q.id == p.id) (Some q.place) (place_of places p.id) (isnt other)) ∙ none)
]
  where
    some_none : (n : ℕ) → ◌≡◌ {A = Option ℕ} (Some n) None → ⊥
    some_none n e = cc

    is : q.id ≡ p.id → (q.id == p.id) ≡ true
    is same = grind (arith, nat_tests)

    isnt : q.id ≢ p.id → (q.id == p.id) ≡ false
    isnt other = grind (arith, nat_tests)

-- and no other's
place_of-push_other : (places : List TextPlace) (p : TextPlace) (id : ℕ) → id ≢ p.id → place_of (places ++ p ∷ []) id ≡ place_of places id
place_of-push_other [] p id other = grind (arith, nat_tests)
place_of-push_other (q ∷ places) p id other = ap (λ later. if q.id == id then Some q.place else later) (place_of-push_other places p id other)

-- the place of one text more
table_push : (bytes : List ℕ) (texts : List OptionText) (places : List TextPlace) (p : TextPlace) (text : OptionText) → IsTable bytes texts places →
    p.id ≡ length texts + 1 → text_of_place bytes (Some p.place) ≡ text → IsTable bytes (texts ++ text ∷ []) (places ++ p ∷ [])
table_push bytes texts places p text t next here =
    let size : length (texts ++ text ∷ []) ≡ length texts + 1 = length-append texts (text ∷ []) in
    record {
      rise = subst (λ high. Rises 1 high (places ++ p ∷ [])) (omega (arith, size)) (rises_push 1 (length texts + 1) places p t.rise (omega arith));
      found = λ id small. elim (cases_eq id p.id) [
        | inl same ↦ ap (λ i. text_of_place bytes (place_of (places ++ p ∷ []) i)) same
            ∙ ap (text_of_place bytes) (place_of-push_same places p (place_of-past 1 (length texts + 1) places p.id t.rise (omega arith)))
            ∙ here ∙ sym (text_at-right texts (text ∷ []) 0 id (omega arith))
        | inr other ↦ ap (text_of_place bytes) (place_of-push_other places p id other) ∙ t.found id small ∙ elsewhere id other
      ];
    }
  where
    elsewhere : (id : ℕ) → id ≢ p.id → text_at texts id ≡ text_at (texts ++ text ∷ []) id
    elsewhere id other = elim (cases_lt (length texts) id) [
      | inr le ↦ sym (text_at-left texts (text ∷ []) id le)
      | inl past ↦ text_at-past texts id past ∙ sym (text_at-past (texts ++ text ∷ []) id (omega (arith, length-append texts (text ∷ []), λ (e : id ≡ p.id). other e)))
    ]

-- the places stay where the ids that follow have no text
table_none : (bytes : List ℕ) (texts more : List OptionText) (places : List TextPlace) → IsTable bytes texts places →
    ((id : ℕ) → id < 2 ^ 16 → text_at (texts ++ more) id ≡ text_at texts id) → IsTable bytes (texts ++ more) places
table_none bytes texts more places t same = record {
  rise = rises_weaker 1 (length texts + 1) (length (texts ++ more) + 1) places (omega (arith, length-append texts more)) t.rise;
  found = λ id small. t.found id small ∙ sym (same id small);
}

-- or cannot be named
table_full : (bytes : List ℕ) (texts more : List OptionText) (places : List TextPlace) → IsTable bytes texts places → 2 ^ 16 ≤ length texts + 1 → IsTable bytes (texts ++ more) places
table_full bytes texts more places t full = table_none bytes texts more places t (λ id small. text_at-left texts more id (omega (arith, small, full)))

-- skipped ids have no text
text_at-replicate : (texts : List OptionText) (count id : ℕ) → text_at (texts ++ replicate count None) id ≡ text_at texts id
text_at-replicate texts count zero = refl
text_at-replicate [] count (suc n) = go count n
  where
    go : (count n : ℕ) → text_at (replicate count None) (suc n) ≡ None
    go zero n = refl
    go (suc count) zero = refl
    go (suc count) (suc n) = go count n
text_at-replicate (t ∷ texts) count (suc zero) = refl
text_at-replicate (t ∷ texts) count (suc (suc n)) = text_at-replicate texts count (suc n)

-- the first place with an id is found
place_of-present : (places : List TextPlace) (id i : ℕ) (d : TextPlace) → i < length places → (get_or places i d).id ≡ id → ((j : ℕ) → j < i → (get_or places j d).id ≢ id) → place_of places id ≡ Some (get_or places i d).place
place_of-present [] id i d lt here before = absurd (omega arith)
place_of-present (p ∷ places) id zero d lt here before = grind (arith, nat_tests)
place_of-present (p ∷ places) id (suc i) d lt here before =
    let other : p.id ≢ id = before 0 (omega arith) in
    let later = place_of-present places id i d (omega arith) here (λ j less. before (suc j) (omega arith)) in
    grind (arith, nat_tests)

place_of-absent : (places : List TextPlace) (id : ℕ) (d : TextPlace) → ((j : ℕ) → j < length places → (get_or places j d).id ≢ id) → place_of places id ≡ None
place_of-absent [] id d none = refl
place_of-absent (p ∷ places) id d none =
    let other : p.id ≢ id = none 0 (omega arith) in
    let later = place_of-absent places id d (λ j less. none (suc j) (omega arith)) in
    grind (arith, nat_tests)

-- the comparisons with an id rise along the places, as a binary search asks
comparisons_rise : (low high : ℕ) (places : List TextPlace) (id : ℕ) → Rises low high places → IsNonDecreasingBy (λ p. ordering_index (nat_cmp p.id id)) places
comparisons_rise low high places id r = IsNonDecreasingBy-from_default (λ p. ordering_index (nat_cmp p.id id)) places no_place (λ i j le within.
    let between : i < j → (get_or places i no_place).id < (get_or places j no_place).id = λ less. rises_between low high places r i j no_place less within in
    let same : i ≡ j → (get_or places i no_place).id ≡ (get_or places j no_place).id = λ e. ap (λ k. (get_or places k no_place).id) e in
    let ids : (get_or places i no_place).id ≤ (get_or places j no_place).id = grind (arith, between, same) in
    grind (arith, nat_tests))

-- what a binary search finds
pub place_searched : (low high : ℕ) (places : List TextPlace) (id at : ℕ) (d : TextPlace) → Rises low high places → at < length places → IsBinarySearchResult (λ p. nat_cmp p.id id) places (Ok at) → place_of places id ≡ Some (get_or places at d).place
place_searched low high places id at d r within equal =
    let here : (get_or places at d).id ≡ id = ranked _ id _ (sym (equal d)) in
    place_of-present places id at d within here (λ j less same. omega (arith, rises_between low high places r j at d less within, here, same))

pub place_not_found : (low high : ℕ) (places : List TextPlace) (id at : ℕ) → Rises low high places → at ≤ length places → IsBinarySearchResult (λ p. nat_cmp p.id id) places (Err at) → place_of places id ≡ None
place_not_found low high places id at r within parted =
    let rise = comparisons_rise low high places id r in
    place_of-absent places id no_place (λ j less same. elim (cases_lt j at) [
      | inr le ↦ (let above : id < (get_or places j no_place).id = ranked _ id _ (sym ((parted rise).1 j no_place le less)) in omega (arith, above, same))
      | inl lt ↦ (let below : (get_or places j no_place).id < id = ranked _ id _ (sym ((parted rise).0 j no_place (omega arith) lt)) in omega (arith, below, same))
    ])

-- no texts stand in no bytes
text_past : (bytes : List ℕ) (place : ℕ) → length bytes ≤ place → text_of_place bytes (Some place) ≡ None
unfolding cut_text
text_past bytes place past = ap (λ b. option_map (λ t. t.0) (cut_text b)) (drop_all place bytes past)

-- an id whose place is past all bytes has no text
pub table_past : (bytes : List ℕ) (texts : List OptionText) (places : List TextPlace) (id place : ℕ) → IsTable bytes texts places → id < 2 ^ 16 →
    Some place ≡ place_of places id → length bytes ≤ place → text_at texts id ≡ None
table_past bytes texts places id place t small found past = sym (t.found id small) ∙ ap (text_of_place bytes) (sym found) ∙ text_past bytes place past

-- the places where so many ids are skipped
table_skip : (bytes : List ℕ) (texts : List OptionText) (places : List TextPlace) (count : ℕ) → IsTable bytes texts places → IsTable bytes (with_block texts (Skip count)) places
table_skip bytes texts places count t = table_none bytes texts (replicate count None) places t (λ id _. text_at-replicate texts count id)

-- the place of one text more
pub tabled_push : (bytes : List ℕ) (texts : List OptionText) (places : List TextPlace) (id place : ℕ) (next after : Option ℕ) → next ≡ Some id → IsTabled bytes texts next places →
    ((n : ℕ) → IsNext next n → IsNext after (n + 1)) → IsTabled bytes (texts ++ text_of_place bytes (Some place) ∷ []) after (places ++ record { id = id; place = place } ∷ [])
tabled_push bytes texts places id place next after named t further = record {
  table = table_push bytes texts places (record { id = id; place = place }) (text_of_place bytes (Some place)) t.table (subst (λ n. IsNext n (length texts + 1)) named t.behind) refl;
  behind = subst (IsNext after) (omega (arith, length-append texts (text_of_place bytes (Some place) ∷ []))) (further (length texts + 1) t.behind);
}

-- a text of an id that has no name
pub tabled_full : (bytes : List ℕ) (texts : List OptionText) (places : List TextPlace) (text : OptionText) (next : Option ℕ) → next ≡ None → IsTabled bytes texts next places →
    IsTabled bytes (texts ++ text ∷ []) next places
tabled_full bytes texts places text next unnamed t =
    let full : 2 ^ 16 ≤ length texts + 1 = subst (λ n. IsNext n (length texts + 1)) unnamed t.behind in
    let more : 2 ^ 16 ≤ length (texts ++ text ∷ []) + 1 = omega (arith, full, length-append texts (text ∷ [])) in
    record { table = table_full bytes texts (text ∷ []) places t.table full; behind = subst (λ n. IsNext n (length (texts ++ text ∷ []) + 1)) (sym unnamed) more }

-- so many ids without text
pub tabled_skip : (bytes : List ℕ) (texts : List OptionText) (places : List TextPlace) (next after : Option ℕ) (count : ℕ) → IsTabled bytes texts next places →
    ((id : ℕ) → IsNext next id → IsNext after (id + count)) → IsTabled bytes (with_block texts (Skip count)) after places
tabled_skip bytes texts places next after count t further = record {
  table = table_skip bytes texts places count t.table;
  behind = subst (IsNext after) (omega (arith, length-with_block texts (Skip count))) (further (length texts + 1) t.behind);
}

pub tabled_no_duplicate : (bytes : List ℕ) (texts : List OptionText) (places new : List TextPlace) (next after : Option ℕ) (other : ℕ) → IsTabled bytes texts next places → other < 2 ^ 16 →
    None ≡ place_of places other → IsTabled bytes (with_block texts (Skip 1)) after new → IsTabled bytes (with_block texts (Duplicate other)) after new
tabled_no_duplicate bytes texts places new next after other t small missing skipped =
    let none : text_at texts other ≡ None = sym (t.table.found other small) ∙ sym (ap (text_of_place bytes) missing) in
    subst (λ text. IsTabled bytes (texts ++ text ∷ []) after new) (sym none) skipped

-- texts with these before them
abbrev texts_before : List (List ℕ) → Option (List (List ℕ) × List ℕ) → Option (List (List ℕ) × List ℕ)
texts_before seen None = None
texts_before seen (Some t) = Some (seen ++ t.0, t.1)

-- Of so many texts at the front of bytes the first n have places, and the others stand at the front of the rest.
pub record Node (blocks bytes : List ℕ) (count : ℕ) (old : TextPlaces) (n : ℕ) (rest : List ℕ) (new : TextPlaces) : Type 0 where
  pub seen : List (List ℕ)
  pub inside : EndsWith bytes rest
  pub same : texts_before seen (cut_texts (count - n) rest) ≡ cut_texts count bytes
  pub adds : Adds blocks (Texts seen) old new

module _ {blocks bytes : List ℕ} {count : ℕ} {old : TextPlaces} {n : ℕ} {rest : List ℕ} {new : TextPlaces} (p : Node blocks bytes count old n rest new) where
  left : n < count → count - n ≡ suc (count - (n + 1))
  left less = omega arith

  -- one text more
  pub placed_more : n < count → EndsWith blocks bytes → (newer : TextPlaces) (place : ℕ) (text behind : List ℕ) → place ≡ length blocks - length rest →
      ((texts : List OptionText) → IsTabled blocks texts new.next new.places.items → IsTabled blocks (texts ++ text_of_place blocks (Some place) ∷ []) newer.next newer.places.items) →
      cut_text rest ≡ Some (text, behind) → Node blocks bytes count old (n + 1) behind newer
  placed_more less inside newer place text behind at added found =
      let here : text_of_place blocks (Some place) ≡ Some text =
      ap (λ k. text_of_place blocks (Some k)) at ∙ ap (λ b. option_map (λ (t : List ℕ × List ℕ). t.0) (cut_text b)) (ends_place (ends_trans inside p.inside)) ∙ ap (option_map (λ t. t.0)) found in
      record {
        seen = p.seen ++ text ∷ [];
        inside = ends_trans p.inside (cut_ends rest text behind found);
        same = moved (cut_texts (count - (n + 1)) behind) ∙ ap (texts_before p.seen) (sym (texts_first (count - (n + 1)) rest text behind found) ∙ ap (λ k. cut_texts k rest) (sym (left less))) ∙ p.same;
        adds = λ texts t.
            let pushed = subst (λ text. IsTabled blocks ((texts ++ map Some p.seen) ++ text ∷ []) newer.next newer.places.items) here (added (texts ++ map Some p.seen) (p.adds texts t)) in
            subst (λ texts. IsTabled blocks texts newer.next newer.places.items) (append_assoc texts (map Some p.seen) (Some text ∷ []) ∙ ap (λ more. texts ++ more) (sym (map_push Some p.seen text))) pushed;
      }
    where
      moved : (t : Option (List (List ℕ) × List ℕ)) → texts_before (p.seen ++ text ∷ []) t ≡ texts_before p.seen (option_map (λ ts. (text ∷ ts.0, ts.1)) t)
      moved None = refl
      moved (Some t) = ap (λ texts. Some (texts, t.1)) (append_assoc p.seen (text ∷ []) t.0)

  -- one of the texts is cut
  pub placed_cut : n < count → cut_text rest ≡ None → cut_texts count bytes ≡ None
  placed_cut less cut = sym p.same ∙ ap (texts_before p.seen) (ap (λ k. cut_texts k rest) (left less) ∙ texts_none (count - (n + 1)) rest cut)

  -- all have places
  pub placed_all : count ≤ n → cut_texts count bytes ≡ Some (p.seen, rest)
  unfolding cut_texts
  placed_all all =
      let none : count - n ≡ 0 = omega arith in
      sym p.same ∙ ap (λ k. texts_before p.seen (cut_texts k rest)) none ∙ ap (λ texts. Some (texts, rest)) (append-nil p.seen)

with_blocks-push : (texts : List OptionText) (blocks : List Block) (block : Block) → with_blocks texts (blocks ++ block ∷ []) ≡ with_block (with_blocks texts blocks) block
with_blocks-push texts [] block = refl
with_blocks-push texts (b ∷ blocks) block = with_blocks-push (with_block texts b) blocks block

-- the blocks before the rest are whole, and their texts have places
pub record Walked (blocks rest : List ℕ) (found : TextPlaces) : Type 0 where
  pub leads : LeadsTo blocks rest
  pub inside : EndsWith blocks rest
  pub tabled : IsTabled blocks (texts_said leads.blocks) found.next found.places.items

pub walked_none : (blocks : List ℕ) (found : TextPlaces) → IsTabled blocks [] found.next found.places.items → Walked blocks blocks found
unfolding leads_start
walked_none blocks found none = record { leads = leads_start blocks; inside = ends_all blocks; tabled = none }

module _ {blocks rest : List ℕ} {old : TextPlaces} (w : Walked blocks rest old) where
  -- one block more
  pub walked_on : (new : TextPlaces) (block : Block) (behind : List ℕ) → front_of rest ≡ Whole block behind → Adds blocks block old new → EndsWith rest behind → length behind < length rest →
      Walked blocks behind new
  unfolding leads_on
  walked_on new block behind front adds inside less = record {
    leads = leads_on blocks rest block behind w.leads front less;
    inside = ends_trans w.inside inside;
    tabled = subst (λ texts. IsTabled blocks texts new.next new.places.items) (sym (with_blocks-push [] w.leads.blocks block)) (adds (texts_said w.leads.blocks) w.tabled);
  }

  -- the end
  walked_whole : front_of rest ≡ End → HoldsBlocks blocks
  walked_whole end = (w.leads.blocks, (rest, w.leads.leads, end), omega (arith, w.leads.few))

  pub walked_table : front_of rest ≡ End → HasTable blocks old.places.items
  unfolding walked_whole
  walked_table end = subst (λ whole. IsTable blocks (texts_said whole) old.places.items) (sym (held_blocks blocks (walked_whole end))) w.tabled.table

-- what a step leaves stands at the end of what it began with
pub steps_behind : {bytes more : List ℕ} (found : Step) → EndsWith bytes more → StepsTo (EndsWith more) found → StepsTo (EndsWith bytes) found
steps_behind step.End e lies = tt
steps_behind (step.Behind rest) e lies = ends_trans e lies
steps_behind (step.Bad cause) e lies = tt
