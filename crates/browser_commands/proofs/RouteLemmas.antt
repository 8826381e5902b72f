-- Stores after the blocks of a response.
use Rattle.std.proofs.Common.{◌≡◌, ℕ, zero, suc, ◌+◌, ◌-◌, ◌<◌, List, [], ◌∷◌, ◌++◌, length, take, append_assoc, append-nil, length-append, Option, Some, None, Result, Ok, Err, refl, sym, ap, subst, ◌∙◌, arith}
use Rattle.std.specs.List.{AllByRecursion}
use Rattle.std.specs.Option.{IsSomeAnd}
use Rattle.browser_rules.specs.Configuration.{Header, Block}
use Rattle.ifr_opcodes.specs.Forest.{Node}
use Rattle.ifr_nodes.specs.Nodes.{nodes_of}
use Rattle.ifr_scopes.specs.declared.around.Around.{Around}
use Rattle.hii_varstore.specs.Layout.{Shape}
use Rattle.hii_varstore.specs.code.Ranges.{HasRange}
use Rattle.hii_varstore.specs.code.Table.{AreBuffers}
use Rattle.hii_varstore.specs.Stores.{byte_of, StoreMap, shape_of, bytes_of_field, with_bytes}
use Rattle.hii_varstore.proofs.WriteLemmas.{byte_after, shape_after}
use Rattle.hii_values.specs.Inputs.{field}
use Rattle.hii_questions.specs.Fields as fields
use Rattle.hii_questions.specs.Fields.{Asked, field_of}
use Rattle.kept_conditions.specs.Kept as kept
use Rattle.kept_conditions.specs.Kept.{KeptMap, written, changed_to}
use Rattle.kept_conditions.specs.Touching.{difference, range_of_field, renewals}
use Rattle.kept_conditions.specs.code.Invalidation.{LiesWithin}
use Rattle.kept_conditions.proofs.CopyLemmas.{copied_agree}
use Rattle.hii_questions.specs.code.Checks.{range_of}
use Rattle.hii_questions.specs.code.NewBytes.{new_bytes}
use Rattle.hii_questions.specs.code.Views.{question_node, question_view}
use Rattle.hii_questions.specs.declared.field.Field.{Field}
use Rattle.hii_questions.specs.declared.question.Question.{Question}
use Rattle.guard_policy.specs.Policy.{fixed}
use Rattle.guard_policy.specs.World.{World}
use Rattle.guard_policy.specs.code.Answers.{unless}
use Rattle.guard_policy.specs.code.Views.{bytes_of}
use Rattle.guard_policy.specs.declared.denial.Denial.{Denial}
use Rattle.guard_policy.specs.declared.policy.Policy.{Policy}
use Rattle.ifr_nodes.proofs.ViewLemmas.{contains_found}
use Rattle.hii_questions.proofs.LawLemmas.{holds_fields}
use Rattle.session_steps.specs.Opening.{layout_in, IsBrowsable}
use Rattle.session_steps.specs.Configuration.{block_field, block_bytes, store_named, question_of_field}
use Rattle.session_steps.specs.Renewed.{Shown, Write, Blocks, and_then, and_back, route_writes, write_of, written_by}
use Rattle.browser_commands.specs.code.Counting.{counted_all}
use Rattle.browser_commands.proofs.CountLemmas.{counted_all-append}
use Rattle.session_steps.specs.declared.reply.Reply.TheVariants.{Accepted, Denied}
use Rattle.session_steps.specs.State.{State, world_of}
use Rattle.session_steps.specs.Step.{Outcome, accepted, denied, warned_text, set_unless_fixed, set_field, set_block, set_blocks, go_on, route_to}
use Rattle.session_steps.specs.Texts.{ok_text, count_text}
use Rattle.browser_commands.specs.code.Standing.{Routes}
use Rattle.browser_commands.specs.code.Changing.{IsOver, AgreeAt, SetsValue, Chooses, SetsBlock, SetsBlocks, HaveRanges, NoneHasByte, CopiesBlocks, range_of_block}
use Rattle.browser_commands.proofs.AgreeLemmas.{same_stores}
use Rattle.browser_commands.proofs.BlockLemmas.{set_there, no_password}
use Rattle.browser_commands.proofs.SetLemmas.{over_world, free_question, outside_of}

-- ---- one block

-- a block sets its question as a value of the whole field does
block_is : (policy : Policy) (m : StoreMap) (store : ℕ) (block : Block) (q : Question) (around : Around) (s : State) (bytes : List ℕ) (o : Outcome) → Chooses policy m (block_field store block) (Ok (q, around)) → bytes ≡ block_bytes block → IsOver policy m s
    → set_unless_fixed s (question_node q) (field bytes) None ≡ o → set_block s store block ≡ o
block_is policy m store block q around s bytes o chosen same over e =
    let there = sym (set_there policy m (block_field store block) s over) ∙ chosen.1 in
    let free : unless (fixed (world_of s) (question_node q)) ≡ Ok tt = subst (λ (w : World). unless (fixed w (question_node q)) ≡ Ok tt) (over_world policy m s over) (ap unless chosen.3) in
    let not_it = chosen.2 in
    ap (λ (o : Option Node). set_field s o (block_bytes block)) there
    ∙ ap (λ (bs : List ℕ). set_field s (Some (question_node q)) bs) (sym same)
    ∙ no_password s (question_node q) bytes not_it
    ∙ free_question s (question_node q) (field bytes) free
    ∙ e

-- the field of the question that a block sets, in a session
field_there : (policy : Policy) (m : StoreMap) (f : fields.Field) (q : Question) (around : Around) (s : State) → Chooses policy m f (Ok (q, around)) → IsOver policy m s → field_of (nodes_of s.ifr) (question_node q) ≡ Some f
field_there policy m f q around s chosen over =
    subst (λ (ifr : List ℕ). field_of (nodes_of ifr) (question_node q) ≡ Some f) over.ifr (sym (ap (λ (x : Asked). x.field) chosen.0.0.own) ∙ chosen.0.1)

pub block_is_set : (policy : Policy) (old new : KeptMap) (store : ℕ) (block : Block) (q : Question) (around : Around) (bytes : List ℕ) (field' : Field) → Chooses policy old.stores (block_field store block) (Ok (q, around)) → bytes ≡ block_bytes block
    → HasRange (shape_of old.stores) store block.offset block.width → SetsValue policy (question_view q) (field bytes) old new (Ok field') → SetsBlock policy store block old new (Ok tt)
block_is_set policy old new store block q around bytes field' chosen same inside sets =
    let own : Some (range_of field') ≡ Some (block_field store block) = sym sets.2 ∙ chosen.0.1 in
    let lies : range_of field' ≡ block_field store block = cc in
    let now : new.stores ≡ with_bytes old.stores field'.store field'.offset (new_bytes field') = ap (λ (m : KeptMap). m.stores) sets.0 in (
      inside,
      sets.0 ∙ ap (λ (f : fields.Field). written old (range_of_field f) (with_bytes old.stores field'.store field'.offset (new_bytes field'))) lies ∙ ap (written old (range_of_field (block_field store block))) (sym now),
      ap shape_of now ∙ shape_after old.stores field'.store field'.offset (new_bytes field'),
      λ other at away. ap (λ (stores : StoreMap). byte_of stores other at) now ∙ byte_after old.stores field'.store field'.offset other at (new_bytes field')
          (λ same. outside_of field' at sets.1 (λ w. away (subst (λ (f : fields.Field). LiesWithin record { store = f.store; offset = f.offset; width = f.width } other at) lies (same, w.0, w.1)))),
      λ s over. (
        ok_text ++ warned_text s new.stores (question_node q),
        question_node q,
        block_is policy old.stores store block q around s bytes _ chosen same over (sets.3 s over),
        sym (set_there policy old.stores (block_field store block) s over) ∙ chosen.1,
        field_there policy old.stores (block_field store block) q around s chosen over,
      ),
    )

pub block_is_denied : (policy : Policy) (old new : KeptMap) (store : ℕ) (block : Block) (q : Question) (around : Around) (bytes : List ℕ) (denial : Denial) → Chooses policy old.stores (block_field store block) (Ok (q, around)) → bytes ≡ block_bytes block
    → SetsValue policy (question_view q) (field bytes) old new (Err denial) → SetsBlock policy store block old new (Err denial)
block_is_denied policy old new store block q around bytes denial chosen same sets =
    (sets.0, λ s over. block_is policy old.stores store block q around s bytes (denied s denial) chosen same over (sets.1 s over))

pub no_question : (policy : Policy) (old : KeptMap) (store : ℕ) (block : Block) (denial : Denial) → Chooses policy old.stores (block_field store block) (Err denial) → SetsBlock policy store block old old (Err denial)
no_question policy old store block denial chosen = (refl, λ s over. chosen s (block_bytes block) over)

-- the field of the question of a block lies in its store
pub block_range : (policy : Policy) (m : StoreMap) (store : ℕ) (block : Block) (q : Question) (around : Around) → Chooses policy m (block_field store block) (Ok (q, around)) → IsBrowsable (bytes_of policy) → shape_of m ≡ layout_in (bytes_of policy)
    → HasRange (shape_of m) store block.offset block.width
block_range policy m store block q around chosen browsable laid =
    let ns = nodes_of (bytes_of policy) in
    let n = question_node q in
    let is = chosen.0.0 in
    let has : field_of ns n ≡ Some (block_field store block) = sym (ap (λ (x : Asked). x.field) is.own) ∙ chosen.0.1 in
    let within = holds_fields ns n (block_field store block) browsable.questions (contains_found ns n.place n is.node) is.asks has in
    subst (λ (sh : Shape). HasRange sh store block.offset block.width) (sym laid) within

-- ---- blocks that are copied

-- These blocks are left to be copied.
pub record CopyLeft (store : ℕ) (all left : List Block) (from old now : StoreMap) : Type 0 where
  pub shape : shape_of now ≡ shape_of old
  pub ranges : HaveRanges (shape_of old) store left
  pub alike : (other at : ℕ) → (NoneHasByte store all other at → AgreeAt old from other at) → NoneHasByte store left other at → AgreeAt now from other at

pub copy_start : (store : ℕ) (all : List Block) (from old : StoreMap) → HaveRanges (shape_of old) store all → CopyLeft store all all from old old
copy_start store all from old ranges = record { shape = refl; ranges = ranges; alike = λ other at alike none. alike none }

-- the first so many of some blocks
pub take_more : (count : ℕ) (left rest : List Block) (block : Block) → 0 < count → left ≡ block ∷ rest → take count left ≡ block ∷ take (count - 1) rest
take_more zero left rest block some e = absurd (omega (arith, some))
take_more (suc n) left rest block some e =
    let less : suc n - 1 ≡ n = omega arith in
    rw (e, less) refl

pub copy_next : (store : ℕ) (all left rest : List Block) (block : Block) (count : ℕ) (from old now new : StoreMap) → 0 < count → left ≡ block ∷ rest → shape_of old ≡ shape_of from → CopyLeft store all (take count left) from old now
    → IsSomeAnd (bytes_of_field from store block.offset block.width) (λ bytes. new ≡ with_bytes now store block.offset bytes) → shape_of new ≡ shape_of now → CopyLeft store all (take (count - 1) rest) from old new
copy_next store all left rest block count from old now new some e laid h copied shape =
    let here : take count left ≡ block ∷ take (count - 1) rest = take_more count left rest block some e in
    let ranges : HaveRanges (shape_of old) store (block ∷ take (count - 1) rest) = subst (HaveRanges (shape_of old) store) here h.ranges in
    let inside : HasRange (shape_of now) store block.offset block.width = subst (λ (sh : Shape). HasRange sh store block.offset block.width) (sym h.shape) ranges.0 in
    record {
      shape = shape ∙ h.shape;
      ranges = ranges.1;
      alike = λ other at alike none. copied_agree now from new (range_of_block store block) (h.shape ∙ laid) inside copied other at
          (λ outside. h.alike other at alike (subst (λ (bs : List Block). NoneHasByte store bs other at) (sym here) (outside, none)));
    }

-- where one is left to be copied, it lies in its store
pub next_range : (store : ℕ) (all left rest : List Block) (block : Block) (count : ℕ) (from old now : StoreMap) → 0 < count → left ≡ block ∷ rest → CopyLeft store all (take count left) from old now → HasRange (shape_of now) store block.offset block.width
next_range store all left rest block count from old now some e h =
    let ranges : HaveRanges (shape_of old) store (block ∷ take (count - 1) rest) = subst (HaveRanges (shape_of old) store) (take_more count left rest block some e) h.ranges in
    subst (λ (sh : Shape). HasRange sh store block.offset block.width) (sym h.shape) ranges.0

pub copied_all : (store : ℕ) (all left : List Block) (from old now : StoreMap) → left ≡ [] → CopyLeft store all left from old now → CopiesBlocks store all from old now
copied_all store all left from old now none h = record { shape = h.shape; alike = λ other at alike. h.alike other at alike (subst (λ (bs : List Block). NoneHasByte store bs other at) (sym none) tt) }

pub none_left : (count : ℕ) (left : List Block) → left ≡ [] → take count left ≡ []
none_left zero left none = refl
none_left (suc n) left none = rw none refl

-- ---- all blocks

-- the stores after the first block are those of a session
abbrev later : State → StoreMap → State
later s now = record s { working = now }

first_is : (before s : State) (text told : List ℕ) (store : ℕ) (block : Block) (blocks : List Block) (next : State) → set_block s store block ≡ accepted next told → set_blocks before text store s (block ∷ blocks) ≡ set_blocks before text store next blocks
first_is before s text told store block blocks next e = ap (λ (o : Outcome). go_on before o.reply (set_blocks before text store o.state blocks)) e

first_denies : (before s : State) (text : List ℕ) (store : ℕ) (block : Block) (blocks : List Block) (denial : Denial) → set_block s store block ≡ denied s denial → set_blocks before text store s (block ∷ blocks) ≡ denied before denial
first_denies before s text store block blocks denial e = ap (λ (o : Outcome). go_on before o.reply (set_blocks before text store o.state blocks)) e

-- What blocks have written that are left of all: what those before them have, and then the others.
pub record HaveWritten (s : State) (store : ℕ) (all left : List Block) (m now : KeptMap) : Type 0 where
  pub front : List Write
  pub counted : now.renewed ≡ counted_all m.renewed (nodes_of s.ifr) front
  pub whole : written_by s store all ≡ record { writes = front ++ (written_by (later s now.stores) store left).writes; state = (written_by (later s now.stores) store left).state }

-- These blocks are left of all, and so many before them are set.
pub record SetLeft (policy : Policy) (store : ℕ) (all left : List Block) (m now : KeptMap) (count : ℕ) : Type 0 where
  pub before : List Block
  pub whole : all ≡ before ++ left
  pub counted : count ≡ length before
  pub same_package : now.ifr ≡ m.ifr
  pub shape : shape_of now.stores ≡ shape_of m.stores
  pub ranges : HaveRanges (shape_of m.stores) store before
  pub alike : (other at : ℕ) → NoneHasByte store before other at → AgreeAt now.stores m.stores other at
  pub told : (first s : State) (text : List ℕ) → IsOver policy m.stores s → set_blocks first text store s all ≡ set_blocks first text store (later s now.stores) left
  pub writes : (s : State) → IsOver policy m.stores s → HaveWritten s store all left m now

pub set_start : (policy : Policy) (store : ℕ) (all : List Block) (m : KeptMap) → SetLeft policy store all all m m 0
set_start policy store all m = record {
  before = [];
  whole = refl;
  counted = refl;
  same_package = refl;
  shape = refl;
  ranges = tt;
  alike = λ other at none. refl;
  told = λ first s text over. ap (λ (stores : StoreMap). set_blocks first text store (record s { working = stores }) all) (sym over.working_is);
  writes = λ s over. record { front = []; counted = refl; whole = ap (λ (stores : StoreMap). written_by (record s { working = stores }) store all) (sym over.working_is) };
}

over_later : (policy : Policy) (m now : StoreMap) (s : State) → IsOver policy m s → IsOver policy now (later s now)
over_later policy m now s over = record { ifr = over.ifr; removed = over.removed; working_is = refl }

-- what holds of some blocks and of one more
and_one : (P : Block → Type 0) (blocks : List Block) (block : Block) → AllByRecursion P blocks → P block → AllByRecursion P (blocks ++ block ∷ [])
and_one P [] block all one = (one, tt)
and_one P (b ∷ blocks) block all one = (all.0, and_one P blocks block all.1 one)

of_both : (P : Block → Type 0) (blocks : List Block) (block : Block) → AllByRecursion P (blocks ++ block ∷ []) → AllByRecursion P blocks × P block
of_both P [] block all = (tt, all.0)
of_both P (b ∷ blocks) block all = let rest = of_both P blocks block all.1 in ((all.0, rest.0), rest.1)

-- what a block writes that is set
one_write : (s next : State) (store : ℕ) (block : Block) (rest : List Block) (n : Node) (text : List ℕ) → set_block s store block ≡ accepted next text → question_of_field (world_of s) (nodes_of s.ifr) (block_field store block) ≡ Some n
    → field_of (nodes_of s.ifr) n ≡ Some (block_field store block)
    → written_by s store (block ∷ rest) ≡ record { writes = range_of_field (block_field store block) ∷ (written_by next store rest).writes; state = (written_by next store rest).state }
one_write s next store block rest n text sets asks has =
    ap (λ (o : Outcome). and_then s (question_of_field (world_of s) (nodes_of s.ifr) (block_field store block)) o.reply (written_by o.state store rest)) sets
    ∙ ap (λ (q : Option Node). and_then s q Accepted (written_by next store rest)) asks
    ∙ ap (λ (f : Option fields.Field). record { writes = write_of f ++ (written_by next store rest).writes; state = (written_by next store rest).state }) has

no_write : (s : State) (store : ℕ) (block : Block) (rest : List Block) (denial : Denial) → set_block s store block ≡ denied s denial → written_by s store (block ∷ rest) ≡ record { writes = []; state = s }
no_write s store block rest denial denies =
    ap (λ (o : Outcome). and_then s (question_of_field (world_of s) (nodes_of s.ifr) (block_field store block)) o.reply (written_by o.state store rest)) denies
    ∙ nothing (question_of_field (world_of s) (nodes_of s.ifr) (block_field store block))
  where
    nothing : (q : Option Node) → and_then s q (Denied denial) (written_by s store rest) ≡ record { writes = []; state = s }
    nothing None = refl
    nothing (Some q) = refl

pub set_next : (policy : Policy) (store : ℕ) (all left rest : List Block) (block : Block) (m now new : KeptMap) (count : ℕ) → m.ifr ≡ bytes_of policy → left ≡ block ∷ rest → SetLeft policy store all left m now count → SetsBlock policy store block now new (Ok tt)
    → SetLeft policy store all rest m new (count + 1)
set_next policy store all left rest block m now new count own e h sets = record {
  before = h.before ++ block ∷ [];
  whole = h.whole ∙ ap (λ (bs : List Block). h.before ++ bs) e ∙ sym (append_assoc h.before (block ∷ []) rest);
  counted = let more = length-append h.before (block ∷ []) in let so_far = h.counted in omega (arith, more, so_far);
  same_package = ap (λ (it : KeptMap). it.ifr) sets.1 ∙ h.same_package;
  shape = sets.2 ∙ h.shape;
  ranges = and_one (λ b. HasRange (shape_of m.stores) store b.offset b.width) h.before block h.ranges (subst (λ (sh : Shape). HasRange sh store block.offset block.width) h.shape sets.0);
  alike = λ other at none. let both = of_both (λ b. LiesWithin (range_of_block store b) other at → ⊥) h.before block none in sets.3 other at both.1 ∙ h.alike other at both.0;
  told = λ first s text over.
      let one = sets.4 (later s now.stores) (over_later policy m.stores now.stores s over) in
      h.told first s text over ∙ ap (set_blocks first text store (later s now.stores)) e ∙ first_is first (later s now.stores) text one.0 store block rest (later s new.stores) one.2;
  writes = λ s over.
      let one = sets.4 (later s now.stores) (over_later policy m.stores now.stores s over) in
      let so_far = h.writes s over in
      let here = range_of_field (block_field store block) in
      let ns : nodes_of now.ifr ≡ nodes_of s.ifr = ap nodes_of (h.same_package ∙ own ∙ over.ifr) in
      let next = written_by (later s new.stores) store rest in
      record {
        front = so_far.front ++ here ∷ [];
        counted = ap (λ (it : KeptMap). it.renewed) sets.1 ∙ ap (λ (nodes : List Node). kept.counted now.renewed (renewals nodes here)) ns
            ∙ ap (λ (n : ℕ). kept.counted n (renewals (nodes_of s.ifr) here)) so_far.counted ∙ sym (counted_all-append m.renewed (nodes_of s.ifr) so_far.front (here ∷ []));
        whole = so_far.whole ∙ ap (λ (b : Blocks). record { writes = so_far.front ++ b.writes; state = b.state })
            (ap (written_by (later s now.stores) store) e ∙ one_write (later s now.stores) (later s new.stores) store block rest one.1 one.0 one.2 one.3 one.4)
            ∙ ap (λ (ws : List Write). record { writes = ws; state = next.state }) (sym (append_assoc so_far.front (here ∷ []) next.writes));
      };
}

front_of : (before left : List Block) → take (length before) (before ++ left) ≡ before
front_of [] left = refl
front_of (b ∷ before) left = ap (λ (bs : List Block). b ∷ bs) (front_of before left)

-- those before the ones that are left are the first so many
first_ones : (before left all : List Block) (count : ℕ) → all ≡ before ++ left → count ≡ length before → take count all ≡ before
first_ones before left all count whole counted = ap (λ (n : ℕ). take n all) counted ∙ ap (take (length before)) whole ∙ front_of before left

pub first_ranges : (policy : Policy) (store : ℕ) (all left : List Block) (m now : KeptMap) (other : StoreMap) (count : ℕ) → SetLeft policy store all left m now count → shape_of other ≡ shape_of m.stores → HaveRanges (shape_of other) store (take count all)
first_ranges policy store all left m now other count h laid =
    subst (HaveRanges (shape_of other) store) (sym (first_ones h.before left all count h.whole h.counted)) (subst (λ (sh : Shape). HaveRanges sh store h.before) (sym laid) h.ranges)

-- outside of the first so many the stores are as before
pub first_alike : (policy : Policy) (store : ℕ) (all left : List Block) (m now : KeptMap) (count : ℕ) → SetLeft policy store all left m now count → (other at : ℕ) → NoneHasByte store (take count all) other at → AgreeAt now.stores m.stores other at
first_alike policy store all left m now count h other at outside = h.alike other at (subst (λ (bs : List Block). NoneHasByte store bs other at) (first_ones h.before left all count h.whole h.counted) outside)

-- all are set, and the spare stores follow
pub all_set : (policy : Policy) (store : ℕ) (all left : List Block) (m now : KeptMap) (spare new : StoreMap) (count : ℕ) → left ≡ [] → spare ≡ m.stores → SetLeft policy store all left m now count
    → CopiesBlocks store (take count all) now.stores spare new → SetsBlocks policy store all m now new (Ok count)
all_set policy store all left m now spare new count none same h copies =
    let every : all ≡ h.before = h.whole ∙ ap (λ (bs : List Block). h.before ++ bs) none ∙ append-nil h.before in
    record {
      same_package = h.same_package;
      shape = h.shape;
      kept_shape = copies.shape ∙ ap shape_of same;
      alike = λ other at. sym (copies.alike other at (λ outside. ap (λ (stores : StoreMap). byte_of stores other at) same ∙ sym (first_alike policy store all left m now count h other at outside)));
      gives = (
        h.counted ∙ ap length (sym every),
        λ first s text over.
            let said = h.writes s over in (
              h.told first s text over ∙ ap (set_blocks first text store (later s now.stores)) none,
              said.counted ∙ ap (counted_all m.renewed (nodes_of s.ifr)) (sym (ap (λ (b : Blocks). b.writes) said.whole ∙ ap (λ (bs : List Block). said.front ++ (written_by (later s now.stores) store bs).writes) none ∙ append-nil said.front)),
            ),
      );
    }

-- one is denied, and what was set before is given back
pub all_back : (policy : Policy) (store : ℕ) (all left rest : List Block) (block : Block) (m now tried back : KeptMap) (spare new : StoreMap) (count : ℕ) (denial : Denial) → m.ifr ≡ bytes_of policy → left ≡ block ∷ rest → spare ≡ m.stores
    → SetLeft policy store all left m now count → SetsBlock policy store block now tried (Err denial) → back ≡ changed_to tried spare → shape_of new ≡ shape_of spare → ((other at : ℕ) → AgreeAt new spare other at)
    → SetsBlocks policy store all m back new (Err denial)
all_back policy store all left rest block m now tried back spare new count denial own e same h sets changed shape agree =
    let left_is : back ≡ changed_to now m.stores = changed ∙ ap (λ (it : KeptMap). changed_to it spare) sets.0 ∙ ap (changed_to now) same in
    let stores : back.stores ≡ m.stores = ap (λ (it : KeptMap). it.stores) left_is in
    record {
      same_package = ap (λ (it : KeptMap). it.ifr) left_is ∙ h.same_package;
      shape = ap shape_of stores;
      kept_shape = shape ∙ ap shape_of same;
      alike = λ other at. ap (λ (ss : StoreMap). byte_of ss other at) (stores ∙ sym same) ∙ sym (agree other at);
      gives = (
        stores,
        λ first s text over.
            let said = h.writes s over in
            let later_on = over_later policy m.stores now.stores s over in
            let denies = sets.1 (later s now.stores) later_on in
            let ns : nodes_of now.ifr ≡ nodes_of s.ifr = ap nodes_of (h.same_package ∙ own ∙ over.ifr) in
            let last = difference now.stores m.stores in
            let all_of : written_by s store all ≡ record { writes = said.front ++ []; state = later s now.stores } =
            said.whole ∙ ap (λ (b : Blocks). record { writes = said.front ++ b.writes; state = b.state }) (ap (written_by (later s now.stores) store) e ∙ no_write (later s now.stores) store block rest denial denies) in (
              h.told first s text over ∙ ap (set_blocks first text store (later s now.stores)) e ∙ first_denies first (later s now.stores) text store block rest denial denies,
              ap (λ (it : KeptMap). it.renewed) left_is ∙ ap (λ (nodes : List Node). kept.counted now.renewed (renewals nodes last)) ns ∙ ap (λ (n : ℕ). kept.counted n (renewals (nodes_of s.ifr) last)) said.counted
                  ∙ sym (counted_all-append m.renewed (nodes_of s.ifr) said.front (last ∷ []))
                  ∙ ap (λ (ws : List Write). counted_all m.renewed (nodes_of s.ifr) (ws ++ last ∷ [])) (sym (append-nil said.front))
                  ∙ ap (λ (b : Blocks). counted_all m.renewed (nodes_of s.ifr) (b.writes ++ difference b.state.working m.stores ∷ [])) (sym all_of),
            ),
      );
    }

-- ---- a response

-- the spare stores follow the working ones
pub kept_alike : (policy : Policy) (store : ℕ) (blocks : List Block) (ifr : List ℕ) (m now : KeptMap) (new : StoreMap) {result : Result ℕ Denial} → AreBuffers (layout_in ifr).buffers → shape_of m.stores ≡ layout_in ifr
    → SetsBlocks policy store blocks m now new result → new ≡ now.stores
kept_alike policy store blocks ifr m now new sound laid sets =
    let shape : shape_of new ≡ layout_in ifr = sets.kept_shape ∙ laid in
    same_stores new now.stores (shape ∙ sym laid ∙ sym sets.shape) (subst (λ (sh : Shape). AreBuffers sh.buffers) (sym shape) sound) (λ other at. sym (sets.alike other at))

-- a session with other stores
abbrev with_stores : Shown → KeptMap → Shown
with_stores inside now = record { state = record inside.state { working = now.stores }; renewed = now.renewed }

pub routes : (policy : Policy) (inside s : Shown) (response : Header × List Block) (store : ℕ) (m now : KeptMap) (new : StoreMap) (result : Result ℕ Denial) → inside ≡ s → inside.state.working ≡ m.stores → inside.renewed ≡ m.renewed
    → store_named (nodes_of s.state.ifr) s.state.path response.0 ≡ Some store → IsOver policy m.stores s.state → SetsBlocks policy store response.1 m now new result → Routes s response (with_stores inside now) result
routes policy inside s response store m now new (Ok count) view stores number named over sets =
    let said = sets.gives.1 s.state s.state (count_text (length response.1)) over in
    let answer : route_to s.state response.1 (Some store) ≡ accepted (record s.state { working = now.stores }) (count_text (length response.1)) = said.0 in (
      ap (route_to s.state response.1) named
          ∙ answer
          ∙ ap (λ (t : Shown). accepted (record t.state { working = now.stores }) (count_text (length response.1))) (sym view)
          ∙ ap (λ (n : ℕ). accepted (record inside.state { working = now.stores }) (count_text n)) (sym sets.gives.0),
      said.1 ∙ ap (λ (n : ℕ). counted_all n (nodes_of s.state.ifr) (written_by s.state store response.1).writes) (sym number ∙ ap (λ (t : Shown). t.renewed) view)
          ∙ ap (counted_all s.renewed (nodes_of s.state.ifr)) (sym (ap (route_writes s.state response.1) named ∙ ap (λ (o : Outcome). and_back s.state (written_by s.state store response.1) o.reply) answer)),
    )
routes policy inside s response store m now new (Err denial) view stores number named over sets =
    let said = sets.gives.1 s.state s.state (count_text (length response.1)) over in
    let answer : route_to s.state response.1 (Some store) ≡ denied s.state denial = said.0 in (
      ap (route_to s.state response.1) named ∙ answer,
      ap (λ (ss : StoreMap). record inside.state { working = ss }) (sets.gives.0 ∙ sym stores) ∙ ap (λ (t : Shown). t.state) view,
      said.1 ∙ ap (λ (n : ℕ). counted_all n (nodes_of s.state.ifr) ((written_by s.state store response.1).writes ++ difference (written_by s.state store response.1).state.working m.stores ∷ [])) (sym number ∙ ap (λ (t : Shown). t.renewed) view)
          ∙ ap (λ (ss : StoreMap). counted_all s.renewed (nodes_of s.state.ifr) ((written_by s.state store response.1).writes ++ difference (written_by s.state store response.1).state.working ss ∷ [])) over.working_is
          ∙ ap (counted_all s.renewed (nodes_of s.state.ifr)) (sym (ap (route_writes s.state response.1) named ∙ ap (λ (o : Outcome). and_back s.state (written_by s.state store response.1) o.reply) answer)),
    )
