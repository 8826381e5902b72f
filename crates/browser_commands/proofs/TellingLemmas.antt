-- Which blocks of a store are told.
use Rattle.std.proofs.Common.{Bor, eqb, Ok, ◌^◌, find, ◌≡◌, ℕ, ◌+◌, ◌<◌, ◌≤◌, true, List, [], ◌∷◌, length, Option, Some, None, Err, option_map, refl, sym, ap, subst, ◌∙◌, arith, inl, inr}
use Rattle.std.specs.Prelude.{IfSome, option_copied}
use Rattle.std.specs.List.{AllByRecursion}
use Rattle.std.specs.Option.{ok_or, unwrap_or}
use Rattle.std.proofs.lemmas.Bool.{cases_Bool, cases_lt, lt-ltb}
use Rattle.browser_rules.specs.Configuration.{Header, Block, blocks_asked}
use Rattle.config_text.specs.Written.{AreInside}
use Rattle.ifr_opcodes.specs.Forest.{Node}
use Rattle.ifr_nodes.specs.Nodes.{nodes_of}
use Rattle.hii_varstore.specs.code.Table.{AreBuffers}
use Rattle.hii_varstore.specs.declared.buffer.Buffer.{Buffer}
use Rattle.hii_varstore.specs.Stores.{StoreMap, shape_of, bytes_of}
use Rattle.hii_varstore.proofs.WriteLemmas.{sizes}
use Rattle.guard_policy.specs.Policy.{or_else}
use Rattle.guard_policy.specs.code.Answers.{unless}
use Rattle.guard_policy.proofs.DenialLemmas.{some_of}
use Rattle.guard_policy.specs.declared.denial.Denial.{Denial}
use Rattle.session_steps.specs.Configuration.{leaves_store, store_named}
use Rattle.session_steps.specs.Step.{telling_denial, first_untold, configuration_text, extract_unless, extract_bytes, extract_from}
use Rattle.browser_commands.specs.code.Standing.{IsTold, IsUntold}
use Rattle.session_steps.specs.State.{State}

both_none : (a b : Option Denial) → or_else a b ≡ None → (a ≡ None) × (b ≡ None)
both_none None b e = (refl, e)
both_none (Some d) b e = absurd cc

-- a block that is told lies in the store
inside : (ns : List Node) (store size : ℕ) (block : Block) → telling_denial ns store size block ≡ None → block.offset + block.width ≤ size
inside ns store size block e = elim (cases_lt size (block.offset + block.width)) [
  | inl past ↦ let out : leaves_store size block ≡ true = lt-ltb _ _ past in let bad = rw out at e in absurd (cc)
  | inr within ↦ within
]

all_inside : (ns : List Node) (store size : ℕ) (blocks : List Block) → first_untold ns store size blocks ≡ None → AreInside blocks size
all_inside ns store size [] e = tt
all_inside ns store size (block ∷ blocks) e =
    let both = both_none (telling_denial ns store size block) (first_untold ns store size blocks) e in
    (inside ns store size block both.0, all_inside ns store size blocks both.1)

-- the blocks of a request that is answered lie in the store
pub asked_inside : (ns : List Node) (store size : ℕ) (areas : List Block) → first_untold ns store size (blocks_asked areas size) ≡ None → AreInside areas size
asked_inside ns store size [] e = tt
asked_inside ns store size (area ∷ areas) e = all_inside ns store size (area ∷ areas) e

-- the first of some blocks that may not be told
pub first_denies : (ns : List Node) (store size : ℕ) (block : Block) (left rest all : List Block) (denial : Denial) → left ≡ block ∷ rest → first_untold ns store size left ≡ first_untold ns store size all
    → Err denial ≡ unless (telling_denial ns store size block) → Err denial ≡ unless (first_untold ns store size all)
first_denies ns store size block left rest all denial e same why =
    let some = some_of (telling_denial ns store size block) denial (sym why) in
    let here : first_untold ns store size left ≡ Some denial = ap (first_untold ns store size) e ∙ ap (λ o. or_else o (first_untold ns store size rest)) some in
    ap unless (sym here ∙ same)

-- ---- the store that a header names

pub some_store : (o : Option ℕ) (store : ℕ) (d : Denial) → Ok store ≡ ok_or o d → o ≡ Some store
some_store None store d e = absurd cc
some_store (Some n) store d e = let same : store ≡ n = cc in ap Some (sym same)

pub no_store : (o : Option ℕ) (d e : Denial) → Err e ≡ ok_or o d → (o ≡ None) × (e ≡ d)
no_store None d e same = (refl, cc)
no_store (Some n) d e same = absurd cc

-- ---- its bytes

found_small : (bs : List Buffer) (id : ℕ) → AllByRecursion (λ (b : Buffer). (b.id < 2 ^ 16) × (b.size < 2 ^ 16)) bs → IfSome (option_map (λ (b : Buffer). b.size) (find (λ b. eqb b.id id) bs)) (λ size. size < 2 ^ 16)
found_small [] id fit = tt
found_small (b ∷ bs) id fit = elim (cases_Bool (eqb b.id id)) [ inl is ↦ rw is fit.0.1 | inr other ↦ rw other (found_small bs id fit.1) ]

bytes_small : (o : Option (List ℕ)) → IfSome (option_map length o) (λ size. size < 2 ^ 16) → length (unwrap_or o []) < 2 ^ 16
bytes_small None h = omega arith
bytes_small (Some bytes) h = h

-- a store has less bytes than its size can tell
pub store_small : (m : StoreMap) (id : ℕ) → AreBuffers (shape_of m).buffers → length (unwrap_or (bytes_of m id) []) < 2 ^ 16
store_small m id sound = bytes_small (bytes_of m id) (subst (λ o. IfSome o (λ size. size < 2 ^ 16)) (sizes m id) (found_small (shape_of m).buffers id sound.fit))

pub bytes_there : (o : Option (Bor (List ℕ))) (d : Bor (List ℕ)) → (unwrap_or o d).now ≡ unwrap_or (option_copied o) d.now
bytes_there None d = refl
bytes_there (Some b) d = refl

-- ---- what is answered

pub is_told : (s : State) (request : Header × List Block) (store : ℕ) (bytes : List ℕ) → store_named (nodes_of s.ifr) s.path request.0 ≡ Some store → bytes ≡ unwrap_or (bytes_of s.committed store) []
    → length bytes < 2 ^ 16 → first_untold (nodes_of s.ifr) store (length bytes) (blocks_asked request.1 (length bytes)) ≡ None → IsTold s request bytes
is_told s request store bytes named same small none = record {
  small = small;
  inside = asked_inside (nodes_of s.ifr) store (length bytes) request.1 none;
  answer = ap (extract_from s request) named ∙ ap (extract_bytes s request store) (sym same) ∙ ap (extract_unless s (configuration_text request bytes)) none;
}

pub is_untold : (s : State) (request : Header × List Block) (store : ℕ) (bytes : List ℕ) (denial : Denial) → store_named (nodes_of s.ifr) s.path request.0 ≡ Some store → bytes ≡ unwrap_or (bytes_of s.committed store) []
    → first_untold (nodes_of s.ifr) store (length bytes) (blocks_asked request.1 (length bytes)) ≡ Some denial → IsUntold s request denial
is_untold s request store bytes denial named same some =
    ap (extract_from s request) named ∙ ap (extract_bytes s request store) (sym same) ∙ ap (extract_unless s (configuration_text request bytes)) some
