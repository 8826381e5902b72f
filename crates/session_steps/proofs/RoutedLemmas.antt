-- What the commands on configuration texts leave.
use Rattle.std.proofs.Common.{◌≡◌, ℕ, List, [], ◌∷◌, Option, Some, None, Result, Ok, Err, refl, sym, subst, length}
use Rattle.hii_bytes.specs.declared.cause.Cause.{Cause}
use Rattle.browser_rules.specs.Configuration.{Header, Block, blocks_asked}
use Rattle.ifr_nodes.specs.Nodes.{nodes_of}
use Rattle.hii_varstore.specs.Stores.{bytes_of}
use Rattle.std.specs.Option.{unwrap_or}
use Rattle.guard_policy.specs.declared.denial.Denial.{Denial}
use Rattle.session_steps.specs.Configuration.{store_named}
use Rattle.session_steps.specs.State.{State}
use Rattle.session_steps.specs.Step.{Outcome, set_block, set_blocks, go_on, configuration_text, extract_unless, extract_from, extract_reading, first_untold}
use Rattle.session_steps.specs.declared.reply.Reply.{Reply}
use Rattle.session_steps.specs.declared.reply.Reply.TheVariants.{Accepted, Denied, Refused}
use Rattle.session_steps.proofs.GoLemmas.{LeavesStores, leaves_all}

-- ---- extract

unless_state : (s : State) (text : List ℕ) (o : Option Denial) → (extract_unless s text o).state ≡ s
unless_state s text (Some d) = refl
unless_state s text None = refl

from_state : (s : State) (request : Header × List Block) (o : Option ℕ) → (extract_from s request o).state ≡ s
from_state s request None = refl
from_state s request (Some store) =
    let bytes = unwrap_or (bytes_of s.committed store) [] in
    unless_state s (configuration_text request bytes) (first_untold (nodes_of s.ifr) store (length bytes) (blocks_asked request.1 (length bytes)))

-- the state stays
pub extract_state : (s : State) (r : Result (Header × List Block) Cause) → (extract_reading s r).state ≡ s
extract_state s (Err cause) = refl
extract_state s (Ok request) = from_state s request (store_named (nodes_of s.ifr) s.path request.0)

pub extract_leaves : (s : State) (r : Result (Header × List Block) Cause) → LeavesStores s (extract_reading s r).state
extract_leaves s r = subst (LeavesStores s) (sym (extract_state s r)) (leaves_all s)

-- ---- route

on_holds : (P : State → Type 0) (before : State) (r : Reply) (next : Outcome) → P before → P next.state → P (go_on before r next).state
on_holds P before Accepted next first later = later
on_holds P before (Denied d) next first later = first
on_holds P before (Refused cause) next first later = first

-- what holds before some blocks, and is kept by each, holds after them
pub blocks_end : (P : State → Type 0) (before s : State) (text : List ℕ) (store : ℕ) (blocks : List Block) → P before → P s → ((t : State) (block : Block) → P t → P (set_block t store block).state) → P (set_blocks before text store s blocks).state
blocks_end P before s text store [] first now keep = now
blocks_end P before s text store (block ∷ blocks) first now keep =
    let next = (set_block s store block).state in
    on_holds P before (set_block s store block).reply (set_blocks before text store next blocks) first (blocks_end P before next text store blocks first (keep s block now) keep)
