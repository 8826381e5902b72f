-- The response to a request, over a store (own rule).
use Rattle.std.specs.Prelude.{ℕ, ◌+◌, ◌≤◌, ⊤, List, [], ◌∷◌, length}
use Rattle.browser_rules.specs.Configuration.{Header, Block, blocks_asked, response_text}

-- the response to a request, over the bytes of a store
abbrev pub response_to : Header × List Block → List ℕ → List ℕ
response_to (header, blocks) store = response_text header (blocks_asked blocks (length store)) store

-- the blocks lie in a store of so many bytes
abbrev pub AreInside : List Block → ℕ → Type 0
AreInside [] size = ⊤
AreInside (block ∷ blocks) size = (block.offset + block.width ≤ size) × AreInside blocks size
