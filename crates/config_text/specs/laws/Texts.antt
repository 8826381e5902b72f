-- Laws of configuration texts.
use Rattle.std.specs.Prelude.{◌≡◌, ◌↔◌, ◌⊎◌, ℕ, ◌^◌, ◌<◌, Bool, true, false, List, length, map, Ok, Err}
use Rattle.std.specs.Str.Parse.{digits_value}
use Rattle.hex.specs.Hex.{IsBytes}
use Rattle.hii_bytes.specs.Numbers.{number_in}
use Rattle.hii_bytes.specs.declared.cause.Cause.{Cause}
use Rattle.browser_rules.specs.Configuration.{Header, Block, blocks_asked, request_in, response_in}
use Rattle.browser_rules.specs.Words as words
use Rattle.config_text.specs.laws.Grammar.{IsConfiguration}
use Rattle.config_text.specs.laws.Faults.{IsConfigurationFault}
use Rattle.config_text.specs.Reading.{configuration_in}
use Rattle.config_text.specs.Written.{AreInside, response_to}
use Rattle.config_text.specs.code.Written.{bytes_of_area, value_digits}
use Rattle.config_text.specs.declared.kind.TextKind.{TextKind}
use Rattle.config_text.specs.declared.kind.TextKind.TheVariants.{Ask, Tell}

-- The rules read just the texts of the grammar.
abbrev pub ReadsTexts : Type 0
ReadsTexts = (kind : TextKind) (text : List ℕ) (named : Header) (areas : List Block)
    → IsConfiguration kind text named areas ↔ (configuration_in kind text ≡ Ok (named, areas))

-- They tell just the leftmost fault of the others.
abbrev pub TellsFaults : Type 0
TellsFaults = (kind : TextKind) (text : List ℕ) (cause : Cause)
    → IsConfigurationFault kind text cause ↔ (configuration_in kind text ≡ Err cause)

-- a cause by which the rules refuse a text
abbrev pub is_of_texts : words.Cause → Bool
is_of_texts words.BadHeader = true
is_of_texts words.BadElement = true
is_of_texts words.BadNumber = true
is_of_texts words.ValueWidth = true
is_of_texts _ = false

-- They refuse a text by no other cause, so that `text_cause` takes each for the one of its name.
abbrev pub RefusesByFour : Type 0
RefusesByFour = (text : List ℕ) (told : words.Cause)
    → (request_in text ≡ Err told) ⊎ (response_in text ≡ Err told) → is_of_texts told ≡ true

-- A text has one header and one list of blocks.
abbrev pub SaysOneThing : Type 0
SaysOneThing = (kind : TextKind) (text : List ℕ) (named other : Header) (areas others : List Block)
    → IsConfiguration kind text named areas → IsConfiguration kind text other others
    → (named ≡ other) × (areas ≡ others)

-- A text has one fault at most.
abbrev pub HasOneFault : Type 0
HasOneFault = (kind : TextKind) (text : List ℕ) (cause other : Cause)
    → IsConfigurationFault kind text cause → IsConfigurationFault kind text other → cause ≡ other

-- A text of the grammar has no fault.
abbrev pub HasNoFault : Type 0
HasNoFault = (kind : TextKind) (text : List ℕ) (cause : Cause) (named : Header) (areas : List Block)
    → IsConfigurationFault kind text cause → IsConfiguration kind text named areas → ⊥

-- a block with its value in a store
abbrev pub area_with_value : List ℕ → Block → Block
area_with_value store area =
    record { offset = area.offset; width = area.width; digits = value_digits (bytes_of_area store area) }

-- the blocks of the response to a request
abbrev pub areas_with_values : List Block → List ℕ → List Block
areas_with_values areas store = map (area_with_value store) (blocks_asked areas (length store))

-- The written response to a request is a response with the request's header and its blocks, or the whole store as one where
-- it has none, each with its value in the store.
abbrev pub ReadsResponsesBack : Type 0
ReadsResponsesBack = (text : List ℕ) (named : Header) (areas : List Block) (store : List ℕ)
    → IsConfiguration Ask text named areas → IsBytes store → length store < 2 ^ 16 → AreInside areas (length store)
    → IsConfiguration Tell (response_to (named, areas) store) named (areas_with_values areas store)

-- The written value of bytes is their number, the lowest byte first.
abbrev pub WritesNumbers : Type 0
WritesNumbers = (bytes : List ℕ) → IsBytes bytes
    → digits_value 16 (value_digits bytes) ≡ number_in bytes 0 (length bytes)
