-- What a configuration text is read as: what the rules say, with its cause as one of the code.
use Rattle.std.specs.Prelude.{ℕ, List, Result, Ok, Err}
use Rattle.browser_rules.specs.Configuration.{Header, Block, request_in, response_in}
use Rattle.browser_rules.specs.Words as words
use Rattle.hii_bytes.specs.declared.cause.Cause.{Cause}
use Rattle.hii_bytes.specs.declared.cause.Cause.TheVariants.{BadHeader, BadElement, BadNumber, ValueWidth}
use Rattle.config_text.specs.declared.kind.TextKind.{TextKind}
use Rattle.config_text.specs.declared.kind.TextKind.TheVariants.{Ask, Tell}

-- A text is refused by BadHeader or by one of the other three.
abbrev pub text_cause : words.Cause → Cause
text_cause words.BadElement = BadElement
text_cause words.BadNumber = BadNumber
text_cause words.ValueWidth = ValueWidth
text_cause _ = BadHeader

abbrev pub as_told : {X : Type 0} → Result X words.Cause → Result X Cause
as_told (Ok x) = Ok x
as_told (Err cause) = Err (text_cause cause)

-- its header and its blocks, or its leftmost fault
abbrev pub configuration_in : TextKind → List ℕ → Result (Header × List Block) Cause
configuration_in Ask text = as_told (request_in text)
configuration_in Tell text = as_told (response_in text)
