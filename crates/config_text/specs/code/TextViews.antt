-- What requests and responses stand for.
use Rattle.std.specs.Prelude.{List}
use Rattle.browser_rules.specs.Configuration.{Header, Block}
use Rattle.config_text.specs.code.Views.{header_view}
use Rattle.config_text.specs.code.Elements.{areas_of}
use Rattle.config_text.specs.declared.kind.TextKind.TheVariants.{Ask, Tell}
use Rattle.config_text.specs.declared.request.Request.{Request}
use Rattle.config_text.specs.declared.response.Response.{Response}

-- what the header of a request names, and its blocks
abbrev pub request_view : Request → Header × List Block
request_view request = (header_view request.header, areas_of Ask request.elements.now)

-- what the header of a response names, and its blocks
abbrev pub response_view : Response → Header × List Block
response_view response = (header_view response.header, areas_of Tell response.elements.now)
