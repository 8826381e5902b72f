-- A command of the code, and why a line is none, in the words of the rules (own rule).
use Rattle.std.specs.Prelude.{⊤}
use Rattle.browser_rules.specs.Script as script
use Rattle.browser_rules.specs.Words as words
use Rattle.hii_bytes.specs.NumberList.{IsList, numbers_of}
use Rattle.hii_bytes.specs.declared.cause.Cause.{Cause}
use Rattle.hii_bytes.specs.declared.cause.Cause.TheVariants as cause
use Rattle.hii_commands.specs.declared.command.Command.{Command}
use Rattle.hii_commands.specs.declared.command.Command.TheVariants.{Page, Set, Order, Text, Why, Go, Back, Press, Defaults, Extract, Route, Lang, Submit, Discard}
use Rattle.hii_commands.specs.declared.command.BadLine.{BadLine}
use Rattle.hii_commands.specs.declared.command.BadLine.TheVariants.{BadCommand, LineTooLong}

-- the command of the rules, without where its bytes lie
abbrev pub command_meant : Command → script.Command
command_meant Page = script.Page
command_meant (Set q z) = script.Set q z
command_meant (Order q list) = script.Order q (numbers_of list.now)
command_meant (Text q text) = script.Text q text.now
command_meant (Why q) = script.Why q
command_meant (Go q) = script.Go q
command_meant Back = script.Back
command_meant (Press row) = script.Press row
command_meant (Defaults class) = script.Defaults class
command_meant (Extract text) = script.Extract text.now
command_meant (Route text) = script.Route text.now
command_meant (Lang language) = script.Lang language.now
command_meant Submit = script.Submit
command_meant Discard = script.Discard

-- The list that a command has is a list of numbers.
abbrev pub HasList : Command → Type 0
HasList Page = ⊤
HasList (Set q z) = ⊤
HasList (Order q list) = IsList list.now
HasList (Text q text) = ⊤
HasList (Why q) = ⊤
HasList (Go q) = ⊤
HasList Back = ⊤
HasList (Press row) = ⊤
HasList (Defaults class) = ⊤
HasList (Extract text) = ⊤
HasList (Route text) = ⊤
HasList (Lang language) = ⊤
HasList Submit = ⊤
HasList Discard = ⊤

-- the cause of the rules, and that of the code, by which a line is refused
abbrev pub cause_meant : BadLine → words.Cause
cause_meant BadCommand = words.BadCommand
cause_meant LineTooLong = words.LineTooLong

abbrev pub cause_of : BadLine → Cause
cause_of BadCommand = cause.BadCommand
cause_of LineTooLong = cause.LineTooLong
