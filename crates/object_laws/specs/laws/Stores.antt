-- Names under which stores stand in a configuration text, each byte of which is a character.
use Rattle.std.specs.Prelude.{IfSome, ⊤}
use Rattle.hii_bytes.specs.Numbers.{AreBytes}
use Rattle.store_audit.specs.declared.fillings.Source.{Source}
use Rattle.store_audit.specs.declared.fillings.Source.TheVariants.{File, Config, Zeros, Missing}

abbrev pub HasAlias : Source → Type 0
HasAlias (File path bytes is_variable) = ⊤
HasAlias (Config given) = IfSome given.alias (λ name. AreBytes name.items)
HasAlias Zeros = ⊤
HasAlias Missing = ⊤
