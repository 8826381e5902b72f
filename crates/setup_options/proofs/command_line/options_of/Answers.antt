use Rattle.std.proofs.Common.{ap, codes, ◌∙◌}
use Rattle.std.specs.Str.Parse.{ExplainsUnsignedError, HasUnsignedDigitsIfOk, ParsesUnsigned}
use Rattle.clap.specs.Words.{found_of}
use Rattle.clap.proofs.WalkLemmas.{one_text-rows}
use Rattle.setup_options.proofs.CommandLemmas.{first_of-unwrap, first_of-unwrap_or, unwrap_or-numeral}
use Rattle.setup_options.proofs.command_line.options_of.Goals as goal

pub returns : goal.returns
returns c =
    let found = found_of c.args.matches.now in
    record {
      list = first_of-unwrap found (codes "list") _ _ c.get_str.ensures c.unwrap.ensures;
      stores = first_of-unwrap found (codes "stores") _ _ c.get_str-2.ensures c.unwrap-2.ensures;
      out = first_of-unwrap found (codes "out") _ _ c.get_str-3.ensures c.unwrap-3.ensures;
      forms = λ text is numeral small.
          c.unwrap_or.ensures ∙ unwrap_or-numeral _ (λ t r. ParsesUnsigned 16 10 t r × ExplainsUnsignedError 10 t r × HasUnsignedDigitsIfOk t r) text c.get_one.result (λ t x g. g.0)
          (c.get_one.ensures.value text (one_text-rows found (codes "forms") ∙ is)) numeral small;
      lang = ap (λ s. s.now) c.unwrap_or-2.ensures ∙ first_of-unwrap_or found (codes "lang") _ _ c.get_str-4.ensures;
    }
