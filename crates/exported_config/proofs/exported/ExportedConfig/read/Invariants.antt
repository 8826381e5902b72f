use Rattle.std.proofs.Common.{◌≡◌, filter, map}
use Rattle.exported_config.specs.Giving.{is_other, is_own}
use Rattle.exported_config.specs.code.Views.{named_view, responses_view}
use Rattle.exported_config.proofs.exported.ExportedConfig.read.Given as goal

-- the responses so far that count
abbrev pub invariant-loop-response : goal.invariant-loop-response
invariant-loop-response l =
    (responses_view l.config.own.items ≡ filter (is_own (map named_view l.stores)) (responses_view l.yielded))
    × (responses_view l.config.others.items ≡ filter (is_other (map named_view l.stores)) (responses_view l.yielded))
