use Rattle.std.proofs.Common.{◌≡◌, drop}
use Rattle.exported_config.specs.Giving.{other_name}
use Rattle.exported_config.specs.code.Views.{responses_view}
use Rattle.exported_config.proofs.exported.ExportedConfig.other_name.Given as goal

-- the first of the responses that are left is that of all
abbrev pub invariant-loop-response : goal.invariant-loop-response
invariant-loop-response l =
    other_name (responses_view (drop l.response-index l.self.others.items)) l.guid
    ≡ other_name (responses_view l.self.others.items) l.guid
