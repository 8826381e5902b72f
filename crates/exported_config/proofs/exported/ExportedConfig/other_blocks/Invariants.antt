use Rattle.std.proofs.Common.{◌≡◌, ◌++◌, drop, map}
use Rattle.exported_config.specs.Giving.{blocks_of}
use Rattle.exported_config.specs.code.Views.{block_view, responses_view}
use Rattle.exported_config.proofs.exported.ExportedConfig.other_blocks.Given as goal

-- the blocks so far, and behind them those of the responses that are left, are those of all
abbrev pub invariant-loop-response : goal.invariant-loop-response
invariant-loop-response l =
    map block_view l.blocks.items ++ blocks_of (responses_view (drop l.response-index l.self.others.items)) l.guid l.name
    ≡ blocks_of (responses_view l.self.others.items) l.guid l.name
