use Rattle.std.proofs.Common.{List, ap, ◌∙◌}
use Rattle.hii_bytes.specs.code.IdTables.{number_with}
use Rattle.hii_bytes.specs.declared.id_table.IdEntry.{IdEntry}
use Rattle.ifr_nodes.specs.Nodes.{nodes_of}
use Rattle.ifr_nodes.proofs.FormTableLemmas.{place_with}
use Rattle.ifr_index.proofs.tables.Tables.index.Goals as goal

pub returns : goal.returns
returns c =
    let all = c.requires.all in
    record {
      entries = c.shrink_to_fit.ensures.items ∙ c.lock_entries.ensures;
      guards = c.shrink_to_fit-2.ensures.items ∙ all.guards;
      conditions = c.shrink_to_fit-3.ensures.items ∙ all.conditions;
      forms = λ id. c.in_ok-of.ensures id ∙ ap (λ (l : List IdEntry). number_with l id) all.forms ∙ place_with (nodes_of c.args.ifr.now) id;
      stores = all.stores;
      rules = all.rules;
      giving = all.giving;
      referred = λ known. c.are_referred-referred.ensures known (nodes_of c.args.ifr.now) all;
    }
