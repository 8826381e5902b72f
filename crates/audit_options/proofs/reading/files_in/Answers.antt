use Rattle.std.proofs.Common.{◌∙◌, List, [], Option, ap, codes, map, option_map, unwrap_or}
use Rattle.std.specs.Borrow.{Bor}
use Rattle.clap.specs.Words.{Text, found_of}
use Rattle.audit_options.proofs.ReadingLemmas.{words_read}
use Rattle.audit_options.proofs.reading.files_in.Goals as goal

pub returns-in-Some : goal.returns-in-Some
returns-in-Some c =
    let words = words_read (found_of c.args.options.now) (codes "store") c.get_strs.result c.get_strs.ensures in
    let given = words ∙ ap (λ (o : Option (Bor (List (Bor Text)))). unwrap_or (option_map (λ s. map (λ v. v.now) s.now) o) []) c.in-Some.is in
    rw given (rw c.in-Some.words-is at c.store_files.ensures)

pub returns-in-None : goal.returns-in-None
returns-in-None c =
    let words = words_read (found_of c.args.options.now) (codes "store") c.get_strs.result c.get_strs.ensures in
    let given = words ∙ ap (λ (o : Option (Bor (List (Bor Text)))). unwrap_or (option_map (λ s. map (λ v. v.now) s.now) o) []) c.in-None.is in
    rw (given, c.new.ensures.items) tt
