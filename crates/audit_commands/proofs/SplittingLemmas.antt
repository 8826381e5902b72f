-- A list that is taken out of a dump.
use Rattle.std.proofs.Common.{◌≡◌, ℕ, Bool, true, false, List, [], Option, None, Some, refl, subst}
use Rattle.std.specs.Io.Buffered.{writer_buffer, writer_contents}
use Rattle.std.specs.declared.io.BufWriter.{BufWriter}
use Rattle.hii_bytes.specs.declared.watched.Watched.{Watched}
use Rattle.hii_bytes.specs.Watching.{has_failed, inner_of, pen_of}
use Rattle.hii_dumps.specs.Dumps.{Entry}
use Rattle.dump_audit.specs.Lines.{list_told, no_list_told}
use Rattle.audit_json.specs.declared.telling.Telling.{Telling}
use Rattle.dump_audit.specs.Lines.{list_told, no_list_told}
use Rattle.audit_json.specs.declared.telling.Telling.{Telling}
use Rattle.dump_audit.specs.Taking.{IsNth, TakesBytes, TellsList}
use Rattle.audit_answers.specs.declared.ended.Ended.{Ended}
use Rattle.audit_answers.specs.declared.ended.Ended.TheVariants.{Refused, WriteAnswers}
use Rattle.audit_answers.specs.Endings.{TellsAndWrites}
use Rattle.audit_commands.specs.Splitting.{IsTaken, SaysTaken}
use Rattle.audit_answers.specs.code.Endings.{Commits, PassesFrom}
use Rattle.audit_answers.proofs.EndingLemmas.{left, tells_and_writes, tells_refused}

module _ {A Z O : Type 0} (telling : Telling) (contents : A → Option (List ℕ)) (file : O → Option (List ℕ)) (dump : List ℕ) (number : ℕ)
    (start new : Watched (BufWriter A Z)) (old mid last : Watched O) (ended : Ended) where
  -- there is such a list
  pub takes : (list : Option Entry) → IsNth dump number list → TellsList telling number list true (pen_of (writer_contents contents) start) (pen_of (writer_contents contents) new)
      → TakesBytes list (has_failed new) file old mid → (has_failed new ≡ false → writer_buffer (inner_of new) ≡ [])
      → (has_failed new ≡ true → (ended ≡ WriteAnswers) × (last ≡ mid)) → (has_failed new ≡ false → Commits file mid ended last)
      → TellsAndWrites (SaysTaken telling dump number) contents file start old ended new last
  takes None nth told taken held unwritten commits = let bad : true ≡ false = told.0 in cc
  takes (Some list) nth told taken held unwritten commits =
      let is : IsTaken telling dump number list.bytes (list_told telling number record { entry = list; finding = told.1 }) =
      record { list = list; nth = nth; finding = told.1; found = told.2; told_is = refl; taken = refl } in
      tells_and_writes (SaysTaken telling dump number) contents file start new old mid last told.3.between list.bytes _ ended is is told.3.written told.3.passed held
      (λ broken. subst (λ (b : Bool). TakesBytes (Some list) b file old mid) broken taken) unwritten commits
      (λ sound. left file old mid last list.bytes ended (subst (λ (b : Bool). TakesBytes (Some list) b file old mid) sound taken) (commits sound))

-- there is none
pub takes_none : {A Z O : Type 0} (telling : Telling) (contents : A → Option (List ℕ)) (file : O → Option (List ℕ)) (dump : List ℕ) (number : ℕ)
    → (start told_to new : Watched (BufWriter A Z)) (old mid : Watched O) (failed : Bool) (ended : Ended) (list : Option Entry) → IsNth dump number list
    → TellsList telling number list false (pen_of (writer_contents contents) start) (pen_of (writer_contents contents) told_to) → TakesBytes list failed file old mid
    → PassesFrom contents Refused (pen_of (writer_contents contents) told_to) ended new → TellsAndWrites (SaysTaken telling dump number) contents file start old ended new mid
takes_none telling contents file dump number start told_to new old mid failed ended None nth told taken passed =
    tells_refused (SaysTaken telling dump number) contents file start new old mid (pen_of (writer_contents contents) told_to) ended (no_list_told telling number) (nth, refl) told.1 passed taken
takes_none telling contents file dump number start told_to new old mid failed ended (Some list) nth told taken passed = let bad : false ≡ true = told.0 in cc
