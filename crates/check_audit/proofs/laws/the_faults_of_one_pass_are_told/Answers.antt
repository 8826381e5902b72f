use Rattle.check_audit.proofs.RefusalLemmas.{are_questions, are_references, are_stores}
use Rattle.check_audit.proofs.laws.the_faults_of_one_pass_are_told.Goals as goal

pub returns-clause-references : goal.returns-clause-references
returns-clause-references c = are_references

pub returns-clause-stores : goal.returns-clause-stores
returns-clause-stores c = are_stores

pub returns-clause-questions : goal.returns-clause-questions
returns-clause-questions c = are_questions
