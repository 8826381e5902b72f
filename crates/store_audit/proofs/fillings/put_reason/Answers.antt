use Rattle.store_audit.proofs.fillings.put_reason.Goals as goal

pub returns-in-File : goal.returns-in-File
returns-in-File g c = rw c.in-File.is (rw c.in-File.is at c.put_counts.ensures)

pub returns-in-Zeros : goal.returns-in-Zeros
returns-in-Zeros g c = rw c.in-Zeros.is (rw c.in-Zeros.is at c.put_counts-in-Zeros.ensures)

pub returns-in-Missing : goal.returns-in-Missing
returns-in-Missing g c = rw c.in-Missing.is c.put.ensures

pub returns-in-Config : goal.returns-in-Config
returns-in-Config g c = rw c.in-Config.is (rw c.in-Config.is at c.put_counts-in-Config.ensures)
