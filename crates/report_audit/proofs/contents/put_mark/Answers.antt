use Rattle.hii_bytes.proofs.WritingLemmas.{◌⨾◌, writes_nil}
use Rattle.report_audit.proofs.contents.put_mark.Goals as goal

pub returns-in-Open : goal.returns-in-Open
returns-in-Open g c = rw c.in-Open.is (writes_nil _)

pub returns-in-Hidden : goal.returns-in-Hidden
returns-in-Hidden g c = rw c.in-Hidden.is (c.put.ensures ⨾ c.put_denial.ensures ⨾ c.put-in-Hidden.ensures)

pub returns-in-Closed : goal.returns-in-Closed
returns-in-Closed g c = rw c.in-Closed.is (c.put-in-Closed.ensures ⨾ c.put_denial-in-Closed.ensures ⨾ c.put-in-Closed-2.ensures)

pub returns-in-Below : goal.returns-in-Below
returns-in-Below g c = rw c.in-Below.is c.put-in-Below.ensures

pub returns-in-Unnamed : goal.returns-in-Unnamed
returns-in-Unnamed g c = rw c.in-Unnamed.is c.put-in-Unnamed.ensures
