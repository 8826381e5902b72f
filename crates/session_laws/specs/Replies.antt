-- How the code answers a command, as the chapters say it.
use Rattle.browser_rules.specs.Session as chapter
use Rattle.hii_bytes.specs.Causes.{cause_for}
use Rattle.rules_laws.specs.Denials.{denial_for}
use Rattle.session_steps.specs.declared.reply.Reply.{Reply}
use Rattle.session_steps.specs.declared.reply.Reply.TheVariants.{Accepted, Denied, Refused}

abbrev pub reply_for : Reply → chapter.Reply
reply_for Accepted = chapter.Accepted
reply_for (Denied denial) = chapter.Denied (denial_for denial)
reply_for (Refused cause) = chapter.Refused (cause_for cause)
