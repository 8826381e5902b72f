use Rattle.session_tests.proofs.pages.page_is_shown.Goals as goal

pub new-page-requires-clause-told : goal.new-page-requires-clause-told
new-page-requires-clause-told g c = rw (c.over-conditions.ensures.policy, c.over-conditions.ensures.stores) c.over-conditions.ensures.tells
