-- What a session is seen as by the chapters, part by part.
use Rattle.std.proofs.Common.{◌≡◌, ℕ, Option, List, refl}
use Rattle.browser_rules.specs.Session as chapter
use Rattle.ifr_nodes.specs.Nodes.{nodes_of}
use Rattle.hii_varstore.specs.Stores.{StoreMap}
use Rattle.rules_laws.specs.laws.Policy.{AnswerAlike, AreAlike}
use Rattle.rules_laws.specs.laws.Stores.{stores_for}
use Rattle.rules_laws.proofs.PolicyConditionLemmas.{worlds_alike}
use Rattle.rules_laws.proofs.QuestionLemmas.{all_answers_same}
use Rattle.session_steps.specs.State.{State, world_of, world_with}
use Rattle.session_steps.specs.Step.{form_of}
use Rattle.session_laws.specs.laws.Session.{AreStored, Stands, state_for}
use Rattle.session_laws.proofs.StoredLemmas.{small_answers}

-- ---- parts

pub ifr_is : (s : State) → (state_for s).ifr ≡ s.ifr
unfolding state_for
ifr_is s = refl

pub path_is : (s : State) → (state_for s).path ≡ s.path
unfolding state_for
path_is s = refl

pub form_is : (s : State) → (state_for s).form ≡ s.form
unfolding state_for
form_is s = refl

pub history_is : (s : State) → (state_for s).history ≡ s.history
unfolding state_for
history_is s = refl

pub committed_is : (s : State) → (state_for s).committed ≡ stores_for s.committed
unfolding state_for
committed_is s = refl

pub working_is : (s : State) → (state_for s).working ≡ stores_for s.working
unfolding state_for
working_is s = refl

pub current_is : (s : State) → chapter.current_form (state_for s) ≡ form_of s
unfolding state_for
current_is s = refl

-- ---- what is left with other parts

pub with_working : (s : State) (m : StoreMap) → (let t = state_for s in record t { working = stores_for m }) ≡ state_for (record s { working = m })
unfolding state_for
with_working s m = refl

pub with_form : (s : State) (form : ℕ) (history : List ℕ) → (let t = state_for s in record t { form = form; history = history }) ≡ state_for (record s { form = form; history = history })
unfolding state_for
with_form s form history = refl

pub with_language : (s : State) (language : Option ℕ) → (let t = state_for s in record t { language = language }) ≡ state_for (record s { language = language })
unfolding state_for
with_language s language = refl

pub with_submitted : (s : State) → (let t = state_for s in record t { committed = t.working }) ≡ state_for (record s { committed = s.working })
unfolding state_for
with_submitted s = refl

pub with_discarded : (s : State) → (let t = state_for s in record t { working = t.committed }) ≡ state_for (record s { working = s.committed })
unfolding state_for
with_discarded s = refl

-- ---- worlds

pub answer_alike : (s : State) (m : StoreMap) → Stands s → AreStored s.ifr m → AnswerAlike (nodes_of s.ifr) (stores_for m) m
answer_alike s m stands stored = record {
  same = λ id. all_answers_same (nodes_of s.ifr) m id stands.browsable.questions stored.laid;
  small = λ id. small_answers (nodes_of s.ifr) m id stored.are_bytes;
}

pub alike_over : (s : State) (m : StoreMap) → Stands s → AreStored s.ifr m → AreAlike s.ifr (chapter.over (state_for s) (stores_for m)) (world_with s m)
unfolding state_for
alike_over s m stands stored =
    worlds_alike s.ifr s.removed (stores_for m) m stands.browsable.accepted.checked stands.are_bytes (answer_alike s m stands stored)

pub alike_now : (s : State) → Stands s → AreAlike s.ifr (chapter.now (state_for s)) (world_of s)
unfolding state_for
alike_now s stands =
    worlds_alike s.ifr s.removed (stores_for s.working) s.working stands.browsable.accepted.checked stands.are_bytes (answer_alike s s.working stands stands.working)
