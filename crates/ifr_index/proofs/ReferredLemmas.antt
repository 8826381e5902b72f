-- Ids and references are known node by node.
use Rattle.std.proofs.Common.{◌≡◌, ℕ, zero, suc, ◌⊎◌, Bool, true, false, Option, Some, None, List, [], ◌∷◌, ◌++◌, map, append_assoc, append-nil, refl, sym, ap, ◌∙◌, subst, inl, inr, arith}
use Rattle.std.specs.Prelude.{Contains, not, ◌==◌, ◌&&◌, ◌||◌, filter}
use Rattle.std.specs.Global.{Vec}
use Rattle.std.specs.List.{list_any}
use Rattle.std.proofs.lemmas.Bool.{cases_Bool, eqb-true, false≢true}
use Rattle.std.proofs.lemmas.List.Elements.{Contains-append_left, Contains-append_right, Contains-push_cases}
use Rattle.hii_bytes.specs.code.NumberSets.{has_number}
use Rattle.hii_bytes.specs.declared.cause.Cause.{Cause}
use Rattle.hii_bytes.specs.declared.cause.Cause.TheVariants.{DuplicateForm, DuplicateQuestion, NoForm, RuleTooLarge}
use Rattle.ifr_opcodes.specs.Fields.{form_id, question_id, ref_target}
use Rattle.ifr_opcodes.specs.Forest.{Node}
use Rattle.ifr_opcodes.specs.Opcode.{number}
use Rattle.ifr_opcodes.specs.Rows.{is_question_number, row_of}
use Rattle.ifr_opcodes.specs.declared.codes.TheConstants.{FORM, REF}
use Rattle.ifr_nodes.specs.Nodes.{is_form, is_question, is_reference}
use Rattle.ifr_nodes.specs.ReferenceFaults.{Ranked, ranked, has_form_id, has_question_id, has_reference_fault, is_lost}
use Rattle.ifr_nodes.specs.Rules.{is_rule}
use Rattle.ifr_nodes.proofs.ViewLemmas.{further}
use Rattle.ifr_index.specs.code.References.{AreDistinct, AreReferencesOf, AreReferred, Refers, leads_to, repeats, repeats_one, unmet}
use Rattle.ifr_index.specs.declared.references.References.{References}

-- ---- a node that is met

no_question : is_question_number FORM ≡ false
unfolding is_question_number row_of
no_question = refl

asks_reference : is_question_number REF ≡ true
unfolding is_question_number row_of
asks_reference = refl

asks_no_form : (n : Node) → is_question n ≡ true → is_form n ≡ false
asks_no_form n asks = elim (cases_Bool (is_form n)) [
  | inl is ↦ absurd (false≢true (sym no_question ∙ ap is_question_number (sym (eqb-true (number n.op) FORM is)) ∙ asks))
  | inr other ↦ other
]

leads_nowhere : (n : Node) → is_question n ≡ false → leads_to n ≡ None
leads_nowhere n plain = elim (cases_Bool (is_reference n)) [
  | inl is ↦ absurd (false≢true (sym plain ∙ ap is_question_number (eqb-true (number n.op) REF is) ∙ asks_reference))
  | inr other ↦ rw other refl
]

-- what is no question leads nowhere
awaits_none : (n : Node) (met : References) → is_question n ≡ false → met.awaited.items ≡ met.awaited.items ++ unmet met.forms (leads_to n)
awaits_none n met plain = sym (ap (λ (o : Option ℕ). met.awaited.items ++ unmet met.forms o) (leads_nowhere n plain) ∙ append-nil met.awaited.items)

-- neither a form nor a question
pub nothing_met : (n : Node) (met : References) → is_form n ≡ false → is_question n ≡ false → Refers n met met
nothing_met n met no_form plain = record {
  forms = λ id. rw no_form refl;
  questions = λ id. rw plain refl;
  awaited = awaits_none n met plain;
  repeated = rw (no_form, plain) refl;
}

form_asks_none : (n : Node) → is_form n ≡ true → is_question n ≡ false
form_asks_none n is = ap is_question_number (eqb-true (number n.op) FORM is) ∙ no_question

pub form_met : (n : Node) (old new : References) → is_form n ≡ true → ((id : ℕ) → has_number new.forms id ≡ (form_id n.op == id || has_number old.forms id))
    → new.questions ≡ old.questions → new.awaited ≡ old.awaited → new.repeated ≡ (has_number old.forms (form_id n.op) || old.repeated) → Refers n old new
form_met n old new is forms questions awaited repeated =
    let plain = form_asks_none n is in
    record {
      forms = λ id. rw is (forms id);
      questions = λ id. rw (plain, questions) refl;
      awaited = ap (λ (v : Vec ℕ). v.items) awaited ∙ awaits_none n old plain;
      repeated = rw (is, plain) (repeated ∙ ap (λ (b : Bool). b || old.repeated) (or_false (has_number old.forms (form_id n.op))));
    }
  where
    or_false : (a : Bool) → a ≡ a || false
    or_false true = refl
    or_false false = refl

pub question_met : (n : Node) (old new : References) → is_question n ≡ true → ((id : ℕ) → has_number new.questions id ≡ (question_id n.op == id || has_number old.questions id)) → new.forms ≡ old.forms
    → new.awaited.items ≡ old.awaited.items ++ unmet old.forms (leads_to n) → new.repeated ≡ ((not (question_id n.op == 0) && has_number old.questions (question_id n.op)) || old.repeated) → Refers n old new
question_met n old new asks questions forms awaited repeated =
    let no_form = asks_no_form n asks in
    record {
      forms = λ id. rw (no_form, forms) refl;
      questions = λ id. rw asks (questions id);
      awaited = awaited;
      repeated = rw (no_form, asks) repeated;
    }

-- ---- one node more

or_last : (a b c : Bool) → c || (a || b) ≡ a || (c || b)
or_last true b true = refl
or_last true b false = refl
or_last false b c = refl

any_pushed : {X : Type 0} (p : X → Bool) (xs : List X) (x : X) → (p x || list_any p xs) ≡ list_any p (xs ++ x ∷ [])
any_pushed p [] x = refl
any_pushed p (y ∷ xs) x = or_last (p y) (list_any p xs) (p x) ∙ ap (λ (b : Bool). p y || b) (any_pushed p xs x)

any_more : {X : Type 0} (p : X → Bool) (xs : List X) (x : X) → list_any p xs ≡ true → list_any p (xs ++ x ∷ []) ≡ true
any_more p xs x e = sym (any_pushed p xs x) ∙ ap (λ (b : Bool). p x || b) e ∙ or_true (p x)
  where
    or_true : (a : Bool) → a || true ≡ true
    or_true true = refl
    or_true false = refl

ranked_pushed : (before ns : List Node) (n : Node) → ranked before (ns ++ n ∷ []) ≡ ranked before ns ++ record { before = before ++ ns; node = n } ∷ []
ranked_pushed before [] n = ap (λ (l : List Node). record { before = l; node = n } ∷ []) (sym (append-nil before))
ranked_pushed before (m ∷ ns) n =
    ap (λ (l : List Ranked). record { before = before; node = m } ∷ l)
    (ranked_pushed (before ++ m ∷ []) ns n ∙ ap (λ (l : List Node). ranked (before ++ m ∷ []) ns ++ record { before = l; node = n } ∷ []) (append_assoc before (m ∷ []) ns))

awaited_next : (before : List Node) (n m : Node) (id : ℕ) (old new : References) → AreReferencesOf before old → Refers n old new → Contains (before ++ n ∷ []) m → leads_to m ≡ Some id
    → (list_any (has_form_id id) (before ++ n ∷ []) ≡ true) ⊎ Contains new.awaited.items id
awaited_next before n m id old new known met within leads = elim (Contains-push_cases before n m within) [
  | inl earlier ↦ elim (known.awaited m id earlier leads) [
    | inl there ↦ inl (any_more (has_form_id id) before n there)
    | inr among ↦ inr (subst (λ (l : List ℕ). Contains l id) (sym met.awaited) (Contains-append_left old.awaited.items (unmet old.forms (leads_to n)) id among))
  ]
  | inr same ↦ elim (cases_Bool (has_number old.forms id)) [
    | inl there ↦ inl (any_more (has_form_id id) before n (sym (known.forms id) ∙ there))
    | inr none ↦
        let here : unmet old.forms (leads_to n) ≡ id ∷ [] = ap (λ (k : Node). unmet old.forms (leads_to k)) same ∙ ap (unmet old.forms) leads ∙ rw none refl in
        inr (subst (λ (l : List ℕ). Contains l id) (sym (met.awaited ∙ ap (λ (l : List ℕ). old.awaited.items ++ l) here)) (Contains-append_right old.awaited.items (id ∷ []) id (0, omega arith, refl)))
  ]
]

pub referred_next : (before : List Node) (n : Node) (old new : References) → AreReferencesOf before old → Refers n old new → AreReferencesOf (before ++ n ∷ []) new
referred_next before n old new known met = record {
  forms = λ id. met.forms id ∙ ap (λ (b : Bool). has_form_id id n || b) (known.forms id) ∙ any_pushed (has_form_id id) before n;
  questions = λ id. met.questions id ∙ ap (λ (b : Bool). has_question_id id n || b) (known.questions id) ∙ any_pushed (has_question_id id) before n;
  awaited = λ m id within leads. awaited_next before n m id old new known met within leads;
  repeated =
      let it : Ranked = record { before = before; node = n } in
      let same : repeats old n ≡ repeats_one it =
      ap (λ (b : Bool). (is_form n && b) || (is_question n && (not (question_id n.op == 0) && has_number old.questions (question_id n.op)))) (known.forms (form_id n.op))
      ∙ ap (λ (b : Bool). (is_form n && list_any (has_form_id (form_id n.op)) before) || (is_question n && (not (question_id n.op == 0) && b))) (known.questions (question_id n.op)) in
      met.repeated ∙ ap (λ (b : Bool). b || old.repeated) same ∙ ap (λ (b : Bool). repeats_one it || b) known.repeated
      ∙ any_pushed repeats_one (ranked [] before) it ∙ ap (list_any repeats_one) (sym (ranked_pushed [] before n));
}

-- ---- all nodes

none_of : {X : Type 0} (p : X → Bool) (xs : List X) (x : X) → list_any p xs ≡ false → Contains xs x → p x ≡ true → ⊥
none_of p [] x none (k, lt, e) is = omega arith
none_of p (y ∷ xs) x none (zero, lt, e) is = let bad : true ≡ false = rw (ap p e ∙ is) at none in false≢true (sym bad)
none_of p (y ∷ xs) x none (suc k, lt, e) is = none_of p xs x (behind (p y) (list_any p xs) none) (k, omega arith, e) is
  where
    behind : (a b : Bool) → a || b ≡ false → b ≡ false
    behind false b e = e
    behind true b e = absurd (false≢true (sym e))

no_node : (is : Node → Bool) (ns : List Node) (n : Node) → filter is ns ≡ [] → Contains ns n → is n ≡ true → ⊥
no_node is [] n none (k, lt, e) kind = omega arith
no_node is (m ∷ ns) n none (zero, lt, e) kind = let filled = rw (ap is e ∙ kind) at none in cc
no_node is (m ∷ ns) n none (suc k, lt, e) kind = elim (cases_Bool (is m)) [
  | inl kept ↦ let filled = rw kept at none in cc
  | inr other ↦ no_node is ns n (rw other at none) (k, omega arith, e) kind
]

of_ranked : (before ns : List Node) (r : Ranked) → Contains (ranked before ns) r → Contains ns r.node
of_ranked before [] r (k, lt, e) = absurd (omega arith)
of_ranked before (n ∷ ns) r (zero, lt, e) = (0, omega arith, ap (λ (q : Ranked). q.node) e)
of_ranked before (n ∷ ns) r (suc k, lt, e) = further n ns r.node (of_ranked (before ++ n ∷ []) ns r (k, omega arith, e))

or_first : (a b : Bool) → a ≡ true → a || b ≡ true
or_first true b e = refl
or_first false b e = absurd (false≢true e)

or_second : (a b : Bool) → b ≡ true → a || b ≡ true
or_second true b e = refl
or_second false b e = e

both : (a b : Bool) → a && b ≡ true → (a ≡ true) × (b ≡ true)
both true b e = (refl, e)
both false b e = absurd (false≢true e)

lost_none : (ns : List Node) (target : Option ℕ) → ((id : ℕ) → target ≡ Some id → list_any (has_form_id id) ns ≡ true) → is_lost ns target ≡ true → ⊥
lost_none ns None led lost = false≢true lost
lost_none ns (Some id) led lost = false≢true (sym (ap not (led id refl)) ∙ lost)

lost : (ns : List Node) (n : Node) → AreDistinct ns → Contains ns n → is_reference n && is_lost ns (ref_target n.op) ≡ true → ⊥
lost ns n distinct within h =
    let parts = both (is_reference n) (is_lost ns (ref_target n.op)) h in
    lost_none ns (ref_target n.op) (λ id e. distinct.led n id within (rw parts.0 e)) parts.1

faulty : (ns : List Node) (r : Ranked) (cause : Cause) → AreDistinct ns → filter is_rule ns ≡ [] → Contains (ranked [] ns) r → has_reference_fault ns r cause ≡ true → ⊥
faulty ns r DuplicateForm distinct none within h = none_of repeats_one (ranked [] ns) r distinct.once within (or_first _ _ h)
faulty ns r DuplicateQuestion distinct none within h = none_of repeats_one (ranked [] ns) r distinct.once within (or_second _ _ h)
faulty ns r NoForm distinct none within h = lost ns r.node distinct (of_ranked [] ns r within) h
faulty ns r RuleTooLarge distinct none within h = no_node is_rule ns r.node none (of_ranked [] ns r within) (both (is_rule r.node) _ h).0
faulty ns r _ distinct none within h = false≢true h

pub all_referred : (ns : List Node) → AreDistinct ns → (filter is_form ns ≡ [] → ⊥) → filter is_rule ns ≡ [] → AreReferred ns
all_referred ns distinct some none = record {
  sound = λ cause place fault. elim fault [
    | inl h ↦ some h.0
    | inr h ↦ faulty ns h.0 cause distinct none h.1 h.3
  ];
  no_rule = none;
}

pub no_element : {X Y : Type 0} (f : X → Y) (xs : List X) → map f xs ≡ [] → xs ≡ []
no_element f [] e = refl
no_element f (x ∷ xs) e = absurd cc
