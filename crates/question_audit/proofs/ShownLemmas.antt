-- Values where no guard hides anything.
use Rattle.std.proofs.Common.{◌≡◌, arith, ℕ, Bool, true, false, codes, Option, Some, None, List, [], ◌∷◌, ◌++◌, map, refl, sym, ap, ◌∙◌, inl, inr, append-nil}
use Rattle.std.specs.Prelude.{◌==◌, ◌&&◌, ◌||◌, MatchOption, is_none, is_some, not, option_map}
use Rattle.std.specs.List.{find}
use Rattle.std.proofs.lemmas.Bool.{cases_Bool}
use Rattle.std.proofs.lemmas.List.Concat.{flat_map-append}
use Rattle.std.proofs.lemmas.Str.{encode_ascii}
use Rattle.ifr_opcodes.specs.declared.codes.TheConstants.{DISABLE_IF, ONE_OF, ORDERED_LIST, SUPPRESS_IF}
use Rattle.ifr_opcodes.specs.Fields.{option_text, option_value}
use Rattle.ifr_opcodes.specs.Forest.{Node}
use Rattle.ifr_opcodes.specs.Opcode.{number}
use Rattle.ifr_opcodes.specs.code.Ops.{bytes_of}
use Rattle.ifr_opcodes.specs.declared.one_of.OneOfOp.{OneOfOp}
use Rattle.ifr_opcodes.specs.declared.ordered_list.OrderedListOp.{OrderedListOp}
use Rattle.ifr_nodes.specs.Guards.{guards}
use Rattle.ifr_nodes.specs.Nodes.{options}
use Rattle.ifr_scopes.specs.code.Lists.{kind_op}
use Rattle.ifr_scopes.specs.declared.statement.StatementKind.{StatementKind}
use Rattle.ifr_scopes.specs.declared.statement.StatementKind.TheVariants as kinds
use Rattle.hii_varstore.specs.Stores.{StoreMap}
use Rattle.guard_policy.specs.Policy.{hidden, hides, hiding}
use Rattle.guard_policy.specs.World.{World}
use Rattle.form_page.specs.RowValues.{choice, choice_text, later_text, list_text, one_of_text, option_with, value_shown}
use Rattle.question_audit.specs.QuestionLines.{has_no_text, unguarded}
use Rattle.question_audit.specs.code.Escaped.{escaped, escaped_text}
use Rattle.question_audit.specs.declared.escaping.Escaping.{Escaping}
use Rattle.question_audit.specs.declared.escaping.Escaping.TheVariants.{Line, Json}

neither : (a b : Bool) → (a && false) || (b && false) ≡ false
neither true true = refl
neither true false = refl
neither false true = refl
neither false false = refl

none_hides : (w : World) (gs : List Node) → find (hides (unguarded w)) gs ≡ None
none_hides w [] = refl
none_hides w (g ∷ gs) =
    let free : hides (unguarded w) g ≡ false = neither (number g.op == DISABLE_IF) (number g.op == SUPPRESS_IF) in
    rw free (none_hides w gs)

-- nothing is hidden
pub never_hidden : (w : World) (n : Node) → hidden (unguarded w) n ≡ None
never_hidden w n = ap (λ (o : Option Node). option_map hiding o) (none_hides w (guards n))

and_true : (b : Bool) → b && true ≡ b
and_true true = refl
and_true false = refl

-- so the first option of a value is seen
pub first_seen : (w : World) (its : List Node) (value : ℕ) → find (λ (o : Node). option_value o.op == value) its ≡ option_with (unguarded w) its value
first_seen w [] value = refl
first_seen w (o ∷ its) value =
    let here : ((option_value o.op == value) && is_none (hidden (unguarded w) o)) ≡ (option_value o.op == value) = rw (never_hidden w o) (and_true (option_value o.op == value)) in
    elim (cases_Bool (option_value o.op == value)) [
      | inl is ↦ rw (here, is) refl
      | inr other ↦ rw (here, other) (first_seen w its value)
    ]

-- a value that has no options
pub same_shown : (texts : ℕ → List ℕ) (w : World) (stores : StoreMap) (n : Node) → (number n.op == ONE_OF) ≡ false → (number n.op == ORDERED_LIST) ≡ false
    → value_shown texts w stores n ≡ value_shown texts (unguarded w) stores n
same_shown texts w stores n one list = rw (one, list) refl

-- what is no ONE_OF and no ORDERED_LIST has another number
pub other_kind : (kind : StatementKind) (n : Node) → bytes_of (kind_op kind) ≡ n.op → ((op : OneOfOp) → kind ≡ kinds.OneOf op → ⊥) → ((op : OrderedListOp) → kind ≡ kinds.OrderedList op → ⊥)
    → ((number n.op == ONE_OF) ≡ false) × ((number n.op == ORDERED_LIST) ≡ false)
other_kind (kinds.Subtitle view) n e one list = rw (ap number (sym e) ∙ view.coded) (refl, refl)
other_kind (kinds.Text view) n e one list = rw (ap number (sym e) ∙ view.coded) (refl, refl)
other_kind (kinds.ResetButton view) n e one list = rw (ap number (sym e) ∙ view.coded) (refl, refl)
other_kind (kinds.Checkbox view) n e one list = rw (ap number (sym e) ∙ view.coded) (refl, refl)
other_kind (kinds.Numeric view) n e one list = rw (ap number (sym e) ∙ view.coded) (refl, refl)
other_kind (kinds.OneOf view) n e one list = absurd (one view refl)
other_kind (kinds.String view) n e one list = rw (ap number (sym e) ∙ view.coded) (refl, refl)
other_kind (kinds.Password view) n e one list = rw (ap number (sym e) ∙ view.coded) (refl, refl)
other_kind (kinds.OrderedList view) n e one list = absurd (list view refl)
other_kind (kinds.Date view) n e one list = rw (ap number (sym e) ∙ view.coded) (refl, refl)
other_kind (kinds.Time view) n e one list = rw (ap number (sym e) ∙ view.coded) (refl, refl)
other_kind (kinds.Action view) n e one list = rw (ap number (sym e) ∙ view.coded) (refl, refl)
other_kind (kinds.Ref view) n e one list = rw (ap number (sym e) ∙ view.coded) (refl, refl)

-- the text of the option that is found
pub shown_choice : (texts : ℕ → List ℕ) (w : World) (n : Node) (value : ℕ) (o : Option Node) → o ≡ find (λ (m : Node). option_value m.op == value) (options n)
    → option_map (λ (m : Node). texts (option_text m.op)) o ≡ choice texts (unguarded w) n value
shown_choice texts w n value o e = ap (λ (p : Option Node). option_map (λ (m : Node). texts (option_text m.op)) p) (e ∙ first_seen w (options n) value)

-- ---- texts with others around them

pub escaped-append : (how : Escaping) (front behind : List ℕ) → escaped_text how (front ++ behind) ≡ escaped_text how front ++ escaped_text how behind
escaped-append how front behind = flat_map-append (escaped how) front behind

less : (how : Escaping) → escaped how 60 ≡ codes "<"
less Line = encode_ascii 60 (omega arith)
less Json = encode_ascii 60 (omega arith)

greater : (how : Escaping) → escaped how 62 ≡ codes ">"
greater Line = encode_ascii 62 (omega arith)
greater Json = encode_ascii 62 (omega arith)

question : (how : Escaping) → escaped how 63 ≡ codes "?"
question Line = encode_ascii 63 (omega arith)
question Json = encode_ascii 63 (omega arith)

comma : (how : Escaping) → escaped how 44 ≡ codes ","
comma Line = encode_ascii 44 (omega arith)
comma Json = encode_ascii 44 (omega arith)

space : (how : Escaping) → escaped how 32 ≡ codes " "
space Line = encode_ascii 32 (omega arith)
space Json = encode_ascii 32 (omega arith)

pub escaped_one_of : (how : Escaping) (its : Option (List ℕ)) → codes "<" ++ escaped_text how (choice_text its) ++ codes ">" ≡ escaped_text how (one_of_text its)
escaped_one_of how its =
    let text = escaped_text how (choice_text its) in
    sym (
    escaped-append how (codes "<" ++ choice_text its) (codes ">") ∙ ap (λ (l : List ℕ). (l ++ text) ++ escaped_text how (codes ">")) (less how)
    ∙ ap (λ (l : List ℕ). (codes "<" ++ text) ++ (l ++ [])) (greater how)
    )

-- where there is no option
pub escaped_mark : (how : Escaping) → codes "?" ≡ escaped_text how (codes "?")
escaped_mark how = sym (ap (λ (l : List ℕ). l ++ []) (question how))

behind_comma : (how : Escaping) (text : List ℕ) → escaped_text how (codes ", " ++ text) ≡ codes ", " ++ escaped_text how text
behind_comma how text =
    ap (λ (l : List ℕ). l ++ (escaped how 32 ++ escaped_text how text)) (comma how) ∙ ap (λ (l : List ℕ). codes "," ++ (l ++ escaped_text how text)) (space how)

pub escaped_list : (how : Escaping) (told : ℕ → Option (List ℕ)) (items after : List ℕ) (item : ℕ) → items ≡ item ∷ after
    → escaped_text how (list_text (map told items)) ≡ escaped_text how (choice_text (told item)) ++ escaped_text how (later_text (map told after))
escaped_list how told items after item e =
    ap (λ (l : List ℕ). escaped_text how (list_text (map told l))) e ∙ escaped-append how (choice_text (told item)) (later_text (map told after))

pub escaped_later : (how : Escaping) (told : ℕ → Option (List ℕ)) (items after : List ℕ) (item : ℕ) → items ≡ item ∷ after
    → escaped_text how (later_text (map told items)) ≡ (codes ", " ++ escaped_text how (choice_text (told item))) ++ escaped_text how (later_text (map told after))
escaped_later how told items after item e =
    ap (λ (l : List ℕ). escaped_text how (later_text (map told l))) e ∙ escaped-append how (codes ", " ++ choice_text (told item)) (later_text (map told after))
    ∙ ap (λ (l : List ℕ). l ++ escaped_text how (later_text (map told after))) (behind_comma how (choice_text (told item)))

-- ---- whether a text has no character

pub no_text : (text after : List ℕ) (r : Option ℕ) (none : Bool) → MatchOption r ((text ≡ []) × (after ≡ [])) (λ c. text ≡ c ∷ after) → is_some r ≡ not none → none ≡ has_no_text text
no_text text after None true m e = rw m.0 refl
no_text text after None false m e = absurd cc
no_text text after (Some c) true m e = absurd cc
no_text text after (Some c) false m e = rw m refl

behind_some : (text behind : List ℕ) (c : ℕ) → has_no_text (text ++ c ∷ behind) ≡ false
behind_some [] behind c = refl
behind_some (d ∷ text) behind c = refl

-- of a list of two elements something shows, and of one what shows of its option
pub two_show : (told : ℕ → Option (List ℕ)) (items after more : List ℕ) (first second : ℕ) → items ≡ first ∷ after → after ≡ second ∷ more → has_no_text (list_text (map told items)) ≡ false
two_show told items after more first second e f =
    ap (λ (l : List ℕ). has_no_text (list_text (map told l))) (e ∙ ap (λ (l : List ℕ). first ∷ l) f)
    ∙ behind_some (choice_text (told first)) _ 44

pub more_show : (told : ℕ → Option (List ℕ)) (items after left : List ℕ) (first : ℕ) (r : Option ℕ) → items ≡ first ∷ after → MatchOption r ((after ≡ []) × (left ≡ [])) (λ second. after ≡ second ∷ left) → is_some r ≡ true
    → has_no_text (list_text (map told items)) ≡ false
more_show told items after left first None e m is = absurd cc
more_show told items after left first (Some second) e m is = two_show told items after left first second e m

pub one_shows : (told : ℕ → Option (List ℕ)) (items after : List ℕ) (first : ℕ) → items ≡ first ∷ after → after ≡ [] → has_no_text (list_text (map told items)) ≡ has_no_text (choice_text (told first))
one_shows told items after first e f =
    ap (λ (l : List ℕ). has_no_text (list_text (map told l))) (e ∙ ap (λ (l : List ℕ). first ∷ l) f) ∙ ap has_no_text (append-nil (choice_text (told first)))
