-- The faults of what a session is opened over, part by part; a part has faults only where those before it have none,
-- and the least is told. What is a fault is an own rule; what the bytes should be, the chapters of the parts say.
use Rattle.std.specs.Prelude.{fold, ℕ, ◌≡◌, ◌⊎◌, zero, suc, ◌+◌, ◌-◌, ◌^◌, ◌<◌, ◌≤◌, max, Bool, true, false, ◌==◌, ◌&&◌}
use Rattle.std.specs.Prelude.{◌||◌, nat_lt, nat_le, not, if◌then◌else◌, is_some, is_none, Result, Ok, Err, List, []}
use Rattle.std.specs.Prelude.{◌∷◌, ◌++◌, length, map, filter, take, drop, slice_index, sum, Contains, codes, bytes_eq}
use Rattle.std.specs.List.{list_any, list_all, flat_map}
use Rattle.byteorder.specs.Endian.{little_bytes}
use Rattle.browser_rules.specs.Words.{Cause, number_and_name, first, last, is_some_and}
use Rattle.browser_rules.specs.Opcodes.{is_short, is_wrong_scope, admits, is_outside, class_inside, field_in}
use Rattle.browser_rules.specs.Opcodes.{an_operator, Class, of_nothing, Sense, one, two, number, row_of, is_a, is_the}
use Rattle.browser_rules.specs.Opcodes.{field, number_width, has_scope, wants_expression, wants_value, QUESTION_HEADER}
use Rattle.browser_rules.specs.Opcodes.{FLAGGED_QUESTION, FORM_SET, FORM, REF, ONE_OF, ORDERED_LIST, RULE, RULE_REF}
use Rattle.browser_rules.specs.Opcodes.{VALUE}
use Rattle.browser_rules.specs.Forest.{stated_length, END, Forest, none, node, Ancestor, Node, nodes_of}
use Rattle.browser_rules.specs.Expressions.{Mark, expression, sense_of, Rule, is_named}
use Rattle.browser_rules.specs.Nodes.{is, is_question, question_id, form_with, ref_target, options, expression_of}
use Rattle.browser_rules.specs.Nodes.{rules_of}
use Rattle.browser_rules.specs.Packages.{Package, package_type, package_length, END_PACKAGE, list_length, is_bad}
use Rattle.browser_rules.specs.Packages.{packages_with, STRINGS, forms_package, forms_bytes}
use Rattle.browser_rules.specs.Strings.{info_offset, language_of, texts_of, Texts}
use Rattle.browser_rules.specs.Stores.{store_nodes, store_id, Shape, shape_of, size_of}
use Rattle.browser_rules.specs.Questions.{Field, option_type, option_value, field_of, questions}

pub record Fault : Type 0 where
  pub cause : Cause
  pub place : ℕ

-- the fault of a cause at a place; none unless a test holds; where a part has none, those of the parts behind it
abbrev pub fault_at : Cause → ℕ → List Fault
fault_at cause place = record { cause = cause; place = place } ∷ []

abbrev pub fault_if : Bool → Cause → ℕ → List Fault
fault_if true cause place = fault_at cause place
fault_if false cause place = []

abbrev pub then_faults : List Fault → List Fault → List Fault
then_faults [] behind = behind
then_faults faults behind = faults

-- The least of faults is the one at the lowest place, and of several there the one whose cause has the lowest number.
pub record IsLeast (faults : List Fault) (fault : Fault) : Type 0 where
  pub among : Contains faults fault
  pub least : (other : Fault) → Contains faults other
      → (fault.place < other.place)
      ⊎ ((fault.place ≡ other.place) × ((number_and_name fault.cause).0 ≤ (number_and_name other.cause).0))

-- ---- the list (Packages); places are those in the list

unfoldable pub faults_of_packages : ℕ → ℕ → List ℕ → List Fault
faults_of_packages zero at bytes = fault_at Cause.NoEnd at
faults_of_packages (suc n) at bytes =
    if length bytes == 0 then fault_at Cause.NoEnd at
    else if is_bad bytes then fault_at Cause.PackageLength at
    else if package_type bytes == END_PACKAGE then fault_if (nat_lt 4 (length bytes)) Cause.AfterEnd (at + 4)
    else faults_of_packages n (at + package_length bytes) (drop (package_length bytes) bytes)

abbrev pub list_faults : List ℕ → List Fault
list_faults list =
    if nat_lt (length list) 20 then fault_at Cause.ListShort 0
    else if nat_lt (list_length list) 20 || nat_lt (length list) (list_length list) then fault_at Cause.ListLength 16
    else faults_of_packages (length list) 20 (drop 20 (take (list_length list) list))

-- ---- the number of the forms package

abbrev pub number_faults : List ℕ → ℕ → List Fault
number_faults list n = fault_if (is_none (forms_package list n)) Cause.NoForms 0

-- ---- the string packages (Strings), each a part; places are those in the list

abbrev pub fault_of_texts : Result Texts (Cause × ℕ) → List Fault
fault_of_texts (Ok texts) = []
fault_of_texts (Err (cause, place)) = fault_at cause place

abbrev pub string_package_faults : Package → List Fault
string_package_faults p =
    if nat_lt (length p.bytes) 46 || nat_lt (info_offset p.bytes) 46 || nat_lt (length p.bytes) (info_offset p.bytes)
    then fault_at Cause.StringHeader p.place
    else fault_if (is_none (language_of p)) Cause.LanguageText (p.place + 46) ++ fault_of_texts (texts_of p)

abbrev pub each_package : List Package → List Fault
each_package [] = []
each_package (p ∷ ps) = then_faults (string_package_faults p) (each_package ps)

abbrev pub string_faults : List ℕ → List Fault
string_faults list = each_package (packages_with STRINGS list)

-- ---- the framing of the forms package (Forest); from here on places are those in the forms package, up to the image

-- A whole opcode stands at the front: it has the length that it tells, and an END is `29 02`.
abbrev pub is_whole : List ℕ → Bool
is_whole bytes =
    nat_le 2 (stated_length bytes) && nat_le (stated_length bytes) (length bytes)
    && (not (number bytes == END) || slice_index bytes 1 == 2)

-- of n opcodes at most: a scope stays open; no whole opcode; an END where no scope is open; a 65th scope
unfoldable pub framing_from : ℕ → ℕ → ℕ → List ℕ → List Fault
framing_from zero at scopes bytes = fault_if (nat_lt 0 scopes) Cause.ScopeOpen at
framing_from (suc n) at scopes bytes =
    let scopes_behind = if number bytes == END then scopes - 1 else if has_scope bytes then scopes + 1 else scopes in
    if length bytes == 0 then fault_if (nat_lt 0 scopes) Cause.ScopeOpen at
    else if not (is_whole bytes) then fault_at Cause.OpLength at
    else if number bytes == END && scopes == 0 then fault_at Cause.EndExtra at
    else if has_scope bytes && scopes == 64 then fault_at Cause.TooDeep at
    else framing_from n (at + stated_length bytes) scopes_behind (drop (stated_length bytes) bytes)

abbrev pub framing_faults : List ℕ → List Fault
framing_faults ifr = framing_from (length ifr) 4 0 (drop 4 ifr)

-- ---- the nodes of the forest by themselves (Opcodes, Nodes)

-- the class of the innermost scope of a path
abbrev pub class_along : Class → List Ancestor → Class
class_along class [] = class
class_along class (a ∷ path) = class_along (class_inside class (number a.op)) path

-- A node stands first in the scope around it, of which a test holds.
abbrev pub is_first_in : (List ℕ → Bool) → Node → Bool
is_first_in test n = is_some_and (λ a. test a.op && n.place == a.place + length a.op) (last n.path)

-- It is none of what its scope admits, and not what that begins with.
abbrev pub is_misplaced : Node → Bool
is_misplaced n =
    not (length n.path == 0) && not (is_first_in (λ op. wants_expression op || wants_value op) n)
    && not (admits (class_along of_nothing n.path) (number n.op))

-- It has Scope and may not, or has none and must.
abbrev pub has_wrong_scope : Node → Bool
has_wrong_scope n =
    let is_operand = is_some_and (λ a. is_a an_operator a.op) (last n.path) in
    is_some_and (λ r. is_wrong_scope r.scope is_operand n.op) (row_of (number n.op))

-- A scope does not begin with what it wants: it is empty, or begins with another opcode, if that is known.
abbrev pub begins_with_other : (List ℕ → Bool) → Forest → Bool
begins_with_other is_wanted none = true
begins_with_other is_wanted (node op children rest) = is_some (row_of (number op)) && not (is_wanted op)

abbrev pub lacks_expression : Node → Bool
lacks_expression n =
    wants_expression n.op && begins_with_other (is_a an_operator) n.children
    || wants_value n.op && begins_with_other (is_the VALUE) n.children

-- an opcode of an expression at a place that has no fault by itself
abbrev pub is_good_operator : ℕ → Mark → Bool
is_good_operator at m =
    is_a an_operator m.op && not (is_outside m.op) && not (is_short m.op) && (not (has_scope m.op) || m.place == at)

abbrev pub operands : Sense → ℕ
operands (one makes) = 1
operands (two makes) = 2
operands sense = 0

-- of an expression of these: an operator has too few operands, a 65th value comes, several values are left at the end
abbrev pub order_faults : ℕ → ℕ → List Mark → List Fault
order_faults at values [] = fault_if (nat_lt 1 values) Cause.ExprShape at
order_faults at values (m ∷ ms) =
    if nat_lt values (operands (sense_of m.op)) then fault_at Cause.ExprShape m.place
    else if operands (sense_of m.op) == 0 && nat_le 64 values then fault_at Cause.ExprDepth m.place
    else order_faults at (values - operands (sense_of m.op) + 1) ms

abbrev pub expression_faults : Node → List Fault
expression_faults n =
    let opcodes = expression n.place n.op n.children in
    if is_first_in wants_expression n && list_all (is_good_operator n.place) opcodes then order_faults n.place 0 opcodes
    else []

abbrev pub node_faults : Node → List Fault
node_faults n =
    fault_if (n.place == 4 && not (is FORM_SET n)) Cause.NotFormSet n.place
    ++ fault_if (length n.path == 0 && not (n.place == 4)) Cause.AfterFormSet n.place
    ++ fault_if (is_outside n.op) Cause.OpOutside n.place
    ++ fault_if (is_short n.op) Cause.OpSize n.place
    ++ fault_if (is_misplaced n) Cause.Misplaced n.place
    ++ fault_if (has_wrong_scope n) Cause.ScopeBit n.place
    ++ fault_if (lacks_expression n) Cause.ExprShape n.place
    ++ expression_faults n

abbrev pub structure_faults : List Node → List Fault
structure_faults [] = fault_at Cause.NotFormSet 4
structure_faults ns = flat_map node_faults ns

-- ---- the nodes among each other (Nodes)

-- each with those before it
abbrev pub ranked : List Node → List Node → List (List Node × Node)
ranked before [] = []
ranked before (n ∷ ns) = (before, n) ∷ ranked (before ++ n ∷ []) ns

-- the length of the longest chain of references from a rule on; the opcodes in all of them, as often as they are named
pub record Size : Type 0 where
  pub depth : ℕ
  pub weight : ℕ

abbrev pub size_over : (ℕ → ℕ → Size) → List Mark → Size
size_over sizes ms =
    let named = map (λ m. sizes (field RULE_REF "RuleId" m.op) m.place) (filter (λ m. is_the RULE_REF m.op) ms) in
    record { depth = 1 + fold max 0 (map (λ s. s.depth) named); weight = length ms + sum (map (λ s. s.weight) named) }

unfoldable pub sizes_of : List Rule → ℕ → ℕ → Size
sizes_of [] id place = record { depth = 0; weight = 0 }
sizes_of (r ∷ earlier) id place =
    if is_named id place r then size_over (sizes_of earlier) r.opcodes else sizes_of earlier id place

abbrev pub is_large : Size → Bool
is_large s = nat_lt 16 s.depth || nat_lt 4096 s.weight

abbrev pub ranked_faults : List Node → List Node × Node → List Fault
ranked_faults ns (before, n) =
    let is_second : Node → Bool = λ m. is_question m && not (question_id n == 0) && question_id m == question_id n in
    let size = size_over (sizes_of (rules_of before)) (expression_of n) in
    fault_if (is FORM n && is_some (form_with before (field FORM "FormId" n.op))) Cause.DuplicateForm n.place
    ++ fault_if (is_question n && list_any is_second before) Cause.DuplicateQuestion n.place
    ++ fault_if (is REF n && is_some_and (λ id. is_none (form_with ns id)) (ref_target n)) Cause.NoForm n.place
    ++ fault_if (is RULE n && is_large size) Cause.RuleTooLarge n.place

abbrev pub reference_faults : List Node → List Fault
reference_faults ns =
    fault_if (not (list_any (is FORM) ns)) Cause.NoForm 4 ++ flat_map (ranked_faults ns) (ranked [] ns)

-- ---- the stores (Stores): one of any kind has the id 0, or that of one of any kind before it

abbrev pub store_fault : List Node × Node → List Fault
store_fault (before, n) =
    fault_if (store_id n == 0 || list_any (λ m. store_id m == store_id n) before) Cause.DuplicateVarstore n.place

abbrev pub store_faults : List Node → List Fault
store_faults ns = flat_map store_fault (ranked [] (store_nodes ns))

-- ---- the questions and their options (Questions)

abbrev pub option_faults : Node → Node → List Fault
option_faults q o =
    let width = number_width (field_in FLAGGED_QUESTION "Flags" q.op) in
    let is_of_other_type : Node → Bool = λ p. not (option_type o == option_type p) in
    fault_if (is ONE_OF q && nat_le (256 ^ width) (option_value o)) Cause.OptionRange o.place
    ++ fault_if (is ORDERED_LIST q && is_some_and is_of_other_type (first (options q))) Cause.MixedOptions o.place

abbrev pub question_faults_of : List Node → Node → List Fault
question_faults_of ns q =
    let store = field_in QUESTION_HEADER "VarStoreId" q.op in
    let is_too_long : Field → Bool = λ f. is_some_and (λ size. nat_lt size (f.offset + f.width)) (size_of ns f.store) in
    let is_there = list_any (λ s. store_id s == store) (store_nodes ns) in
    fault_if (not (store == 0) && not is_there) Cause.UnknownVarstore q.place
    ++ fault_if (is_some_and is_too_long (field_of ns q)) Cause.FieldOutside q.place
    ++ flat_map (option_faults q) (options q)

abbrev pub question_faults : List Node → List Fault
question_faults ns = flat_map (question_faults_of ns) (questions ns)

-- ---- the image (Stores); places are those in the image

-- bytes that are to stand there, with the cause of the fault that others are; or so many bytes of any kind
pub data Part : Type 0 where
  these : List ℕ → Cause → Part
  any : ℕ → Part

abbrev pub part_width : Part → ℕ
part_width (these bytes cause) = length bytes
part_width (any width) = width

abbrev pub part_faults : ℕ → Part → List ℕ → List Fault
part_faults at (these wanted cause) found = fault_if (not (bytes_eq wanted found)) cause at
part_faults at (any width) found = []

-- the first part that is cut short or other than wanted, or what is left over
abbrev pub image_faults_from : ℕ → List Part → List ℕ → List Fault
image_faults_from at [] image = fault_if (nat_lt 0 (length image)) Cause.StoreTrailing at
image_faults_from at (part ∷ parts) image =
    if nat_lt (length image) (part_width part) then fault_at Cause.StoreShort at
    else then_faults (part_faults at part (take (part_width part) image))
    (image_faults_from (at + part_width part) parts (drop (part_width part) image))

abbrev pub head_parts : List ℕ → List ℕ → List Part
head_parts guid image =
    if bytes_eq (take 4 image) (codes "HVS1") then any 4 ∷ []
    else these (codes "HVS2") Cause.StoreMagic ∷ these guid Cause.StoreFormSet ∷ []

abbrev pub buffer_parts : ℕ × ℕ → List Part
buffer_parts (id, size) =
    these (little_bytes 2 id) Cause.StoreId ∷ these (little_bytes 2 size) Cause.StoreSize ∷ any size ∷ []

abbrev pub image_faults : Shape → List ℕ → List Fault
image_faults shape image =
    image_faults_from 0
    (head_parts shape.guid image ++ these (little_bytes 2 (length shape.buffers)) Cause.StoreCount
    ∷ flat_map buffer_parts shape.buffers)
    image

-- ---- all parts, in order

abbrev pub open_faults : List ℕ → ℕ → List ℕ → List Fault
open_faults list n image =
    let ifr = forms_bytes list n in
    let ns = nodes_of ifr in
    then_faults (list_faults list)
    (then_faults (number_faults list n)
    (then_faults (string_faults list)
    (then_faults (framing_faults ifr)
    (then_faults (structure_faults ns)
    (then_faults (reference_faults ns)
    (then_faults (store_faults ns)
    (then_faults (question_faults ns)
    (image_faults (shape_of ns) image))))))))
