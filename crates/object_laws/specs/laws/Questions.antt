-- What can be told of questions in objects: places have 64 bits, opcodes are bytes, and what is shown are characters.
use Rattle.std.specs.Prelude.{◌≡◌, ℕ, ◌+◌, ◌<◌, ◌^◌, true, IfSome, List, ⊤}
use Rattle.std.specs.List.{AllByRecursion}
use Rattle.std.specs.Str.{all_scalars}
use Rattle.hii_bytes.specs.Numbers.{AreBytes}
use Rattle.ifr_opcodes.specs.Forest.{Node}
use Rattle.ifr_expr.specs.Values.{Value, text}
use Rattle.ifr_nodes.specs.Guards.{guards}
use Rattle.ifr_nodes.specs.Nodes.{options}
use Rattle.hii_questions.specs.Answers.{value_of_field}
use Rattle.hii_questions.specs.Fields.{Field, asked}
use Rattle.guard_policy.specs.Policy.{fixed}
use Rattle.guard_policy.specs.World.{World}
use Rattle.guard_policy.specs.declared.denial.Denial.{Denial}
use Rattle.question_audit.specs.Audited.{Audited}
use Rattle.question_audit.specs.ScriptValues.{default_taken}
use Rattle.question_audit.specs.declared.ways.Reach.{Reach}
use Rattle.question_audit.specs.declared.ways.Reach.TheVariants.{Open, Hidden, Closed, Below, Unnamed}
use Rattle.question_audit.specs.ConditionFacts.{checks}
use Rattle.question_audit.specs.OptionFacts.{own_denial}
use Rattle.question_audit.specs.Reasons.{all_reasons}
use Rattle.question_audit.specs.RuleFacts.{named_rules}

abbrev pub ShowsTexts : (ℕ → List ℕ) → Type 0
ShowsTexts texts = (id : ℕ) → id < 2 ^ 64 → all_scalars (texts id) ≡ true

abbrev pub IsNear : Denial → Type 0
IsNear denial = denial.place < 2 ^ 64

-- by what a form is not reached
abbrev pub IsNearReach : Reach → Type 0
IsNearReach Open = ⊤
IsNearReach (Hidden denial) = IsNear denial
IsNearReach (Closed denial) = IsNear denial
IsNearReach Below = ⊤
IsNearReach Unnamed = ⊤

-- an opcode, where its package stands at a place of the file
pub record IsPlaced (package_place : ℕ) (n : Node) : Type 0 where
  pub place : n.place < 2 ^ 64
  pub byte : package_place + n.place < 2 ^ 64
  pub bytes : AreBytes n.op

-- an option of the question at a place
pub record IsOption (w : World) (place : ℕ) (o : Node) : Type 0 where
  pub bytes : AreBytes o.op
  pub denial : IfSome (own_denial w place o) IsNear

pub record IsSpan (field : Field) : Type 0 where
  pub store : field.store < 2 ^ 64
  pub offset : field.offset < 2 ^ 64
  pub width : field.width < 2 ^ 64

-- the units of a text are bytes
abbrev pub HasUnits : Value → Type 0
HasUnits (text units) = AreBytes units
HasUnits _ = ⊤

pub record CanShow (a : Audited) (package_place : ℕ) (n : Node) : Type 0 where
  pub placed : IsPlaced package_place n
  pub nodes : AllByRecursion (λ m. AreBytes m.op) a.world.nodes
  pub texts : ShowsTexts a.texts
  pub field : IfSome (asked a.world.nodes n).field IsSpan
  pub value : HasUnits (value_of_field a.stores n (asked a.world.nodes n).field)
  pub defaults : (class : ℕ) → IfSome (default_taken a (asked a.world.nodes n) class) HasUnits
  pub verdict : IfSome (fixed a.world n) IsNear
  pub reasons : AllByRecursion IsNear (all_reasons a.world (asked a.world.nodes n))
  pub guards : AllByRecursion (IsPlaced package_place) (guards n)
  pub checks : AllByRecursion (IsPlaced package_place) (checks n)
  pub rules : AllByRecursion (IsPlaced package_place) (named_rules a.world.nodes n)
  pub options : AllByRecursion (IsOption a.world n.place) (options n)
