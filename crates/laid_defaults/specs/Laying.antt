-- The defaults of a class, laid over stores (own rule; what a default is, and what a question takes: UEFI 2.8, 33.2.5.8 Defaults).
use Rattle.std.specs.Prelude.{ℕ, ◌+◌, Bool, true, false, ◌==◌, not, Option, Some, None, Result, Ok, Err, List, [], ◌∷◌, filter}
use Rattle.browser_rules.specs.Strings.{Spoken, text_of}
use Rattle.ifr_opcodes.specs.Fields.{default_kind}
use Rattle.ifr_opcodes.specs.Forest.{Node}
use Rattle.ifr_opcodes.specs.declared.kinds.TheConstants.{TYPE_OTHER}
use Rattle.ifr_nodes.specs.Nodes.{nodes_of}
use Rattle.ifr_nodes.specs.Rules.{rules_among}
use Rattle.hii_varstore.specs.Stores.{StoreMap}
use Rattle.hii_values.specs.Inputs.{Offer}
use Rattle.hii_values.specs.Types.{type_of}
use Rattle.hii_values.specs.declared.denial.DenialKind.{DenialKind}
use Rattle.hii_questions.specs.Answers.{answers}
use Rattle.hii_questions.specs.Changes.{with_field}
use Rattle.hii_questions.specs.Fields.{Asked, questions}
use Rattle.hii_questions.specs.Fits.{fits_field}
use Rattle.ifr_defaults.specs.Defaults.{Sources, default_of, default_with}

-- a forms package, and the string packages of its list, of which one is chosen
pub record Setup : Type 0 where
  pub ifr : List ℕ
  pub spoken : List Spoken
  pub language : Option ℕ

-- what defaults are taken from, where questions answer as these stores say
abbrev pub sources_over : Setup → StoreMap → Sources
sources_over s stores = record {
  rules = rules_among (nodes_of s.ifr);
  answers = answers (nodes_of s.ifr) stores;
  texts = text_of s.spoken s.language;
}

-- stores, and how many defaults were laid over them
pub record Laid : Type 0 where
  pub stores : StoreMap
  pub count : ℕ

-- new bytes in the field of a question, where it takes them
abbrev pub laid_bytes : Laid → Asked → Result (List ℕ) DenialKind → Laid
laid_bytes l q (Err _) = l
laid_bytes l q (Ok bytes) = record { stores = with_field l.stores q.field bytes; count = l.count + 1 }

-- what is offered, where the checks of the question's type take it; no guard is asked
abbrev pub laid_offer : Laid → Asked → Option Offer → Laid
laid_offer l q None = l
laid_offer l q (Some offer) = laid_bytes l q (fits_field (type_of q.node) q.field offer)

-- the default of a question for a class, over what the others left
abbrev pub laid_one : Setup → ℕ → Laid → Asked → Laid
laid_one s class l q = laid_offer l q (default_of (sources_over s l.stores) q.node class)

abbrev pub laid_each : Setup → ℕ → Laid → List Asked → Laid
laid_each s class l [] = l
laid_each s class l (q ∷ qs) = laid_each s class (laid_one s class l q) qs

-- whether a VALUE gives the default
abbrev pub has_value : Option Node → Bool
has_value None = false
has_value (Some d) = default_kind d.op == TYPE_OTHER

abbrev pub is_computed : ℕ → Asked → Bool
is_computed class q = has_value (default_with q.node class)

-- whether the default of a question is computed or not
abbrev pub is_of : Bool → ℕ → Asked → Bool
is_of true class q = is_computed class q
is_of false class q = not (is_computed class q)

abbrev pub laid_all : Setup → ℕ → Bool → StoreMap → Laid
laid_all s class computed stores =
    laid_each s class record { stores = stores; count = 0 } (filter (is_of computed class) (questions (nodes_of s.ifr)))

-- By place, first the constant ones, then those of a VALUE over what these leave.
abbrev pub laid_behind : Setup → ℕ → Laid → Laid
laid_behind s class first =
    record {
      stores = (laid_all s class true first.stores).stores;
      count = first.count + (laid_all s class true first.stores).count;
    }

abbrev pub laid : Setup → ℕ → StoreMap → Laid
laid s class stores = laid_behind s class (laid_all s class false stores)
