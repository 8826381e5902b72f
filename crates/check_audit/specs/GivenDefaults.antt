-- Defaults that their questions do not take (own rule; UEFI 2.8, 33.2.5.8 Defaults, and 33.3.8.3, EFI_IFR_DEFAULT).
use Rattle.std.specs.Prelude.{ℕ, Bool, ◌==◌, ◌||◌, nat_le, if◌then◌else◌, Option, Some, None, is_some, option_map, List, []}
use Rattle.std.specs.List.{filter_map, flat_map}
use Rattle.std.specs.Result.{result_err}
use Rattle.browser_rules.specs.Strings.{Spoken, text_in}
use Rattle.ifr_opcodes.specs.Fields.{default_id, default_kind, question_id}
use Rattle.ifr_opcodes.specs.Forest.{Node}
use Rattle.ifr_opcodes.specs.declared.kinds.TheConstants.{TYPE_BOOLEAN, TYPE_BUFFER, TYPE_STRING}
use Rattle.ifr_expr.specs.Values.{undefined}
use Rattle.ifr_nodes.specs.Nodes.{defaults}
use Rattle.hii_values.specs.Inputs.{Offer}
use Rattle.hii_values.specs.Types.{type_of}
use Rattle.hii_values.specs.declared.denial.DenialKind.{DenialKind}
use Rattle.hii_questions.specs.Fields.{Asked, questions}
use Rattle.hii_questions.specs.Fits.{fits_field}
use Rattle.ifr_defaults.specs.Defaults.{Sources, given}
use Rattle.check_audit.specs.declared.warning.Oddity.TheVariants.{Default}
use Rattle.check_audit.specs.declared.warning.Warning.{Warning}

-- whether a DEFAULT of a Type says itself what it gives: a number, a Boolean, a text or a buffer
abbrev pub is_given : ℕ → Bool
is_given kind = nat_le kind TYPE_BOOLEAN || kind == TYPE_STRING || kind == TYPE_BUFFER

-- what such a DEFAULT is taken from: the texts of the first string package
abbrev pub sources_without : List Spoken → Sources
sources_without spoken =
    record { rules = []; answers = λ id. undefined; texts = λ id. text_in spoken id (Some 0) }

-- why a question does not take what a DEFAULT gives: there is nothing, since a string id has no text, or it is denied
abbrev pub refusal_of : Asked → Option Offer → Option (Option DenialKind)
refusal_of q None = Some None
refusal_of q (Some offer) = option_map (λ kind. Some kind) (result_err (fits_field (type_of q.node) q.field offer))

abbrev pub refused : Asked → Node → Option DenialKind → Warning
refused q d denial = record {
  place = d.place;
  oddity = Default record { class = default_id d.op; question = question_id q.node.op; denial = denial };
}

abbrev pub default_at : List Spoken → Asked → Node → Option Warning
default_at spoken q d =
    if is_given (default_kind d.op)
    then option_map (refused q d) (refusal_of q (given (sources_without spoken) q.node d)) else None

-- those of a question with a field
abbrev pub defaults_of : List Spoken → Asked → List Warning
defaults_of spoken q = if is_some q.field then filter_map (default_at spoken q) (defaults q.node) else []

abbrev pub default_warnings : List Spoken → List Node → List Warning
default_warnings spoken ns = flat_map (defaults_of spoken) (questions ns)
