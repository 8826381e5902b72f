-- How defaults are seen.
use Rattle.hii_languages.specs.code.Views.{choice_of}
use Rattle.store_audit.specs.Defaulted as spec
use Rattle.store_audit.specs.declared.defaults.Defaults.{Defaults}

abbrev pub defaults_view : Defaults → spec.Defaults
defaults_view d = record { class = d.class; spoken = d.languages.now; language = choice_of d.choice }
