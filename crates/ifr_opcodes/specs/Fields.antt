-- The fields of opcodes: numbers with the lowest byte first, at offsets in bytes from the opcode's first
-- (UEFI 2.8, 33.3.8.3 Opcode Reference, under the name of each).
use Rattle.std.specs.Prelude.{ℕ, List}
pub use Rattle.browser_rules.specs.Opcodes.{number_width, type_width}
use Rattle.browser_rules.specs.Opcodes.{field, bytes_in, row, FORM, FORM_SET, INCONSISTENT_IF, NO_SUBMIT_IF, RULE, WARNING_IF}
pub use Rattle.ifr_opcodes.specs.StoreFields.{is_nul, varstore_guid, varstore_id, varstore_size, varstore_name, varstore_efi_id, varstore_efi_guid, varstore_efi_attributes, varstore_efi_size, varstore_efi_name, name_value_id, name_value_guid, defaultstore_name, defaultstore_id}
pub use Rattle.ifr_opcodes.specs.QuestionFields.{has_flag, number_where, display_of_flags, statement_prompt, statement_help, subtitle_flags, text_second, reset_default, question_id, question_store, question_offset, question_flags, is_read_only, checkbox_flags, is_default_checkbox, is_manufacturing_checkbox, numeric_flags, numeric_width, display, numeric_minimum, numeric_maximum, numeric_step, one_of_flags, one_of_width, one_of_minimum, one_of_maximum, one_of_step, string_minimum, string_maximum, string_flags, password_minimum, password_maximum, ordered_list_containers, ordered_list_flags, is_unique_set, has_no_empty_set, date_flags, time_flags, action_text, ref_form_id, ref_question_id, ref_form_set, ref_device_path, ref_target}
pub use Rattle.ifr_opcodes.specs.OptionFields.{option_text, option_flags, option_kind, option_value, is_default_option, is_manufacturing_option, default_id, default_kind, default_value}
pub use Rattle.ifr_opcodes.specs.ExpressionFields.{eq_id_val_question, eq_id_val_value, eq_id_id_first, eq_id_id_second, eq_id_val_list_question, eq_id_val_list_count, pairs, eq_id_val_list_values, question_ref_question, rule_ref_rule, constants, uints, uint_width, uint_value}
pub use Rattle.ifr_opcodes.specs.Rows.{is_short, is_listed, is_left_out, is_outside, is_row, IsMisread, IsShort}

-- EFI_IFR_FORM_SET
abbrev pub form_set_guid : List ℕ → List ℕ
form_set_guid op = bytes_in (row FORM_SET).layout "Guid" op

abbrev pub form_set_title : List ℕ → ℕ
form_set_title op = field FORM_SET "FormSetTitle" op

abbrev pub form_set_help : List ℕ → ℕ
form_set_help op = field FORM_SET "Help" op

abbrev pub form_set_flags : List ℕ → ℕ
form_set_flags op = field FORM_SET "Flags" op

-- EFI_IFR_FORM
abbrev pub form_id : List ℕ → ℕ
form_id op = field FORM "FormId" op

abbrev pub form_title : List ℕ → ℕ
form_title op = field FORM "FormTitle" op

-- EFI_IFR_RULE
abbrev pub rule_id : List ℕ → ℕ
rule_id op = field RULE "RuleId" op

-- EFI_IFR_INCONSISTENT_IF
abbrev pub inconsistent_error : List ℕ → ℕ
inconsistent_error op = field INCONSISTENT_IF "Error" op

-- EFI_IFR_NO_SUBMIT_IF
abbrev pub no_submit_error : List ℕ → ℕ
no_submit_error op = field NO_SUBMIT_IF "Error" op

-- EFI_IFR_WARNING_IF
abbrev pub warning_message : List ℕ → ℕ
warning_message op = field WARNING_IF "Warning" op

abbrev pub warning_timeout : List ℕ → ℕ
warning_timeout op = field WARNING_IF "TimeOut" op
