-- The numbers of opcodes and of Types of values (UEFI 2.8, 33.3.8.3 Opcode Reference).
use Rattle.std.specs.Prelude.{◌≡◌}
use Rattle.ifr_opcodes.specs.declared.codes.TheConstants.{FORM, SUBTITLE, TEXT, IMAGE, ONE_OF, CHECKBOX, NUMERIC, PASSWORD, ONE_OF_OPTION, SUPPRESS_IF, LOCKED, ACTION, RESET_BUTTON, FORM_SET, REF, NO_SUBMIT_IF, INCONSISTENT_IF, EQ_ID_VAL, EQ_ID_ID, EQ_ID_VAL_LIST, AND, OR, NOT, RULE, GRAY_OUT_IF, DATE, TIME, STRING, REFRESH, DISABLE_IF, ANIMATION, ORDERED_LIST, VARSTORE, VARSTORE_NAME_VALUE, VARSTORE_EFI, END, EQUAL, NOT_EQUAL, GREATER_THAN, GREATER_EQUAL, LESS_THAN, LESS_EQUAL, BITWISE_AND, BITWISE_OR, BITWISE_NOT, SHIFT_LEFT, SHIFT_RIGHT, ADD, SUBTRACT, MULTIPLY, DIVIDE, MODULO, RULE_REF, QUESTION_REF1, UINT8, UINT16, UINT32, UINT64, TRUE, FALSE, ZERO, ONE, ONES, UNDEFINED, THIS, VALUE, DEFAULT, DEFAULTSTORE, GUID, MODAL_TAG, REFRESH_ID, WARNING_IF}
use Rattle.ifr_opcodes.specs.declared.kinds.TheConstants.{TYPE_NUM_SIZE_8, TYPE_NUM_SIZE_16, TYPE_NUM_SIZE_32, TYPE_NUM_SIZE_64, TYPE_BOOLEAN, TYPE_TIME, TYPE_DATE, TYPE_STRING, TYPE_OTHER, TYPE_BUFFER, TYPE_REF}

-- The opcodes have the numbers of the standard (EFI_IFR_FORM_OP and the like).
pub record OpcodesAreNumbered : Type 0 where
  pub form_op : FORM ≡ 0x01
  pub subtitle_op : SUBTITLE ≡ 0x02
  pub text_op : TEXT ≡ 0x03
  pub image_op : IMAGE ≡ 0x04
  pub one_of_op : ONE_OF ≡ 0x05
  pub checkbox_op : CHECKBOX ≡ 0x06
  pub numeric_op : NUMERIC ≡ 0x07
  pub password_op : PASSWORD ≡ 0x08
  pub one_of_option_op : ONE_OF_OPTION ≡ 0x09
  pub suppress_if_op : SUPPRESS_IF ≡ 0x0a
  pub locked_op : LOCKED ≡ 0x0b
  pub action_op : ACTION ≡ 0x0c
  pub reset_button_op : RESET_BUTTON ≡ 0x0d
  pub form_set_op : FORM_SET ≡ 0x0e
  pub ref_op : REF ≡ 0x0f
  pub no_submit_if_op : NO_SUBMIT_IF ≡ 0x10
  pub inconsistent_if_op : INCONSISTENT_IF ≡ 0x11
  pub eq_id_val_op : EQ_ID_VAL ≡ 0x12
  pub eq_id_id_op : EQ_ID_ID ≡ 0x13
  pub eq_id_val_list_op : EQ_ID_VAL_LIST ≡ 0x14
  pub and_op : AND ≡ 0x15
  pub or_op : OR ≡ 0x16
  pub not_op : NOT ≡ 0x17
  pub rule_op : RULE ≡ 0x18
  pub gray_out_if_op : GRAY_OUT_IF ≡ 0x19
  pub date_op : DATE ≡ 0x1a
  pub time_op : TIME ≡ 0x1b
  pub string_op : STRING ≡ 0x1c
  pub refresh_op : REFRESH ≡ 0x1d
  pub disable_if_op : DISABLE_IF ≡ 0x1e
  pub animation_op : ANIMATION ≡ 0x1f
  pub ordered_list_op : ORDERED_LIST ≡ 0x23
  pub varstore_op : VARSTORE ≡ 0x24
  pub varstore_name_value_op : VARSTORE_NAME_VALUE ≡ 0x25
  pub varstore_efi_op : VARSTORE_EFI ≡ 0x26
  pub end_op : END ≡ 0x29
  pub equal_op : EQUAL ≡ 0x2f
  pub not_equal_op : NOT_EQUAL ≡ 0x30
  pub greater_than_op : GREATER_THAN ≡ 0x31
  pub greater_equal_op : GREATER_EQUAL ≡ 0x32
  pub less_than_op : LESS_THAN ≡ 0x33
  pub less_equal_op : LESS_EQUAL ≡ 0x34
  pub bitwise_and_op : BITWISE_AND ≡ 0x35
  pub bitwise_or_op : BITWISE_OR ≡ 0x36
  pub bitwise_not_op : BITWISE_NOT ≡ 0x37
  pub shift_left_op : SHIFT_LEFT ≡ 0x38
  pub shift_right_op : SHIFT_RIGHT ≡ 0x39
  pub add_op : ADD ≡ 0x3a
  pub subtract_op : SUBTRACT ≡ 0x3b
  pub multiply_op : MULTIPLY ≡ 0x3c
  pub divide_op : DIVIDE ≡ 0x3d
  pub modulo_op : MODULO ≡ 0x3e
  pub rule_ref_op : RULE_REF ≡ 0x3f
  pub question_ref1_op : QUESTION_REF1 ≡ 0x40
  pub uint8_op : UINT8 ≡ 0x42
  pub uint16_op : UINT16 ≡ 0x43
  pub uint32_op : UINT32 ≡ 0x44
  pub uint64_op : UINT64 ≡ 0x45
  pub true_op : TRUE ≡ 0x46
  pub false_op : FALSE ≡ 0x47
  pub zero_op : ZERO ≡ 0x52
  pub one_op : ONE ≡ 0x53
  pub ones_op : ONES ≡ 0x54
  pub undefined_op : UNDEFINED ≡ 0x55
  pub this_op : THIS ≡ 0x58
  pub value_op : VALUE ≡ 0x5a
  pub default_op : DEFAULT ≡ 0x5b
  pub defaultstore_op : DEFAULTSTORE ≡ 0x5c
  pub guid_op : GUID ≡ 0x5f
  pub modal_tag_op : MODAL_TAG ≡ 0x61
  pub refresh_id_op : REFRESH_ID ≡ 0x62
  pub warning_if_op : WARNING_IF ≡ 0x63

-- So have the Types of values (EFI_IFR_ONE_OF_OPTION, EFI_IFR_TYPE_NUM_SIZE_8 and the like).
pub record KindsAreNumbered : Type 0 where
  pub type_num_size_8 : TYPE_NUM_SIZE_8 ≡ 0x00
  pub type_num_size_16 : TYPE_NUM_SIZE_16 ≡ 0x01
  pub type_num_size_32 : TYPE_NUM_SIZE_32 ≡ 0x02
  pub type_num_size_64 : TYPE_NUM_SIZE_64 ≡ 0x03
  pub type_boolean : TYPE_BOOLEAN ≡ 0x04
  pub type_time : TYPE_TIME ≡ 0x05
  pub type_date : TYPE_DATE ≡ 0x06
  pub type_string : TYPE_STRING ≡ 0x07
  pub type_other : TYPE_OTHER ≡ 0x08
  pub type_buffer : TYPE_BUFFER ≡ 0x0b
  pub type_ref : TYPE_REF ≡ 0x0c
