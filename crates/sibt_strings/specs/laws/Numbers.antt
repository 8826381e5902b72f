-- The numbers of blocks (UEFI 2.8, 33.3.6.2 String Information).
use Rattle.std.specs.Prelude.{◌≡◌}
use Rattle.sibt_strings.specs.declared.block_types.TheConstants.{END, STRING_UCS2, STRING_UCS2_FONT, STRINGS_UCS2, STRINGS_UCS2_FONT, DUPLICATE, SKIP2, SKIP1, EXT1, EXT2, EXT4}

-- Each block that is read has its number of the table of block types.
pub record HaveNumbers : Type 0 where
  pub end : END ≡ 0x00
  pub string_ucs2 : STRING_UCS2 ≡ 0x14
  pub string_ucs2_font : STRING_UCS2_FONT ≡ 0x15
  pub strings_ucs2 : STRINGS_UCS2 ≡ 0x16
  pub strings_ucs2_font : STRINGS_UCS2_FONT ≡ 0x17
  pub duplicate : DUPLICATE ≡ 0x20
  pub skip2 : SKIP2 ≡ 0x21
  pub skip1 : SKIP1 ≡ 0x22
  pub ext1 : EXT1 ≡ 0x30
  pub ext2 : EXT2 ≡ 0x31
  pub ext4 : EXT4 ≡ 0x32
