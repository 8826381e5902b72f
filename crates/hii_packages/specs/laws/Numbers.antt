-- The numbers of Types of packages (UEFI 2.8, 33.3.1 Package Lists and Package Headers).
use Rattle.std.specs.Prelude.{◌≡◌}
use Rattle.browser_rules.specs.Packages as chapter
use Rattle.hii_packages.specs.declared.package.TheConstants.{FORMS, STRINGS, DEVICE_PATH, END}

-- Each Type of the code is that of the chapters, and has its number of the table of package types.
pub record HaveNumbers : Type 0 where
  pub forms : (FORMS ≡ chapter.FORMS) × (FORMS ≡ 0x02)
  pub strings : (STRINGS ≡ chapter.STRINGS) × (STRINGS ≡ 0x04)
  pub device_path : (DEVICE_PATH ≡ chapter.DEVICE_PATH) × (DEVICE_PATH ≡ 0x08)
  pub end : (END ≡ chapter.END_PACKAGE) × (END ≡ 0xDF)
