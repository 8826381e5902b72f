-- Worked texts.
use Rattle.std.specs.Prelude.{◌≡◌, ℕ, false, refl, Some, None, Ok, Err, List, [], ◌∷◌, codes, replicate, ◌++◌}
use Rattle.exported_config.specs.Exported.{responses_in}
use Rattle.exported_config.specs.Giving.{bytes_laid, exported, given}
use Rattle.exported_config.specs.declared.unread.Part.TheVariants.{Guid, Name, Offset, Value, NoGuid, NoValue}

abbrev guid : List ℕ
guid = replicate 16 0x11

abbrev head : List ℕ
head = codes "GUID=11111111111111111111111111111111&NAME=00410042&PATH=0104"

-- two blocks, the second over the end of the first: the last byte of both is that of the second
two_blocks : responses_in (head ++ codes "&OFFSET=0&WIDTH=0000000000000002&VALUE=0201&OFFSET=1&WIDTH=1&VALUE=7")
    ≡ Ok (record {
      guid = guid;
      name = Some (0x41 ∷ 0x42 ∷ []);
      blocks = record { offset = 0; width = 2; digits = codes "0201" } ∷ record { offset = 1; width = 1; digits = codes "7" } ∷ [];
      is_alternative = false;
    } ∷ [])
two_blocks = refl

laid_over : bytes_laid 2 (record { offset = 0; width = 2; digits = codes "0201" } ∷ record { offset = 1; width = 1; digits = codes "7" } ∷ []) ≡ 1 ∷ 7 ∷ []
laid_over = refl

-- a block that lacks its width, its value or its name, and one that ends too far
no_width : responses_in (head ++ codes "&OFFSET=0&VALUE=00") ≡ Err record { number = 1; part = Value }
no_width = refl

no_value : responses_in (head ++ codes "&OFFSET=0&WIDTH=1\r\n") ≡ Err record { number = 1; part = NoValue }
no_value = refl

no_name : responses_in (codes "GUID=11111111111111111111111111111111&OFFSET=0") ≡ Err record { number = 1; part = Name }
no_name = refl

too_far : responses_in (head ++ codes "&OFFSET=FFFF&WIDTH=2&VALUE=0") ≡ Err record { number = 1; part = Value }
too_far = refl

too_wide : responses_in (head ++ codes "&OFFSET=0&WIDTH=1&VALUE=100") ≡ Err record { number = 1; part = Value }
too_wide = refl

-- what stands before a response, a GUID that is none, and an offset that is none in the second
no_guid : responses_in (codes "PATH=&NAME=0041") ≡ Err record { number = 1; part = NoGuid }
no_guid = refl

bad_guid : responses_in (head ++ codes "\nGUID=11") ≡ Err record { number = 2; part = Guid }
bad_guid = refl

bad_offset : responses_in (head ++ codes "&" ++ head ++ codes "&OFFSET=00000000000000000") ≡ Err record { number = 2; part = Offset }
bad_offset = refl

-- a hole is no byte that is given, and a block that leaves the store counts to its end
hole : given None 3 (record { offset = 2; width = 1; digits = codes "9" } ∷ []) ≡ record { count = 1; bytes = 0 ∷ 0 ∷ 9 ∷ []; alias = None }
hole = refl

leaving : given None 3 (record { offset = 2; width = 2; digits = codes "9" } ∷ []) ≡ record { count = 4; bytes = []; alias = None }
leaving = refl

-- a store whose name no response has takes the bytes of the first other name with its GUID
other_name : exported (record { guid = guid; name = codes "N" } ∷ []) (head ++ codes "&OFFSET=0&WIDTH=1&VALUE=5")
    ≡ Ok (record { own = []; others = record { guid = guid; name = Some (0x41 ∷ 0x42 ∷ []); blocks = record { offset = 0; width = 1; digits = codes "5" } ∷ []; is_alternative = false } ∷ [] })
other_name = refl
