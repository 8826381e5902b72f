-- What must be believed of a run of `setup`: its answers and its image, for every list, image, language and script of
-- bytes.
--
-- The command line gives them: `--list FILE`, `--forms N` (the number of a forms package from 1 on, 1 if not said),
-- `--stores FILE` (the image), `--out FILE` (where the new image goes), `--lang L` (en-US if not said), each once; the
-- script is standard input, and the answers are standard output. What does not fit this ends with the status 2 before
-- anything is read.
--
-- In which order to read: the end of Headline (`Runs`, `IsRefused`); Script and Session, Policy, Pages, Configuration;
-- what they stand on: Questions, Stores, Strings, Nodes, Expressions, Values, Forest, the rows of Opcodes; Packages and
-- Faults last. Renewed and AtFault are promises of their own.
--
-- Places and offsets count bytes from 0: in the list, in the image, in an opcode; in the forms package from its header,
-- so that the first opcode is at 4. A place is 0 where no opcode decides.
--
-- Notation: `abbrev f : T` and the equations of f, of which the first that fits counts, `_` fits all (`unfoldable`: a
-- proof says where it looks inside). `record s { form = f }` is s with another form. `x ∷ xs` is a list with x in
-- front, `xs ++ ys` two in a row; `(a, b)` a pair with the parts `.0` and `.1`; `A × B` both, `A ⊎ B` either. `λ x. e`,
-- as the last argument, stands without parentheses. `&&` binds closer than `||`. `Some x` or `None`, `Ok x` or `Err e`.
-- `deriving Discrete as same` has a test whether two are one, `yes` or `no`. `⊥` cannot be.
--
-- Words of the library, at their ends: `a - b` is 0 where b is more; `take`, `drop` and `slice_range` go as far as the
-- list does; `slice_index` is 0 and `slice_get` is None behind the end; `little_number n bytes` reads 0 for each byte
-- that is not there, `little_bytes n x` are the lowest n bytes; `slice_split` gives one empty part of an empty text;
-- `before_first` is the whole text where nothing is found; `is_digit byte 16` takes letters of either case, and
-- `digit_glyph false` writes those of the lower; `char_width false` is how many columns a character has where it is not
-- shown among Chinese, Japanese or Korean ones, by Unicode 18, and None for controls; `pos n` is n, `negsuc n` is
-- -(n + 1), `neg_ℤ (pos 0)` is `pos 0`; `signed_decimal` has a `-` in front of a number below 0 and no `+`; `codes "a"`
-- are the bytes of a text, `decimal n` the digits of n; `unwrap_or o x`, `option_or o p` are o where it is something.
pub mod Words
pub mod Values
pub mod Opcodes
pub mod Forest
pub mod Expressions
pub mod Nodes
pub mod Packages
pub mod Strings
pub mod Stores
pub mod Questions
pub mod Policy
pub mod Pages
pub mod Configuration
pub mod Script
pub mod Session
pub mod Faults
pub mod Headline
pub mod Renewed
pub mod AtFault
