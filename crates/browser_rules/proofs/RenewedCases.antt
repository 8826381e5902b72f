-- How many kept conditions lines renew: three sessions, as tests of sessions count them.
use Rattle.std.proofs.Common.{◌≡◌, refl}
use Rattle.std.specs.Prelude.{ℕ, List, [], ◌∷◌, ◌++◌, map, replicate, codes}
use Prim.Native.String.{String}
use Rattle.browser_rules.specs.Session.{State, step_line}
use Rattle.browser_rules.specs.Headline.{start}
use Rattle.browser_rules.specs.Renewed.{renewed_line}
use Rattle.browser_rules.proofs.CaseWords.{hexes, forms_list, opening}
use Rattle.browser_rules.proofs.cases.Computing.{computing}

abbrev counts_from : State → ℕ → List String → List ℕ
counts_from s before [] = []
counts_from s before (line ∷ lines) =
    let count = renewed_line s before (codes line) in
    count ∷ counts_from (step_line s (codes line)).state count lines

-- the counts of lines, where a session begins over a list with a store of so many bytes, all 0
abbrev counts_over : List ℕ → ℕ → List (String × ℕ) → List ℕ
counts_over list size lines =
    counts_from (start list 1 (codes "en-US") ((1, replicate size 0) ∷ [])) 0 (map (λ l. l.0) lines)

-- A checkbox that is hidden while the question 2 is 1; the questions 2 and 3 share a byte.
abbrev shared : List ℕ
shared = forms_list (opening 2 ++ hexes
    ("0a82"  -- 39 SUPPRESS_IF
    ∷ "  1206 0200 0100"  -- 3b EQ_ID_VAL
    ∷ "  060e 0300 0000 0100 0100 0000 00 00"  -- 41 CHECKBOX
    ∷ "2902"  -- 4f END
    ∷ "060e 0400 0000 0200 0100 0100 00 00"  -- 51 CHECKBOX
    ∷ "060e 0500 0000 0300 0100 0100 00 00"  -- 5f CHECKBOX
    ∷ "2902 2902"  -- 6d 6f END
    ∷ []))

abbrev another_question : List (String × ℕ)
another_question = ("set 1 1", 0) ∷ ("set 3 1", 1) ∷ ("why 1", 0) ∷ []

a_condition_is_renewed_by_bytes : counts_over shared 2 another_question ≡ map (λ l. l.1) another_question
unfolding computing
a_condition_is_renewed_by_bytes = refl

abbrev a_denied_route : List (String × ℕ)
a_denied_route =
    ("why 1", 0)
    ∷ ("route GUID=33333333333333333333333333333333&NAME=0056&PATH=&OFFSET=1&WIDTH=1&VALUE=1&OFFSET=0&WIDTH=1&VALUE=1", 2)
    ∷ ("why 1", 0)
    ∷ ("set 2 1", 1)
    ∷ ("set 2 1", 1)
    ∷ ("why 1", 0)
    ∷ ("discard", 1)
    ∷ ("why 1", 0)
    ∷ []

-- the same without the question 3
abbrev hiding : List ℕ
hiding = forms_list (opening 2 ++ hexes
    ("0a82"  -- 39 SUPPRESS_IF
    ∷ "  1206 0200 0100"  -- 3b EQ_ID_VAL
    ∷ "  060e 0300 0000 0100 0100 0000 00 00"  -- 41 CHECKBOX
    ∷ "2902"  -- 4f END
    ∷ "060e 0400 0000 0200 0100 0100 00 00"  -- 51 CHECKBOX
    ∷ "2902 2902"  -- 5f 61 END
    ∷ []))

a_denied_route_renews_what_it_gives_back : counts_over hiding 2 a_denied_route ≡ map (λ l. l.1) a_denied_route
unfolding computing
a_denied_route_renews_what_it_gives_back = refl

-- A checkbox that is hidden while the question 2 is 1; the checkbox 2 with a NO_SUBMIT_IF that asks for it; one that is
-- hidden by what the list 4 and the text 5 answer, and these two; a reference to a form with a button and a checkbox over
-- the byte of the question 2.
abbrev each_kind : List ℕ
each_kind = forms_list (opening 7 ++ hexes
    ("0a82"  -- 39 SUPPRESS_IF
    ∷ "  1206 0200 0100"  -- 3b EQ_ID_VAL
    ∷ "  060e 0300 0000 0100 0100 0000 00 00"  -- 41 CHECKBOX
    ∷ "2902"  -- 4f END
    ∷ "068e 0400 0000 0200 0100 0100 00 01"  -- 51 CHECKBOX
    ∷ "  1084 0700"  -- 5f NO_SUBMIT_IF
    ∷ "    1206 0200 0700"  -- 63 EQ_ID_VAL
    ∷ "  2902 2902"  -- 69 6b END
    ∷ "0a82"  -- 6d SUPPRESS_IF
    ∷ "  1286 0400 0100"  -- 6f EQ_ID_VAL
    ∷ "    1206 0500 0100"  -- 75 EQ_ID_VAL
    ∷ "    1602"  -- 7b OR
    ∷ "  2902"  -- 7d END
    ∷ "  060e 0500 0000 0300 0100 0200 00 00"  -- 7f CHECKBOX
    ∷ "2902"  -- 8d END
    ∷ "238f 0600 0000 0400 0100 0300 00 02 03"  -- 8f ORDERED_LIST
    ∷ "  0907 0800 00 00 01"  -- 9e ONE_OF_OPTION
    ∷ "  0907 0900 00 00 02"  -- a5 ONE_OF_OPTION
    ∷ "2902"  -- ac END
    ∷ "1c10 0700 0000 0500 0100 0500 00 00 01 00"  -- ae STRING
    ∷ "0f0f 0800 0000 0600 0000 0000 00 0200"  -- be REF
    ∷ "2902"  -- cd END
    ∷ "0186 0200 0a00"  -- cf FORM
    ∷ "  0d08 0b00 0000 0000"  -- d5 RESET_BUTTON
    ∷ "  060e 0900 0000 0700 0100 0100 00 01"  -- dd CHECKBOX
    ∷ "2902 2902"  -- eb ed END
    ∷ []))

abbrev all_commands : List (String × ℕ)
all_commands =
    ("page", 0)
    ∷ ("set 2 1", 2)
    ∷ ("set 2 2", 0)
    ∷ ("order 4 2,1", 1)
    ∷ ("text 5 a", 1)
    ∷ ("go 6", 0)
    ∷ ("press 1", 2)
    ∷ ("back", 0)
    ∷ ("defaults 0", 2)
    ∷ ("extract GUID=33333333333333333333333333333333&NAME=0056&PATH=", 0)
    ∷ ("route GUID=33333333333333333333333333333333&NAME=0056&PATH=&OFFSET=1&WIDTH=1&VALUE=0", 2)
    ∷ ("route GUID", 0)
    ∷ ("why 1", 0)
    ∷ ("lang de", 0)
    ∷ ("submit", 0)
    ∷ ("set 2 1", 2)
    ∷ ("discard", 2)
    ∷ ("discard", 0)
    ∷ []

each_command_tells_its_count : counts_over each_kind 7 all_commands ≡ map (λ l. l.1) all_commands
unfolding computing
each_command_tells_its_count = refl
