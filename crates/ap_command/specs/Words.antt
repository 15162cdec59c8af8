use Rattle.std.specs.Prelude.{ℕ, Bool, true, false, ◌&&◌, ◌||◌, not, ◌==◌, ◌<◌, ◌≤◌, ◌+◌, ◌-◌, nat_lt, nat_le, List, [], ◌∷◌, length, map, take, codes, slice_index, String, Option, Some, None, is_some, Result, Ok, Err, if◌then◌else◌}
use Rattle.std.specs.List.{filter, filter_map, list_all, slice_index_or}
use Rattle.std.specs.Str.{bytes_eq, all_ascii_digits}
use Rattle.std.specs.Str.Parse.{digits_value}
use Rattle.std.specs.String.{string_bytes}
use Rattle.std.specs.declared.alloc.Global.{Global}
use Rattle.ap_dix.specs.declared.dictionary.Direction.TheVariants.{Lr, Rl}
use Rattle.ap_rules.specs.declared.rules.Form.TheVariants as form
use Rattle.ap_stream.specs.declared.TheConstants.{ROOM_MAX}
use Rattle.ap_fst.specs.declared.compiled.Way.{Way}
use Rattle.ap_fst.specs.declared.compiled.Way.TheVariants as told
use Rattle.ap_command.specs.declared.reading.Manner.TheVariants.{Plain, Made, Either, Ruled, Chunking, Paired}
use Rattle.ap_command.specs.declared.reading.Reading.{Reading}
use Rattle.ap_command.specs.declared.words.Mode.{Mode}
use Rattle.ap_command.specs.declared.words.Mode.TheVariants.{A, B, G, N, D, P}
use Rattle.ap_command.specs.declared.words.Chosen.{Chosen}
use Rattle.ap_command.specs.declared.words.Command.{Command}
use Rattle.ap_command.specs.declared.words.Command.TheVariants.{Proc, Expand, Comp, Trim, First, Pretransfer, TransferAlone, Transfer, Interchunk, Postchunk, Choose, Destxt, Retxt, Compound, Run, Text, Work}
use Rattle.ap_command.specs.declared.words.UsageFault.{UsageFault}

-- the words as texts
abbrev pub texts : List (String Global) → List (List ℕ)
texts words = map string_bytes words

-- a file has a name that is not empty and does not begin with a hyphen
abbrev pub is_file_name_lem : List ℕ → Bool
is_file_name_lem [] = false
is_file_name_lem (b ∷ bs) = not (b == 45)

abbrev pub usage : Result Command UsageFault
usage = Err (record {})

-- a command whose word stands alone
abbrev pub alone : Command → List (List ℕ) → Result Command UsageFault
alone command [] = Ok command
alone command (word ∷ words) = usage

-- a command of one file
abbrev pub by_file : Command → List (List ℕ) → Result Command UsageFault
by_file command (file ∷ []) = if is_file_name_lem file then Ok command else usage
by_file command _ = usage

-- `transfer -b T1X`, or `transfer T1X BIDIX`
abbrev pub transfer_of : List (List ℕ) → Result Command UsageFault
transfer_of (first ∷ second ∷ []) =
    if is_file_name_lem second && bytes_eq first (codes "-b") then Ok (TransferAlone 2)
    else (if is_file_name_lem second && is_file_name_lem first then Ok (Transfer 1 2) else usage)
transfer_of _ = usage

-- `lt-comp lr DIX OUT`, or `lt-comp rl DIX OUT`
abbrev pub comp_of : List (List ℕ) → Result Command UsageFault
comp_of (way ∷ dix ∷ out ∷ []) =
    if is_file_name_lem dix && is_file_name_lem out && bytes_eq way (codes "lr")
    then Ok (Comp Lr 2 3)
    else (if is_file_name_lem dix && is_file_name_lem out && bytes_eq way (codes "rl")
    then Ok (Comp Rl 2 3) else usage)
comp_of _ = usage

-- `trim MONO BI OUT`
abbrev pub trim_of : List (List ℕ) → Result Command UsageFault
trim_of (mono ∷ bi ∷ out ∷ []) =
    if is_file_name_lem mono && is_file_name_lem bi && is_file_name_lem out
    then Ok (Trim 1 2 3) else usage
trim_of _ = usage

-- the mode that an option of `lt-proc` names
abbrev pub mode_of_lem : List ℕ → Option Mode
mode_of_lem option =
    if bytes_eq option (codes "-a") then Some A
    else (if bytes_eq option (codes "-b") then Some B
    else (if bytes_eq option (codes "-g") then Some G
    else (if bytes_eq option (codes "-n") then Some N
    else (if bytes_eq option (codes "-d") then Some D
    else (if bytes_eq option (codes "-p") then Some P else None)))))

-- `-c`, which makes case count
abbrev pub is_case_option : List ℕ → Bool
is_case_option option = bytes_eq option (codes "-c")

-- the listed options
abbrev pub is_option : List ℕ → Bool
is_option option = is_case_option option || is_some (mode_of_lem option)

abbrev pub at_most_one : {X : Type 0} → List X → Bool
at_most_one [] = true
at_most_one (x ∷ []) = true
at_most_one (x ∷ y ∷ xs) = false

abbrev pub is_any : {X : Type 0} → List X → Bool
is_any [] = false
is_any (x ∷ xs) = true

-- without an option of a mode it is `-a`
abbrev pub mode_by : List Mode → Mode
mode_by [] = A
mode_by (mode ∷ modes) = mode

-- the modes that options name, and those among them that make case count
abbrev pub modes_in : List (List ℕ) → List Mode
modes_in options = filter_map mode_of_lem options

abbrev pub cases_in : List (List ℕ) → List (List ℕ)
cases_in options = filter is_case_option options

-- What options choose, in any order: each is a listed one, at most one names a mode, and at most
-- one is `-c`.
abbrev pub options_of : List (List ℕ) → Result Chosen UsageFault
options_of options =
    if list_all is_option options && at_most_one (modes_in options)
    && at_most_one (cases_in options)
    then Ok (record { mode = mode_by (modes_in options); sensitive = is_any (cases_in options) })
    else Err (record {})

abbrev pub proc_by : Result Chosen UsageFault → List ℕ → ℕ → Result Command UsageFault
proc_by (Err fault) name place = usage
proc_by (Ok chosen) name place = if is_file_name_lem name
    then Ok (Proc chosen.mode chosen.sensitive place) else usage

-- `lt-proc`, options, FILE: all words but the last are options, and the last is the name of the
-- file
abbrev pub proc_of : List (List ℕ) → Result Command UsageFault
proc_of words = proc_by (options_of (take (length words - 1) words))
    (slice_index_or words (length words - 1) []) (length words)

-- a number, where it is from 1 to this most
abbrev pub in_range_lem : ℕ → ℕ → Option ℕ
in_range_lem most number = if nat_lt 0 number && nat_le number most then Some number else None

-- A number from 1 to this most: decimal digits, the first of them no zero. The value of no digits
-- is 0.
abbrev pub number_to : ℕ → List ℕ → Option ℕ
number_to most digits = if all_ascii_digits digits && not (slice_index digits 0 == 48)
    then in_range_lem most (digits_value 10 digits) else None

-- the room of a pipe, where none is said
abbrev pub room_lem : ℕ
room_lem = 65536

-- the files of `run`, of which the first is at this place among the words
abbrev pub run_from : ℕ → ℕ → List (List ℕ) → Result Command UsageFault
run_from room mono files =
    if (length files == 7) && list_all is_file_name_lem files then Ok (Run room mono) else usage

abbrev pub run_in : Option ℕ → List (List ℕ) → Result Command UsageFault
run_in None files = usage
run_in (Some room) files = run_from room 3 files

-- `run MONO BI T1X T2X T3X GEN POST`, or with `-B N` before the files, where N is the room of a
-- pipe
abbrev pub run_of : List (List ℕ) → Result Command UsageFault
run_of [] = usage
run_of (first ∷ []) = usage
run_of (first ∷ second ∷ words) =
    if bytes_eq first (codes "-B") then run_in (number_to ROOM_MAX second) words
    else run_from room_lem 1 (first ∷ second ∷ words)

-- `text` and the words behind `run`
abbrev pub in_text : Result Command UsageFault → Result Command UsageFault
in_text (Ok (Run room mono)) = Ok (Text room mono)
in_text result = usage

abbrev pub text_of : List (List ℕ) → Result Command UsageFault
text_of words = in_text (run_of words)

-- `compound FILE`, or `compound -c FILE`
abbrev pub compound_of : List (List ℕ) → Result Command UsageFault
compound_of (file ∷ []) = if is_file_name_lem file then Ok (Compound false 1) else usage
compound_of (option ∷ file ∷ []) =
    if is_file_name_lem file && is_case_option option then Ok (Compound true 2) else usage
compound_of _ = usage

-- the most sentences of `work`
abbrev pub work_max : ℕ
work_max = 1000000

abbrev pub work_on : Option ℕ → Result Command UsageFault
work_on None = usage
work_on (Some sentences) = Ok (Work sentences)

-- `work N`, where N is the number of sentences
abbrev pub work_of : List (List ℕ) → Result Command UsageFault
work_of (number ∷ []) = work_on (number_to work_max number)
work_of _ = usage

-- `destxt`, `retxt`, `compound`, `text` and `work`
abbrev pub format_of : List ℕ → List (List ℕ) → Result Command UsageFault
format_of tool words =
    if bytes_eq tool (codes "destxt") then alone Destxt words
    else (if bytes_eq tool (codes "retxt") then alone Retxt words
    else (if bytes_eq tool (codes "compound") then compound_of words
    else (if bytes_eq tool (codes "text") then text_of words
    else (if bytes_eq tool (codes "work") then work_of words else usage))))

-- a step between analysis and generation
abbrev pub step_of : List ℕ → List (List ℕ) → Result Command UsageFault
step_of tool words =
    if bytes_eq tool (codes "first") then alone First words
    else (if bytes_eq tool (codes "pretransfer") then alone Pretransfer words
    else (if bytes_eq tool (codes "choose") then by_file (Choose 1) words
    else (if bytes_eq tool (codes "transfer") then transfer_of words
    else (if bytes_eq tool (codes "interchunk") then by_file (Interchunk 1) words
    else (if bytes_eq tool (codes "postchunk") then by_file (Postchunk 1) words
    else format_of tool words)))))

-- the command that the words are
abbrev pub command_of : List (List ℕ) → Result Command UsageFault
command_of [] = usage
command_of (tool ∷ words) =
    if bytes_eq tool (codes "lt-expand") then by_file (Expand 1) words
    else (if bytes_eq tool (codes "lt-comp") then comp_of words
    else (if bytes_eq tool (codes "trim") then trim_of words
    else (if bytes_eq tool (codes "lt-proc") then proc_of words
    else (if bytes_eq tool (codes "run") then run_of words else step_of tool words))))

-- The direction that the file of `lt-proc` has: from right to left for generation, from left to
-- right for analysis and post-generation. Bilingual lookup takes either, since the other direction
-- of a pair uses the same dictionary compiled the other way.
abbrev pub way_of : Mode → Way
way_of A = told.Lr
way_of B = told.Untold
way_of G = told.Rl
way_of N = told.Rl
way_of D = told.Rl
way_of P = told.Lr

-- the seven files of a whole translation, of which the first is at this place among the words
abbrev pub translation_files : ℕ → List Reading
translation_files mono = record { place = mono; manner = Either told.Lr }
    ∷ record { place = mono + 1; manner = Either told.Untold }
    ∷ record { place = mono + 2; manner = Chunking }
    ∷ record { place = mono + 3; manner = Ruled form.Interchunk }
    ∷ record { place = mono + 4; manner = Ruled form.Postchunk }
    ∷ record { place = mono + 5; manner = Either told.Rl }
    ∷ record { place = mono + 6; manner = Either told.Lr } ∷ []

-- the files that it reads, in order: the place of each name among the words, and how it is read
abbrev pub files_of : Command → List Reading
files_of (Proc mode sensitive file) = record { place = file; manner = Either (way_of mode) } ∷ []
files_of (Expand dix) = record { place = dix; manner = Plain } ∷ []
files_of (Comp way dix out) = record { place = dix; manner = Made way } ∷ []
files_of (Trim mono bi out) = record { place = mono; manner = Either told.Lr }
    ∷ record { place = bi; manner = Either told.Untold } ∷ []
files_of First = []
files_of Pretransfer = []
files_of (Choose pairs) = record { place = pairs; manner = Paired } ∷ []
files_of (TransferAlone t1x) = record { place = t1x; manner = Ruled form.Transfer } ∷ []
files_of (Transfer t1x bidix) = record { place = t1x; manner = Ruled form.Transfer }
    ∷ record { place = bidix; manner = Either told.Untold } ∷ []
files_of (Interchunk t2x) = record { place = t2x; manner = Ruled form.Interchunk } ∷ []
files_of (Postchunk t3x) = record { place = t3x; manner = Ruled form.Postchunk } ∷ []
files_of Destxt = []
files_of Retxt = []
files_of (Compound sensitive file) =
    record { place = file; manner = Either (way_of A) } ∷ []
files_of (Run room mono) = translation_files mono
files_of (Text room mono) = translation_files mono
files_of (Work sentences) = []

-- the place among the words of the file that it stores, where it stores one
abbrev pub out_of : Command → Option ℕ
out_of (Proc mode sensitive file) = None
out_of (Expand file) = None
out_of (Comp way dix out) = Some out
out_of (Trim mono bi out) = Some out
out_of First = None
out_of Pretransfer = None
out_of (Choose pairs) = None
out_of (TransferAlone t1x) = None
out_of (Transfer t1x bidix) = None
out_of (Interchunk t2x) = None
out_of (Postchunk t3x) = None
out_of Destxt = None
out_of Retxt = None
out_of (Compound sensitive file) = None
out_of (Run room mono) = None
out_of (Text room mono) = None
out_of (Work sentences) = None

-- whether a stream goes through it
abbrev pub has_stream : Command → Bool
has_stream (Proc mode sensitive file) = true
has_stream (Expand file) = false
has_stream (Comp way dix out) = false
has_stream (Trim mono bi out) = false
has_stream First = true
has_stream Pretransfer = true
has_stream (Choose pairs) = true
has_stream (TransferAlone t1x) = true
has_stream (Transfer t1x bidix) = true
has_stream (Interchunk t2x) = true
has_stream (Postchunk t3x) = true
has_stream Destxt = true
has_stream Retxt = true
has_stream (Compound sensitive file) = true
has_stream (Run room mono) = true
has_stream (Text room mono) = true
has_stream (Work sentences) = false

-- the room of the pipes that it names, if it does, is one that a pipe may have, and the sentences
-- are as many as they may be
abbrev pub HasRoom : Command → Type 0
HasRoom (Run room mono) = (1 ≤ room) × (room ≤ ROOM_MAX)
HasRoom (Text room mono) = (1 ≤ room) × (room ≤ ROOM_MAX)
HasRoom (Work sentences) = (1 ≤ sentences) × (sentences ≤ work_max)
HasRoom command = Unit {0}

-- each file is one of so many words
abbrev pub AreWithin : ℕ → List Reading → Type 0
AreWithin words [] = Unit {0}
AreWithin words (r ∷ rs) = (r.place < words) × AreWithin words rs
