use Rattle.std.specs.Prelude.{◌≡◌, ℕ, ◌<◌, ◌≤◌, ◌⊎◌, ◌==◌, List, [], ◌∷◌, codes, decimal, if◌then◌else◌, Result, OnOk, OnErr}
use Rattle.std.specs.List.{slice_index_or, flat_map}
use Rattle.ap_outside.specs.Causes.{HasCause}
use Rattle.ap_outside.specs.Told.{Puts, PutsFront}
use Rattle.ap_pipe.specs.Standing.{Standing}
use Rattle.ap_command.specs.declared.status.Status.{Status}
use Rattle.ap_command.specs.declared.status.Status.TheVariants.{Done, Usage, FileFault, ReadFault, WriteFault, BadDictionary, BadRules, BadCompiled, Malformed, Limit, Memory}

-- the word of a file
abbrev pub name_at : List (List ℕ) → ℕ → List ℕ
name_at words file = slice_index_or words file []

-- the name of a fault of a dictionary, by its number
abbrev pub dictionary_fault_name_lem : ℕ → List ℕ
dictionary_fault_name_lem fault =
    if fault == 1 then codes "NotUtf8" else
    (if fault == 2 then codes "Syntax" else
    (if fault == 3 then codes "UnknownElement" else
    (if fault == 4 then codes "UnknownAttribute" else
    (if fault == 5 then codes "MissingAttribute" else
    (if fault == 6 then codes "Misplaced" else
    (if fault == 7 then codes "DuplicateName" else
    (if fault == 8 then codes "UndeclaredSymbol" else
    (if fault == 9 then codes "UndefinedParadigm" else
    (if fault == 10 then codes "BadRegex" else
    (if fault == 11 then codes "Weighted" else
    (if fault == 12 then codes "Unsupported" else codes "EmptySide")))))))))))

-- the name of a fault of a rule file, by its number
abbrev pub rule_fault_name_lem : ℕ → List ℕ
rule_fault_name_lem fault =
    if fault == 1 then codes "NotUtf8" else
    (if fault == 2 then codes "Syntax" else
    (if fault == 3 then codes "UnknownElement" else
    (if fault == 4 then codes "UnknownAttribute" else
    (if fault == 5 then codes "MissingAttribute" else
    (if fault == 6 then codes "Misplaced" else
    (if fault == 7 then codes "DuplicateName" else
    (if fault == 8 then codes "UndefinedName" else
    (if fault == 9 then codes "BadPosition" else
    (if fault == 10 then codes "BadTags" else
    (if fault == 11 then codes "PatternLength" else
    (if fault == 12 then codes "Misused" else
    (if fault == 13 then codes "Unsupported" else codes "BadPair"))))))))))))

-- the name of a kind of malformed item
abbrev pub malformed_name_lem : ℕ → List ℕ
malformed_name_lem kind =
    if kind == 1 then codes "NotUtf8" else
    (if kind == 2 then codes "Stray" else
    (if kind == 3 then codes "Unfinished" else
    (if kind == 4 then codes "BadTag" else codes "EmptyWord")))

-- the name of a limit
abbrev pub limit_name_lem : ℕ → List ℕ
limit_name_lem kind =
    if kind == 1 then codes "ItemTooLong" else
    (if kind == 2 then codes "SpanTooLong" else
    (if kind == 3 then codes "UnitTooLong" else
    (if kind == 4 then codes "ValueTooLong" else
    (if kind == 5 then codes "OutputTooLong" else
    (if kind == 6 then codes "FileTooLong" else codes "InputTooLong")))))

-- the name of a fault of a compiled file
abbrev pub compiled_fault_name_lem : ℕ → List ℕ
compiled_fault_name_lem fault =
    if fault == 1 then codes "BadHeader" else
    (if fault == 2 then codes "BadLine" else
    (if fault == 3 then codes "OutOfRange" else
    (if fault == 4 then codes "EmptyCycle" else
    (if fault == 5 then codes "EmptySide" else codes "WrongWay"))))

-- pieces of a text, one after another
unfoldable pub joined : List (List ℕ) → List ℕ
joined pieces = flat_map (λ p. p) pieces

-- what is said of a file, behind its name
abbrev pub file_text : List ℕ → List ℕ → List ℕ
file_text name what = joined (codes "apertium: " ∷ name ∷ what ∷ [])

-- what is said of a file's fault
abbrev pub fault_text : List ℕ → ℕ → List ℕ → ℕ → List ℕ → List ℕ
fault_text name line what fault fault_name =
    joined (codes "apertium: " ∷ name ∷ codes ": line " ∷ decimal line ∷ what ∷ decimal fault
    ∷ codes " " ∷ fault_name ∷ codes "\n" ∷ [])

-- what is said of a place in a stage's input
abbrev pub stage_text : ℕ → ℕ → List ℕ → ℕ → List ℕ → List ℕ
stage_text stage place what kind name =
    joined (codes "apertium: stage " ∷ decimal stage ∷ codes ": byte " ∷ decimal place ∷ what
    ∷ decimal kind ∷ codes " " ∷ name ∷ codes "\n" ∷ [])

-- stage 0 is the whole input, or the file at that place among the words
abbrev pub limit_text : List (List ℕ) → ℕ → ℕ → ℕ → List ℕ
limit_text words stage kind place =
    if stage == 0
    then (if kind == 6 then file_text (name_at words place) (codes ": limit 6 FileTooLong\n")
    else codes "apertium: limit 7 InputTooLong\n")
    else stage_text stage place (codes ": limit ") kind (limit_name_lem kind)

-- the message of a status
unfoldable pub message_of : Status → List (List ℕ) → List ℕ
message_of Done words = joined []
message_of Usage words = codes "apertium: usage\n"
message_of (FileFault file) words = file_text (name_at words file) (codes ": file fault\n")
message_of ReadFault words = codes "apertium: read fault\n"
message_of WriteFault words = codes "apertium: write fault\n"
message_of (BadDictionary file fault line) words =
    fault_text (name_at words file) line (codes ": dictionary fault ") fault
    (dictionary_fault_name_lem fault)
message_of (BadRules file fault line) words =
    fault_text (name_at words file) line (codes ": rule fault ") fault (rule_fault_name_lem fault)
message_of (BadCompiled file fault line) words =
    fault_text (name_at words file) line (codes ": compiled fault ") fault
    (compiled_fault_name_lem fault)
message_of (Malformed stage kind place) words =
    stage_text stage place (codes ": malformed ") kind (malformed_name_lem kind)
message_of (Limit stage kind place) words = limit_text words stage kind place
message_of Memory words = codes "apertium: out of memory\n"

-- the limit is that of a file among so many words, that of the input, or one of a stage
abbrev pub IsLimitTold : ℕ → ℕ → ℕ → ℕ → Type 0
IsLimitTold stage kind place words = ((stage ≡ 0) × (kind ≡ 6) × (place < words))
    ⊎ (((stage ≡ 0) × (kind ≡ 7)) ⊎ ((0 < stage) × (1 ≤ kind) × (kind ≤ 7)))

-- A status that has a message: a file that it names is one of so many words, and its numbers are
-- those of faults, kinds and limits.
abbrev pub IsTold : Status → ℕ → Type 0
IsTold (FileFault file) words = file < words
IsTold (BadDictionary file fault line) words = (file < words) × (1 ≤ fault) × (fault ≤ 13)
IsTold (BadRules file fault line) words = (file < words) × (1 ≤ fault) × (fault ≤ 14)
IsTold (BadCompiled file fault line) words = (file < words) × (1 ≤ fault) × (fault ≤ 6)
IsTold (Malformed stage kind place) words = (1 ≤ kind) × (kind ≤ 5)
IsTold (Limit stage kind place) words = IsLimitTold stage kind place words
IsTold _ words = Unit {0}

-- The text was put, or where a put failed a front of it.
pub record Says {U E : Type 0} (old new : Standing) (result : Result U E)
    (text : List ℕ) : Type 0 where
  pub ok : OnOk result (Puts old.bytes new.bytes text)
  pub failed : OnErr result (PutsFront old.bytes new.bytes text)
  pub cause : HasCause old.faults new.faults result
