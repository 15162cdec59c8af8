-- How one file is read, and how it is refused.
use Rattle.std.specs.Prelude.{◌≡◌, ℕ, ◌<◌, ◌≤◌, ◌⊎◌, ◌==◌, Bool, true, false, codes, List, [], ◌∷◌, Option, Some, length, if◌then◌else◌}
use Rattle.std.specs.List.{starts_with}
use Rattle.std.specs.Option.{IfSome}
use Rattle.ap_dix.specs.declared.dictionary.Dictionary.{Dictionary}
use Rattle.ap_dix.specs.declared.dictionary.Direction.{Direction}
use Rattle.ap_dix.specs.declared.dictionary.Direction.TheVariants.{Lr, Rl}
use Rattle.ap_dix.specs.declared.refusal.DixFault.{DixFault}
use Rattle.ap_dix.specs.Sentences.{SpellsDictionary, IsRefusedFor}
use Rattle.ap_dix.specs.Refusals.{kind_number}
use Rattle.ap_dix.specs.Soundness.{IsSound}
use Rattle.ap_fst.specs.Sections.{Parts}
use Rattle.ap_fst.specs.declared.compiled.Way.{Way}
use Rattle.ap_fst.specs.declared.compiled.Way.TheVariants as told
use Rattle.ap_compile.specs.Compiling.{IsCompiledFrom}
use Rattle.ap_compile.specs.Empties.{HasEmptyEntry, IsFirstEmpty, section_entries}
use Rattle.ap_binary.specs.declared.refusal.BinaryFault.{BinaryFault}
use Rattle.ap_binary.specs.Faults.{HasFirstFault}
use Rattle.ap_binary.specs.Grammar.{IsTextOf}
use Rattle.ap_binary.specs.Refusals.{kind_number as compiled_number}
use Rattle.ap_choose.specs.Pairs.{AreSaid, IsFirstBad}
use Rattle.ap_rules.specs.declared.refusal.RuleFault.{RuleFault}
use Rattle.ap_rules.specs.declared.rules.Form.{Form}
use Rattle.ap_rules.specs.declared.rules.Rules.{Rules as RuleFile}
use Rattle.ap_rules.specs.declared.rules.Form.TheVariants.{Transfer}
use Rattle.ap_rules.specs.Plain.{PlainRules}
use Rattle.ap_rules.specs.Refusals.{kind_number as rule_number}
use Rattle.ap_rules.specs.Soundness.{IsSound as AreSound}
use Rattle.ap_rules.specs.Views.{plain_rules, makes_chunks}
use Rattle.ap_rules.specs.Sentences.{SpellsRules, IsRefusedFor as AreRefusedFor}
use Rattle.ap_rules.specs.Worded.{AreWorded}
use Rattle.ap_command.specs.Said.{Said, Entries, Sections, Rules, Pairs}
use Rattle.ap_command.specs.declared.content.Content.{Content}
use Rattle.ap_command.specs.declared.content.Content.TheVariants as code
use Rattle.ap_command.specs.declared.reading.Manner.{Manner}
use Rattle.ap_command.specs.declared.reading.Manner.TheVariants.{Plain, Made, Either, Ruled, Chunking, Paired}
use Rattle.ap_command.specs.declared.reading.Reading.{Reading}
use Rattle.ap_command.specs.declared.status.Status.{Status}
use Rattle.ap_command.specs.declared.status.Status.TheVariants.{BadDictionary, BadRules, BadCompiled, Limit, Memory}
use Rattle.ap_command.specs.Outside.{FilesStanding}

-- the most bytes of a file
abbrev pub file_max : ℕ
file_max = 67108864

-- the file has a text of which this holds, where contents are told
abbrev pub HasText : FilesStanding → List ℕ → (List ℕ → Type 0) → Type 0
HasText files name P = IfSome files.contents
    (λ at. (text : List ℕ) × (at name ≡ Some text) × P text)

-- the contents are told, and the file has a text of which this holds
pub record HoldsText (files : FilesStanding) (name : List ℕ) (P : List ℕ → Type 0) : Type 0 where
  pub at : List ℕ → Option (List ℕ)
  pub told : files.contents ≡ Some at
  pub text : List ℕ
  pub there : at name ≡ Some text
  pub has : P text

-- a text that begins with these letters is that of a compiled file
abbrev pub is_compiled_file : List ℕ → Bool
is_compiled_file text = starts_with (λ (a b : ℕ). a == b) text (codes "LTC")

-- the notations of files
pub data Notation : Type 0 where
  AsDictionary : Notation
  AsCompiled : Notation
  AsRules : Form → Notation
  AsPairs : Notation

-- the notation of a text that is read so
abbrev pub notation_of : Manner → List ℕ → Notation
notation_of Plain text = AsDictionary
notation_of (Made way) text = AsDictionary
notation_of (Either way) text = if is_compiled_file text then AsCompiled else AsDictionary
notation_of (Ruled form) text = AsRules form
notation_of Chunking text = AsRules Transfer
notation_of Paired text = AsPairs

-- the text spells this, by the grammar of that notation
abbrev pub SpellsAs : Notation → List ℕ → Said → Type 0
SpellsAs AsDictionary text (Entries d) = SpellsDictionary text d
SpellsAs AsCompiled text (Sections p) = IsTextOf text p
SpellsAs (AsRules form) text (Rules r) = SpellsRules form text r
SpellsAs AsPairs text (Pairs ps) = AreSaid text ps
SpellsAs notation text content = ⊥

-- a kept entry of a section of a dictionary has an empty input side, in that direction; other files
-- have none
abbrev pub HasEmptyInput : Direction → Said → Type 0
HasEmptyInput way (Entries d) = HasEmptyEntry d way (section_entries d.sections)
HasEmptyInput way content = ⊥

-- and the first such begins on this line
abbrev pub IsFirstEmptyInput : Direction → Said → ℕ → Type 0
IsFirstEmptyInput way (Entries d) line = IsFirstEmpty d way (section_entries d.sections) line
IsFirstEmptyInput way content line = ⊥

-- what is wrong with a text: it is over the limit, or has a fault, by its number and line
pub data Flaw : Type 0 where
  TooLong : Flaw
  OfDictionary : ℕ → ℕ → Flaw
  OfCompiled : ℕ → ℕ → Flaw
  OfRules : ℕ → ℕ → Flaw

-- the status of a file with this flaw
abbrev pub status_of_flaw : ℕ → Flaw → Status
status_of_flaw file TooLong = Limit 0 6 file
status_of_flaw file (OfDictionary number line) = BadDictionary file number line
status_of_flaw file (OfCompiled number line) = BadCompiled file number line
status_of_flaw file (OfRules number line) = BadRules file number line

-- a direction is told, and it isn't the one that the place needs; where that is untold, it takes
-- either
abbrev pub is_other_way : Way → Way → Bool
is_other_way told.Lr told.Rl = true
is_other_way told.Rl told.Lr = true
is_other_way needed told = false

-- The direction in which a dictionary is compiled for a place that needs this one; from left to
-- right where it takes either.
abbrev pub made_way : Way → Direction
made_way told.Lr = Lr
made_way told.Rl = Rl
made_way told.Untold = Lr

-- What a text may say, and yet isn't taken: a dictionary that is to be compiled has an empty input
-- side; a compiled file tells another direction than its place needs; rules of transfer that are to
-- make chunks make none.
abbrev pub IsMisfit : Manner → Said → Type 0
IsMisfit (Made way) content = HasEmptyInput way content
IsMisfit (Either way) (Entries d) = HasEmptyInput (made_way way) (Entries d)
IsMisfit (Either way) (Sections p) = is_other_way way p.way ≡ true
IsMisfit Chunking (Rules r) = makes_chunks r.form r.default ≡ false
IsMisfit manner content = ⊥

-- and the first such has this fault, which comes after all others
abbrev pub IsFirstMisfit : Manner → Said → Flaw → Type 0
IsFirstMisfit (Made way) content flaw = (line : ℕ) × IsFirstEmptyInput way content line
    × (flaw ≡ OfDictionary 13 line)
IsFirstMisfit (Either way) (Entries d) flaw =
    (line : ℕ) × IsFirstEmptyInput (made_way way) (Entries d) line × (flaw ≡ OfDictionary 13 line)
IsFirstMisfit (Either way) (Sections p) flaw = (is_other_way way p.way ≡ true)
    × (flaw ≡ OfCompiled 6 2)
IsFirstMisfit Chunking (Rules r) flaw = (makes_chunks r.form r.default ≡ false)
    × (flaw ≡ OfRules 12 r.line)
IsFirstMisfit manner content flaw = ⊥

-- the text, read so, says this
pub record Says (manner : Manner) (text : List ℕ) (content : Said) : Type 0 where
  pub spelled : SpellsAs (notation_of manner text) text content
  pub fits : IsMisfit manner content → ⊥

-- the file is within the limit, and says this
pub record IsAccepted (manner : Manner) (text : List ℕ) (content : Said) : Type 0 where
  pub short : length text ≤ file_max
  pub says : Says manner text content

-- the first fault of the text, as a dictionary, has this number and this line
pub record HasDictionaryFault (text : List ℕ) (number line : ℕ) : Type 0 where
  pub fault : DixFault
  pub first : IsRefusedFor text fault
  pub number_is : kind_number fault.kind ≡ number
  pub line_is : fault.line ≡ line

-- the first fault of the text, as a compiled file, has this number and this line
pub record HasCompiledFault (text : List ℕ) (number line : ℕ) : Type 0 where
  pub fault : BinaryFault
  pub first : HasFirstFault text fault
  pub number_is : compiled_number fault.kind ≡ number
  pub line_is : fault.line ≡ line

-- the first fault of the text, as a rule file of the form, has this number and this line
pub record HasRuleFault (form : Form) (text : List ℕ) (number line : ℕ) : Type 0 where
  pub fault : RuleFault
  pub first : AreRefusedFor form text fault
  pub number_is : rule_number fault.kind ≡ number
  pub line_is : fault.line ≡ line

-- this is the first fault of the text, in that notation
abbrev pub IsFlawAs : Notation → List ℕ → Flaw → Type 0
IsFlawAs AsDictionary text (OfDictionary number line) = HasDictionaryFault text number line
IsFlawAs AsCompiled text (OfCompiled number line) = HasCompiledFault text number line
IsFlawAs (AsRules form) text (OfRules number line) = HasRuleFault form text number line
IsFlawAs AsPairs text (OfRules number line) = (number ≡ 14) × IsFirstBad text line
IsFlawAs notation text flaw = ⊥

-- the text spells something that isn't taken
pub record SpellsMisfit (manner : Manner) (text : List ℕ) (flaw : Flaw) : Type 0 where
  pub content : Said
  pub spelled : SpellsAs (notation_of manner text) text content
  pub first : IsFirstMisfit manner content flaw

-- this is the first fault of the text, read so
abbrev pub IsFaultOf : Manner → List ℕ → Flaw → Type 0
IsFaultOf manner text flaw = IsFlawAs (notation_of manner text) text flaw
    ⊎ SpellsMisfit manner text flaw

-- the text is over the limit; or it is within the limit, and this is its first fault
abbrev pub IsFlawOf : Manner → List ℕ → Flaw → Type 0
IsFlawOf manner text TooLong = file_max < length text
IsFlawOf manner text (OfDictionary number line) = (length text ≤ file_max)
    × IsFaultOf manner text (OfDictionary number line)
IsFlawOf manner text (OfCompiled number line) = (length text ≤ file_max)
    × IsFaultOf manner text (OfCompiled number line)
IsFlawOf manner text (OfRules number line) = (length text ≤ file_max)
    × IsFaultOf manner text (OfRules number line)

-- A text that is read in a notation is refused with its first fault; or memory ran out.
abbrev pub IsSpellingRefusal : Notation → ℕ → List ℕ → Status → Type 0
IsSpellingRefusal notation file text status =
    ((flaw : Flaw) × IsFlawAs notation text flaw × (status ≡ status_of_flaw file flaw))
    ⊎ (status ≡ Memory)

-- A dictionary isn't compiled: its first empty input side is answered, or memory ran out.
abbrev pub IsUncompiled : Dictionary → Direction → ℕ → Status → Type 0
IsUncompiled d way file status =
    ((line : ℕ) × IsFirstEmptyInput way (Entries d) line × (status ≡ BadDictionary file 13 line))
    ⊎ (status ≡ Memory)

-- The text spells a compiled file that tells a direction that isn't the one that is needed, which
-- is answered for its line 2; or it is refused with its first fault; or memory ran out.
abbrev pub IsCompiledRefusal : List ℕ → Way → ℕ → Status → Type 0
IsCompiledRefusal text way file status = IsSpellingRefusal AsCompiled file text status
    ⊎ ((p : Parts) × IsTextOf text p × (is_other_way way p.way ≡ true)
    × (status ≡ BadCompiled file 6 2))

-- A text that is read so is refused with its first fault; or memory ran out.
abbrev pub IsTextRefusal : Reading → List ℕ → Status → Type 0
IsTextRefusal reading text status =
    ((flaw : Flaw) × IsFaultOf reading.manner text flaw
    × (status ≡ status_of_flaw reading.place flaw)) ⊎ (status ≡ Memory)

-- the dictionary that the text spells is compiled in that direction
pub record IsMadeOf (text : List ℕ) (way : Direction) (p : Parts) : Type 0 where
  pub dictionary : Dictionary
  pub spelled : SpellsDictionary text dictionary
  pub sides : HasEmptyInput way (Entries dictionary) → ⊥
  pub made : IsCompiledFrom dictionary way p

-- the text spells a dictionary with an empty input side, in that direction, and the first is
-- answered; or it is refused with its first fault; or memory ran out
abbrev pub IsMakingRefusal : List ℕ → Direction → ℕ → Status → Type 0
IsMakingRefusal text way file status = IsSpellingRefusal AsDictionary file text status
    ⊎ ((d : Dictionary) × SpellsDictionary text d × IsUncompiled d way file status)

-- The text spells rules of transfer that make no chunks, which is answered at their root; or it is
-- refused with its first fault; or memory ran out.
abbrev pub IsChunkingRefusal : List ℕ → ℕ → Status → Type 0
IsChunkingRefusal text file status = IsSpellingRefusal (AsRules Transfer) file text status
    ⊎ ((r : PlainRules) × SpellsRules Transfer text r × (makes_chunks r.form r.default ≡ false)
    × (status ≡ BadRules file 12 r.line))

-- rules of a form, which are sound and whose words are words of the program
abbrev pub ServesAs : Form → RuleFile → Type 0
ServesAs form rules =
    (rules.form ≡ form) × AreWorded (plain_rules rules) × AreSound (plain_rules rules)

-- What is kept of a file that says this: the dictionary as it stands, what it is compiled to, the
-- compiled file, the rules, or the pairs.
abbrev pub IsKeptAs : Manner → Said → Content → Type 0
IsKeptAs Plain (Entries d) (code.Entries e) = (d ≡ e) × IsSound e
IsKeptAs (Made way) (Entries d) (code.Sections q) = IsCompiledFrom d way q
IsKeptAs (Either way) (Entries d) (code.Sections q) = IsCompiledFrom d (made_way way) q
IsKeptAs (Either way) (Sections p) (code.Sections q) = p ≡ q
IsKeptAs (Ruled form) (Rules r) (code.Rules s) = (r ≡ plain_rules s) × ServesAs form s
IsKeptAs Chunking (Rules r) (code.Rules s) = (r ≡ plain_rules s) × ServesAs Transfer s
    × (makes_chunks s.form s.default ≡ true)
IsKeptAs Paired (Pairs ps) (code.Pairs qs) = ps ≡ qs
IsKeptAs manner said content = ⊥

-- the text says something, and this is kept of it
pub record Keeps (manner : Manner) (text : List ℕ) (kept : Content) : Type 0 where
  pub said : Said
  pub says : Says manner text said
  pub kept_as : IsKeptAs manner said kept

-- the first that is kept is a compiled one
abbrev pub StartsCompiled : List Content → Type 0
StartsCompiled (code.Sections p ∷ rest) = Unit {0}
StartsCompiled contents = ⊥

-- the first that is kept is forbidden pairs
abbrev pub StartsPaired : List Content → Type 0
StartsPaired (code.Pairs ps ∷ rest) = Unit {0}
StartsPaired contents = ⊥

-- the first that is kept is rules
abbrev pub StartsRuled : List Content → Type 0
StartsRuled (code.Rules r ∷ rest) = Unit {0}
StartsRuled contents = ⊥

-- what is kept is that of the seven files of a whole translation
abbrev pub AreTranslation : List Content → Type 0
AreTranslation (code.Sections mono ∷ code.Sections bi ∷ code.Rules t1x ∷ code.Rules t2x
    ∷ code.Rules t3x ∷ code.Sections gen ∷ code.Sections post ∷ []) = Unit {0}
AreTranslation contents = ⊥

-- the first that is kept is a sound dictionary
abbrev pub StartsSound : List Content → Type 0
StartsSound (code.Entries d ∷ rest) = IsSound d
StartsSound contents = ⊥
