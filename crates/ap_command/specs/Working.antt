-- The workload `work`: the text that it makes, the files that it runs over, and its lines.
use Rattle.std.specs.Prelude.{◌≡◌, ℕ, zero, suc, ◌%◌, ◌==◌, if◌then◌else◌, List, [], ◌∷◌, ◌++◌, length, drop, Option, Some, None, codes, decimal}
use Rattle.std.specs.Str.{bytes_eq}
use Rattle.ap_binary.specs.Text.{then_space, then_end}
use Rattle.ap_stream.specs.Supers.{supers}
use Rattle.ap_stream.specs.declared.dialect.Dialect.TheVariants.{Generated}
use Rattle.ap_pipe.specs.Standing.{Standing}
use Rattle.ap_command.specs.BuiltInTexts.{mono_text, bilingual_text, t1x_text, t2x_text, t3x_text, gen_text, post_text}
use Rattle.ap_command.specs.Outside.{FilesStanding, Outside}
use Rattle.ap_command.specs.Words.{room_lem}
use Rattle.ap_command.specs.declared.made.Part.{Part}
use Rattle.ap_command.specs.declared.made.Part.TheVariants.{Head, Number, Tail}
use Rattle.ap_command.specs.declared.status.Status.{Status}
use Rattle.ap_command.specs.declared.status.Status.TheVariants.{FileFault, WriteFault, BadDictionary, BadRules, BadCompiled, Limit, Memory}
use Rattle.ap_command.specs.declared.words.Command.{Command}
use Rattle.ap_command.specs.declared.words.Command.TheVariants.{Run}

-- what stands before the number of a sentence, and behind it: there are two kinds, by turns
abbrev pub head : ℕ → List ℕ
head number = if number % 2 == 0 then codes "The black dog[<" else codes "black cats[<"

abbrev pub tail : ℕ → List ℕ
tail number = if number % 2 == 0 then codes ">] of the cat.\n" else codes ">] sleep.\n"

-- the parts of a sentence
abbrev pub part_text : Part → ℕ → List ℕ
part_text Head number = head number
part_text Number number = decimal number
part_text Tail number = tail number

-- the sentence of that number, with its line feed
abbrev pub sentence : ℕ → List ℕ
sentence number = head number ++ (decimal number ++ tail number)

-- so many sentences, of which the first has this number
unfoldable pub sentences_from : ℕ → ℕ → List ℕ
sentences_from number zero = []
sentences_from number (suc more) = sentence number ++ sentences_from (suc number) more

-- THE TEXT that `work` makes: so many sentences, from 0 on
abbrev pub made_text : ℕ → List ℕ
made_text sentences = sentences_from 0 sentences

-- what of a sentence stands behind a part
abbrev pub behind_part : Part → ℕ → List ℕ
behind_part Head number = decimal number ++ tail number
behind_part Number number = tail number
behind_part Tail number = []

-- what is left of so many sentences, where of the first, which has this number, the parts before this
-- one were given, and so many bytes of this one
abbrev pub left_of : Part → ℕ → ℕ → ℕ → List ℕ
left_of part number at zero = []
left_of part number at (suc more) = drop at (part_text part number)
    ++ (behind_part part number ++ sentences_from (suc number) more)

-- the built-in files, by their names
abbrev pub text_named : List ℕ → Option (List ℕ)
text_named name =
    if bytes_eq name (codes "W.mono") then Some mono_text
    else (if bytes_eq name (codes "W.bi") then Some bilingual_text
    else (if bytes_eq name (codes "W.t1x") then Some t1x_text
    else (if bytes_eq name (codes "W.t2x") then Some t2x_text
    else (if bytes_eq name (codes "W.t3x") then Some t3x_text
    else (if bytes_eq name (codes "W.gen") then Some gen_text
    else (if bytes_eq name (codes "W.post") then Some post_text else None))))))

-- how they stand: they tell their contents, and no call on them fails
abbrev pub built_in : FilesStanding
built_in = record {
  contents = Some text_named;
  load_faults = λ name. 0;
  store_faults = 0;
}

-- the command that `work` runs over them, and its words
abbrev pub work_run : Command
work_run = Run room_lem 1

abbrev pub run_words : List (List ℕ)
run_words = codes "run" ∷ codes "W.mono" ∷ codes "W.bi" ∷ codes "W.t1x" ∷ codes "W.t2x"
    ∷ codes "W.t3x" ∷ codes "W.gen" ∷ codes "W.post" ∷ []

-- a source and a sink beside these files
abbrev pub over_built_in : Standing → Standing → Outside
over_built_in source sink = record { files = built_in; source = source; sink = sink }

-- how that run finds all: the source tells the made text, and nothing is written yet
abbrev pub before_work : ℕ → Outside
before_work sentences = over_built_in (record { bytes = Some (made_text sentences); faults = 0 })
    (record { bytes = Some []; faults = 0 })

-- a line of a name and a number
abbrev pub count_line : List ℕ → ℕ → List ℕ
count_line name count = then_space name ++ then_end (decimal count)

-- THE LINES of `work` for so many sentences and their translation: how many sentences they are, how
-- many bytes, how many bytes their translation has, and how many superblanks it has
abbrev pub work_lines : ℕ → List ℕ → List ℕ
work_lines sentences text = count_line (codes "sentences") sentences
    ++ (count_line (codes "input") (length (made_text sentences))
    ++ (count_line (codes "output") (length text)
    ++ count_line (codes "superblanks") (length (supers Generated text))))

-- the place of a limit that is none of a stage: of a file that is too long that is its place
abbrev pub limit_place : ℕ → ℕ → ℕ
limit_place kind place = if kind == 6 then 0 else place

-- The status of `work` where that run ended so: a built-in file has no place among the words, and
-- its status says 0; the sink of that run keeps what is put, and fails for want of memory alone.
abbrev pub of_built_in : Status → Status
of_built_in (FileFault file) = FileFault 0
of_built_in (BadDictionary file number line) = BadDictionary 0 number line
of_built_in (BadRules file number line) = BadRules 0 number line
of_built_in (BadCompiled file number line) = BadCompiled 0 number line
of_built_in (Limit zero kind place) = Limit 0 kind (limit_place kind place)
of_built_in WriteFault = Memory
of_built_in status = status
