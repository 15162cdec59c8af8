-- Right words as they are read: of any kind of section, with a case carried to them, in order.
use Rattle.std.specs.Prelude.{◌⊎◌, ℕ, suc, Bool, List, ◌++◌, length, map, if◌then◌else◌}
use Rattle.std.specs.List.{sum_by}
use Rattle.ap_symbol.specs.Lists.{IsIn}
use Rattle.ap_symbol.specs.Recasing.{case_of_lem, carry_lem}
use Rattle.ap_symbol.specs.Rendering.{rendering}
use Rattle.ap_symbol.specs.declared.symbol.Symbol.{Symbol}
use Rattle.ap_fst.specs.declared.compiled.Kind2.TheVariants.{Standard, Inconditional, Postblank, Preblank}
use Rattle.ap_live.specs.Found.{in_order}
use Rattle.ap_live.specs.Lexicon.{Lexicon}

-- a word with the case of what was seen, unless case counts
abbrev pub carried : Bool → List Symbol → List Symbol → List Symbol
carried sensitive seen word = if sensitive then word else carry_lem (case_of_lem seen) word

-- the right words of any kind whose left word fits these symbols
abbrev pub any_words : Lexicon → List Symbol → List (List Symbol)
any_words lexicon symbols = lexicon.readings Standard symbols
    ++ (lexicon.readings Inconditional symbols
    ++ (lexicon.readings Postblank symbols ++ lexicon.readings Preblank symbols))

-- these right words with the case of what was seen, in order, each once
abbrev pub carried_words : Lexicon → Bool → List Symbol → List Symbol → List (List Symbol)
carried_words lexicon sensitive seen symbols =
    in_order (map (carried sensitive seen) (any_words lexicon symbols))

-- Each of the new words was there before, or is one of these: some of these are added, perhaps none.
abbrev pub AddsSome : List (List Symbol) → List (List Symbol) → List (List Symbol) → Type 0
AddsSome words old new = (w : List Symbol) → IsIn w new → IsIn w old ⊎ IsIn w words

-- how many bytes the words have together, with one more byte for each, which parts it from the others
abbrev pub parted_size : List (List Symbol) → ℕ
parted_size words = sum_by (λ word. suc (length (rendering word))) words
