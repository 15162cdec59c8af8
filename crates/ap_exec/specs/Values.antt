-- What values give.
use Rattle.std.specs.Prelude.{ℕ, List, [], ◌∷◌, ◌++◌, length, nat_le, if◌then◌else◌, Ok, Err, true, slice_get}
use Rattle.ap_symbol.specs.Recasing.{case_of_lem, recase_lem}
use Rattle.ap_symbol.specs.Rendering.{rendering}
use Rattle.ap_symbol.specs.declared.recasing.Case.{Case}
use Rattle.ap_symbol.specs.declared.recasing.Case.TheVariants.{Low, First, All}
use Rattle.ap_symbol.specs.declared.symbol.Symbol.{Symbol}
use Rattle.ap_symbol.specs.declared.symbol.Symbol.TheVariants.{Letter, Blank}
use Rattle.ap_rules.specs.Plain.{PlainValue, PlainValues, clip, lit, lit_tag, var, get_case_from, case_of, concat, blank_value, no_values, then_value}
use Rattle.ap_rules.specs.declared.value.CaseOf.{CaseOf}
use Rattle.ap_stream.specs.declared.TheConstants.{UNIT_MAX}
use Rattle.ap_exec.specs.Parts.{part_at, clip_of, case_at}
use Rattle.ap_exec.specs.Results.{Ran, ◌>>=◌, ValueTooLong}
use Rattle.ap_exec.specs.Units.{Sight, var_at}

-- what has so many rendered bytes, where that isn't too long for a value
unfoldable pub sized : {A : Type 0} → ℕ → A → Ran A
sized n x = if nat_le n UNIT_MAX then Ok x else Err ValueTooLong

abbrev pub bounded : List Symbol → Ran (List Symbol)
bounded word = sized (length (rendering word)) word

-- aa, Aa and AA
abbrev pub case_word : Case → List Symbol
case_word Low = Letter 97 ∷ Letter 97 ∷ []
case_word First = Letter 65 ∷ Letter 97 ∷ []
case_word All = Letter 65 ∷ Letter 65 ∷ []

-- the word that says the case of a part
abbrev pub case_said : Sight → CaseOf → List Symbol
case_said sight c = case_word (case_of_lem (part_at sight c.pos c.part c.side true))

-- a value is tested once it is made, behind the values in it
abbrev mutual
  pub value_of : Sight → PlainValue → Ran (List Symbol)
  value_of sight (clip c) = bounded (clip_of sight c)
  value_of sight (lit word) = bounded word
  value_of sight (lit_tag word) = bounded word
  value_of sight (var n) = bounded (var_at (slice_get sight.vars n))
  value_of sight (get_case_from pos v) =
      value_of sight v >>= λ word. bounded (recase_lem (case_at sight pos) word)
  value_of sight (case_of c) = bounded (case_said sight c)
  value_of sight (concat vs) = joined_of sight vs >>= bounded
  value_of sight (blank_value pos) = bounded (Blank ∷ [])

  pub joined_of : Sight → PlainValues → Ran (List Symbol)
  joined_of sight no_values = Ok []
  joined_of sight (then_value v vs) =
      value_of sight v >>= λ w. joined_of sight vs >>= λ ws. Ok (w ++ ws)

-- a variable with values behind it: all values are read first
abbrev pub appended : Sight → ℕ → PlainValues → Ran (List Symbol)
appended sight n vs = joined_of sight vs >>= λ x. bounded (var_at (slice_get sight.vars n) ++ x)
