-- What the laws of plain texts say.
use Rattle.std.specs.Prelude.{◌≡◌, ℕ, ◌+◌, ◌≤◌, List, ◌++◌, length, None}
use Rattle.std.specs.Str.{IsUtf8}
use Rattle.ap_stream.specs.Limits.{unit_max}
use Rattle.ap_stream.specs.Reading.{reads}
use Rattle.ap_stream.specs.Told.{Ending, Clean}
use Rattle.ap_stream.specs.declared.dialect.Dialect.TheVariants.{Raw}
use Rattle.ap_format.specs.BareTexts.{IsBareBlank, IsBareText}
use Rattle.ap_format.specs.Deformatted.{des_text}
use Rattle.ap_format.specs.Reformatted.{bare_blank, ret_text}
use Rattle.ap_format.specs.Standing.{IsWhite}
use Rattle.ap_format.specs.declared.blanks.Spot.TheVariants.{Outside}

-- a text in UTF-8 in which each run of white space, with two brackets, is an item of the stream
pub record IsPlainText (text : List ℕ) : Type 0 where
  pub utf8 : IsUtf8 text
  pub runs : (front run back : List ℕ) → text ≡ front ++ (run ++ back) → IsWhite run →
      length run + 2 ≤ unit_max

-- such a text is written whole, and what is written of it is read as that text
abbrev pub ComesBack : Type 0
ComesBack = (text : List ℕ) → IsPlainText text → ((des_text text Clean).fault ≡ None)
    × (ret_text (des_text text Clean).text Clean ≡ record { text = text; fault = None })

-- what is written of any text, up to its fault where it has one, is read as raw text to its end
abbrev pub IsReadRaw : Type 0
IsReadRaw = (text : List ℕ) (e : Ending) → (reads Raw 0 (des_text text e).text).stop ≡ None

-- where a generated text has no fault, what is given is its plain text
abbrev pub GivesBare : Type 0
GivesBare = (text : List ℕ) → (ret_text text Clean).fault ≡ None →
    IsBareText text (ret_text text Clean).text

-- what is kept of a blank is what the code writes of it, and nothing else
abbrev pub BareBlanksAre : Type 0
BareBlanksAre = (blank text : List ℕ) → IsBareBlank blank text → bare_blank Outside blank ≡ text
