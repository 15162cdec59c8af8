-- The notation of a stream: what a character, a superblank, a blank, a word, a unit and a chunk are,
-- each over the whole of its bytes.
use Rattle.std.specs.Prelude.{◌≡◌, ◌≢◌, ℕ, Bool, true, false, not, ◌||◌, ◌&&◌, eqb, List, [], ◌∷◌, ◌++◌, encode_utf8}
use Rattle.ap_symbol.specs.Coded.{IsCode, IsNameText}
use Rattle.ap_symbol.specs.TextWord.{bare_symbol, escaped_symbol}
use Rattle.ap_stream.specs.Types.{Symbol, Tag, Dialect, Analysed, Lexical, Bilingual}
use Rattle.ap_stream.specs.Blanks.{is_white, begins_blank}
use Rattle.ap_stream.specs.Dialects.{is_refused}
use Rattle.ap_stream.specs.Reading.{begins_unit}
use Rattle.ap_stream.specs.Spelling.{character_bytes}
use Rattle.ap_stream.specs.Items.{Character, Chunk, Inner}

-- outside units

-- the characters that stand bare outside units and blanks: all but white space, [, a backslash, the
-- ^ where units begin, and those that the dialect refuses
abbrev pub is_bare : Dialect → ℕ → Bool
is_bare dialect c = not (begins_blank c
    || (eqb c 92 || (begins_unit dialect c || is_refused dialect c)))

-- a plain character: a backslash and any one character, or one that may stand bare
pub record IsPlain (dialect : Dialect) (bytes : List ℕ) : Type 0 where
  pub character : Character
  pub code : IsCode character.letter
  pub allowed : character.escaped ≡ false → is_bare dialect character.letter ≡ true
  pub spelled : bytes ≡ character_bytes character

-- what stands behind the bracket of a superblank: characters other than a bare backslash and ], and
-- each backslash with any one character, up to a bare ]
pub data IsToBracket : List ℕ → Type 0 where
  closed : {bytes : List ℕ} → bytes ≡ 93 ∷ [] → IsToBracket bytes
  bare : {bytes : List ℕ} (c : ℕ) (rest : List ℕ) → IsCode c → c ≢ 92 → c ≢ 93 → IsToBracket rest
      → bytes ≡ encode_utf8 c ++ rest → IsToBracket bytes
  escaped : {bytes : List ℕ} (c : ℕ) (rest : List ℕ) → IsCode c → IsToBracket rest
      → bytes ≡ 92 ∷ (encode_utf8 c ++ rest) → IsToBracket bytes

-- a whole superblank
pub record IsSuperblank (bytes : List ℕ) : Type 0 where
  pub rest : List ℕ
  pub begins : bytes ≡ 91 ∷ rest
  pub goes_on : IsToBracket rest

-- white space and superblanks, side by side
pub data AreBlanks : List ℕ → Type 0 where
  none : {bytes : List ℕ} → bytes ≡ [] → AreBlanks bytes
  space : {bytes : List ℕ} (b : ℕ) (rest : List ℕ) → is_white b ≡ true → AreBlanks rest
      → bytes ≡ b ∷ rest → AreBlanks bytes
  bracketed : {bytes : List ℕ} (front rest : List ℕ) → IsSuperblank front → AreBlanks rest
      → bytes ≡ front ++ rest → AreBlanks bytes

-- a blank has at least one of them
pub record IsBlankText (bytes : List ℕ) : Type 0 where
  pub some : bytes ≢ []
  pub are : AreBlanks bytes

-- words. The first word of an analysis is a surface

-- what no word holds bare: ^ $ / < > { } [ ] and the backslash, and a surface no @ either
abbrev pub must_be_escaped : Bool → ℕ → Bool
must_be_escaped surface c = eqb c 94 || (eqb c 36 || (eqb c 47 || (eqb c 60 || (eqb c 62
    || (eqb c 123 || (eqb c 125 || (eqb c 91 || (eqb c 93 || (eqb c 92
    || (surface && eqb c 64))))))))))

-- a bare character: in a surface a letter, or Blank if it is white space; in another word + # ~ * @
-- are the marks
abbrev pub bare_in : Bool → ℕ → Symbol
bare_in true c = escaped_symbol c
bare_in false c = bare_symbol c

-- the bytes of a symbol. A character behind a backslash is a letter, or Blank if it is white space
pub data IsSymbolText (surface : Bool) (symbol : Symbol) (bytes : List ℕ) : Type 0 where
  bare_character : (c : ℕ) → IsCode c → must_be_escaped surface c ≡ false
      → symbol ≡ bare_in surface c → bytes ≡ encode_utf8 c → IsSymbolText surface symbol bytes
  escaped_character : (c : ℕ) → IsCode c → symbol ≡ escaped_symbol c → bytes ≡ 92 ∷ encode_utf8 c
      → IsSymbolText surface symbol bytes
  named_tag : (name : List ℕ) → surface ≡ false → IsNameText name → symbol ≡ Tag name
      → bytes ≡ 60 ∷ (name ++ 62 ∷ []) → IsSymbolText surface symbol bytes

-- the bytes of a word: those of its symbols, one after another
abbrev pub IsWordText : Bool → List Symbol → List ℕ → Type 0
IsWordText surface [] bytes = bytes ≡ []
IsWordText surface (symbol ∷ word) bytes = (own : List ℕ) × (rest : List ℕ)
    × IsSymbolText surface symbol own × IsWordText surface word rest × (bytes ≡ own ++ rest)

-- the bytes of words that aren't surfaces, each behind /
abbrev pub AreWordTexts : List (List Symbol) → List ℕ → Type 0
AreWordTexts [] bytes = bytes ≡ []
AreWordTexts (word ∷ words) bytes = (own : List ℕ) × (rest : List ℕ) × IsWordText false word own
    × AreWordTexts words rest × (bytes ≡ 47 ∷ (own ++ rest))

-- units

-- ^, a word that isn't empty, these words, each behind / and maybe empty, and $
pub record IsWordedText (surface : Bool) (word : List Symbol) (words : List (List Symbol))
    (bytes : List ℕ) : Type 0 where
  pub front : List ℕ
  pub behind : List ℕ
  pub some : word ≢ []
  pub word_is : IsWordText surface word front
  pub words_are : AreWordTexts words behind
  pub spelled : bytes ≡ 94 ∷ (front ++ (behind ++ 36 ∷ []))

-- the bytes of a unit: a surface and one reading or more; a word; a word and one translation or
-- more. The other dialects have no units
abbrev pub IsUnitText : Dialect → List (List Symbol) → List ℕ → Type 0
IsUnitText Analysed (surface ∷ reading ∷ readings) bytes =
    IsWordedText true surface (reading ∷ readings) bytes
IsUnitText Lexical (word ∷ []) bytes = IsWordedText false word [] bytes
IsUnitText Bilingual (word ∷ translation ∷ translations) bytes =
    IsWordedText false word (translation ∷ translations) bytes
IsUnitText dialect words bytes = ⊥

-- chunks
abbrev pub NoBlankFirst : List Inner → Type 0
NoBlankFirst [] = Unit {0}
NoBlankFirst (Inner.Unit words ∷ parts) = Unit {0}
NoBlankFirst (Inner.Blank bytes ∷ parts) = ⊥

-- the bytes of a content: those of Lexical units and of blanks, of which no two stand side by side
abbrev pub IsContentText : List Inner → List ℕ → Type 0
IsContentText [] bytes = bytes ≡ []
IsContentText (Inner.Unit words ∷ parts) bytes = (own : List ℕ) × (rest : List ℕ)
    × IsUnitText Lexical words own × IsContentText parts rest × (bytes ≡ own ++ rest)
IsContentText (Inner.Blank blank ∷ parts) bytes = (rest : List ℕ) × IsBlankText blank
    × NoBlankFirst parts × IsContentText parts rest × (bytes ≡ blank ++ rest)

-- the bytes of a chunk: ^, its name, which is a word and may be empty, {, its content, } and $
pub record IsChunkText (chunk : Chunk) (bytes : List ℕ) : Type 0 where
  pub named : List ℕ
  pub held : List ℕ
  pub name_is : IsWordText false chunk.name named
  pub content_is : IsContentText chunk.content held
  pub spelled : bytes ≡ 94 ∷ (named ++ (123 ∷ (held ++ 125 ∷ 36 ∷ [])))
