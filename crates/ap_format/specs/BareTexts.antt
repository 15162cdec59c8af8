-- The plain text of a generated text, piece by piece: a text is a row of plain characters and of
-- blanks, and a blank is a row of white space and of superblanks.
use Rattle.std.specs.Prelude.{◌≡◌, ◌≢◌, ℕ, true, List, [], ◌∷◌, ◌++◌, encode_utf8}
use Rattle.ap_symbol.specs.Coded.{IsCode}
use Rattle.ap_stream.specs.Blanks.{is_white}
use Rattle.ap_stream.specs.Pieces.{IsPlain}
use Rattle.ap_stream.specs.declared.dialect.Dialect.TheVariants.{Generated}

-- What stands behind the bracket of a superblank, and what is kept of it: a bare ] ends it and isn't
-- kept; each other bare character is kept, and so is any one character behind a backslash, which
-- isn't kept.
pub data IsKeptInside : List ℕ → List ℕ → Type 0 where
  closed : {bytes text : List ℕ} → bytes ≡ 93 ∷ [] → text ≡ [] → IsKeptInside bytes text
  bare : {bytes text : List ℕ} (c : ℕ) (rest more : List ℕ) → IsCode c → c ≢ 92 → c ≢ 93 →
      IsKeptInside rest more → bytes ≡ encode_utf8 c ++ rest → text ≡ encode_utf8 c ++ more →
      IsKeptInside bytes text
  escaped : {bytes text : List ℕ} (c : ℕ) (rest more : List ℕ) → IsCode c →
      IsKeptInside rest more → bytes ≡ 92 ∷ (encode_utf8 c ++ rest) →
      text ≡ encode_utf8 c ++ more → IsKeptInside bytes text

-- a blank, and what is kept of it: white space, and of each superblank what stands in its brackets
pub data IsBareBlank : List ℕ → List ℕ → Type 0 where
  empty : {blank text : List ℕ} → blank ≡ [] → text ≡ [] → IsBareBlank blank text
  white : {blank text : List ℕ} (b : ℕ) (rest more : List ℕ) → is_white b ≡ true →
      IsBareBlank rest more → blank ≡ b ∷ rest → text ≡ b ∷ more → IsBareBlank blank text
  superblank : {blank text : List ℕ} (inner own rest more : List ℕ) → IsKeptInside inner own →
      IsBareBlank rest more → blank ≡ 91 ∷ (inner ++ rest) → text ≡ own ++ more →
      IsBareBlank blank text

-- A generated text, and its plain text: of a plain character the character itself, without its
-- escape, and of a blank what is kept of it.
pub data IsBareText : List ℕ → List ℕ → Type 0 where
  nothing : {text plain : List ℕ} → text ≡ [] → plain ≡ [] → IsBareText text plain
  character : {text plain : List ℕ} (front rest more : List ℕ) (c : IsPlain Generated front) →
      IsBareText rest more → text ≡ front ++ rest →
      plain ≡ encode_utf8 c.character.letter ++ more → IsBareText text plain
  blanks : {text plain : List ℕ} (front own rest more : List ℕ) → IsBareBlank front own →
      IsBareText rest more → text ≡ front ++ rest → plain ≡ own ++ more → IsBareText text plain
