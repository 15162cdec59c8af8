-- How the text of an expression is written.
use Rattle.std.specs.Prelude.{◌≡◌, ℕ, suc, ◌<◌, ◌≤◌, Bool, true, false, not, ◌&&◌, ◌||◌, ◌==◌, IsTrue, List, [], ◌∷◌, ◌++◌, Option, Some, None, if◌then◌else◌}
use Rattle.ap_symbol.specs.Words.{is_white}
use Rattle.ap_symbol.specs.declared.symbol.Symbol.{Symbol}
use Rattle.ap_symbol.specs.declared.symbol.Symbol.TheVariants.{Letter, Blank}
use Rattle.ap_dix.specs.Forms.{Form, one, class, sequence, either, star, plus, opt, forms_of}
use Rattle.ap_dix.specs.declared.expr.Range.{Range}
use Rattle.ap_dix.specs.declared.pieces.Piece.{Piece}
use Rattle.ap_dix.specs.declared.tokens.Repetition.{Repetition}
use Rattle.ap_dix.specs.declared.tokens.Repetition.TheVariants.{AnyNumber, AtLeastOnce, AtMostOnce}
use Rattle.ap_dix.specs.declared.tokens.Token.{Token}
use Rattle.ap_dix.specs.declared.tokens.Token.TheVariants.{Character, Class, Open, Close, Bar, Repeat}

-- The text is cut into characters that stand for themselves behind `\`, and others.

abbrev pub piece : ℕ → Bool → Piece
piece c escaped = record { code = c; escaped = escaped }

-- white space other than U+0020
abbrev pub is_skipped : ℕ → Bool
is_skipped c = is_white c && not (c == 32)

-- The text holds these characters: white space other than U+0020 is skipped, and `\` stands before
-- one that is no white space.
pub data IsPieces : List ℕ → List Piece → Type 0 where
  nothing : IsPieces [] []
  skipped : {text whole : List ℕ} {pieces : List Piece} (c : ℕ) → IsPieces text pieces →
      IsTrue (is_skipped c) → whole ≡ text ++ c ∷ [] → IsPieces whole pieces
  itself : {text whole : List ℕ} {pieces all : List Piece} (c : ℕ) → IsPieces text pieces →
      IsTrue (not (is_skipped c)) → IsTrue (not (c == 92)) → whole ≡ text ++ c ∷ [] →
      all ≡ pieces ++ piece c false ∷ [] → IsPieces whole all
  escaped : {text whole : List ℕ} {pieces all : List Piece} (c : ℕ) → IsPieces text pieces →
      IsTrue (not (is_white c)) → whole ≡ text ++ 92 ∷ c ∷ [] → all ≡ pieces ++ piece c true ∷ [] →
      IsPieces whole all

-- the character itself and not behind `\`
abbrev pub is_sign : ℕ → Piece → Bool
is_sign c p = not p.escaped && (p.code == c)

-- one of `( ) [ ] * + ? | \ ^`
abbrev pub is_reserved : ℕ → Bool
is_reserved c = (c == 40) || (c == 41) || (c == 91) || (c == 93) || (c == 42) || (c == 43)
    || (c == 63) || (c == 124) || (c == 92) || (c == 94)

-- a character that may be a member of a class: behind `\` any, else one that isn't reserved, `-` or
-- a space
abbrev pub is_member : Piece → Bool
is_member p = p.escaped || (not (is_reserved p.code) && not (p.code == 45) && not (p.code == 32))

abbrev pub range : ℕ → ℕ → Range
range first last = record { first = first; last = last }

-- A member of a class: a character, or two with `-` between them, the first at most the second.
pub data IsMember : List Piece → Range → Type 0 where
  single : {pieces : List Piece} {r : Range} (p : Piece) → IsTrue (is_member p) → pieces ≡ p ∷ [] →
      r ≡ range p.code p.code → IsMember pieces r
  ranged : {pieces : List Piece} {r : Range} (p dash q : Piece) → IsTrue (is_member p) →
      IsTrue (is_sign 45 dash) → IsTrue (is_member q) → p.code ≤ q.code → pieces ≡ p ∷ dash ∷ q ∷ []
      → r ≡ range p.code q.code → IsMember pieces r

-- one or more members
pub data AreMembers : List Piece → List Range → Type 0 where
  first : {pieces : List Piece} {ranges : List Range} {r : Range} → IsMember pieces r →
      ranges ≡ r ∷ [] → AreMembers pieces ranges
  further : {front back pieces : List Piece} {before ranges : List Range} {r : Range} →
      AreMembers front before → IsMember back r → pieces ≡ front ++ back → ranges ≡ before ++ r ∷ []
      → AreMembers pieces ranges

-- what a character outside classes is
abbrev pub plain_token : ℕ → Option Token
plain_token c =
    if c == 40 then Some Open
    else if c == 41 then Some Close
    else if c == 124 then Some Bar
    else if c == 42 then Some (Repeat AnyNumber)
    else if c == 43 then Some (Repeat AtLeastOnce)
    else if c == 63 then Some (Repeat AtMostOnce)
    else if is_reserved c then None
    else Some (Character c)

abbrev pub token_of : Piece → Option Token
token_of p = if p.escaped then Some (Character p.code) else plain_token p.code

-- A character or a sign, or a class: its members between `[` and `]`.
pub data IsToken : List Piece → Token → Type 0 where
  alone : {pieces : List Piece} {t : Token} (p : Piece) → pieces ≡ p ∷ [] → token_of p ≡ Some t →
      IsToken pieces t
  classed : {members pieces : List Piece} {ranges : List Range} {t : Token} (begin finish : Piece) →
      IsTrue (is_sign 91 begin) → AreMembers members ranges → IsTrue (is_sign 93 finish) →
      pieces ≡ begin ∷ members ++ finish ∷ [] → t ≡ Class ranges → IsToken pieces t

pub data AreTokens : List Piece → List Token → Type 0 where
  none : AreTokens [] []
  another : {front back pieces : List Piece} {before tokens : List Token} {t : Token} →
      AreTokens front before → IsToken back t → pieces ≡ front ++ back → tokens ≡ before ++ t ∷ [] →
      AreTokens pieces tokens

-- a space is Blank, and every other character a letter
abbrev pub symbol_of : ℕ → Symbol
symbol_of c = if c == 32 then Blank else Letter c

abbrev pub repeated : Repetition → Form → Form
repeated AnyNumber e = star e
repeated AtLeastOnce e = plus e
repeated AtMostOnce e = opt e

-- The grammar. The number is that of the parentheses that are open around, of which 200 may be open
-- at once.
mutual
  -- An atom: a character, a class, or an expression in parentheses.
  pub data IsAtom : ℕ → List Token → Form → Type 0 where
    character : {depth : ℕ} {tokens : List Token} {e : Form} (c : ℕ) → tokens ≡ Character c ∷ [] →
        e ≡ one (symbol_of c) → IsAtom depth tokens e
    of_class : {depth : ℕ} {tokens : List Token} {e : Form} (ranges : List Range) →
        tokens ≡ Class ranges ∷ [] → e ≡ class ranges → IsAtom depth tokens e
    group : {depth : ℕ} {tokens : List Token} {e : Form} {inner : List Token} {es : List Form} →
        depth < 200 → IsChoice (suc depth) inner es → tokens ≡ Open ∷ inner ++ Close ∷ [] →
        e ≡ either (forms_of es) → IsAtom depth tokens e

  -- A factor: an atom, with at most one sign of repetition.
  pub data IsFactor : ℕ → List Token → Form → Type 0 where
    once : {depth : ℕ} {tokens : List Token} {e : Form} → IsAtom depth tokens e →
        IsFactor depth tokens e
    more_often : {depth : ℕ} {tokens atom : List Token} {e a : Form} (sign : Repetition) →
        IsAtom depth atom a → tokens ≡ atom ++ Repeat sign ∷ [] → e ≡ repeated sign a →
        IsFactor depth tokens e

  -- A sequence: one or more factors.
  pub data IsSequence : ℕ → List Token → List Form → Type 0 where
    only : {depth : ℕ} {tokens : List Token} {es : List Form} {e : Form} → IsFactor depth tokens e →
        es ≡ e ∷ [] → IsSequence depth tokens es
    with_factor : {depth : ℕ} {tokens front back : List Token} {es before : List Form} {e : Form} →
        IsSequence depth front before → IsFactor depth back e → tokens ≡ front ++ back →
        es ≡ before ++ e ∷ [] → IsSequence depth tokens es

  -- A choice: one or more sequences with `|` between them.
  pub data IsChoice : ℕ → List Token → List Form → Type 0 where
    lone : {depth : ℕ} {tokens : List Token} {es factors : List Form} →
        IsSequence depth tokens factors → es ≡ sequence (forms_of factors) ∷ [] →
        IsChoice depth tokens es
    with_sequence : {depth : ℕ} {tokens front back : List Token} {es before factors : List Form} →
        IsChoice depth front before → IsSequence depth back factors → tokens ≡ front ++ Bar ∷ back →
        es ≡ before ++ sequence (forms_of factors) ∷ [] → IsChoice depth tokens es

-- The text is an expression, and this is its tree.
pub record SpellsExpr (text : List ℕ) (e : Form) : Type 0 where
  pub pieces : List Piece
  pub tokens : List Token
  pub choices : List Form
  pub cut : IsPieces text pieces
  pub told : AreTokens pieces tokens
  pub built : IsChoice 0 tokens choices
  pub is : e ≡ either (forms_of choices)
