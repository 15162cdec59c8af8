-- The reading of an expression, step by step: each reading takes its input from the front and keeps
-- what it needs.
use Rattle.std.specs.Prelude.{ℕ, Bool, true, false, ◌&&◌, ◌==◌, nat_le, nat_lt, List, [], ◌∷◌, ◌++◌, Option, Some, None, if◌then◌else◌, length}
use Rattle.std.specs.Option.{option_to_list}
use Rattle.ap_symbol.specs.Words.{is_white}
use Rattle.ap_dix.specs.Forms.{Form, one, class, sequence, either, forms_of}
use Rattle.ap_dix.specs.Grammar.{piece, is_skipped, is_sign, is_member, range, token_of, symbol_of, repeated}
use Rattle.ap_dix.specs.declared.expr.Range.{Range}
use Rattle.ap_dix.specs.declared.pieces.Piece.{Piece}
use Rattle.ap_dix.specs.declared.tokens.Member.{Member}
use Rattle.ap_dix.specs.declared.tokens.Member.TheVariants.{Fresh, Begun, Dashed}
use Rattle.ap_dix.specs.declared.tokens.Repetition.{Repetition}
use Rattle.ap_dix.specs.declared.tokens.Token.{Token}
use Rattle.ap_dix.specs.declared.tokens.Token.TheVariants.{Character, Class, Open, Close, Bar, Repeat}

-- the state after an input that is taken from the front, or none where it is refused
abbrev pub run : {S X : Type 0} → (S → X → Option S) → Option S → List X → Option S
run step s [] = s
run step None (x ∷ xs) = None
run step (Some s) (x ∷ xs) = run step (step s x) xs

abbrev pub is_nil : {X : Type 0} → List X → Bool
is_nil [] = true
is_nil (x ∷ xs) = false

abbrev pub on_some : {A B : Type 0} → Option A → (A → Option B) → Option B
on_some None f = None
on_some (Some a) f = f a

-- the characters so far, and whether `\` stands before the next
pub record Cut : Type 0 where
  pub made : List Piece
  pub escaping : Bool

abbrev pub cut_step : Cut → ℕ → Option Cut
cut_step s c =
    if s.escaping then (if is_white c then None
    else Some (record { made = s.made ++ piece c true ∷ []; escaping = false }))
    else if c == 92 then Some (record { made = s.made; escaping = true })
    else if is_skipped c then Some s
    else Some (record { made = s.made ++ piece c false ∷ []; escaping = false })

abbrev pub cut_end : Cut → Option (List Piece)
cut_end s = if s.escaping then None else Some s.made

unfoldable pub pieces_of : List ℕ → Option (List Piece)
pieces_of text = on_some (run cut_step (Some (record { made = []; escaping = false })) text) cut_end

-- the tokens so far, and the class that is open
pub record Telling : Type 0 where
  pub made : List Token
  pub class : Option (List Range)
  pub member : Member

abbrev pub outside : List Token → Telling
outside made = record { made = made; class = None; member = Fresh }

abbrev pub inside : List Token → List Range → Member → Telling
inside made ranges member = record { made = made; class = Some ranges; member = member }

-- behind `-` comes a character that isn't before the first
abbrev pub dash_step : List Token → List Range → ℕ → Piece → Option Telling
dash_step made ranges c p = if is_member p && nat_le c p.code
    then Some (inside made (ranges ++ range c p.code ∷ []) Fresh) else None

-- elsewhere the end of the class or a further member
abbrev pub member_step : List Token → List Range → Piece → Option Telling
member_step made ranges p =
    if is_sign 93 p then (if is_nil ranges then None
    else Some (outside (made ++ Class ranges ∷ [])))
    else if is_member p then Some (inside made ranges (Begun p.code))
    else None

abbrev pub class_step : List Token → List Range → Member → Piece → Option Telling
class_step made ranges Fresh p = member_step made ranges p
class_step made ranges (Begun c) p = if is_sign 45 p then Some (inside made ranges (Dashed c))
    else member_step made (ranges ++ range c c ∷ []) p
class_step made ranges (Dashed c) p = dash_step made ranges c p

abbrev pub with_token : List Token → Option Token → Option Telling
with_token made None = None
with_token made (Some t) = Some (outside (made ++ t ∷ []))

abbrev pub outside_step : List Token → Piece → Option Telling
outside_step made p = if is_sign 91 p then Some (inside made [] Fresh)
    else with_token made (token_of p)

abbrev pub choose_step : List Token → Option (List Range) → Member → Piece → Option Telling
choose_step made None member p = outside_step made p
choose_step made (Some ranges) member p = class_step made ranges member p

abbrev pub is_closed : Option (List Range) → Bool
is_closed None = true
is_closed (Some ranges) = false

abbrev pub telling_step : Telling → Piece → Option Telling
telling_step s p = choose_step s.made s.class s.member p

abbrev pub telling_end : Telling → Option (List Token)
telling_end s = if is_closed s.class then Some s.made else None

unfoldable pub tokens_of : List Piece → Option (List Token)
tokens_of pieces = on_some (run telling_step (Some (outside [])) pieces) telling_end

-- The expressions in a parenthesis that is open, or in the whole text: the sequences that are over,
-- the factors of the one that isn't, and the atom that may still be repeated.
pub record Stage : Type 0 where
  pub choices : List Form
  pub factors : List Form
  pub last : Option Form

abbrev pub stage : List Form → List Form → Option Form → Stage
stage choices factors last = record { choices = choices; factors = factors; last = last }

-- the factors of the sequence that isn't over
abbrev pub flushed : Stage → List Form
flushed s = s.factors ++ option_to_list s.last

abbrev pub with_atom : Stage → Form → Stage
with_atom s atom = stage s.choices (flushed s) (Some atom)

-- the sequences, that one too: none where it has no factor
abbrev pub closed : Stage → Option (List Form)
closed s = if is_nil (flushed s) then None
    else Some (s.choices ++ sequence (forms_of (flushed s)) ∷ [])

-- what is open: the innermost, and those around it from the inside
pub record Stack : Type 0 where
  pub top : Stage
  pub below : List Stage

abbrev pub stack : Stage → List Stage → Stack
stack top below = record { top = top; below = below }

abbrev pub repeat_step : Stage → List Stage → Repetition → Option Form → Option Stack
repeat_step top below sign None = None
repeat_step top below sign (Some atom) =
    Some (stack (stage top.choices (top.factors ++ repeated sign atom ∷ []) None) below)

abbrev pub close_step : List Stage → Option (List Form) → Option Stack
close_step [] choices = None
close_step (outer ∷ below) None = None
close_step (outer ∷ below) (Some choices) =
    Some (stack (with_atom outer (either (forms_of choices))) below)

abbrev pub bar_step : List Stage → Option (List Form) → Option Stack
bar_step below None = None
bar_step below (Some choices) = Some (stack (stage choices [] None) below)

abbrev pub stack_step : Stack → Token → Option Stack
stack_step s (Character c) = Some (stack (with_atom s.top (one (symbol_of c))) s.below)
stack_step s (Class ranges) = Some (stack (with_atom s.top (class ranges)) s.below)
stack_step s Open = if nat_lt (length s.below) 200
    then Some (stack (stage [] [] None) (s.top ∷ s.below)) else None
stack_step s Close = close_step s.below (closed s.top)
stack_step s Bar = bar_step s.below (closed s.top)
stack_step s (Repeat sign) = repeat_step s.top s.below sign s.top.last

abbrev pub stack_end : Stack → Option (List Form)
stack_end s = if is_nil s.below then closed s.top else None

unfoldable pub choices_of : List Token → Option (List Form)
choices_of tokens = on_some (run stack_step (Some (stack (stage [] [] None) [])) tokens) stack_end

-- The expression that a text is, if it is one.
unfoldable pub expression : List ℕ → Option Form
expression text = on_some (on_some (on_some (pieces_of text) tokens_of) choices_of)
    (λ choices. Some (either (forms_of choices)))
