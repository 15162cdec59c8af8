-- The symbols of an expression that a text spells are blanks and letters that are no white space.
use Rattle.std.proofs.Common.{◌≡◌, ℕ, suc, Bool, true, false, not, ◌&&◌, ◌==◌, cond, List, [], ◌∷◌, ◌++◌, refl, sym, ◌∙◌, ap, subst, Some, None}
use Rattle.std.specs.List.{list_all}
use Rattle.std.proofs.lemmas.Bool.{and_parts, and_from, not-true}
use Rattle.std.proofs.lemmas.List.Folds.{list_all-append}
use Rattle.ap_symbol.specs.Words.{is_white}
use Rattle.ap_symbol.specs.declared.symbol.Symbol.{Symbol}
use Rattle.ap_symbol.specs.declared.symbol.Symbol.TheVariants.{Letter, Blank}
use Rattle.ap_dix.specs.Forms.{Form, sequence, forms_of}
use Rattle.ap_dix.specs.Grammar.{IsPieces, nothing, skipped, itself, escaped, piece, is_skipped, IsToken, alone, classed, AreTokens, none, another, token_of, is_reserved, repeated, IsAtom, character, of_class, group, IsFactor, once, more_often, IsSequence, only, with_factor, IsChoice, lone, with_sequence, SpellsExpr}
use Rattle.ap_dix.specs.Machines.{expression}
use Rattle.ap_dix.specs.Soundness.{is_one_symbol, is_sound_form, are_sound_forms}
use Rattle.ap_dix.specs.declared.pieces.Piece.{Piece}
use Rattle.ap_dix.specs.declared.tokens.Repetition.{Repetition}
use Rattle.ap_dix.specs.declared.tokens.Repetition.TheVariants.{AnyNumber, AtLeastOnce, AtMostOnce}
use Rattle.ap_dix.specs.declared.tokens.Token.{Token}
use Rattle.ap_dix.specs.declared.tokens.Token.TheVariants.{Character, Open, Close, Bar, Repeat}
use Rattle.ap_dix.proofs.ExprLaws.{expression_exact}

-- a space or no white space
abbrev is_light : Piece → Bool
is_light p = not (is_skipped p.code)

abbrev is_light_token : Token → Bool
is_light_token (Character c) = not (is_skipped c)
is_light_token _ = true

all_front : {X : Type 0} (p : X → Bool) (xs ys whole : List X) → whole ≡ xs ++ ys →
    list_all p whole ≡ true → list_all p xs ≡ true
all_front p xs ys whole w h =
    (and_parts (list_all p xs) (list_all p ys) (sym (list_all-append p xs ys)
    ∙ sym (ap (list_all p) w) ∙ h)).0

all_back : {X : Type 0} (p : X → Bool) (xs ys whole : List X) → whole ≡ xs ++ ys →
    list_all p whole ≡ true → list_all p ys ≡ true
all_back p xs ys whole w h =
    (and_parts (list_all p xs) (list_all p ys) (sym (list_all-append p xs ys)
    ∙ sym (ap (list_all p) w) ∙ h)).1

all_both : {X : Type 0} (p : X → Bool) (xs ys whole : List X) → whole ≡ xs ++ ys →
    list_all p xs ≡ true → list_all p ys ≡ true → list_all p whole ≡ true
all_both p xs ys whole w ex ey = ap (list_all p) w ∙ list_all-append p xs ys
    ∙ and_from (list_all p xs) (list_all p ys) ex ey

alone_all : {X : Type 0} (p : X → Bool) (x : X) → p x ≡ true → list_all p (x ∷ []) ≡ true
alone_all p x h = and_from (p x) true h refl

dark_light : (c : ℕ) → not (is_white c) ≡ true → not (is_skipped c) ≡ true
dark_light c h = ap (λ b. not (b && not (c == 32))) (not-true (is_white c) h)

pieces_light : (text : List ℕ) (pieces : List Piece) → IsPieces text pieces →
    list_all is_light pieces ≡ true
pieces_light text pieces nothing = refl
pieces_light text pieces (skipped {text = front} c h k w) = pieces_light front pieces h
pieces_light text pieces (itself {text = front} {pieces = before} c h k n w a) =
    all_both is_light before (piece c false ∷ []) pieces a (pieces_light front before h)
    (alone_all is_light (piece c false) k)
pieces_light text pieces (escaped {text = front} {pieces = before} c h k w a) =
    all_both is_light before (piece c true ∷ []) pieces a (pieces_light front before h)
    (alone_all is_light (piece c true) (dark_light c k))

signed : (a b d e f g h : Bool) (c : ℕ) (t : Token) →
    cond a (Some Open) (cond b (Some Close)
    (cond d (Some Bar) (cond e (Some (Repeat AnyNumber))
    (cond f (Some (Repeat AtLeastOnce))
    (cond g (Some (Repeat AtMostOnce)) (cond h None (Some (Character c)))))))) ≡ Some t →
    not (is_skipped c) ≡ true → is_light_token t ≡ true
signed true b d e f g h c t q l = let s : Open ≡ t = cc in
    subst (λ z. is_light_token z ≡ true) s refl
signed false true d e f g h c t q l = let s : Close ≡ t = cc in
    subst (λ z. is_light_token z ≡ true) s refl
signed false false true e f g h c t q l = let s : Bar ≡ t = cc in
    subst (λ z. is_light_token z ≡ true) s refl
signed false false false true f g h c t q l = let s : Repeat AnyNumber ≡ t = cc in
    subst (λ z. is_light_token z ≡ true) s refl
signed false false false false true g h c t q l = let s : Repeat AtLeastOnce ≡ t = cc in
    subst (λ z. is_light_token z ≡ true) s refl
signed false false false false false true h c t q l = let s : Repeat AtMostOnce ≡ t = cc in
    subst (λ z. is_light_token z ≡ true) s refl
signed false false false false false false true c t q l = let no : ⊥ = cc in absurd no
signed false false false false false false false c t q l = let s : Character c ≡ t = cc in
    subst (λ z. is_light_token z ≡ true) s l

alone_light : (code : ℕ) (escaped : Bool) (t : Token) →
    token_of (record { code = code; escaped = escaped }) ≡ Some t → not (is_skipped code) ≡ true →
    is_light_token t ≡ true
alone_light code true t e l = let s : Character code ≡ t = cc in
    subst (λ z. is_light_token z ≡ true) s l
alone_light code false t e l =
    signed (code == 40) (code == 41) (code == 124) (code == 42) (code == 43) (code == 63)
    (is_reserved code) code t e l

token_light : (pieces : List Piece) (t : Token) → IsToken pieces t → list_all is_light pieces ≡ true
    → is_light_token t ≡ true
token_light pieces t (alone p w e) h =
    alone_light p.code p.escaped t e
    (and_parts (is_light p) true (sym (ap (list_all is_light) w) ∙ h)).0
token_light pieces t (classed {ranges = ranges} begin finish b m f w e) h =
    subst (λ z. is_light_token z ≡ true) (sym e) refl

tokens_light : (pieces : List Piece) (tokens : List Token) → AreTokens pieces tokens →
    list_all is_light pieces ≡ true → list_all is_light_token tokens ≡ true
tokens_light pieces tokens none h = refl
tokens_light pieces tokens
    (another {front = front} {back = back} {before = before} {t = t} k u w e) h =
    all_both is_light_token before (t ∷ []) tokens e
    (tokens_light front before k (all_front is_light front back pieces w h))
    (alone_all is_light_token t (token_light back t u (all_back is_light front back pieces w h)))

one_light : (space white : Bool) → not (white && not space) ≡ true →
    cond space true (not white) ≡ true
one_light true white h = refl
one_light false true h = h
one_light false false h = refl

abbrev symbol_at : Bool → ℕ → Symbol
symbol_at b c = cond b Blank (Letter c)

one_of : (b : Bool) (c : ℕ) → cond b true (not (is_white c)) ≡ true →
    is_one_symbol (symbol_at b c) ≡ true
one_of true c h = refl
one_of false c h = h

repeated_sound : (sign : Repetition) (a : Form) → is_sound_form a ≡ true →
    is_sound_form (repeated sign a) ≡ true
repeated_sound AnyNumber a h = h
repeated_sound AtLeastOnce a h = h
repeated_sound AtMostOnce a h = h

forms_behind : (es : List Form) (e : Form) → are_sound_forms (forms_of es) ≡ true →
    is_sound_form e ≡ true → are_sound_forms (forms_of (es ++ e ∷ [])) ≡ true
forms_behind [] e h k = and_from (is_sound_form e) true k refl
forms_behind (f ∷ fs) e h k =
    let parts = and_parts (is_sound_form f) (are_sound_forms (forms_of fs)) h in
    and_from (is_sound_form f) (are_sound_forms (forms_of (fs ++ e ∷ []))) parts.0
    (forms_behind fs e parts.1 k)

mutual
  atom_sound : (depth : ℕ) (tokens : List Token) (e : Form) → IsAtom depth tokens e →
      list_all is_light_token tokens ≡ true → is_sound_form e ≡ true
  atom_sound depth tokens e (character c w a) h =
      let light : not (is_skipped c) ≡ true =
      (and_parts (not (is_skipped c)) true (sym (ap (list_all is_light_token) w) ∙ h)).0 in
      ap is_sound_form a ∙ one_of (c == 32) c (one_light (c == 32) (is_white c) light)
  atom_sound depth tokens e (of_class ranges w a) h = ap is_sound_form a
  atom_sound depth tokens e (group {inner = inner} {es = es} lt k w a) h =
      let rest : list_all is_light_token (inner ++ Close ∷ []) ≡ true =
      all_back is_light_token (Open ∷ []) (inner ++ Close ∷ []) tokens w h in
      ap is_sound_form a ∙ choice_sound (suc depth) inner es k
      (all_front is_light_token inner (Close ∷ []) (inner ++ Close ∷ []) refl rest)

  factor_sound : (depth : ℕ) (tokens : List Token) (e : Form) → IsFactor depth tokens e →
      list_all is_light_token tokens ≡ true → is_sound_form e ≡ true
  factor_sound depth tokens e (once a) h = atom_sound depth tokens e a h
  factor_sound depth tokens e (more_often {atom = front} {a = a} sign k w q) h =
      ap is_sound_form q ∙ repeated_sound sign a
      (atom_sound depth front a k
      (all_front is_light_token front (Repeat sign ∷ []) tokens w h))

  sequence_sound : (depth : ℕ) (tokens : List Token) (es : List Form) → IsSequence depth tokens es →
      list_all is_light_token tokens ≡ true → are_sound_forms (forms_of es) ≡ true
  sequence_sound depth tokens es (only {e = e} f a) h = ap (λ z. are_sound_forms (forms_of z)) a
      ∙ and_from (is_sound_form e) true (factor_sound depth tokens e f h) refl
  sequence_sound depth tokens es
      (with_factor {front = front} {back = back} {before = before} {e = e} k f w a) h =
      ap (λ z. are_sound_forms (forms_of z)) a
      ∙ forms_behind before e (sequence_sound depth front before k
      (all_front is_light_token front back tokens w h))
      (factor_sound depth back e f (all_back is_light_token front back tokens w h))

  choice_sound : (depth : ℕ) (tokens : List Token) (es : List Form) → IsChoice depth tokens es →
      list_all is_light_token tokens ≡ true → are_sound_forms (forms_of es) ≡ true
  choice_sound depth tokens es (lone {factors = factors} s a) h =
      ap (λ z. are_sound_forms (forms_of z)) a
      ∙ and_from (are_sound_forms (forms_of factors)) true
      (sequence_sound depth tokens factors s h) refl
  choice_sound depth tokens es
      (with_sequence {front = front} {back = back} {before = before} {factors =
      factors} k s w a) h =
      ap (λ z. are_sound_forms (forms_of z)) a
      ∙ forms_behind before (sequence (forms_of factors))
      (choice_sound depth front before k
      (all_front is_light_token front (Bar ∷ back) tokens w h))
      (sequence_sound depth back factors s
      (all_back is_light_token (Bar ∷ []) back (Bar ∷ back) refl
      (all_back is_light_token front (Bar ∷ back) tokens w h)))

-- what a text spells is sound
pub expression_sound : (text : List ℕ) (e : Form) → expression text ≡ Some e →
    is_sound_form e ≡ true
expression_sound text e h =
    let s : SpellsExpr text e = (expression_exact text e).0 h in
    ap is_sound_form s.is ∙ choice_sound 0 s.tokens s.choices s.built
    (tokens_light s.pieces s.tokens s.told (pieces_light text s.pieces s.cut))
