-- The strings of an expression.
use Rattle.std.specs.Prelude.{◌≡◌, ◌⊎◌, ℕ, Bool, not, ◌&&◌, nat_le, IsTrue, List, [], ◌∷◌, ◌++◌}
use Rattle.std.specs.List.{list_any}
use Rattle.std.specs.Char.{IsScalar}
use Rattle.ap_symbol.specs.Words.{is_white}
use Rattle.ap_symbol.specs.declared.symbol.Symbol.{Symbol}
use Rattle.ap_symbol.specs.declared.symbol.Symbol.TheVariants.{Letter}
use Rattle.ap_dix.specs.Forms.{Form, Forms, one, class, sequence, either, star, plus, opt, no_forms, then_form}
use Rattle.ap_dix.specs.declared.expr.Range.{Range}

-- a string of the first kind and then one of the second
pub record IsSplit (P Q : List Symbol → Type 0) (string : List Symbol) : Type 0 where
  pub front : List Symbol
  pub back : List Symbol
  pub whole : string ≡ front ++ back
  pub first : P front
  pub second : Q back

-- any number of strings of the kind, one after another
pub data Repeats (P : List Symbol → Type 0) : List Symbol → Type 0 where
  done : Repeats P []
  more : {string : List Symbol} (front back : List Symbol) → string ≡ front ++ back → P front →
      Repeats P back → Repeats P string

-- the code point lies in the range
abbrev pub spans : ℕ → Range → Bool
spans c range = nat_le range.first c && nat_le c range.last

-- a character of one of the ranges, white space left out
pub record IsHeld (ranges : List Range) (c : ℕ) : Type 0 where
  pub scalar : IsScalar c
  pub spanned : IsTrue (list_any (spans c) ranges)
  pub dark : IsTrue (not (is_white c))

-- one such character
pub record IsOfClass (ranges : List Range) (string : List Symbol) : Type 0 where
  pub code : ℕ
  pub is : string ≡ Letter code ∷ []
  pub held : IsHeld ranges code

-- The string is of the language of the expression.
abbrev mutual
  pub Lang : Form → List Symbol → Type 0
  Lang (one s) string = string ≡ s ∷ []
  Lang (class ranges) string = IsOfClass ranges string
  Lang (sequence es) string = LangAll es string
  Lang (either es) string = LangSome es string
  Lang (star e) string = Repeats (Lang e) string
  Lang (plus e) string = IsSplit (Lang e) (Repeats (Lang e)) string
  Lang (opt e) string = (string ≡ []) ⊎ Lang e string

  -- a string of each expression, one after another
  pub LangAll : Forms → List Symbol → Type 0
  LangAll no_forms string = string ≡ []
  LangAll (then_form e es) string = IsSplit (Lang e) (LangAll es) string

  -- a string of one of the expressions
  pub LangSome : Forms → List Symbol → Type 0
  LangSome no_forms string = ⊥
  LangSome (then_form e es) string = Lang e string ⊎ LangSome es string
