-- The statements of the table of elements, as relations: one case for each row, and none in which
-- an element is passed over.
use Rattle.std.specs.Prelude.{◌≡◌, ℕ, Bool, false, List, [], ◌∷◌, length, Some, codes, if◌then◌else◌, slice_get}
use Rattle.ap_markup.specs.NameLists.{number_of}
use Rattle.ap_markup.specs.Said.{name_of, is_named}
use Rattle.ap_markup.specs.Tree.{Tag}
use Rattle.ap_rules.specs.Children.{Children, nothing, element, within}
use Rattle.ap_rules.specs.ConditionRows.{IsCondition}
use Rattle.ap_rules.specs.PieceRows.{ArePieces}
use Rattle.ap_rules.specs.Plain.{PlainValue, clip, var, no_values, then_value, values_of, PlainCondition, PlainStatement, PlainStatements, PlainWhens, choose, assign, append, out, modify_case, call_macro, no_statements, then_statement, no_whens, then_when}
use Rattle.ap_rules.specs.Soundness.{HasSome, HasWhen}
use Rattle.ap_rules.specs.ValueRows.{IsNamed, IsAlone, AreValues}
use Rattle.ap_rules.specs.Values.{Scope, position_of}
use Rattle.ap_rules.specs.declared.statement.Place.{Place}
use Rattle.ap_rules.specs.declared.statement.Place.TheVariants as place

-- a place, as a value that is read from it
abbrev pub value_at : Place → PlainValue
value_at (place.Clip c) = clip c
value_at (place.Var v) = var v.n

-- a place, and then a value
abbrev pub IsSetting : Scope → Children → Place → PlainValue → Type 0
IsSetting s own p v = AreValues s false own (then_value (value_at p) (then_value v no_values))

-- each of the elements is a `with-param` with one of these positions, in order
abbrev pub AreParams : Scope → Children → List ℕ → Type 0
AreParams s nothing [] = Unit {0}
AreParams s (element tag own more) (pos ∷ positions) = IsNamed (codes "with-param") tag
    × (position_of s tag.attributes ≡ Some pos) × AreParams s more positions
AreParams s _ _ = ⊥

-- the elements of this name that stand first, and those behind them
abbrev pub leading : List ℕ → Children → Children
leading name nothing = nothing
leading name (element tag own more) = if is_named name tag then element tag own (leading name more)
    else nothing

abbrev pub behind : List ℕ → Children → Children
behind name nothing = nothing
behind name (element tag own more) = if is_named name tag then behind name more
    else element tag own more

-- there is none, or one of this name
abbrev pub AreAtMostOne : List ℕ → Children → Type 0
AreAtMostOne name nothing = Unit {0}
AreAtMostOne name (element tag own nothing) = IsNamed name tag
AreAtMostOne name _ = ⊥

-- the first element is a test with one condition
abbrev pub IsTest : Scope → Children → PlainCondition → Type 0
IsTest s nothing c = ⊥
IsTest s (element tag own more) c = IsNamed (codes "test") tag
    × IsAlone own (λ (one : Tag) (its : Children). IsCondition s one its c)

abbrev pub behind_first : Children → Children
behind_first nothing = nothing
behind_first (element tag own more) = more

-- The element, with these elements within it, is this statement. A choice holds one or more `when`,
-- and then at most one `otherwise`.
abbrev mutual
  pub IsStatement : Scope → Tag → Children → PlainStatement → Type 0
  IsStatement s tag own (choose ws ss) = IsNamed (codes "choose") tag × HasWhen ws
      × AreWhens s (leading (codes "when") own) ws
      × AreAtMostOne (codes "otherwise") (behind (codes "when") own)
      × AreStatements s (within (codes "otherwise") (behind (codes "when") own)) ss
  IsStatement s tag own (assign p v) = IsNamed (codes "let") tag × IsSetting s own p v
  IsStatement s tag own (append n vs) = IsNamed (codes "append") tag × HasSome vs
      × (number_of s.names.vars (name_of tag.attributes) ≡ Some n)
      × AreValues s false own (values_of vs)
  IsStatement s tag own (out ps) = IsNamed (codes "out") tag × ArePieces s own ps
  IsStatement s tag own (modify_case p v) = IsNamed (codes "modify-case") tag
      × IsSetting s own p v
  IsStatement s tag own (call_macro n positions) = IsNamed (codes "call-macro") tag
      × (number_of s.names.macros (name_of tag.attributes) ≡ Some n)
      × (slice_get s.names.npars n ≡ Some (length positions)) × AreParams s own positions

  -- each of the elements is one of these statements, in order
  pub AreStatements : Scope → Children → PlainStatements → Type 0
  AreStatements s nothing no_statements = Unit {0}
  AreStatements s (element tag own more) (then_statement st sts) = IsStatement s tag own st
      × AreStatements s more sts
  AreStatements s _ _ = ⊥

  -- each of the elements is a `when` with one of these conditions and its statements, in order
  pub AreWhens : Scope → Children → PlainWhens → Type 0
  AreWhens s nothing no_whens = Unit {0}
  AreWhens s (element tag own more) (then_when c ss ws) = IsNamed (codes "when") tag
      × IsTest s own c × AreStatements s (behind_first own) ss × AreWhens s more ws
  AreWhens s _ _ = ⊥
