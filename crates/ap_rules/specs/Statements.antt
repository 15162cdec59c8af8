-- The statements that elements are.
use Rattle.std.specs.Prelude.{ℕ, Bool, false, ◌==◌, List, [], ◌∷◌, ◌++◌, length, Option, Some, None, codes, if◌then◌else◌, slice_get}
use Rattle.std.specs.Option.{option_map, option_to_list}
use Rattle.ap_markup.specs.NameLists.{number_of}
use Rattle.ap_markup.specs.Said.{name_of, is_named}
use Rattle.ap_markup.specs.Tree.{Tag}
use Rattle.ap_rules.specs.Children.{Children, nothing, element, within}
use Rattle.ap_rules.specs.Conditions.{conditions}
use Rattle.ap_rules.specs.Pieces.{pieces}
use Rattle.ap_rules.specs.Plain.{PlainValue, clip, lit, lit_tag, var, get_case_from, case_of, concat, blank_value, PlainCondition, PlainStatement, choose, assign, append, out, modify_case, call_macro, PlainWhen, statements_of, whens_of}
use Rattle.ap_rules.specs.Values.{Scope, on_some, position_of, values}
use Rattle.ap_rules.specs.declared.statement.Place.{Place}
use Rattle.ap_rules.specs.declared.statement.Place.TheVariants as place

-- what may be set: a part of a unit, or a variable
abbrev pub place_of : PlainValue → Option Place
place_of (clip c) = Some (place.Clip c)
place_of (var n) = Some (place.Var (record { n = n }))
place_of (lit w) = None
place_of (lit_tag w) = None
place_of (get_case_from pos v) = None
place_of (case_of c) = None
place_of (concat vs) = None
place_of (blank_value pos) = None

abbrev pub placed : Option Place → PlainValue → Option (Place × PlainValue)
placed None v = None
placed (Some p) v = Some (p, v)

-- a place, and a value
abbrev pub setting : List PlainValue → Option (Place × PlainValue)
setting [] = None
setting (p ∷ []) = None
setting (p ∷ v ∷ []) = placed (place_of p) v
setting (p ∷ v ∷ w ∷ more) = None

-- the positions of the units that a macro is given
abbrev pub params : Scope → Children → List ℕ
params s nothing = []
params s (element tag own more) =
    if is_named (codes "with-param") tag then option_to_list (position_of s tag.attributes)
    ++ params s more else params s more

-- a macro is given so many units
abbrev pub is_given : Option ℕ → ℕ → Bool
is_given None count = false
is_given (Some npar) count = npar == count

-- a call of the macro of this number with as many units as it is given
abbrev pub call_of : Scope → Option ℕ → List ℕ → Option PlainStatement
call_of s None positions = None
call_of s (Some n) positions = if is_given (slice_get s.names.npars n) (length positions)
    then Some (call_macro n positions) else None

-- one or more values are added to the variable of this number
abbrev pub appended : Option ℕ → List PlainValue → Option PlainStatement
appended None vs = None
appended (Some n) [] = None
appended (Some n) (v ∷ vs) = Some (append n (v ∷ vs))

-- one or more choices, and what is done otherwise
abbrev pub choice : List PlainWhen → List PlainStatement → Option PlainStatement
choice [] last = None
choice (w ∷ ws) last = Some (choose (whens_of (w ∷ ws)) (statements_of last))

-- a statement without statements in it
abbrev pub simple_statement : Scope → Tag → Children → Option PlainStatement
simple_statement s tag own =
    if is_named (codes "let") tag
    then option_map (λ p. assign p.0 p.1) (setting (values s false own))
    else if is_named (codes "append") tag
    then appended (number_of s.names.vars (name_of tag.attributes)) (values s false own)
    else if is_named (codes "out") tag then Some (out (pieces s own))
    else if is_named (codes "modify-case") tag
    then option_map (λ p. modify_case p.0 p.1) (setting (values s false own))
    else if is_named (codes "call-macro") tag
    then call_of s (number_of s.names.macros (name_of tag.attributes)) (params s own)
    else None

-- the statement that an element is, with the choices within it and what is done otherwise
abbrev pub statement : Scope → Tag → Children → List PlainWhen → List PlainStatement →
    Option PlainStatement
statement s tag own choices last =
    if is_named (codes "choose") tag then choice choices last else simple_statement s tag own

-- one condition, with the statements that are run where it holds
abbrev pub tested : List PlainCondition → List PlainStatement → Option PlainWhen
tested [] done = None
tested (c ∷ []) done = Some (c, done)
tested (c ∷ d ∷ more) done = None

abbrev pub when_of : Scope → Tag → Children → List PlainStatement → Option PlainWhen
when_of s tag own done = if is_named (codes "when") tag
    then tested (conditions s (within (codes "test") own)) done else None

abbrev mutual
  -- the statements among the elements
  pub statements : Scope → Children → List PlainStatement
  statements s nothing = []
  statements s (element tag own more) =
      option_to_list (statement s tag own (whens s own) (otherwise s own)) ++ statements s more

  -- the choices among them
  pub whens : Scope → Children → List PlainWhen
  whens s nothing = []
  whens s (element tag own more) = option_to_list (when_of s tag own (statements s own))
      ++ whens s more

  -- what the first `otherwise` among them says
  pub otherwise : Scope → Children → List PlainStatement
  otherwise s nothing = []
  otherwise s (element tag own more) = if is_named (codes "otherwise") tag then statements s own
      else otherwise s more
