-- The names that a rule file defines.
use Rattle.std.specs.Prelude.{ℕ, Bool, List, [], ◌∷◌, ◌++◌, Option, Some, None, codes, if◌then◌else◌, slice_get}
use Rattle.std.specs.Option.{unwrap_or}
use Rattle.ap_markup.specs.NameLists.{has_name, with_name, number_of}
use Rattle.ap_markup.specs.Pieces.{Pair}
use Rattle.ap_markup.specs.Said.{value_of, is_named}
use Rattle.ap_markup.specs.Tree.{Tag}
use Rattle.ap_rules.specs.Children.{Children, nothing, element}
use Rattle.ap_rules.specs.Texts.{number_in}
use Rattle.ap_rules.specs.declared.defined.Defined.{Defined}

abbrev pub none_defined : Defined
none_defined = record { cats = []; attrs = []; vars = []; lists = []; macros = []; npars = [] }

-- how many units a macro says that it is given; none where it says it wrongly
abbrev pub npar_of : List Pair → ℕ
npar_of given = unwrap_or (number_in 0 64 (value_of (codes "npar") given)) 0

-- a further macro, unless there is one of its name
abbrev pub with_macro : List ℕ → ℕ → Defined → Defined
with_macro name npar d = if has_name d.macros name then d
    else record d { macros = d.macros ++ name ∷ []; npars = d.npars ++ npar ∷ [] }

-- the names with that which an element gives to what it defines
abbrev pub defined_named : Option (List ℕ) → Tag → Defined → Defined
defined_named None tag d = d
defined_named (Some name) tag d =
    if is_named (codes "def-cat") tag then record d { cats = with_name d.cats name }
    else if is_named (codes "def-attr") tag then record d { attrs = with_name d.attrs name }
    else if is_named (codes "def-var") tag then record d { vars = with_name d.vars name }
    else if is_named (codes "def-list") tag then record d { lists = with_name d.lists name }
    else if is_named (codes "def-macro") tag then with_macro name (npar_of tag.attributes) d
    else d

-- The names once an element is over. One that gives no name defines nothing.
abbrev pub defined_after : Tag → Defined → Defined
defined_after tag d = defined_named (value_of (codes "n") tag.attributes) tag d

-- the names with those that the elements define, wherever these stand
abbrev pub defined_in : Defined → Children → Defined
defined_in d nothing = d
defined_in d (element tag own more) = defined_in (defined_after tag (defined_in d own)) more

-- how many units the macro of this name is given
abbrev pub npar_numbered : List ℕ → Option ℕ → Option ℕ
npar_numbered npars None = None
npar_numbered npars (Some n) = slice_get npars n

abbrev pub npar_named : Defined → List ℕ → Option ℕ
npar_named d name = npar_numbered d.npars (number_of d.macros name)
