-- What a start tag says, and the parts of an element's child.
use Rattle.std.specs.Prelude.{ℕ, Bool, List, [], ◌∷◌, Option, Some, None, codes, if◌then◌else◌}
use Rattle.std.specs.Option.{unwrap_or}
use Rattle.std.specs.Str.{bytes_eq}
use Rattle.ap_markup.specs.Pieces.{Pair}
use Rattle.ap_markup.specs.Tree.{Tag, Parts, Done, Run, Element}

-- the value of the first attribute of this name
abbrev pub value_of : List ℕ → List Pair → Option (List ℕ)
value_of name [] = None
value_of name (a ∷ more) = if bytes_eq name a.0 then Some a.1 else value_of name more

-- the name that the attribute `n` gives
abbrev pub name_of : List Pair → List ℕ
name_of given = unwrap_or (value_of (codes "n") given) []

abbrev pub is_named : List ℕ → Tag → Bool
is_named name tag = bytes_eq name tag.name

-- the parts of the first element of this name
unfoldable pub child : List ℕ → Parts → Parts
child name Done = Done
child name (Run text at more) = child name more
child name (Element tag kids more) = if is_named name tag then kids else child name more
