-- The tree of elements alone, without the texts between them.
use Rattle.std.specs.Prelude.{ℕ, ◌+◌, List, [], ◌∷◌, Option, Some, None, if◌then◌else◌}
use Rattle.std.specs.Borrow.{Bor}
use Rattle.ap_markup.specs.Said.{is_named}
use Rattle.ap_markup.specs.Tree.{Tag, Parts, Done, Run, Element}
use Rattle.ap_markup.specs.View.{parts_of, tag_of}
use Rattle.ap_markup.specs.declared.node.Node.{Node}
use Rattle.ap_markup.specs.declared.node.Part.{Part}

-- The elements within an element, each with those within it, in order.
pub data Children : Type 0 where
  nothing : Children
  element : Tag → Children → Children → Children

unfoldable pub children : Parts → Children
children Done = nothing
children (Run text at more) = children more
children (Element tag kids more) = element tag (children kids) (children more)

abbrev pub children_in : List Part → Children
children_in parts = children (parts_of parts)

abbrev pub children_of : Node → Children
children_of n = children (parts_of n.parts.items)

-- the first element, if there is one, and those behind it
abbrev pub begun_by : Option (Bor Node × Bor (List Part)) → Children
begun_by None = nothing
begun_by (Some x) = element (tag_of x.0.now) (children_of x.0.now) (children_in x.1.now)

-- how many elements there are
abbrev pub size : Children → ℕ
size nothing = 0
size (element tag own more) = size own + size more + 1

-- the elements within the first element of this name
abbrev pub within : List ℕ → Children → Children
within name nothing = nothing
within name (element tag own more) = if is_named name tag then own else within name more

-- the start tag of the first element of this name
abbrev pub tag_within : List ℕ → Children → Option Tag
tag_within name nothing = None
tag_within name (element tag own more) = if is_named name tag then Some tag
    else tag_within name more

-- how many elements of this name stand side by side
abbrev pub count_named : List ℕ → Children → ℕ
count_named name nothing = 0
count_named name (element tag own more) =
    (if is_named name tag then 1 else 0) + count_named name more
