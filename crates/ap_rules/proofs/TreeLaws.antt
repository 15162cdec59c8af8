-- The tree of a root.
use Rattle.std.proofs.Common.{◌≡◌, refl, ap}
use Rattle.ap_markup.specs.Tree.{Done}
use Rattle.ap_markup.specs.View.{node_then, tag_of}
use Rattle.ap_markup.specs.declared.node.Node.{Node}
use Rattle.ap_rules.specs.Children.{children, children_of, nothing, element}

pub tree_is : (n : Node) → children (node_then n Done) ≡ element (tag_of n) (children_of n) nothing
unfolding children
tree_is n = refl
