-- One element after another.
use Rattle.std.proofs.Common.{◌≡◌, ◌<◌, ℕ, Bool, true, false, length, arith, List, [], ◌∷◌, refl, ap}
use Rattle.ap_markup.specs.View.{parts_of, tag_of}
use Rattle.ap_markup.specs.declared.node.Node.{Node}
use Rattle.ap_markup.specs.declared.node.Part.{Part, Run, Element}
use Rattle.ap_markup.proofs.ViewLemmas.{part_then-Element}
use Rattle.ap_rules.specs.Children.{Children, nothing, element, children, children_in, children_of}

pub none_left : children_in [] ≡ nothing
unfolding children
none_left = refl

pub no_part : (parts : List Part) → (0 < length parts → ◌≡◌ {A = Bool} false true) →
    children_in parts ≡ nothing
no_part [] none = none_left
no_part (p ∷ parts) none = let no : ◌≡◌ {A = Bool} false true = none (omega arith) in cc

pub past_run : (text : List ℕ) (at : ℕ) (more : List Part) → children_in (Run text at ∷ more)
    ≡ children_in more
unfolding children
past_run text at more = refl

pub at_node : (n : Node) (more : List Part) → children_in (Element n ∷ more)
    ≡ element (tag_of n) (children_of n) (children_in more)
unfolding children
at_node n more = ap children (part_then-Element n (parts_of more))

pub ruleset child_steps = (none_left, past_run, at_node)
