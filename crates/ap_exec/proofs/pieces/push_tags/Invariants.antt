use Rattle.std.proofs.Common.{◌≡◌, ◌++◌, drop, List, map}
use Rattle.ap_symbol.specs.declared.symbol.Symbol.{Symbol}
use Rattle.ap_exec.specs.Compounds.{tag_in}
use Rattle.ap_exec.specs.Pieces.{tags_of}
use Rattle.ap_exec.specs.Results.{seen}
use Rattle.ap_exec.specs.States.{sight}
use Rattle.ap_exec.proofs.pieces.push_tags.Given as goal

abbrev pub invariant-tags : goal.invariant-tags
invariant-tags l = seen (λ (w : List Symbol). l.name ++ w)
    (tags_of (sight l.view) (map tag_in (drop l.tag-index l.tags)))
    ≡ seen (λ (w : List Symbol). l.initial.name ++ w) (tags_of (sight l.view) (map tag_in l.tags))
