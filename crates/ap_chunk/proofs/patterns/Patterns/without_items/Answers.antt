use Rattle.std.proofs.Common.{Some, None, ℕ, List, subst, [], arith}
use Rattle.ap_chunk.specs.Live.{IsLeast, is_over}
use Rattle.ap_chunk.proofs.Indexing.{least_empty, no_empty}
use Rattle.ap_chunk.proofs.patterns.Patterns.without_items.Goals as goal

pub returns-then-self-len : goal.returns-then-self-len
returns-then-self-len c =
    let P : List (List ℕ) → Type 0 = λ ps. IsLeast (is_over ps []) (Some c.self.inside.empty) in
    subst P c.self.view_is (least_empty c.self.inside.patterns.items c.self.inside.empty
    c.self.invariant.first (omega (
      arith,
      c.if-self-len.true,
      c.len.ensures,
      c.self.inside.patterns.ok.0,
    )))

pub returns : goal.returns
returns c =
    let P : List (List ℕ) → Type 0 = λ ps. IsLeast (is_over ps []) None in
    subst P c.self.view_is (no_empty c.self.inside.patterns.items c.self.inside.empty
    c.self.invariant.first (omega (
      arith,
      c.if-self-len.false,
      c.len.ensures,
      c.self.inside.patterns.ok.0,
    )))
