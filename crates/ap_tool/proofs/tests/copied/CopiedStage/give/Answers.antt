use Rattle.std.proofs.Common.{◌≡◌, ◌∙◌, sym, ap, ℕ, List, ◌++◌, take, drop, append_assoc}
use Rattle.std.proofs.lemmas.List.{take-append-drop}
use Rattle.ap_tool.specs.Copying.{Copying, copied_text}
use Rattle.ap_tool.proofs.tests.copied.CopiedStage.give.Goals as goal

given_first : (bytes x : List ℕ) (n : ℕ) → take n bytes ++ (drop n bytes ++ x) ≡ bytes ++ x
given_first bytes x n = sym (append_assoc (take n bytes) (drop n bytes) x)
    ∙ ap (λ t. t ++ x) (take-append-drop n bytes)

pub returns-clause-rest : goal.returns-clause-rest
returns-clause-rest c = λ x e.
    let b : c.args.self.now.bytes ≡ c.self.inside.pipe.bytes =
    sym (ap (λ (z : Copying). z.bytes) c.self.view_is) in
    rw (c.drain.ensures.bytes, b)
    (ap copied_text (given_first c.self.inside.pipe.bytes x c.fill-count.result))
