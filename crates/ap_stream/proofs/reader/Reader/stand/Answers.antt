use Rattle.std.proofs.Common.{arith, refl, ap, ◌∙◌, ◌≡◌, ◌≤◌, ℕ, List, ◌++◌, length}
use Rattle.ap_stream.proofs.FrontLaws.{stands_behind}
use Rattle.ap_stream.proofs.reader.Reader.stand.Goals as goal

pub invariant_of-self-2 : goal.invariant_of-self-2
invariant_of-self-2 c =
    let is : c.extend_from_slice.new.self.items ≡ c.args.behind.now =
    c.in_ok-extend_from_slice.ensures.items
    ∙ ap (λ (q : List ℕ). q ++ c.args.behind.now) c.clear.ensures.items in
    let short : length c.args.behind.now ≤ 1 = c.requires in (
      rw is (omega (arith, short)),
      λ none. rw is (stands_behind _ c.args.behind.now _ short refl),
    )
