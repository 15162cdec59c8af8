-- Bytes that are put behind others.
use Rattle.std.proofs.Common.{◌≡◌, ℕ, List, ◌++◌, ap, ◌∙◌, append_assoc, Result, Ok, Err, OnOk}

pub puts_more : {T E : Type 0} (r : Result T E) (new mid old x y z : List ℕ) →
    OnOk r (new ≡ mid ++ y) → mid ≡ old ++ x → y ≡ z → OnOk r (new ≡ old ++ (x ++ z))
puts_more (Ok t) new mid old x y z h m e = h ∙ ap (λ w. w ++ y) m ∙ append_assoc old x y
    ∙ ap (λ w. old ++ (x ++ w)) e
puts_more (Err f) new mid old x y z h m e = tt
