use Rattle.std.proofs.Common.{◌≡◌, ℕ, ◌-◌, List, [], ◌++◌, length, ap, sym, ◌∙◌, refl, Result, Ok, Err, nat_le, Bool, true, false, cond, subst}
use Rattle.ap_symbol.specs.declared.symbol.Symbol.{Symbol}
use Rattle.ap_symbol.specs.Rendering.{rendering}
use Rattle.ap_exec.specs.Results.{Ran, ◌>>=◌, seen, Gives, ValueTooLong}
use Rattle.ap_stream.specs.declared.TheConstants.{UNIT_MAX}
use Rattle.ap_exec.specs.Values.{bounded, sized}
use Rattle.ap_exec.specs.declared.refusal.ExecRefusal.{ExecRefusal}
use Rattle.ap_exec.specs.declared.refusal.ExecRefusal.TheVariants as refusal
use Rattle.ap_exec.proofs.Bounds.{bounds}

picked : (b : Bool) (old w : List Symbol) (result : Result (Unit {0}) ExecRefusal) →
    Gives (λ x. x) result (cond b (Ok tt) (Err ValueTooLong)) →
    Gives (λ _. old ++ w) result
    (seen (λ (v : List Symbol). old ++ v) (cond b (Ok w) (Err ValueTooLong)))
picked true old w (Ok x) gives = refl
picked false old w (Ok x) gives = cc
picked true old w (Err refusal.Memory) gives = tt
picked false old w (Err refusal.Memory) gives = tt
picked true old w (Err refusal.ValueTooLong) gives = cc
picked false old w (Err refusal.ValueTooLong) gives = refl
picked true old w (Err refusal.OutputTooLong) gives = cc
picked false old w (Err refusal.OutputTooLong) gives = cc

sized_as : (n : ℕ) (old w : List Symbol) (result : Result (Unit {0}) ExecRefusal) →
    Gives (λ x. x) result (sized n tt) →
    Gives (λ _. old ++ w) result (seen (λ (v : List Symbol). old ++ v) (sized n w))
unfolding sized
sized_as n old w result gives = picked (nat_le n UNIT_MAX) old w result gives

-- a part was appended, and its size was tested
pub then_bounded : (old into : List Symbol) (part : Ran (List Symbol))
    (result : Result (Unit {0}) ExecRefusal)
    → seen (λ (w : List Symbol). old ++ w) part ≡ Ok into
    → Gives (λ x. x) result (sized (length (rendering into) - length (rendering old)) tt)
    → Gives (λ _. into) result (seen (λ (w : List Symbol). old ++ w) (part >>= bounded))
then_bounded old into (Err e) result was gives = cc
then_bounded old into (Ok w) result was gives =
    let same : old ++ w ≡ into = cc in
    let P : List Symbol → Type 0 =
    λ i. Gives (λ x. x) result (sized (length (rendering i) - length (rendering old)) tt) →
    Gives (λ _. i) result (seen (λ (v : List Symbol). old ++ v)
    (sized (length (rendering w)) w)) in
    subst P same (rw (bounds old w) (sized_as (length (rendering w)) old w result)) gives

-- a value was made, and then something was done with it
pub after_value : {B : Type 0} (old : List Symbol) (part : Ran (List Symbol)) (made : List Symbol)
    (f : List Symbol → B) (s : B)
    → seen (λ (w : List Symbol). old ++ w) part ≡ Ok made → old ≡ [] → s ≡ f made →
    (part >>= λ x. Ok (f x)) ≡ Ok s
after_value old (Ok w) made f s was none is =
    let whole : old ++ w ≡ made = cc in
    let same : w ≡ made = ap (λ (o : List Symbol). o ++ w) (sym none) ∙ whole in
    rw (same, is) refl
after_value old (Err e) made f s was none is = cc
