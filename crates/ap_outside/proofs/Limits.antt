-- What is read of bytes up to a limit that isn't reached is all of them.
use Rattle.std.specs.Prelude.{◌≡◌, ℕ, ◌+◌, ◌-◌, ◌^◌, ◌<◌, ◌≤◌, min, List, [], ◌++◌, Option, Some, None, Result, Ok, Err, IfOk, IfErr, OnOk, IsErrAnd, take, length}
use Rattle.std.specs.Option.{IfSome, option_map}
use Rattle.std.specs.declared.io.Error.{Error}
use Rattle.std.proofs.Common.{arith, ap, ◌∙◌, subst, sym, Vec, Global}
use Rattle.std.proofs.lemmas.List.{take_all, length-take}

-- the bytes that are left end before the limit
short_of : (limit : ℕ) (all got : List ℕ) → length got < limit → got ≡ take limit all →
    length all ≤ limit
short_of limit all got short is = let n = ap length is ∙ length-take limit all in
    omega (arith, n, short)

pub all_read : (remaining : Option (List ℕ)) (limit : ℕ) (got : List ℕ) → length got < limit →
    IfSome (option_map (take limit) remaining) (λ xs. got ≡ xs) →
    IfSome remaining (λ all. got ≡ all)
all_read None limit got short is = is
all_read (Some all) limit got short is = is ∙ take_all limit all (short_of limit all got short is)

pub whole_read : {F : Type 0} (remaining : F → Option (List ℕ)) (file inner : F) (most limit : ℕ)
    (got before : List ℕ) → inner ≡ file → limit ≡ min (most + 1) (2 ^ 64 - 1) → length got ≤ most →
    length got < 2 ^ 63 → before ≡ []
    → IfSome (option_map (take limit) (remaining inner)) (λ xs. got ≡ before ++ xs) →
    IfSome (remaining file) (λ all. got ≡ all)
whole_read remaining file inner most limit got before inner_is limit_is short fits none read =
    let same = subst (λ f. IfSome (option_map (take limit) (remaining f))
    (λ xs. got ≡ before ++ xs)) inner_is read in
    let first = subst (λ b. IfSome (option_map (take limit) (remaining file))
    (λ xs. got ≡ b ++ xs)) none same in
    all_read (remaining file) limit got (omega (arith, limit_is, short, fits)) first

-- What was read to the end, without an error and no more than that, is all that was left.
pub whole_of : {F E : Type 0} (remaining : F → Option (List ℕ)) (file inner : F) (most limit : ℕ)
    (got before : List ℕ) (read : Result ℕ Error) (result : Result (Vec ℕ Global) E) (P : Error →
    E → Type 0) → inner ≡ file → limit ≡ min (most + 1) (2 ^ 64 - 1) → length got < 2 ^ 63 →
    before ≡ [] → OnOk read (IfSome (option_map (take limit) (remaining inner))
    (λ xs. got ≡ before ++ xs)) → IfOk result (λ all. OnOk read (all.items ≡ got)) →
    IfOk result (λ all. length all.items ≤ most) → IfErr read (λ error. IsErrAnd result (P error))
    → IfOk result (λ all. IfSome (remaining file) (λ whole. all.items ≡ whole))
whole_of remaining file inner most limit got before read (Err e) P same is short none had all fits
    failed = tt
whole_of remaining file inner most limit got before (Err e) (Ok all) P same is short none had got_is
    fits failed = absurd failed
whole_of remaining file inner most limit got before (Ok n) (Ok all) P same is short none had got_is
    fits failed =
    let few : length got ≤ most = omega (arith, ap length got_is) in
    subst (λ (bytes : List ℕ). IfSome (remaining file) (λ whole. bytes ≡ whole)) (sym got_is)
    (whole_read remaining file inner most limit got before same is few short none had)
