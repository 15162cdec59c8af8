-- Variables, of which some have new values.
use Rattle.std.proofs.Common.{◌≡◌, ℕ, zero, suc, ◌<◌, ◌≤◌, List, [], ◌∷◌, ◌++◌, length, set, refl, ap, sym, Option, Some, None, arith}
use Rattle.std.specs.List.{slice_get}
use Rattle.std.proofs.lemmas.Option.{slice_get_past}
use Rattle.ap_symbol.specs.declared.symbol.Symbol.{Symbol}
use Rattle.ap_exec.specs.States.{overlaid, fresh_in}
use Rattle.ap_exec.specs.Units.{var_at}

pub none_fresh : (base : List (List Symbol)) (fresh : List (Option (List Symbol))) (n : ℕ) →
    fresh_in (slice_get fresh n) ≡ None → var_at (slice_get (overlaid base fresh) n)
    ≡ var_at (slice_get base n)
none_fresh [] fresh n h = refl
none_fresh (w ∷ words) [] n h = refl
none_fresh (w ∷ words) (None ∷ fresh) zero h = refl
none_fresh (w ∷ words) (Some v ∷ fresh) zero h = cc
none_fresh (w ∷ words) (None ∷ fresh) (suc n) h = none_fresh words fresh n h
none_fresh (w ∷ words) (Some v ∷ fresh) (suc n) h = none_fresh words fresh n h

pub some_fresh : (base : List (List Symbol)) (fresh : List (Option (List Symbol))) (n : ℕ)
    (new : List Symbol) → fresh_in (slice_get fresh n) ≡ Some new → n < length base →
    var_at (slice_get (overlaid base fresh) n) ≡ new
some_fresh [] fresh n new h lt = absurd (omega arith)
some_fresh (w ∷ words) [] n new h lt = cc
some_fresh (w ∷ words) (None ∷ fresh) zero new h lt = cc
some_fresh (w ∷ words) (Some v ∷ fresh) zero new h lt = cc
some_fresh (w ∷ words) (None ∷ fresh) (suc n) new h lt =
    some_fresh words fresh n new h (omega arith)
some_fresh (w ∷ words) (Some v ∷ fresh) (suc n) new h lt =
    some_fresh words fresh n new h (omega arith)

pub past_fresh : (base : List (List Symbol)) (fresh : List (Option (List Symbol))) (n : ℕ) →
    length base ≤ n → var_at (slice_get (overlaid base fresh) n) ≡ []
past_fresh [] fresh n h = refl
past_fresh (w ∷ words) [] zero h = absurd (omega arith)
past_fresh (w ∷ words) (f ∷ fresh) zero h = absurd (omega arith)
past_fresh (w ∷ words) [] (suc n) h = ap var_at (slice_get_past words n (omega arith))
past_fresh (w ∷ words) (None ∷ fresh) (suc n) h = past_fresh words fresh n (omega arith)
past_fresh (w ∷ words) (Some v ∷ fresh) (suc n) h = past_fresh words fresh n (omega arith)

-- a new value of a variable
pub set_fresh : (base : List (List Symbol)) (fresh : List (Option (List Symbol))) (n : ℕ)
    (new : List Symbol) → n < length fresh → overlaid base (set fresh n (Some new))
    ≡ set (overlaid base fresh) n new
set_fresh [] fresh n new h = refl
set_fresh (w ∷ words) [] n new h = absurd (omega arith)
set_fresh (w ∷ words) (None ∷ fresh) zero new h = refl
set_fresh (w ∷ words) (Some v ∷ fresh) zero new h = refl
set_fresh (w ∷ words) (None ∷ fresh) (suc n) new h =
    ap (λ (x : List (List Symbol)). w ∷ x) (set_fresh words fresh n new (omega arith))
set_fresh (w ∷ words) (Some v ∷ fresh) (suc n) new h =
    ap (λ (x : List (List Symbol)). v ∷ x) (set_fresh words fresh n new (omega arith))

pub set_past_end : {A : Type 0} (xs : List A) (n : ℕ) (x : A) → length xs ≤ n → set xs n x ≡ xs
set_past_end [] n x h = refl
set_past_end (y ∷ ys) zero x h = absurd (omega arith)
set_past_end (y ∷ ys) (suc n) x h = ap (λ (zs : List _). y ∷ zs) (set_past_end ys n x (omega arith))

pub length-overlaid : (base : List (List Symbol)) (fresh : List (Option (List Symbol))) →
    length (overlaid base fresh) ≡ length base
length-overlaid [] fresh = refl
length-overlaid (w ∷ words) [] = refl
length-overlaid (w ∷ words) (None ∷ fresh) = ap suc (length-overlaid words fresh)
length-overlaid (w ∷ words) (Some v ∷ fresh) = ap suc (length-overlaid words fresh)

pub set_nothing : (base : List (List Symbol)) (fresh : List (Option (List Symbol))) (n : ℕ)
    (new : List Symbol) → length base ≤ n → overlaid base fresh ≡ set (overlaid base fresh) n new
set_nothing base fresh n new h =
    sym (set_past_end (overlaid base fresh) n new (omega (arith, length-overlaid base fresh)))

pub overlaid-none : (base : List (List Symbol)) → overlaid base [] ≡ base
overlaid-none [] = refl
overlaid-none (w ∷ words) = refl

pub overlaid-None : (base : List (List Symbol)) (fresh : List (Option (List Symbol))) →
    overlaid base (fresh ++ None ∷ []) ≡ overlaid base fresh
overlaid-None [] fresh = refl
overlaid-None (w ∷ words) [] = ap (λ (x : List (List Symbol)). w ∷ x) (overlaid-none words)
overlaid-None (w ∷ words) (None ∷ fresh) =
    ap (λ (x : List (List Symbol)). w ∷ x) (overlaid-None words fresh)
overlaid-None (w ∷ words) (Some v ∷ fresh) =
    ap (λ (x : List (List Symbol)). v ∷ x) (overlaid-None words fresh)
