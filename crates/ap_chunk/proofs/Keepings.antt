-- Rows that are kept: each stays true.
use Rattle.std.specs.Prelude.{◌≡◌, ℕ, suc, zero, ◌<◌, Bool, List, [], ◌∷◌, ◌++◌, length, Result, Ok, Err, is_ok, if◌then◌else◌}
use Rattle.std.specs.List.{AllByRecursion}
use Rattle.std.proofs.Common.{arith, ap, sym, ◌∙◌, subst, get_or}
use Rattle.ap_symbol.specs.Rendering.{rendering}
use Rattle.ap_symbol.specs.Words.{AreProper}
use Rattle.ap_symbol.specs.declared.symbol.Symbol.{Symbol}
use Rattle.ap_chunk.specs.Kept.{IsTold, IsKept, AreKept}
use Rattle.ap_chunk.specs.declared.kept.KeptRow.{KeptRow}

pub all_at : {X : Type 0} (P : X → Type 0) (xs : List X) (i : ℕ) (x : X) → i < length xs →
    x ≡ get_or xs i x → AllByRecursion P xs → P x
all_at P [] i x lt is all = absurd (omega arith)
all_at P (y ∷ xs) zero x lt is all = subst P (sym is) all.0
all_at P (y ∷ xs) (suc i) x lt is all = all_at P xs i x (omega arith) is all.1

all_on : {X : Type 0} (P : X → Type 0) (xs : List X) (x : X) → AllByRecursion P xs → P x →
    AllByRecursion P (xs ++ x ∷ [])
all_on P [] x all is = (is, tt)
all_on P (y ∷ xs) x all is = (all.0, all_on P xs x all.1 is)

-- one more, if there was memory for it
pub all_pushed : {X T E : Type 0} (P : X → Type 0) (r : Result T E) (xs new : List X) (x : X) →
    new ≡ (if is_ok r then xs ++ x ∷ [] else xs) → P x → AllByRecursion P xs →
    AllByRecursion P new
all_pushed P (Ok y) xs new x e is all = subst (AllByRecursion P) (sym e) (all_on P xs x all is)
all_pushed P (Err y) xs new x e is all = subst (AllByRecursion P) (sym e) all

-- one row more, if there was memory for it
pub kept_pushed : {T E : Type 0} (r : Result T E) (given : List Symbol → List Bool)
    (xs new : List KeptRow) (entry : KeptRow) → new ≡ (if is_ok r then xs ++ entry ∷ [] else xs) →
    IsKept given entry → AreKept given xs → AreKept given new
kept_pushed (Ok x) given xs new entry e is all =
    subst (λ (z : List KeptRow). AreKept given z) (sym e) (all_on (IsKept given) xs entry all is)
kept_pushed (Err x) given xs new entry e is all =
    subst (λ (z : List KeptRow). AreKept given z) (sym e) all

-- the row of these bytes is found
pub told_there : (given : List Symbol → List Bool) (entries : List KeptRow) (at : ℕ) (entry : KeptRow)
    (key : List ℕ) (row : List Bool) → at < length entries → entry ≡ get_or entries at entry →
    entry.key.items ≡ key → row ≡ entry.row.items → AreKept given entries → IsTold given key row
told_there given entries at entry key row lt is k t all word proper e =
    let kept : IsKept given entry = all_at (IsKept given) entries at entry lt is all in
    t ∙ kept word proper (e ∙ sym k)

-- a new row
pub told_copy : (given : List Symbol → List Bool) (entry : KeptRow) (key : List ℕ) (row : List Bool) →
    entry.key.items ≡ key → entry.row.items ≡ row → IsTold given key row → IsKept given entry
told_copy given entry key row k t told word proper e = t ∙ told word proper (e ∙ k)

abbrev OneRendering : Type 0
OneRendering = (a b : List Symbol) → AreProper a → AreProper b → rendering a ≡ rendering b → a ≡ b

-- the row of a word is told by its bytes
pub told_word : OneRendering →
    (given : List Symbol → List Bool) (word : List Symbol) (key : List ℕ) (row : List Bool) → AreProper word →
    key ≡ rendering word → row ≡ given word → IsTold given key row
told_word law given word key row proper k t other well e =
    t ∙ ap given (law word other proper well (sym k ∙ sym e))
