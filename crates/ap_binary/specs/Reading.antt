-- Of the inside: no public contract stands on this file.
-- Reading from left to right: a value and the bytes behind it, or none.
use Rattle.std.specs.Prelude.{◌≡◌, Option, Some, None, Result, Ok, Err}
use Rattle.ap_binary.specs.declared.refusal.CutError.{CutError}
use Rattle.ap_binary.specs.declared.refusal.CutError.TheVariants.{Bad, Memory}

infixl 10 ◌>>=◌
abbrev pub ◌>>=◌ : {A B : Type 0} → Option A → (A → Option B) → Option B
(Some x) >>= f = f x
None >>= f = None

-- what a reader of the program answers: the value; none where there is none; or want of memory,
-- which says nothing
abbrev pub Fails : {Y : Type 0} → CutError → Option Y → Type 0
Fails Memory read = Unit {0}
Fails Bad read = read ≡ None

abbrev pub Gives : {X Y : Type 0} → (X → Y) → Result X CutError → Option Y → Type 0
Gives view (Ok x) read = read ≡ Some (view x)
Gives view (Err e) read = Fails e read
