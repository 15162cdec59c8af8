-- Of the inside: no public contract stands on this file.
-- What the parts of the code that fills a template write.
use Rattle.std.specs.Prelude.{◌≡◌, ℕ, true, List, ◌++◌, Result, Ok, Err}
use Rattle.ap_exec.specs.Filling.{Mark, filled, is_over}
use Rattle.ap_exec.specs.declared.filling.Filling.{Filling}
use Rattle.ap_exec.specs.declared.refusal.ExecRefusal.{ExecRefusal}
use Rattle.ap_exec.specs.declared.refusal.ExecRefusal.TheVariants as refusal

-- these bytes are appended, or the text is too long with them, whatever follows
abbrev pub Appends : {Y : Type 0} → Result Y ExecRefusal → List ℕ → List ℕ → List ℕ → Type 0
Appends (Ok y) before after bytes = after ≡ before ++ bytes
Appends (Err refusal.Memory) before after bytes = Unit {0}
Appends (Err refusal.ValueTooLong) before after bytes = ⊥
Appends (Err refusal.OutputTooLong) before after bytes = (rest : List ℕ) →
    is_over (before ++ (bytes ++ rest)) ≡ true

-- what is written, and what follows where these marks are still to come
abbrev pub goes_on : Filling → List Mark → List ℕ
goes_on f more = f.out ++ filled more f.blanks.now

-- after these marks the text is too long, whatever follows
abbrev pub Stops : ExecRefusal → Filling → List Mark → Type 0
Stops refusal.Memory f ms = Unit {0}
Stops refusal.ValueTooLong f ms = ⊥
Stops refusal.OutputTooLong f ms = (more : List Mark) → is_over (goes_on f (ms ++ more)) ≡ true

-- these marks were written, or the text is too long with them
abbrev pub Writes : {Y : Type 0} → Result Y ExecRefusal → Filling → Filling → List Mark → Type 0
Writes (Ok y) before after ms = (more : List Mark) →
    goes_on after more ≡ goes_on before (ms ++ more)
Writes (Err e) before after ms = Stops e before ms
