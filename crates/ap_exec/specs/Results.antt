-- What the parts of a rule give, or at which limit they stop.
use Rattle.std.specs.Prelude.{◌≡◌, Result, Ok, Err}
use Rattle.ap_exec.specs.declared.refusal.ExecRefusal.{ExecRefusal}
use Rattle.ap_exec.specs.declared.refusal.ExecRefusal.TheVariants as refusal

-- a limit that a rule meets: a value has too many bytes, or the output has
pub data RuleLimit : Type 0 where
  ValueTooLong : RuleLimit
  OutputTooLong : RuleLimit

abbrev pub Ran : Type 0 → Type 0
Ran A = Result A RuleLimit

infixl 10 ◌>>=◌
abbrev pub ◌>>=◌ : {A B : Type 0} → Ran A → (A → Ran B) → Ran B
(Ok x) >>= f = f x
(Err limit) >>= f = Err limit

abbrev pub seen : {A B : Type 0} → (A → B) → Ran A → Ran B
seen view (Ok x) = Ok (view x)
seen view (Err limit) = Err limit

-- The code is refused at the limit that is met; want of memory tells nothing of a limit.
abbrev pub Fails : {Y : Type 0} → ExecRefusal → Ran Y → Type 0
Fails refusal.Memory ran = Unit {0}
Fails refusal.ValueTooLong ran = ran ≡ Err ValueTooLong
Fails refusal.OutputTooLong ran = ran ≡ Err OutputTooLong

-- the code gives what is given, as it is viewed, and is refused at the limit that is met
abbrev pub Gives : {X Y : Type 0} → (X → Y) → Result X ExecRefusal → Ran Y → Type 0
Gives view (Ok x) ran = ran ≡ Ok (view x)
Gives view (Err e) ran = Fails e ran
