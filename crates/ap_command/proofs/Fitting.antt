-- What a command gives fits what its words say. These are the only lemmas that speak of every
-- command.
use Rattle.std.proofs.Common.{◌≡◌, ℕ, true, List, [], ◌∷◌, ap, sym, ◌∙◌, refl, inl, inr, ◌⊎◌, Some, None}
use Rattle.ap_stream.specs.declared.dialect.Dialect.TheVariants.{Raw, Generated}
use Rattle.ap_command.specs.Said.{Said, Entries, Rules, Pairs}
use Rattle.ap_command.specs.declared.words.Command.{Command}
use Rattle.ap_command.specs.declared.words.Command.TheVariants.{Proc, Expand, Comp, Trim, First, Pretransfer, TransferAlone, Transfer, Interchunk, Postchunk, Choose, Destxt, Retxt, Compound, Run, Text, Work}
use Rattle.ap_command.specs.Words.{out_of, has_stream}
use Rattle.ap_command.specs.Rows.{Stage, TextKind, StreamText, row_reads, row_writes}
use Rattle.ap_command.specs.Gives.{Gives, Streams, Lists, Stores, Works, Nothing, gives_of, Making}

-- a row of stages of a command with a stream that stores nothing; a text; what is stored under the
-- name that the words give; the workload; or nothing
data Fits (command : Command) (given : Gives) : Type 0 where
  streams : (stages : List Stage) → given ≡ Streams stages → out_of command ≡ None →
      has_stream command ≡ true → Fits command given
  lists : (text : List ℕ) → given ≡ Lists text → out_of command ≡ None → Fits command given
  stores : (out : ℕ) (making : Making) → given ≡ Stores out making → out_of command ≡ Some out →
      Fits command given
  works : (sentences : ℕ) → given ≡ Works sentences → out_of command ≡ None → Fits command given
  nothing : given ≡ Nothing → Fits command given

fits : (command : Command) (said : List Said) → Fits command (gives_of command said)
fits (Proc mode sensitive file) (c ∷ []) = streams _ refl refl refl
fits (Expand dix) (Entries d ∷ []) = lists _ refl refl
fits (Comp way dix out) (Entries d ∷ []) = stores _ _ refl refl
fits (Trim mono bi out) (m ∷ b ∷ []) = stores _ _ refl refl
fits First [] = streams _ refl refl refl
fits Pretransfer [] = streams _ refl refl refl
fits (Choose pairs) (Pairs ps ∷ []) = streams _ refl refl refl
fits (TransferAlone t1x) (Rules r ∷ []) = streams _ refl refl refl
fits (Transfer t1x bidix) (Rules r ∷ c ∷ []) = streams _ refl refl refl
fits (Interchunk t2x) (Rules r ∷ []) = streams _ refl refl refl
fits (Postchunk t3x) (Rules r ∷ []) = streams _ refl refl refl
fits Destxt [] = streams _ refl refl refl
fits Retxt [] = streams _ refl refl refl
fits (Compound sensitive file) (c ∷ []) = streams _ refl refl refl
fits (Run room at) (m ∷ b ∷ Rules t ∷ Rules u ∷ Rules v ∷ g ∷ p ∷ []) =
    streams _ refl refl refl
fits (Text room at) (m ∷ b ∷ Rules t ∷ Rules u ∷ Rules v ∷ g ∷ p ∷ []) =
    streams _ refl refl refl
fits (Work sentences) [] = works _ refl refl
fits command said = nothing refl

-- which of these it is
row-out : (command : Command) (g : Gives) (stages : List Stage) → Streams stages ≡ g →
    Fits command g → out_of command ≡ None
row-out command g stages e (streams ss f o h) = o
row-out command g stages e (lists text f o) = o
row-out command g stages e (stores out making f o) =
    absurd (let x : Streams stages ≡ Stores out making = e ∙ f in cc)
row-out command g stages e (works n f o) = o
row-out command g stages e (nothing f) = absurd (let x : Streams stages ≡ Nothing = e ∙ f in cc)

row-stream : (command : Command) (g : Gives) (stages : List Stage) → Streams stages ≡ g →
    Fits command g → has_stream command ≡ true
row-stream command g stages e (streams ss f o h) = h
row-stream command g stages e (lists text f o) =
    absurd (let x : Streams stages ≡ Lists text = e ∙ f in cc)
row-stream command g stages e (stores out making f o) =
    absurd (let x : Streams stages ≡ Stores out making = e ∙ f in cc)
row-stream command g stages e (works n f o) =
    absurd (let x : Streams stages ≡ Works n = e ∙ f in cc)
row-stream command g stages e (nothing f) = absurd (let x : Streams stages ≡ Nothing = e ∙ f in cc)

text-out : (command : Command) (g : Gives) (text : List ℕ) → Lists text ≡ g → Fits command g →
    out_of command ≡ None
text-out command g text e (streams ss f o h) = o
text-out command g text e (lists other f o) = o
text-out command g text e (stores out making f o) =
    absurd (let x : Lists text ≡ Stores out making = e ∙ f in cc)
text-out command g text e (works n f o) = o
text-out command g text e (nothing f) = absurd (let x : Lists text ≡ Nothing = e ∙ f in cc)

made-out : (command : Command) (g : Gives) (place : ℕ) (making : Making) →
    Stores place making ≡ g → Fits command g → out_of command ≡ Some place
made-out command g place making e (streams ss f o h) =
    absurd (let x : Stores place making ≡ Streams ss = e ∙ f in cc)
made-out command g place making e (lists text f o) =
    absurd (let x : Stores place making ≡ Lists text = e ∙ f in cc)
made-out command g place making e (stores out other f o) =
    let x : Stores place making ≡ Stores out other = e ∙ f in
    let same : place ≡ out = cc in o ∙ ap Some (sym same)
made-out command g place making e (works n f o) =
    absurd (let x : Stores place making ≡ Works n = e ∙ f in cc)
made-out command g place making e (nothing f) =
    absurd (let x : Stores place making ≡ Nothing = e ∙ f in cc)

work-out : (command : Command) (g : Gives) (sentences : ℕ) → Works sentences ≡ g →
    Fits command g → out_of command ≡ None
work-out command g sentences e (streams ss f o h) = o
work-out command g sentences e (lists text f o) = o
work-out command g sentences e (stores out making f o) =
    absurd (let x : Works sentences ≡ Stores out making = e ∙ f in cc)
work-out command g sentences e (works n f o) = o
work-out command g sentences e (nothing f) =
    absurd (let x : Works sentences ≡ Nothing = e ∙ f in cc)

pub streams-out : (command : Command) (said : List Said) (stages : List Stage) →
    Streams stages ≡ gives_of command said → out_of command ≡ None
streams-out command said stages e =
    row-out command (gives_of command said) stages e (fits command said)

pub streams-stream : (command : Command) (said : List Said) (stages : List Stage) →
    Streams stages ≡ gives_of command said → has_stream command ≡ true
streams-stream command said stages e =
    row-stream command (gives_of command said) stages e (fits command said)

pub lists-out : (command : Command) (said : List Said) (text : List ℕ) →
    Lists text ≡ gives_of command said → out_of command ≡ None
lists-out command said text e = text-out command (gives_of command said) text e (fits command said)

pub stores-out : (command : Command) (said : List Said) (place : ℕ) (making : Making) →
    Stores place making ≡ gives_of command said → out_of command ≡ Some place
stores-out command said place making e =
    made-out command (gives_of command said) place making e (fits command said)

pub works-out : (command : Command) (said : List Said) (sentences : ℕ) →
    Works sentences ≡ gives_of command said → out_of command ≡ None
works-out command said sentences e =
    work-out command (gives_of command said) sentences e (fits command said)

-- the row of stages of `run`, which reads a text of the stream and writes a generated one; or what
-- the files say isn't what it reads
pub record RunsRow (given : Gives) : Type 0 where
  pub stages : List Stage
  pub is : given ≡ Streams stages
  pub reads : row_reads stages ≡ StreamText Raw
  pub writes : row_writes stages ≡ StreamText Generated

pub run-gives : (room at : ℕ) (said : List Said) → RunsRow (gives_of (Run room at) said)
    ⊎ (gives_of (Run room at) said ≡ Nothing)
run-gives room at (m ∷ b ∷ Rules t ∷ Rules u ∷ Rules v ∷ g ∷ p ∷ []) =
    inl (record { stages = _; is = refl; reads = refl; writes = refl })
run-gives room at said = inr refl
