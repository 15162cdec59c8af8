-- Steps that carry variables, from left to right: the first step and then the rest; and what a turn
-- over held items does.
use Rattle.std.specs.Prelude.{◌≡◌, ℕ, suc, zero, pred, ◌<◌, ◌≤◌, List, [], ◌∷◌, ◌++◌, length, drop, refl}
use Rattle.std.proofs.Common.{arith, ap, sym, ◌∙◌, get_or}
use Rattle.std.proofs.lemmas.List.{drop-append-le}
use Rattle.ap_stream.specs.ReadOn.{IsNotMalformed}
use Rattle.ap_stream.specs.Told.{silent, behind, ends_in}
use Rattle.ap_stream.specs.declared.fault.LimitKind.{LimitKind}
use Rattle.ap_stream.specs.declared.fault.StreamFault.TheVariants.{Limit}
use Rattle.ap_stream.specs.declared.item.Read.{Read}
use Rattle.ap_chunk.specs.Carrying.{Held, Step, Gives, Stops, goes_on, carried}

module _ (first : Held → List Read → Step) where
  pub carried_none : (vars : Held) → carried first vars 0 [] ≡ silent
  unfolding carried
  carried_none vars = refl

  carried_skip : (vars : Held) (skip : ℕ) (reads : List Read) → carried first vars skip reads
      ≡ carried first vars 0 (drop skip reads)
  unfolding carried
  carried_skip vars zero [] = refl
  carried_skip vars (suc skip) [] = refl
  carried_skip vars zero (read ∷ reads) = refl
  carried_skip vars (suc skip) (read ∷ reads) = carried_skip vars skip reads

  carried_first : (vars : Held) (read : Read) (reads : List Read) →
      carried first vars 0 (read ∷ reads) ≡ goes_on read.place (first vars (read ∷ reads))
      (λ n held. carried first held n reads)
  unfolding carried
  carried_first vars read reads = refl

  drop_after : (read : Read) (reads : List Read) (n : ℕ) → 0 < n →
      drop (pred n) reads ≡ drop n (read ∷ reads)
  drop_after read reads zero h = absurd (omega arith)
  drop_after read reads (suc n) h = refl

  -- what the first step gives, and then the steps over the rest
  pub carried_gives : (vars held : Held) (read : Read) (reads : List Read) (n : ℕ) (text : List ℕ) →
      first vars (read ∷ reads) ≡ Gives n text held → 0 < n
      → carried first vars 0 (read ∷ reads)
      ≡ behind text (carried first held 0 (drop n (read ∷ reads)))
  carried_gives vars held read reads n text e h =
      carried_first vars read reads
      ∙ ap (λ step. goes_on read.place step (λ k vars. carried first vars k reads)) e
      ∙ ap (behind text) (carried_skip held (pred n) reads
      ∙ ap (carried first held 0) (drop_after read reads n h))

  pub carried_stops : (vars : Held) (read : Read) (reads : List Read) (kind : LimitKind) →
      first vars (read ∷ reads) ≡ Stops kind → carried first vars 0 (read ∷ reads)
      ≡ ends_in [] (Limit kind read.place)
  carried_stops vars read reads kind e = carried_first vars read reads
      ∙ ap (λ step. goes_on read.place step (λ k vars. carried first vars k reads)) e

  -- a step over the held items comes first, and then the work on the items behind
  pub turn_gives : (vars held : Held) (items xs : List Read) (n : ℕ) (text : List ℕ) →
      0 < length items → 0 < n → n ≤ length items → first vars (items ++ xs) ≡ Gives n text held
      → behind text (carried first held 0 (drop n items ++ xs)) ≡ carried first vars 0 (items ++ xs)
  turn_gives vars held [] xs n text some h le e = absurd (omega arith)
  turn_gives vars held (read ∷ reads) xs n text some h le e =
      ap (λ rest. behind text (carried first held 0 rest))
      (sym (drop-append-le n (read ∷ reads) xs le))
      ∙ sym (carried_gives vars held read (reads ++ xs) n text e h)

  -- a limit, at the place of the first item
  pub turn_stops : (vars : Held) (items xs : List Read) (kind : LimitKind) (here d : Read) →
      0 < length items → here ≡ get_or items 0 d → first vars (items ++ xs) ≡ Stops kind
      → carried first vars 0 (items ++ xs) ≡ ends_in [] (Limit kind here.place)
  turn_stops vars [] xs kind here d some is e = absurd (omega arith)
  turn_stops vars (read ∷ reads) xs kind here d some is e =
      carried_stops vars read (reads ++ xs) kind e
      ∙ ap (λ (r : Read). ends_in [] (Limit kind r.place)) (sym is)

  -- its faults are limits
  on_fine : (read : Read) (reads : List Read) (step : Step) →
      ((n : ℕ) (vars : Held) → IsNotMalformed (carried first vars n reads).fault) →
      IsNotMalformed (goes_on read.place step (λ n vars. carried first vars n reads)).fault
  on_fine read reads (Gives n text vars) go = go (pred n) vars
  on_fine read reads (Stops kind) go = λ other place h. absurd (cc)

  pub carried_fine : (vars : Held) (skip : ℕ) (reads : List Read) →
      IsNotMalformed (carried first vars skip reads).fault
  unfolding carried
  carried_fine vars zero [] = λ other place h. absurd (cc)
  carried_fine vars (suc skip) [] = λ other place h. absurd (cc)
  carried_fine vars (suc skip) (read ∷ reads) = carried_fine vars skip reads
  carried_fine vars zero (read ∷ reads) =
      on_fine read reads (first vars (read ∷ reads)) (λ n held. carried_fine held n reads)
