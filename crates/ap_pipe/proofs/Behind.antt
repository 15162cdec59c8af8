-- Where each stage reads what the one before it writes, no text behind the first stage is
-- malformed.
use Rattle.std.specs.Prelude.{◌≡◌, ℕ, suc, ◌<◌, List, [], ◌∷◌, Option, Some, None, refl}
use Rattle.std.proofs.Common.{arith, sym, subst}
use Rattle.ap_stream.specs.ReadOn.{IsReadOn, IsNotMalformed, NeverMalformed}
use Rattle.ap_stream.specs.Told.{Told, Ending, Clean, Cut, cut_told}
use Rattle.ap_stream.specs.declared.dialect.Dialect.{Dialect}
use Rattle.ap_stream.specs.declared.fault.StreamFault.{StreamFault}
use Rattle.ap_pipe.specs.Behind.{AreLinked}
use Rattle.ap_pipe.specs.Row.{meaning, last_fault}
use Rattle.ap_pipe.specs.declared.station.RowFault.{RowFault}

-- a fault of the row isn't that a text is malformed
abbrev Fine : Option RowFault → Type 0
Fine None = Unit {0}
Fine (Some fault) = IsNotMalformed (Some fault.fault)

-- the fault of this stage, or of one behind it
last_fine : (behind : Option RowFault) (n : ℕ) (own : Option StreamFault) → Fine behind →
    IsNotMalformed own → Fine (last_fault behind n own)
last_fine None n None h k = tt
last_fine None n (Some fault) h k = k
last_fine (Some fault) n own h k = h

row_fine : (stages : List (List ℕ → Ending → Told)) (stage : List ℕ → Ending → Told)
    (dialects : List Dialect) (dialect : Dialect) (n : ℕ) (text : List ℕ) →
    AreLinked stage dialects stages → NeverMalformed dialect stage → IsReadOn dialect text →
    Fine (meaning n (stage ∷ stages) text Clean).fault
row_fine [] stage dialects dialect n text links fine h =
    last_fine None n (stage text Clean).fault tt (fine text h)
row_fine (next ∷ stages) stage [] dialect n text links fine h = absurd links
row_fine (next ∷ stages) stage (later ∷ dialects) dialect n text links fine h =
    last_fine (meaning (suc n) (next ∷ stages) (stage text Clean).text Clean).fault n
    (stage text Clean).fault
    (row_fine stages next dialects later (suc n) (stage text Clean).text links.2 links.1
    (links.0 text Clean)) (fine text h)

same_text : (told : Told) (ending : Ending) → (cut_told ending told).text ≡ told.text
same_text told Clean = refl
same_text told Cut = refl

-- behind the first stage
later_fine : (behind : Option RowFault) (n : ℕ) (own : Option StreamFault) (fault : RowFault) →
    Fine behind → last_fault behind n own ≡ Some fault → n < fault.stage →
    IsNotMalformed (Some fault.fault)
later_fine None n None fault h e more = absurd (cc)
later_fine None n (Some own) fault h e more =
    absurd (let same : n ≡ fault.stage = cc in omega (arith, same, more))
later_fine (Some behind) n own fault h e more =
    let same : behind ≡ fault = cc in
    subst (λ (f : RowFault). IsNotMalformed (Some f.fault)) same h

pub behind_first : (stage : List ℕ → Ending → Told) (stages : List (List ℕ → Ending → Told))
    (dialects : List Dialect) → AreLinked stage dialects stages → (number : ℕ) (text : List ℕ)
    (ending : Ending) (fault : RowFault) →
    (meaning number (stage ∷ stages) text ending).fault ≡ Some fault → number < fault.stage →
    IsNotMalformed (Some fault.fault)
behind_first stage [] dialects links number text ending fault e more =
    later_fine None number (cut_told ending (stage text ending)).fault fault tt e more
behind_first stage (next ∷ stages) [] links number text ending fault e more = absurd links
behind_first stage (next ∷ stages) (dialect ∷ dialects) links number text ending fault e more =
    later_fine
    (meaning (suc number) (next ∷ stages) (cut_told ending (stage text ending)).text Clean).fault
    number (cut_told ending (stage text ending)).fault fault
    (row_fine stages next dialects dialect (suc number) (cut_told ending (stage text ending)).text
    links.2 links.1 (subst (IsReadOn dialect) (sym (same_text (stage text ending) ending))
    (links.0 text ending))) e more
