-- What is known of what is still to come of a stage, by its definition.
use Rattle.std.specs.Prelude.{◌≡◌, ℕ, List, [], ◌++◌, Option, Some, None, refl}
use Rattle.std.proofs.Common.{sym, ap, ◌∙◌}
use Rattle.std.proofs.lemmas.List.{append-nil}
use Rattle.ap_stream.specs.Types.{StreamFault, Malformed, Unfinished}
use Rattle.ap_stream.specs.Items.{Read}
use Rattle.ap_stream.specs.Rest.{rest_of, reads_of}
use Rattle.ap_stream.specs.Seat.{Seat}
use Rattle.ap_stream.specs.Told.{Told, Ending, Clean, Cut, ends_in, or_else, stop_at, Begins, cut_fault, cut_option, cut_told, rest_from, IsRest}

from_first : (fault : Option StreamFault) (pending : List ℕ) (stop : Option StreamFault)
    (made : Told) (ending : Ending) →
    Begins pending (rest_from fault pending stop made ending).text
from_first None pending stop made ending = (made.text, refl)
from_first (Some fault) pending stop made ending = ([], sym (append-nil pending))

cut_twice : (fault : StreamFault) → cut_option (cut_fault fault) ≡ cut_fault fault
cut_twice (Malformed Unfinished place) = refl
cut_twice fault = refl

-- where the text was cut, no unfinished item is left
cut_stop : (own stop : Option StreamFault) → cut_option (or_else own (stop_at Cut stop))
    ≡ cut_option (or_else own (stop_at Clean stop))
cut_stop (Some fault) stop = refl
cut_stop None None = refl
cut_stop None (Some fault) = cut_twice fault

from_cut : (fault : Option StreamFault) (pending : List ℕ) (stop : Option StreamFault)
    (made : Told) →
    cut_told Cut (rest_from fault pending stop made Cut)
    ≡ cut_told Cut (rest_from fault pending stop made Clean)
from_cut (Some fault) pending stop made = refl
from_cut None pending stop made =
    ap (λ f. record { text = pending ++ made.text; fault = f }) (cut_stop made.fault stop)

module _ {fault : Option StreamFault} {pending : List ℕ} {rest : Ending → Told}
    (r : IsRest fault pending rest) where
  -- a stage that has answered a fault gives what is pending, and then that fault
  pub rest_at_fault : (f : StreamFault) (ending : Ending) → fault ≡ Some f →
      rest ending ≡ ends_in pending f
  rest_at_fault f ending h =
      r.is ending ∙ ap (λ (q : Option StreamFault). rest_from q pending r.stop r.made ending) h

  -- where the text was cut, an unfinished item is no fault, and nothing else differs
  pub rest_at_cut : cut_told Cut (rest Cut) ≡ cut_told Cut (rest Clean)
  rest_at_cut =
      ap (cut_told Cut) (r.is Cut) ∙ from_cut fault pending r.stop r.made
      ∙ sym (ap (cut_told Cut) (r.is Clean))

  -- what is pending comes first
  pub rest_pending_first : (ending : Ending) → Begins pending (rest ending).text
  rest_pending_first ending =
      let first = from_first fault pending r.stop r.made ending in
      (first.0, ap (λ (t : Told). t.text) (r.is ending) ∙ first.1)

-- what is pending of a stage over whole items comes first
pub seat_pending_first : {H : Type 0} (work : H → List Read → Told) (seat : Seat H) (x : List ℕ)
    (ending : Ending) → Begins seat.pending (rest_of work seat x ending).text
seat_pending_first work seat x ending =
    from_first seat.fault seat.pending (reads_of seat x).stop
    (work seat.handler (reads_of seat x).items) ending
