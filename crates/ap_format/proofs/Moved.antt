-- A text behind so many bytes more gives the same, and its places are so many bytes more.
use Rattle.std.specs.Prelude.{◌≡◌, ◌≢◌, ℕ, zero, suc, ◌+◌, pred, List, [], ◌∷◌, Option, Some, None, refl}
use Rattle.std.proofs.Common.{arith, ap, sym, subst, ◌∙◌}
use Rattle.ap_stream.specs.declared.dialect.Dialect.TheVariants.{Generated}
use Rattle.ap_stream.specs.declared.item.Read.{Read}
use Rattle.ap_stream.specs.declared.fault.StreamFault.{StreamFault}
use Rattle.ap_stream.specs.declared.fault.StreamFault.TheVariants.{Malformed, Limit, Memory}
use Rattle.ap_stream.specs.declared.fault.MalformedKind.TheVariants.{Unfinished, NotUtf8, Stray, BadTag, EmptyWord}
use Rattle.ap_stream.specs.Limits.{item_max}
use Rattle.ap_stream.specs.Reading.{First, Needs, Whole, Faulty, Last, Complete, Broken, Kind, Bad, Past, Reads, reads, walk, walked, at_end, last, limited, read_at, followed, stopped, nothing, counted, fault_at}
use Rattle.ap_stream.specs.Told.{Ending, Clean, Cut, behind, ends_in, stop_at, silent}
use Rattle.ap_format.specs.Reformatted.{bare_item, bare_items}
use Rattle.ap_format.specs.Giving.{ret_from, moved_fault}

abbrev pub moved_stop : ℕ → Option StreamFault → Option StreamFault
moved_stop by None = None
moved_stop by (Some fault) = Some (moved_fault by fault)

-- what is read near the start and what is read so far behind it
pub record IsMoved (by : ℕ) (near far : Reads) : Type 0 where
  pub given : bare_items far.items ≡ bare_items near.items
  pub stop : far.stop ≡ moved_stop by near.stop

moved_place : (by place size : ℕ) → counted (counted (by + place) + size)
    ≡ counted (by + counted (place + size))
moved_place by place size = omega arith

kind_moved : (by place : ℕ) (kind : Kind) →
    IsMoved by (stopped (fault_at kind place)) (stopped (fault_at kind (counted (by + place))))
kind_moved by place (Bad kind) = record { given = refl; stop = refl }
kind_moved by place (Past kind) = record { given = refl; stop = refl }

end_moved : (by place : ℕ) (bytes : List ℕ) (f : Last) →
    IsMoved by (at_end place bytes f) (at_end (counted (by + place)) bytes f)
end_moved by place bytes (Complete thing) = record { given = refl; stop = refl }
end_moved by place bytes (Broken kind) = kind_moved by place kind

walk_moved : (by : ℕ) (bytes : List ℕ) (place skip : ℕ) →
    IsMoved by (walk Generated place skip bytes) (walk Generated (counted (by + place)) skip bytes)
unfolding walk
walk_moved by [] place zero = record { given = refl; stop = refl }
walk_moved by [] place (suc skip) = record { given = refl; stop = refl }
walk_moved by (b ∷ bs) place (suc skip) = walk_moved by bs place skip
walk_moved by (b ∷ bs) place zero =
    at (limited item_max Generated (b ∷ bs)) (λ place skip. walk_moved by bs place skip)
  where
    at : (f : First) → ((place skip : ℕ) → IsMoved by (walk Generated place skip bs)
        (walk Generated (counted (by + place)) skip bs)) →
        IsMoved by (walked place (b ∷ bs) f (λ at skip. walk Generated at skip bs))
        (walked (counted (by + place)) (b ∷ bs) f (λ at skip. walk Generated at skip bs))
    at Needs on = end_moved by place (b ∷ bs) (last (b ∷ bs))
    at (Whole thing size) on =
        let more = on (counted (place + size)) (pred size) in
        subst (λ n. IsMoved by
        (followed (Some (read_at place thing size))
        (walk Generated (counted (place + size)) (pred size) bs))
        (followed (Some (read_at (counted (by + place)) thing size))
        (walk Generated n (pred size) bs)))
        (sym (moved_place by place size))
        (record { given = ap (behind (bare_item thing)) more.given; stop = more.stop })
    at (Faulty kind) on = kind_moved by place kind

pub reads_moved : (by place : ℕ) (bytes : List ℕ) →
    IsMoved by (reads Generated place bytes) (reads Generated (counted (by + place)) bytes)
unfolding reads
reads_moved by place bytes = walk_moved by bytes place 0

-- nothing is written before a fault that isn't lost where the text is cut
abbrev pub IsSeen : StreamFault → Type 0
IsSeen fault = (place : ℕ) → fault ≢ Malformed Unfinished place

pub seen_moved : (by : ℕ) (fault : StreamFault) → IsSeen fault → IsSeen (moved_fault by fault)
seen_moved by (Malformed Unfinished place) seen at e = seen place refl
seen_moved by (Malformed NotUtf8 place) seen at e = cc
seen_moved by (Malformed Stray place) seen at e = cc
seen_moved by (Malformed BadTag place) seen at e = cc
seen_moved by (Malformed EmptyWord place) seen at e = cc
seen_moved by (Limit kind place) seen at e = cc
seen_moved by Memory seen at e = cc

seen_stops : (fault : StreamFault) (e : Ending) → IsSeen fault → stop_at e (Some fault)
    ≡ Some fault
seen_stops fault Clean seen = refl
seen_stops (Malformed Unfinished place) Cut seen = absurd (seen place refl)
seen_stops (Malformed NotUtf8 place) Cut seen = refl
seen_stops (Malformed Stray place) Cut seen = refl
seen_stops (Malformed BadTag place) Cut seen = refl
seen_stops (Malformed EmptyWord place) Cut seen = refl
seen_stops (Limit kind place) Cut seen = refl
seen_stops Memory Cut seen = refl

-- a text and what is behind its first item, so far behind the start
module _ (by place at : ℕ) (bytes rest : List ℕ) where
  pub moved_next : (read : Read) → reads Generated place bytes
      ≡ followed (Some read) (reads Generated at rest) → (e : Ending) →
      ret_from (counted (by + place)) bytes e
      ≡ behind (bare_item read.item) (ret_from (counted (by + at)) rest e)
  moved_next read is e =
      let far = reads_moved by place bytes in
      let then = reads_moved by at rest in
      let given : bare_items (reads Generated (counted (by + place)) bytes).items
      ≡ behind (bare_item read.item) (bare_items (reads Generated (counted (by + at)) rest).items) =
      far.given ∙ ap (λ (q : Reads). bare_items q.items) is
      ∙ ap (behind (bare_item read.item)) (sym then.given) in
      let stop : (reads Generated (counted (by + place)) bytes).stop
      ≡ (reads Generated (counted (by + at)) rest).stop =
      far.stop ∙ ap (λ (q : Reads). moved_stop by q.stop) is ∙ sym then.stop in
      rw (given, stop) refl

  pub moved_none : reads Generated place bytes ≡ reads Generated at rest → (e : Ending) →
      ret_from (counted (by + place)) bytes e ≡ ret_from (counted (by + at)) rest e
  moved_none is e =
      let far = reads_moved by place bytes in
      let then = reads_moved by at rest in
      let given : bare_items (reads Generated (counted (by + place)) bytes).items
      ≡ bare_items (reads Generated (counted (by + at)) rest).items =
      far.given ∙ ap (λ (q : Reads). bare_items q.items) is ∙ sym then.given in
      let stop : (reads Generated (counted (by + place)) bytes).stop
      ≡ (reads Generated (counted (by + at)) rest).stop =
      far.stop ∙ ap (λ (q : Reads). moved_stop by q.stop) is ∙ sym then.stop in
      rw (given, stop) refl

-- a text that stops at once, so far behind the start
pub moved_stops : (by place : ℕ) (bytes : List ℕ) (fault : StreamFault) (e : Ending) →
    reads Generated place bytes ≡ stopped fault → stop_at e (Some (moved_fault by fault))
    ≡ Some (moved_fault by fault) → ret_from (counted (by + place)) bytes e
    ≡ ends_in [] (moved_fault by fault)
moved_stops by place bytes fault e is stays =
    let far = reads_moved by place bytes in
    let given : bare_items (reads Generated (counted (by + place)) bytes).items ≡ silent =
    far.given ∙ ap (λ (q : Reads). bare_items q.items) is in
    let stop : (reads Generated (counted (by + place)) bytes).stop
    ≡ Some (moved_fault by fault) = far.stop ∙ ap (λ (q : Reads). moved_stop by q.stop) is in
    rw (given, stop) (ap (λ (f : Option StreamFault). record { text = []; fault = f }) stays)

pub moved_seen : (by place : ℕ) (bytes : List ℕ) (fault : StreamFault) (e : Ending) →
    reads Generated place bytes ≡ stopped fault → IsSeen fault →
    ret_from (counted (by + place)) bytes e ≡ ends_in [] (moved_fault by fault)
moved_seen by place bytes fault e is seen =
    moved_stops by place bytes fault e is
    (seen_stops (moved_fault by fault) e (seen_moved by fault seen))

-- nothing is left
pub moved_nothing : (by place : ℕ) (bytes : List ℕ) → reads Generated place bytes ≡ nothing →
    ret_from (counted (by + place)) bytes Clean ≡ silent
moved_nothing by place bytes is =
    let far = reads_moved by place bytes in
    let given : bare_items (reads Generated (counted (by + place)) bytes).items ≡ silent =
    far.given ∙ ap (λ (q : Reads). bare_items q.items) is in
    let stop : (reads Generated (counted (by + place)) bytes).stop ≡ None =
    far.stop ∙ ap (λ (q : Reads). moved_stop by q.stop) is in
    rw (given, stop) refl
