-- What taking more bytes of a generated text means.
use Rattle.std.specs.Prelude.{◌≡◌, ◌≢◌, ℕ, zero, suc, ◌+◌, ◌-◌, ◌<◌, ◌≤◌, List, [], ◌++◌, take, drop, length, Bool, true, false, Option, Some, None, refl}
use Rattle.std.proofs.Common.{arith, ap, sym, subst, ◌∙◌, append_assoc, length-append}
use Rattle.std.proofs.lemmas.List.{append-nil, length-take-le}
use Rattle.ap_stream.specs.declared.dialect.Dialect.TheVariants.{Generated}
use Rattle.ap_stream.specs.declared.item.Read.{Read}
use Rattle.ap_stream.specs.declared.fault.StreamFault.{StreamFault}
use Rattle.ap_stream.specs.declared.fault.StreamFault.TheVariants.{Memory}
use Rattle.ap_stream.specs.Given.{Begun, Feeds, Shows, Ends}
use Rattle.ap_stream.specs.Reading.{reads, counted, stopped, nothing}
use Rattle.ap_stream.specs.Told.{Ending, Clean, silent, behind, ends_in}
use Rattle.ap_stream.specs.Rest.{rest_of}
use Rattle.ap_stream.specs.Seat.{Seat}
use Rattle.ap_stream.proofs.Stop.{rest_at_give}
use Rattle.ap_format.specs.Reformatted.{Reformatting, bare_item, ret_work}
use Rattle.ap_format.specs.Giving.{ret_from, Unread, StopsAt, IsSound, Takes, Closes, weight, moved_fault}
use Rattle.ap_format.proofs.Cuts.{behind_behind}
use Rattle.ap_format.proofs.Moved.{seen_moved, moved_next, moved_none, moved_stops, moved_seen, moved_nothing}

-- nothing was taken
pub takes_none : (unread : Unread) (out : List ℕ) → Takes unread [] out out unread
takes_none unread out = record {
  given = [];
  written = sym (append-nil out);
  moves = λ x e. refl;
  held = omega arith;
  fewer = λ some. absurd (omega (arith, some));
}

-- one step behind the other
pub takes_on : (old mid new : Unread) (first second out between after : List ℕ) →
    Takes old first out between mid → Takes mid second between after new →
    Takes old (first ++ second) out after new
takes_on old mid new first second out between after a b = record {
  given = a.given ++ b.given;
  written = b.written ∙ ap (λ (s : List ℕ). s ++ b.given) a.written
      ∙ append_assoc out a.given b.given;
  moves = λ x e.
      ap (λ (s : List ℕ). ret_from old.place (old.bytes ++ s) e) (append_assoc first second x)
      ∙ a.moves (second ++ x) e ∙ ap (behind a.given) (b.moves x e)
      ∙ behind_behind a.given b.given (ret_from new.place (new.bytes ++ x) e);
  held = let h = a.held in let k = b.held in let size = length-append first second in
      omega (arith, h, k, size);
  fewer = λ some.
      let h = a.held in
      let k = b.held in
      let size = length-append first second in
      let all = length-append a.given b.given in
      by (length a.given) refl some all h k size;
}
  where
    by : (n : ℕ) → length a.given ≡ n → 0 < length (a.given ++ b.given) →
        length (a.given ++ b.given) ≡ length a.given + length b.given →
        length mid.bytes ≤ length old.bytes + length first →
        length new.bytes ≤ length mid.bytes + length second →
        length (first ++ second) ≡ length first + length second →
        length new.bytes < length old.bytes + length (first ++ second)
    by zero e some all h k size =
        let less = b.fewer (omega (arith, e, some, all)) in omega (arith, less, h, size)
    by (suc n) e some all h k size =
        let less = a.fewer (omega (arith, e)) in omega (arith, less, k, size)

-- the reader, with so many bytes that went past it

abbrev seen_as : ℕ → Begun → Option StreamFault → Unread
seen_as passed begun stop =
    record { bytes = begun.held; place = counted (passed + begun.place); stop = stop }

module _ (passed : ℕ) (old new : Begun) (before after : Option StreamFault)
    (is : old.dialect ≡ Generated) (same : new.dialect ≡ old.dialect) where
  -- it gave an item
  pub takes_item : (used out into : List ℕ) (read : Read) → Feeds old used (Some read) new →
      into ≡ out ++ bare_item read.item → 0 < read.size →
      Takes (seen_as passed old before) used out into (seen_as passed new after)
  takes_item used out into read feeds wrote some = record {
    given = bare_item read.item;
    written = wrote;
    moves = λ x e. moved_next passed old.place new.place (old.held ++ (used ++ x))
        (new.held ++ x) read (rw (same, is) at (feeds.reads_on x)) e;
    held = let size = feeds.bytes in omega (arith, size);
    fewer = λ more. let size = feeds.bytes in omega (arith, size, some);
  }

  -- it gave none
  pub takes_more : (used out : List ℕ) → Feeds old used None new →
      Takes (seen_as passed old before) used out out (seen_as passed new after)
  takes_more used out feeds = record {
    given = [];
    written = sym (append-nil out);
    moves = λ x e. moved_none passed old.place new.place (old.held ++ (used ++ x))
        (new.held ++ x) (rw (same, is) at (feeds.reads_on x)) e;
    held = let size = feeds.bytes in omega (arith, size);
    fewer = λ more. absurd (omega (arith, more));
  }

  -- it gave the last item
  pub closes_item : (out into : List ℕ) (read : Read) → Ends old (Some read) new →
      into ≡ out ++ bare_item read.item → 0 < read.size →
      Closes (seen_as passed old before) out into (seen_as passed new after)
  closes_item out into read ends wrote some = record {
    given = bare_item read.item;
    written = wrote;
    moves = moved_next passed old.place new.place old.held new.held read
        (rw (same, is) at ends.reads_end) Clean;
    held = let size = ends.bytes in omega (arith, size);
    fewer = λ more. let size = ends.bytes in omega (arith, size, some);
  }

  -- there was none
  pub closes_none : (out : List ℕ) → Ends old None new →
      Closes (seen_as passed old before) out out (seen_as passed new after)
  closes_none out ends = record {
    given = [];
    written = sym (append-nil out);
    moves = moved_none passed old.place new.place old.held new.held
        (rw (same, is) at ends.reads_end) Clean;
    held = let size = ends.bytes in omega (arith, size);
    fewer = λ more. absurd (omega (arith, more));
  }

-- the fault that a text stops at, and no other, stops it
pub sound_stop : (unread : Unread) (given fault : StreamFault) → given ≡ fault →
    StopsAt unread fault → unread.stop ≡ Some given → IsSound unread
sound_stop unread given fault same stops is g there =
    let e : Some fault ≡ Some g = ap Some (sym same) ∙ sym is ∙ there in
    let k : fault ≡ g = cc in
    subst (λ f. StopsAt unread f) k stops

-- what stops a text stops it where it ends
pub stops_now : (unread : Unread) (fault : StreamFault) → IsSound unread →
    unread.stop ≡ Some fault → ret_from unread.place unread.bytes Clean ≡ ends_in [] fault
stops_now unread fault sound is =
    ap (λ (s : List ℕ). ret_from unread.place s Clean) (sym (append-nil unread.bytes))
    ∙ (sound fault is).stops [] Clean

pub stops_end : (passed : ℕ) (old new : Begun) (fault : StreamFault) → old.dialect ≡ Generated →
    new.dialect ≡ old.dialect → new.held ≡ old.held → new.place ≡ old.place →
    reads new.dialect new.place new.held ≡ stopped fault →
    ret_from (counted (passed + old.place)) old.held Clean ≡ ends_in [] (moved_fault passed fault)
stops_end passed old new fault is same held place stops =
    moved_stops passed old.place old.held fault Clean (rw (same, is, held, place) at stops) refl

pub over_end : (passed : ℕ) (old new : Begun) → old.dialect ≡ Generated →
    new.dialect ≡ old.dialect → reads new.dialect new.place new.held ≡ nothing →
    ret_from (counted (passed + new.place)) new.held Clean ≡ silent
over_end passed old new is same none =
    moved_nothing passed new.place new.held (rw (same, is) at none)

pub not_memory : (passed : ℕ) (fault : StreamFault) → moved_fault passed fault ≢ Memory →
    fault ≢ Memory
not_memory passed fault differs is = differs (ap (moved_fault passed) is)

-- it stopped
module _ (passed : ℕ) (old new : Begun) (piece : List ℕ) (fault : StreamFault)
    (is : old.dialect ≡ Generated) (shows : Shows fault old piece new) where
  reads_stopped : (x : List ℕ) → reads Generated new.place (new.held ++ x) ≡ stopped fault
  reads_stopped x = rw (shows.dialect, is) at (shows.stops x)

  pub stops_there : (stop : Option StreamFault) →
      StopsAt (seen_as passed new stop) (moved_fault passed fault)
  stops_there stop = record {
    stops = λ x e. moved_seen passed new.place (new.held ++ x) fault e (reads_stopped x)
        shows.seen;
    seen = seen_moved passed fault shows.seen;
  }

  -- how many bytes of the piece are held now
  pub used_is : (n : ℕ) → n ≡ length new.held - length old.held → n ≡ shows.used
  used_is n e =
      let size = ap length shows.held ∙ length-append old.held (take shows.used piece) in
      let taken = length-take-le shows.used piece shows.within in
      omega (arith, e, size, taken)

  pub takes_stop : (before after : Option StreamFault) (n : ℕ) (out : List ℕ) →
      n ≡ length new.held - length old.held →
      Takes (seen_as passed old before) (take n piece) out out (seen_as passed new after)
  takes_stop before after n out e =
      let used = used_is n e in
      let held : new.held ≡ old.held ++ take n piece =
      shows.held ∙ ap (λ k. old.held ++ take k piece) (sym used) in
      record {
        given = [];
        written = sym (append-nil out);
        moves = λ x e.
            ap (λ (s : List ℕ). ret_from (counted (passed + old.place)) s e)
            (sym (append_assoc old.held (take n piece) x) ∙ ap (λ s. s ++ x) (sym held))
            ∙ ap (λ k. ret_from (counted (passed + k)) (new.held ++ x) e) (sym shows.place);
        held = let size = ap length held ∙ length-append old.held (take n piece) in
            omega (arith, size);
        fewer = λ more. absurd (omega (arith, more));
      }

  pub stop_fits : (n : ℕ) → n ≡ length new.held - length old.held → n ≤ length piece
  stop_fits n e = let used = used_is n e in omega (arith, used, shows.within)

  pub stop_falls : (before : Option StreamFault) (given : StreamFault) (n : ℕ) → before ≡ None →
      n ≡ length new.held - length old.held →
      weight (seen_as passed new (Some given)) (length piece - n)
      < weight (seen_as passed old before) (length piece)
  stop_falls before given n none e =
      let used = used_is n e in
      let size = ap length shows.held ∙ length-append old.held (take shows.used piece) in
      let taken = length-take-le shows.used piece shows.within in
      rw none (omega (arith, used, size, taken, shows.within))

-- the stage

module _ (now : Seat Reformatting) (work : Reformatting) (bytes : List ℕ) (place : ℕ)
    (out : List ℕ) (from : ℕ) (ended : Bool) (fault : Option StreamFault)
    (view : record {
      handler = work;
      dialect = Generated;
      begun = bytes;
      place = place;
      pending = drop from out;
      ended = ended;
      fault = fault;
    } ≡ now) where
  pub ret_at_give : (n : ℕ) (x : List ℕ) (e : Ending) →
      behind (take n now.pending)
      (rest_of ret_work (record {
        handler = work;
        dialect = Generated;
        begun = bytes;
        place = place;
        pending = drop (from + n) out;
        ended = ended;
        fault = fault;
      }) x e)
      ≡ rest_of ret_work now x e
  ret_at_give n x e =
      rest_at_give (λ h. false) (λ h. 0) (λ h. Generated) ret_work now work
      (record { dialect = Generated; held = bytes; place = place; looked = true; fault = None })
      out from ended fault view n x e
