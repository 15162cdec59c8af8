-- What is true once a reader has shown a fault and the handler has finished.
use Rattle.std.proofs.Common.{arith, ap, ◌∙◌, sym, ◌≡◌, ℕ, ◌+◌, ◌-◌, ◌<◌, ◌≤◌, List, [], ◌++◌, take, drop, length, Bool, true, false, Option, Some, None, refl, append_assoc, length-append, Result, Ok, Err, OnErr}
use Rattle.std.proofs.lemmas.List.{append-nil, drop-drop, take-append-drop, take_rest}
use Rattle.std.proofs.Math.Seq.{take-add}
use Rattle.std.proofs.Math.ListN.{length-take}
use Rattle.ap_stream.specs.Limits.{begun_max, span_max}
use Rattle.ap_stream.specs.declared.fault.StreamFault.{StreamFault}
use Rattle.ap_stream.specs.declared.item.Read.{Read}
use Rattle.ap_stream.specs.Given.{Begun, Shows}
use Rattle.ap_stream.specs.Reading.{reads, stopped}
use Rattle.ap_stream.specs.declared.dialect.Dialect.{Dialect}
use Rattle.ap_stream.specs.Seat.{Seat}
use Rattle.ap_stream.specs.Told.{Told, Ending, behind, Begins, rest_from}
use Rattle.ap_stream.specs.Rest.{rest_of, worked, measure, Sound}

module _ {H : Type 0} (is_finished : H → Bool) (held : H → ℕ) (dialect : H → Dialect) (work : H →
    List Read → Told) where
  pub sound_at_stop : (h after : H) (old new : Begun) (piece : List ℕ) (finished : Bool)
      (stop : Option StreamFault) (ended : Bool) (f : StreamFault) →
      held h ≤ span_max → Shows f old piece new → length new.held ≤ begun_max →
      held after ≡ held h → is_finished after ≡ true → dialect after ≡ dialect h →
      dialect h ≡ old.dialect →
      Sound is_finished held dialect after new true (Some f) ended
  sound_at_stop h after old new piece finished stop ended f span shown short same done kept
      reads_it = record {
        agrees = done;
        reads_it = kept ∙ reads_it ∙ sym shown.dialect;
        bounded = omega arith;
        reader_bounded = short;
        reading = λ e. cc;
        unstopped = λ e. cc;
        at_end = λ _. rw append-nil at (shown.stops []);
        at_stop = λ _ _ x. shown.stops x;
        stopped = λ _ _ e. cc;
        seen = λ _ _ place e. shown.seen place cc;
      }

  -- how many bytes of the piece are held now
  pub used_at_stop : (old new : Begun) (piece : List ℕ) (f : StreamFault)
      (shown : Shows f old piece new) → length new.held - length old.held ≡ shown.used
  used_at_stop old new piece f shown =
      let e : length new.held ≡ length old.held + length (take shown.used piece) =
      ap length shown.held ∙ length-append old.held (take shown.used piece) in
      let t = length-take shown.used piece in
      let w = shown.within in omega (arith, t, e, w)

  pub rest_at_stop : (h after : H) (old new : Begun) (piece : List ℕ) (f : StreamFault) →
      (shown : Shows f old piece new) → work after [] ≡ work h [] → (x : List ℕ) (e : Ending) →
      worked (work h) (reads old.dialect old.place
      (old.held ++ (take (length new.held - length old.held) piece ++ x))) e
      ≡ worked (work after) (reads new.dialect new.place (new.held ++ x)) e
  rest_at_stop h after old new piece f shown same x e =
      let used = used_at_stop old new piece f shown in
      let joined : old.held ++ (take (length new.held - length old.held) piece ++ x) ≡ new.held ++ x
      = rw (used, ← append_assoc, ← shown.held) refl in
      let there : reads old.dialect old.place
      (old.held ++ (take (length new.held - length old.held) piece ++ x)) ≡ stopped f
      = rw (joined, ← shown.place, ← shown.dialect) (shown.stops x) in
      rw (there, shown.stops x, same) refl

  module _ (now : Seat H) (h after : H) (old new : Begun) (piece pending : List ℕ) (ended : Bool)
      (fault : Option StreamFault) (f : StreamFault)
      (view : record {
        handler = h;
        dialect = old.dialect;
        begun = old.held;
        place =
            old.place;
        pending = pending;
        ended = ended;
        fault = fault;
      } ≡ now) (none : fault ≡ None)
      (shown : Shows f old piece new) (before count : ℕ) (b : before ≡ length old.held)
      (n : count ≡ length new.held) where
    pub count_is : count - before ≡ shown.used
    count_is = rw (b, n) (used_at_stop old new piece f shown)

    pub count_fits : count - before ≤ length piece
    count_fits = rw count_is shown.within

    pub grows : length new.held ≡ length old.held + (count - before)
    grows = rw (count_is, shown.held, length-append)
        (ap (λ k. length old.held + k) (length-take shown.used piece ∙ omega arith))

    pub held_is : held after ≡ held h → held after + length new.held
        ≡ held now.handler + length now.begun + (count - before)
    held_is same = rw (← view, grows, same) (omega arith)

    pub falls : held after ≡ held h → is_finished after ≡ true → is_finished h ≡ false →
        0 < length piece →
        measure is_finished held
        (record {
          handler = after;
          dialect = new.dialect;
          begun = new.held;
          place =
              new.place;
          pending = pending;
          ended = ended;
          fault = fault;
        })
        (length piece - (count - before))
        < measure is_finished held now (length piece)
    falls same done going some = rw (← view, same, done, going) (omega (arith, grows, count_fits))

    pub seat_rest_at_stop : work after [] ≡ work h [] → (x : List ℕ) (e : Ending) →
        rest_of work now (take (count - before) piece ++ x) e
        ≡ rest_of work (record {
          handler = after;
          dialect = new.dialect;
          begun = new.held;
          place =
              new.place;
          pending = pending;
          ended = ended;
          fault = fault;
        }) x e
    seat_rest_at_stop same x e =
        rw (← view, none, b, n) (ap (behind pending)
        (rest_at_stop h after old new piece f shown same x e))

  module _ (now : Seat H) (h : H) (reader : Begun) (out : List ℕ) (from : ℕ) (ended : Bool)
      (fault : Option StreamFault)
      (view : record {
        handler = h;
        dialect = reader.dialect;
        begun = reader.held;
        place =
            reader.place;
        pending = drop from out;
        ended = ended;
        fault = fault;
      } ≡ now) where
    gives : (f stop : Option StreamFault) (made : Told) (n : ℕ) (e : Ending) →
        behind (take n (drop from out))
        (rest_from f (drop n (drop from out)) stop made e)
        ≡ rest_from f (drop from out) stop made e
    gives None stop made n e = rw (← append_assoc, take-append-drop) refl
    gives (Some f) stop made n e = rw take-append-drop refl

    pub rest_at_give : (n : ℕ) (x : List ℕ) (e : Ending) →
        behind (take n now.pending)
        (rest_of work (record {
          handler = h;
          dialect = reader.dialect;
          begun =
              reader.held;
          place = reader.place;
          pending = drop (from + n) out;
          ended = ended;
          fault =
              fault;
        }) x e)
        ≡ rest_of work now x e
    rest_at_give n x e = rw (← view, ← drop-drop n from out) (gives fault _ _ n e)

pub begins_from_nil : (front whole : List ℕ) → front ≡ [] → Begins front whole
begins_from_nil front whole nil = (whole, rw nil refl)

pub take_on : (piece x : List ℕ) (used more : ℕ) →
    take used piece ++ (take more (take (length piece - used) (drop used piece)) ++ x)
    ≡ take (used + more) piece ++ x
take_on piece x used more = rw (take_rest piece used, take-add used more piece, append_assoc) refl

pub front_err : {T E : Type 0} (r : Result T E) (N : Type 0) (pend : List ℕ) (text : List ℕ →
    Ending → List ℕ) → pend ≡ [] → OnErr r (N → (x : List ℕ) (e : Ending) → Begins pend (text x e))
front_err (Ok y) N pend text nil = tt
front_err (Err y) N pend text nil = λ _ x e. begins_from_nil pend (text x e) nil
