-- What a reader gives.
use Rattle.std.specs.Prelude.{◌≡◌, ℕ, suc, ◌+◌, ◌-◌, ◌<◌, ◌≤◌, List, [], ◌∷◌, ◌++◌, drop, take, length, Option, Some, Bool, true, false, refl}
use Rattle.std.proofs.Common.{arith, ap, sym, ◌∙◌, append_assoc, length-append}
use Rattle.std.proofs.lemmas.List.{append-nil, take-append-drop, drop-append-le, take_all, take_rest}
use Rattle.std.proofs.Math.Seq.{take-append_seam, drop-cons, drop-length, take-add}
use Rattle.ap_stream.specs.declared.fault.StreamFault.{StreamFault}
use Rattle.ap_stream.specs.declared.fault.StreamFault.TheVariants.{Malformed}
use Rattle.ap_stream.specs.declared.fault.MalformedKind.TheVariants.{Unfinished}
use Rattle.ap_stream.specs.declared.level.Level.{Level}
use Rattle.ap_stream.specs.declared.level.Level.TheVariants as level
use Rattle.ap_stream.specs.declared.level.Effect.TheVariants as effect
use Rattle.ap_stream.specs.declared.examine.Mode.TheVariants as mode
use Rattle.ap_stream.specs.declared.item.Item.{Item}
use Rattle.ap_stream.specs.declared.item.Item.TheVariants as item
use Rattle.ap_stream.specs.declared.item.Read.{Read}
use Rattle.ap_stream.specs.declared.item.Character.{Character}
use Rattle.ap_stream.specs.declared.dialect.Dialect.{Dialect}
use Rattle.ap_stream.specs.Reading.{first, Whole, Faulty, Needs, Kind, limited, reads, read_at, followed, stopped, counted, fault_at, IsRead}
use Rattle.ap_stream.proofs.ReadingLaws.{first_nil, reads_whole, reads_faulty, reads_needs, reads_nil}
use Rattle.ap_stream.specs.Stands.{Surely, Looks, StandsIn, StoodIn, at_blank, InBlank}
use Rattle.ap_stream.proofs.LimitedLaws.{limited_within, limited_ends}
use Rattle.ap_stream.proofs.LevelLaws.{begun_in, begun_at, in_blank_at, some_stood}
use Rattle.ap_stream.proofs.ByteLaws.{nothing_part}
use Rattle.std.proofs.Common.{get_or}
use Rattle.std.proofs.lemmas.List.{length-drop}
use Rattle.ap_stream.specs.Limits.{begun_max, item_max, unit_max}
use Rattle.ap_stream.proofs.LimitLaws.{item_max_is}
use Rattle.ap_stream.specs.Given.{Begun, Gives, Stopped, NeededMore, StandsAt, Standing, Feeds, Ends}

module _ (dialect : Dialect) (held rest : List ℕ) (place n : ℕ) (thing : Item)
    (h : Surely dialect held (Whole thing n)) (some : 0 < n) (fits : n ≤ length held)
    (r : drop n held ≡ rest) where
  pub gives_whole : (x : List ℕ) → reads dialect place (held ++ x)
      ≡ followed (Some (read_at place thing n)) (reads dialect (counted (place + n)) (rest ++ x))
  gives_whole x =
      let cut : drop n (held ++ x) ≡ rest ++ x = drop-append-le n held x fits
      ∙ ap (λ q. q ++ x) r in
      let more : 0 < length (held ++ x) = rw length-append (omega arith) in
      rw (← cut) (reads_whole dialect place (held ++ x) thing n (h x) some more)

pub stops_always : (dialect : Dialect) (held : List ℕ) (place : ℕ) (kind : Kind) →
    Surely dialect held (Faulty kind) → 0 < length held → (x : List ℕ) →
    reads dialect place (held ++ x) ≡ stopped (fault_at kind place)
stops_always dialect held place kind h some x =
    let more : 0 < length (held ++ x) = rw length-append (omega arith) in
    reads_faulty dialect place (held ++ x) kind (h x) more

-- at the start of an item
pub stands_new : (dialect : Dialect) (held : List ℕ) → held ≡ [] →
    Standing dialect true (level.Item mode.Start) 0 held
stands_new dialect [] h =
    record { fits = omega arith; short = λ _. omega arith; stands = (refl, nothing_part, refl) }
stands_new dialect (a ∷ held) h = absurd (cc)

-- one byte is held, and hasn't been looked at
pub stands_byte : (dialect : Dialect) (held : List ℕ) (b : ℕ) (looked : Bool) → held ≡ b ∷ [] →
    looked ≡ false → Standing dialect looked (level.Item mode.Start) 0 held
stands_byte dialect held b true h e = absurd (cc)
stands_byte dialect held b false h e =
    record {
      fits = omega arith;
      short = λ t. absurd (cc);
      stands =
          record { old = []; byte = b; part_is = h; stands = (refl, nothing_part, refl) };
    }

pub stands_waits : (dialect : Dialect) (at : Level) (done : ℕ) (held : List ℕ) →
    done ≤ length held →
    Looks dialect at done held effect.Waits → Standing dialect true at done held
stands_waits dialect at done held fits h = record { fits = fits; short = λ _. h.1; stands = h.0 }

pub stands_goes : (dialect : Dialect) (at to : Level) (done size : ℕ) (held : List ℕ) →
    size ≡ length held → Looks dialect at done held (effect.Goes to) →
    Standing dialect true to size held
stands_goes dialect at to done size held e h =
    let all : take size held ≡ held = take_all size held (omega arith) in
    let none : drop size held ≡ [] = rw e (drop-length held) in
    record { fits = omega arith; short = λ _. h.1; stands = rw (all, none) h.0 }

pub not_looked : (dialect : Dialect) (looked : Bool) (at : Level) (done : ℕ) (held : List ℕ) →
    looked ≡ false → StandsAt dialect looked at done held →
    StoodIn dialect at (take done held) (drop done held)
not_looked dialect true at done held e h = absurd (cc)
not_looked dialect false at done held e h = h

pub some_held : (dialect : Dialect) (at : Level) (held : List ℕ) (done : ℕ) →
    StoodIn dialect at (take done held) (drop done held) → 0 < length held
some_held dialect at held done h = let k = some_stood dialect at (take done held) (drop done held) h
    in let l = length-drop done held in omega (arith, k, l)

module _ (now : Begun) (dialect : Dialect) (held : List ℕ) (place : ℕ) (looked : Bool)
    (fault : Option StreamFault)
    (view : record { dialect = dialect; held = held; place = place; looked = looked; fault = fault }
    ≡ now) where
  -- all that is held is the item
  pub whole_given : (thing : Item) → 0 < length now.held →
      Surely now.dialect now.held (Whole thing (length now.held)) →
      (size newplace : ℕ) (after : List ℕ) (looks : Bool) → size ≡ length held → after ≡ [] →
      newplace ≡ counted (place + size) →
      Gives now (Some (record { item = thing; place = place; size = size }))
      (record {
        dialect = dialect;
        held = after;
        place = newplace;
        looked =
            looks;
        fault = fault;
      })
  whole_given thing some h size newplace after looks l a p =
      record {
        reads_on = λ x. rw (← view, a, p, l)
            (gives_whole dialect held [] place (length held) thing (rw (← view) at h)
            (rw (← view) at some) (omega arith) (drop-length held) x);
        bytes = rw (← view, a, l) (omega arith);
      }

  pub whole_read : (thing : Item) → 0 < length now.held →
      Surely now.dialect now.held (Whole thing (length now.held)) → length now.held ≤ unit_max →
      (size : ℕ) → size ≡ length held →
      IsRead now.dialect (record { item = thing; place = place; size = size })
  whole_read thing some h short size l =
      let e : size ≡ length now.held = rw (← view) l in
      record {
        text = now.held;
        whole = rw e (rw append-nil at (h []));
        some = omega (arith, some, e);
        short = omega (arith, short, e);
      }

  -- all that is held but the last byte is a blank
  pub blank_given : (n : ℕ) → 0 < n → length now.held ≡ n + 1 →
      Surely now.dialect now.held (Whole (item.Blank (take n now.held)) n) →
      (newplace end : ℕ) (bytes after : List ℕ) (looks : Bool) → bytes ≡ take n held →
      end ≡ get_or held n 0 → after ≡ end ∷ [] → newplace ≡ counted (place + n) →
      Gives now (Some (record { item = item.Blank bytes; place = place; size = n }))
      (record {
        dialect = dialect;
        held = after;
        place = newplace;
        looked =
            looks;
        fault = fault;
      })
  blank_given n some one h newplace end bytes after looks t is a p =
      let all : Surely dialect held (Whole (item.Blank (take n held)) n) = rw (← view) at h in
      let size : length held ≡ n + 1 = rw (← view) at one in
      let len : length held ≡ suc n = omega (arith, size) in
      let none : drop (suc n) held ≡ [] = rw len at (drop-length held) in
      let rest : drop n held ≡ after = drop-cons held n 0 (omega (arith, len))
      ∙ rw (none, a, is) refl in
      record {
        reads_on = λ x. rw (← view, p, t)
            (gives_whole dialect held after place n (item.Blank (take n held)) all some
            (omega (arith, len)) rest x);
        bytes = rw (← view, a, len) (omega arith);
      }

  pub blank_read : (n : ℕ) → 0 < n → n ≤ unit_max →
      Surely now.dialect now.held (Whole (item.Blank (take n now.held)) n) → (bytes : List ℕ) →
      bytes ≡ take n held →
      IsRead now.dialect (record { item = item.Blank bytes; place = place; size = n })
  blank_read n some short h bytes t =
      let e : bytes ≡ take n now.held = rw (← view) t in
      record {
        text = now.held;
        whole = rw e (rw append-nil at (h []));
        some = some;
        short = short;
      }

  -- a fault is noted, and nothing else is changed
  module _ (new : Begun) (d : new.dialect ≡ now.dialect) (p : new.place ≡ now.place)
      (h : new.held ≡ now.held) where
    pub stopped_noted : (kind : Kind) (f : StreamFault) → f ≡ fault_at kind place →
        Surely dialect held (Faulty kind) → 0 < length held → Stopped f new
    stopped_noted kind f e s some x =
        rw (d, p, h, ← view, e) (stops_always dialect held place kind s some x)

    pub needed_noted : limited item_max dialect (take (length held - 1) held) ≡ Needs →
        NeededMore new
    needed_noted n = rw (d, h, ← view) n

pub feeds_from : (old mid new : Begun) (used : List ℕ) (item : Option Read) →
    mid.dialect ≡ old.dialect → mid.place ≡ old.place → mid.held ≡ old.held ++ used →
    Gives mid item new → Feeds old used item new
feeds_from old mid new used item d p h g = record {
  reads_on = λ x. rw (← append_assoc, ← h, ← p, ← d) (g.reads_on x);
  bytes = g.bytes ∙ ap length h ∙ length-append old.held used;
}

-- nothing is held, and the next byte is a plain character
module _ (now : Begun) (dialect : Dialect) (held : List ℕ) (place : ℕ) (looked : Bool)
    (fault : Option StreamFault)
    (view : record { dialect = dialect; held = held; place = place; looked = looked; fault = fault }
    ≡ now) (none : held ≡ []) (bytes : List ℕ) (one : length bytes ≡ 1) (c : Character)
    (h : Looks dialect (level.Item mode.Start) 0 bytes (effect.Plain c)) where
  pub bare_given : (newplace : ℕ) (after : List ℕ) → newplace ≡ counted (place + 1) →
      after ≡ held → Feeds now bytes (Some (record { item = item.Plain c; place = place; size = 1 }))
      (record {
        dialect = dialect;
        held = after;
        place = newplace;
        looked =
            looked;
        fault = fault;
      })
  bare_given newplace after p a =
      let size : 1 ≡ length bytes = sym one in
      record {
        reads_on = λ x. rw (← view, a, none, p, size)
            (gives_whole dialect bytes [] place (length bytes) (item.Plain c) h.0
            (omega (arith, one)) (omega arith) (drop-length bytes) x);
        bytes = rw (← view, a, none) (omega (arith, one));
      }

  pub bare_read : IsRead now.dialect (record { item = item.Plain c; place = place; size = 1 })
  bare_read = record {
    text = bytes;
    whole = rw (← view, sym one) (rw append-nil at (h.0 []));
    some = omega arith;
    short = omega arith;
  }

pub ends_gives : (old new : Begun) (item : Option Read) → Gives old item new → Ends old item new
ends_gives old new item g =
    record { reads_end = simp append-nil at (g.reads_on []); bytes = g.bytes }

pub stands_looked : (dialect : Dialect) (looked : Bool) (at : Level) (done : ℕ) (held : List ℕ) →
    looked ≡ true → Standing dialect looked at done held →
    StandsIn dialect at (take done held) (drop done held) × (length held ≤ unit_max)
stands_looked dialect true at done held e h = (h.stands, h.short refl)
stands_looked dialect false at done held e h = absurd (cc)

-- where the text ends
module _ (dialect : Dialect) (held : List ℕ) (place done : ℕ) (at : Level)
    (h : StandsIn dialect at (take done held) (drop done held)) (short : length held ≤ unit_max)
    (some : 0 < length held) where
  at_front : limited item_max dialect held ≡ Needs
  at_front = limited_within item_max dialect held (rw item_max_is short)
      ∙ (begun_at dialect held done at h some).needs

  pub last_broken : at_blank at ≡ false → reads dialect place held
      ≡ stopped (Malformed Unfinished place)
  last_broken e = reads_needs dialect place held at_front some
      ∙ rw ((begun_at dialect held done at h some).broken_is e) refl

  pub last_whole : (now : Begun) (looked : Bool) (fault : Option StreamFault) →
      record { dialect = dialect; held = held; place = place; looked = looked; fault = fault } ≡ now
      → at_blank at ≡ true →
      (size newplace : ℕ) (bytes after : List ℕ) (looks : Bool) → bytes ≡ held →
      size ≡ length held → after ≡ [] →
      Ends now (Some (record { item = item.Blank bytes; place = place; size = size }))
      (record {
        dialect = dialect;
        held = after;
        place = newplace;
        looked =
            looks;
        fault = fault;
      })
  last_whole now looked fault view e size newplace bytes after looks t l a = record {
    reads_end = rw (← view, a, t, l, reads_nil dialect newplace)
        (reads_needs dialect place held at_front some
        ∙ rw ((begun_at dialect held done at h some).whole_is e) refl);
    bytes = rw (← view, a, l) (omega arith);
  }

  -- a letter would end the blank
  pub last_read : (at_blank at ≡ true) → (bytes : List ℕ) (size : ℕ) → bytes ≡ held →
      size ≡ length held → IsRead dialect
      (record { item = item.Blank bytes; place = place; size = size })
  last_read e bytes size t l =
      let on : InBlank held = in_blank_at dialect held done at h e in
      record {
        text = held ++ 97 ∷ [];
        whole = rw (t, l) (rw append-nil
            at (limited_ends item_max dialect held (rw item_max_is short) on));
        some = omega (arith, some, l);
        short = omega (arith, short, l);
      }

pub can_go_on : (dialect : Dialect) (looked : Bool) (at : Level) (done : ℕ) (held : List ℕ) →
    looked ≡ true → Standing dialect looked at done held → limited item_max dialect held ≡ Needs
can_go_on dialect looked at done [] e h = limited_within item_max dialect [] (omega arith)
    ∙ first_nil dialect
can_go_on dialect looked at done (b ∷ bs) e h = let s =
    stands_looked dialect looked at done (b ∷ bs) e h in
    at_front dialect (b ∷ bs) 0 done at s.0 s.1 (omega arith)

-- some of a piece was fed, and then more of it
pub fed_more : (front held after piece : List ℕ) (used n : ℕ) → held ≡ front ++ take used piece →
    after ≡ held ++ take n (take (length piece - used) (drop used piece)) →
    after ≡ front ++ take (used + n) piece
fed_more front held after piece used n h a =
    rw (a, h, take_rest piece used, append_assoc, take-add used n piece) refl

needs_all : (dialect : Dialect) (at : Level) (front old held : List ℕ) → front ++ old ≡ held →
    StandsIn dialect at front old → first dialect held ≡ Needs
needs_all dialect at front old [] e h = first_nil dialect
needs_all dialect at front old (b ∷ bs) e h =
    let len : length (front ++ old) ≡ length (b ∷ bs) = ap length e in
    ap (first dialect) (sym e) ∙ (begun_in dialect at front old h (omega (arith, len))).needs

pub needed_before : (dialect : Dialect) (at : Level) (done : ℕ) (held : List ℕ) →
    StoodIn dialect at (take done held) (drop done held) → length held ≤ begun_max →
    limited item_max dialect (take (length held - 1) held) ≡ Needs
needed_before dialect at done held h short =
    let is : held ≡ (take done held ++ h.old) ++ h.byte ∷ [] = sym (take-append-drop done held)
    ∙ ap (λ q. take done held ++ q) h.part_is
    ∙ sym (append_assoc (take done held) h.old (h.byte ∷ [])) in
    let len : length held ≡ length (take done held ++ h.old) + 1 =
    ap length is ∙ length-append (take done held ++ h.old) (h.byte ∷ []) in
    let cut : take (length held - 1) held ≡ take done held ++ h.old = ap (take (length held - 1)) is
    ∙ ap (λ n. take n ((take done held ++ h.old) ++ h.byte ∷ [])) (omega (arith, len))
    ∙ take-append_seam (take done held ++ h.old) (h.byte ∷ []) in
    let few : length (take done held ++ h.old) ≤ item_max =
    rw item_max_is (omega (arith, len, short)) in
    ap (limited item_max dialect) cut
    ∙ limited_within item_max dialect (take done held ++ h.old) few
    ∙ needs_all dialect at (take done held) h.old (take done held ++ h.old) refl h.stands
