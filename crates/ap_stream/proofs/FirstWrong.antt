-- A text that is malformed has a first wrong byte, with which no text of the dialect goes on.
use Rattle.std.specs.Prelude.{◌≡◌, ◌⊎◌, ℕ, zero, suc, ◌+◌, ◌≤◌, List, [], ◌∷◌, ◌++◌, drop, take, length, Bool, true, false, cond, None, Some, refl}
use Rattle.std.proofs.Common.{arith, ap, sym, subst, ◌∙◌, append_assoc, inl, inr, length-append}
use Rattle.std.proofs.lemmas.List.{append-nil, length-drop, length-take-le, take-append-drop}
use Rattle.ap_stream.specs.declared.dialect.Dialect.{Dialect}
use Rattle.ap_stream.specs.declared.fault.MalformedKind.{MalformedKind}
use Rattle.ap_stream.specs.declared.fault.MalformedKind.TheVariants.{Unfinished}
use Rattle.ap_stream.specs.declared.fault.LimitKind.TheVariants.{ItemTooLong}
use Rattle.ap_stream.specs.declared.fault.StreamFault.{StreamFault}
use Rattle.ap_stream.specs.declared.fault.StreamFault.TheVariants.{Malformed, Limit}
use Rattle.ap_stream.specs.declared.item.Item.{Item}
use Rattle.ap_stream.specs.Blanks.{Run, Open, Inside, BadChar, Done, blank, begins_blank}
use Rattle.ap_stream.specs.Limits.{item_max}
use Rattle.ap_stream.specs.Pieces.{HasSuperblanks, nothing}
use Rattle.ap_stream.specs.ReadOn.{ArePieces, IsFirstWrong, IsUnfinished, MalformedAreWrong, IsNoneOrTooLong}
use Rattle.ap_stream.specs.Reading.{First, Needs, Whole, Faulty, Kind, Bad, Past, Last, Complete, Broken, first, last, last_run, limited, reads, at_end, fault_at, counted, Reads, followed, read_at}
use Rattle.ap_stream.proofs.ReadingLaws.{first_nil, reads_nil, reads_whole, reads_faulty, reads_needs}
use Rattle.ap_stream.specs.Supers.{item_supers}
use Rattle.ap_stream.proofs.Copied.{counted_twice, counted_is}
use Rattle.ap_stream.proofs.Fronts.{pieces_left}
use Rattle.ap_stream.proofs.ItemsGoOn.{item_goes_on}
use Rattle.ap_stream.proofs.Joined.{joined}
use Rattle.ap_stream.proofs.ReadOn.{at_front, limited_same, are_read}
use Rattle.ap_stream.proofs.Rows.{FirstRow, first_row, row_has}
use Rattle.ap_stream.proofs.Stays.{needs, first_stays}

-- where reading stops
record StopsAt (dialect : Dialect) (place : ℕ) (text : List ℕ) (kind : MalformedKind) (at : ℕ)
    : Type 0 where
  front : List ℕ
  rest : List ℕ
  text_is : text ≡ front ++ rest
  whole : ArePieces dialect front
  place_is : at ≡ counted (place + length front)
  why : (first dialect rest ≡ Faulty (Bad kind))
      ⊎ ((first dialect rest ≡ Needs) × (kind ≡ Unfinished))

last_broken : (text : List ℕ) (kind : Kind) → last text ≡ Broken kind → kind ≡ Bad Unfinished
unfolding last
last_broken [] kind h = let same : Bad Unfinished ≡ kind = cc in sym same
last_broken (b ∷ bs) kind h = by (begins_blank b) (blank 0 (b ∷ bs)) h
  where
    by : (v : Bool) (r : Run) → cond v (last_run (b ∷ bs) r) (Broken (Bad Unfinished))
        ≡ Broken kind → kind ≡ Bad Unfinished
    by false r h = let same : Bad Unfinished ≡ kind = cc in sym same
    by true Open h = absurd (cc)
    by true Inside h = let same : Bad Unfinished ≡ kind = cc in sym same
    by true BadChar h = let same : Bad Unfinished ≡ kind = cc in sym same
    by true (Done n) h = let same : Bad Unfinished ≡ kind = cc in sym same

module _ (dialect : Dialect) (kind : MalformedKind) (at : ℕ) where
  abbrev StopsBelow : ℕ → Type 0
  StopsBelow k = (place : ℕ) (text : List ℕ) → length text ≤ k → counted place ≡ place →
      (reads dialect place text).stop ≡ Some (Malformed kind at) → StopsAt dialect place text kind at

  here : (place : ℕ) (text : List ℕ) → counted place ≡ place → at ≡ place →
      (first dialect text ≡ Faulty (Bad kind))
      ⊎ ((first dialect text ≡ Needs) × (kind ≡ Unfinished)) →
      StopsAt dialect place text kind at
  here place text counts e why = record {
    front = [];
    rest = text;
    text_is = refl;
    whole = record { superblanks = []; has = nothing refl refl };
    place_is = e ∙ sym counts ∙ ap counted (omega arith);
    why = why;
  }

  behind : (place : ℕ) (text : List ℕ) (thing : Item) (n : ℕ) → FirstRow dialect text (Whole thing n)
      → StopsAt dialect (counted (place + n)) (drop n text) kind at →
      StopsAt dialect place text kind at
  behind place text thing n r s =
      let len : length (take n text) ≡ n = length-take-le n text r.2 in
      let l = length-append (take n text) s.front in
      record {
        front = take n text ++ s.front;
        rest = s.rest;
        text_is = sym (take-append-drop n text) ∙ ap (λ (q : List ℕ). take n text ++ q) s.text_is
            ∙ sym (append_assoc (take n text) s.front s.rest);
        whole = record {
          superblanks = item_supers thing ++ s.whole.superblanks;
          has = joined dialect (take n text) s.front (item_supers thing) s.whole.superblanks
              (row_has dialect thing (take n text) r.0) s.whole.has;
        };
        place_is = s.place_is ∙ counted_twice place n (length s.front)
            ∙ ap (λ m. counted (place + m)) (omega (arith, l, len));
        why = s.why;
      }

  same_stop : (a b : StreamFault) → Some a ≡ Some b → a ≡ b
  same_stop a b e = cc

  malformed : (k : MalformedKind) (place : ℕ) → Malformed k place ≡ Malformed kind at →
      (k ≡ kind) × (at ≡ place)
  malformed k place e =
      let same : k ≡ kind = cc in let there : place ≡ at = cc in (same, sym there)

  by_first : (k place b : ℕ) (bs : List ℕ) → length bs ≤ k → counted place ≡ place →
      StopsBelow k → (f : First) → first dialect (b ∷ bs) ≡ f →
      limited item_max dialect (b ∷ bs) ≡ f →
      (reads dialect place (b ∷ bs)).stop ≡ Some (Malformed kind at) →
      StopsAt dialect place (b ∷ bs) kind at
  by_first k place b bs short counts go Needs e lim h =
      let stop : (at_end place (b ∷ bs) (last (b ∷ bs))).stop ≡ Some (Malformed kind at) =
      sym (ap (λ (r : Reads). r.stop) (reads_needs dialect place (b ∷ bs) lim (omega arith))) ∙ h in
      end (last (b ∷ bs)) refl stop
    where
      end : (l : Last) → last (b ∷ bs) ≡ l → (at_end place (b ∷ bs) l).stop
          ≡ Some (Malformed kind at) → StopsAt dialect place (b ∷ bs) kind at
      end (Complete thing) e' h = absurd (cc)
      end (Broken why) e' h =
          let is = last_broken (b ∷ bs) why e' in
          let m = malformed Unfinished place (same_stop (Malformed Unfinished place)
          (Malformed kind at) (sym (ap (λ w. Some (fault_at w place)) is) ∙ h)) in
          here place (b ∷ bs) counts m.1 (inr (e, sym m.0))
  by_first k place b bs short counts go (Whole thing n) e lim h =
      let r = subst (FirstRow dialect (b ∷ bs)) e (first_row dialect (b ∷ bs)) in
      let l = length-drop n (b ∷ bs) in
      let on : reads dialect place (b ∷ bs) ≡ followed (Some (read_at place thing n))
      (reads dialect (counted (place + n)) (drop n (b ∷ bs))) =
      reads_whole dialect place (b ∷ bs) thing n lim r.1 (omega arith) in
      behind place (b ∷ bs) thing n r
      (go (counted (place + n)) (drop n (b ∷ bs)) (omega (arith, l, r.1, short))
      (counted_is (place + n)) (sym (ap (λ (r : Reads). r.stop) on) ∙ h))
  by_first k place b bs short counts go (Faulty (Bad why)) e lim h =
      let m = malformed why place (same_stop (Malformed why place) (Malformed kind at)
      (sym (ap (λ (r : Reads). r.stop)
      (reads_faulty dialect place (b ∷ bs) (Bad why) lim (omega arith))) ∙ h)) in
      here place (b ∷ bs) counts m.1 (inl (e ∙ ap (λ q. Faulty (Bad q)) m.0))
  by_first k place b bs short counts go (Faulty (Past why)) e lim h =
      absurd (let z : Some (Limit why place) ≡ Some (Malformed kind at) =
      sym (ap (λ (r : Reads). r.stop)
      (reads_faulty dialect place (b ∷ bs) (Past why) lim (omega arith))) ∙ h in cc)

  stops : (k : ℕ) → StopsBelow k
  stops k place [] short counts h =
      absurd (let z : None ≡ Some (Malformed kind at) =
      sym (ap (λ (r : Reads). r.stop) (reads_nil dialect place)) ∙ h in cc)
  stops zero place (b ∷ bs) short counts h = absurd (omega (arith, short))
  stops (suc k) place (b ∷ bs) short counts h =
      by (limited_same item_max dialect (b ∷ bs)) (stops k)
    where
      by : (limited item_max dialect (b ∷ bs) ≡ first dialect (b ∷ bs))
          ⊎ (limited item_max dialect (b ∷ bs) ≡ Faulty (Past ItemTooLong)) → StopsBelow k →
          StopsAt dialect place (b ∷ bs) kind at
      by (inl same) go = by_first k place b bs (omega (arith, short)) counts go
          (first dialect (b ∷ bs)) refl same h
      by (inr over) go =
          absurd (let z : Some (Limit ItemTooLong place) ≡ Some (Malformed kind at) =
          sym (ap (λ (r : Reads). r.stop)
          (reads_faulty dialect place (b ∷ bs) (Past ItemTooLong) over (omega arith))) ∙ h in cc)

module _ (dialect : Dialect) where
  -- a text at whose front no item can stand is no row of pieces
  faulty_pieces : (t : List ℕ) (kind : Kind) → first dialect t ≡ Faulty kind →
      ArePieces dialect t → ⊥
  faulty_pieces [] kind e p = let z : Needs ≡ Faulty kind = sym (first_nil dialect) ∙ e in cc
  faulty_pieces (b ∷ bs) kind e p = elim (at_front dialect b bs p.superblanks p.has) [
    | inl f ↦ let z : Faulty kind ≡ Whole f.0 f.1 = sym e ∙ f.2 in cc
    | inr f ↦ let z : Faulty kind ≡ Needs = sym e ∙ f.1 in cc
  ]

  -- the first byte that decides
  record Decides (t : List ℕ) : Type 0 where
    begun : List ℕ
    byte : ℕ
    rest : List ℕ
    is : t ≡ begun ++ byte ∷ rest
    before : first dialect begun ≡ Needs
    decided : needs (first dialect (begun ++ byte ∷ [])) ≡ false

  needing : (f : First) → needs f ≡ true → f ≡ Needs
  needing Needs h = refl
  needing (Whole thing n) h = absurd (cc)
  needing (Faulty kind) h = absurd (cc)

  decides : (p q : List ℕ) → first dialect p ≡ Needs → needs (first dialect (p ++ q)) ≡ false →
      Decides (p ++ q)
  decides p [] e h = absurd (let z : needs Needs ≡ false =
      sym (ap needs (ap (first dialect) (append-nil p) ∙ e)) ∙ h in cc)
  decides p (b ∷ q) e h =
      by (needs (first dialect (p ++ b ∷ []))) refl (λ r d g. decides r q d g)
    where
      all : (p ++ b ∷ []) ++ q ≡ p ++ b ∷ q
      all = append_assoc p (b ∷ []) q

      by : (v : Bool) → needs (first dialect (p ++ b ∷ [])) ≡ v →
          ((r : List ℕ) → first dialect r ≡ Needs → needs (first dialect (r ++ q)) ≡ false →
          Decides (r ++ q)) → Decides (p ++ b ∷ q)
      by false f go = record {
        begun = p;
        byte = b;
        rest = q;
        is = refl;
        before = e;
        decided = f;
      }
      by true f go = subst Decides all (go (p ++ b ∷ [])
          (needing (first dialect (p ++ b ∷ [])) f)
          (ap (λ (z : List ℕ). needs (first dialect z)) all ∙ h))

  not_needs : (f : First) (kind : Kind) → f ≡ Faulty kind → needs f ≡ false
  not_needs f kind e = ap needs e

not_both : (kind : MalformedKind) (place : ℕ) → IsNoneOrTooLong (Some (Malformed kind place)) → ⊥
not_both kind place (inl n) = cc
not_both kind place (inr l) = let z = l.1 in cc

pub malformed_wrong : MalformedAreWrong
malformed_wrong dialect text kind place h =
    let s = stops dialect kind place (length text) 0 text (omega arith) refl h in
    elim s.why [
      | inl e ↦ inl (found s e)
      | inr n ↦ inr (unfinished s n.0 n.1)
    ]
  where
    found : (s : StopsAt dialect 0 text kind place) → first dialect s.rest ≡ Faulty (Bad kind) →
        IsFirstWrong dialect text place
    found s e =
        let d = decides dialect [] s.rest (first_nil dialect)
        (not_needs dialect (first dialect s.rest) (Bad kind) e) in
        let g = item_goes_on dialect d.begun d.before in
        let own : List ℕ = d.begun ++ d.byte ∷ [] in
        let whole : s.rest ≡ (d.begun ++ d.byte ∷ []) ++ d.rest =
        d.is ∙ sym (append_assoc d.begun (d.byte ∷ []) d.rest) in
        let bad : first dialect (d.begun ++ d.byte ∷ []) ≡ Faulty (Bad kind) =
        sym (first_stays dialect (d.begun ++ d.byte ∷ []) d.rest d.decided)
        ∙ ap (first dialect) (sym whole) ∙ e in
        record {
          front = s.front;
          begun = d.begun;
          byte = d.byte;
          rest = d.rest;
          place_is = s.place_is ∙ ap counted (omega arith);
          text_is = s.text_is ∙ ap (λ (q : List ℕ). s.front ++ q) d.is;
          whole = s.whole;
          begins = record {
            more = g.more;
            pieces = record {
              superblanks = s.whole.superblanks ++ g.pieces.superblanks;
              has = subst (λ (q : List ℕ). HasSuperblanks dialect q
                  (s.whole.superblanks ++ g.pieces.superblanks))
                  (sym (append_assoc s.front d.begun g.more))
                  (joined dialect s.front (d.begun ++ g.more) s.whole.superblanks
                  g.pieces.superblanks s.whole.has g.pieces.has);
            };
          };
          wrong = λ more p.
              faulty_pieces dialect (d.begun ++ d.byte ∷ more) (Bad kind)
              (ap (first dialect) (sym (append_assoc d.begun (d.byte ∷ []) more))
              ∙ first_stays dialect (d.begun ++ d.byte ∷ []) more d.decided ∙ bad)
              (pieces_left dialect s.front (d.begun ++ d.byte ∷ more) s.whole p);
        }

    unfinished : (s : StopsAt dialect 0 text kind place) → first dialect s.rest ≡ Needs →
        kind ≡ Unfinished → IsUnfinished dialect text kind
    unfinished s e is =
        let g = item_goes_on dialect s.rest e in
        let all : s.front ++ (s.rest ++ g.more) ≡ text ++ g.more =
        sym (append_assoc s.front s.rest g.more)
        ∙ ap (λ (q : List ℕ). q ++ g.more) (sym s.text_is) in
        record {
          kind_is = is;
          begins = record {
            more = g.more;
            pieces = record {
              superblanks = s.whole.superblanks ++ g.pieces.superblanks;
              has = subst (λ (q : List ℕ). HasSuperblanks dialect q
                  (s.whole.superblanks ++ g.pieces.superblanks)) all
                  (joined dialect s.front (s.rest ++ g.more) s.whole.superblanks
                  g.pieces.superblanks s.whole.has g.pieces.has);
            };
          };
          lacks = λ p. not_both kind place (subst IsNoneOrTooLong h (are_read dialect text p));
        }
