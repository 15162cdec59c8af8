-- Bytes that lack something of an item go on to a text of pieces.
use Rattle.std.specs.Prelude.{◌≡◌, ℕ, zero, suc, ◌+◌, ◌<◌, ◌≤◌, List, [], ◌∷◌, ◌++◌, drop, take, length, Bool, true, false, cond, eqb, refl}
use Rattle.std.proofs.Common.{arith, ap, sym, subst, ◌∙◌, append_assoc, length-append}
use Rattle.std.proofs.lemmas.Bool.{eqb-true, and_parts}
use Rattle.std.proofs.lemmas.List.{append-nil, drop-append-le, length-drop, length-take-le, take-append-drop, take_all}
use Rattle.std.proofs.Math.Seq.{drop-append_seam, drop-length}
use Rattle.ap_symbol.specs.declared.symbol.Symbol.{Symbol}
use Rattle.ap_stream.specs.declared.dialect.Dialect.{Dialect}
use Rattle.ap_stream.specs.declared.dialect.Dialect.TheVariants.{Raw, Analysed, Lexical, Bilingual, Chunked, Generated}
use Rattle.ap_stream.specs.declared.fault.MalformedKind.{MalformedKind}
use Rattle.ap_stream.specs.declared.fault.MalformedKind.TheVariants.{NotUtf8, Stray}
use Rattle.ap_stream.specs.declared.item.Inner.{Inner}
use Rattle.ap_stream.specs.declared.item.Inner.TheVariants as inner
use Rattle.ap_stream.specs.declared.item.Item.{Item}
use Rattle.ap_stream.specs.declared.item.Item.TheVariants as item
use Rattle.ap_stream.specs.Blanks.{Run, Open, Inside, BadChar, Done, further, behind_close, blank, Close, Within, Bad, Closed, closing, closes, escapes, longer, is_white, begins_blank}
use Rattle.ap_stream.proofs.BlankLaws.{blank_white, blank_bracket, blank_skip, blank_some}
use Rattle.ap_stream.specs.Chars.{Front, Part, NotChar, Char, char_at}
use Rattle.ap_stream.proofs.CharLaws.{char_stays}
use Rattle.ap_stream.specs.Chunks.{portion, Body, Opens, Fails, Closes, behind_part, body, wrong_byte}
use Rattle.ap_stream.proofs.ChunkLaws.{body_skip, body_nil, body_brace, body_wrong}
use Rattle.ap_stream.specs.Dialects.{is_refused, is_reserved, has_units, has_chunks}
use Rattle.ap_stream.proofs.InUnitLaws.{first_caret}
use Rattle.ap_stream.specs.Pieces.{HasSuperblanks, nothing}
use Rattle.ap_stream.specs.ReadOn.{ArePieces, BeginsText}
use Rattle.ap_symbol.specs.Kinds.{first_word}
use Rattle.ap_stream.specs.Reading.{Needs, Whole, Faulty, Bad as OfKind, first, begins_unit, of_run, of_escaped, of_char, of_unit, of_chunk, of_caret, of_body, plain}
use Rattle.ap_stream.specs.Stands.{blank_first}
use Rattle.ap_stream.specs.Units.{Rest, Lacks, Wrong, Ends, rest, form_of}
use Rattle.ap_stream.specs.Supers.{blank_supers, item_supers}
use Rattle.ap_stream.specs.UnitBytes.{UnitOf}
use Rattle.ap_stream.proofs.BlankTexts.{closed_at, super_read}
use Rattle.ap_stream.proofs.ChunkCut.{open_on, done_on, run_body, unit_body}
use Rattle.ap_stream.proofs.ChunkWalk.{unit_part, run_part, unit_of}
use Rattle.ap_stream.proofs.Cut.{char_size, rest_cut}
use Rattle.ap_stream.proofs.GoesOn.{char_goes_on, part_high, rest_goes_on, apart}
use Rattle.ap_stream.proofs.Rows.{RunRow, run_row, FirstRow, first_row, row_has}
use Rattle.ap_stream.proofs.Superblanks.{closing_first}

-- a superblank behind its bracket

record CloseGoesOn (e : Bool) (bs : List ℕ) : Type 0 where
  more : List ℕ
  whole : closing e 0 (bs ++ more) ≡ Closed (length (bs ++ more))

bracket_closes : closing false 0 (93 ∷ []) ≡ Closed 1
unfolding char_at closing
bracket_closes = refl

letter_then : closing true 0 (97 ∷ 93 ∷ []) ≡ Closed 2
unfolding char_at closing
letter_then = refl

-- a character that isn't ASCII neither closes nor escapes
passes : (e : Bool) (c : ℕ) → 128 ≤ c → (closes e c ≡ false) × (escapes e c ≡ false)
passes true c h = (refl, refl)
passes false c h = (apart c 93 h (omega arith), apart c 92 h (omega arith))

longer_within : (n : ℕ) (r : Close) → longer n r ≡ Within → r ≡ Within
longer_within n Within h = refl
longer_within n Bad h = absurd (cc)
longer_within n (Closed m) h = absurd (cc)

close_goes_on : (k : ℕ) (e : Bool) (bs : List ℕ) → length bs ≤ k → closing e 0 bs ≡ Within →
    CloseGoesOn e bs
unfolding closing
close_goes_on k true [] short h = record { more = 97 ∷ 93 ∷ []; whole = letter_then }
close_goes_on k false [] short h = record { more = 93 ∷ []; whole = bracket_closes }
close_goes_on zero e (b ∷ bs) short h = absurd (omega (arith, short))
close_goes_on (suc k) e (b ∷ bs) short h =
    by (char_at (b ∷ bs)) refl (λ v q l g. close_goes_on k v q l g)
  where
    part : char_at (b ∷ bs) ≡ Part → CloseGoesOn e (b ∷ bs)
    part p =
        let g = char_goes_on (b ∷ bs) p in
        let all : List ℕ = (b ∷ bs) ++ g.more in
        let o = passes e g.c (part_high b bs g.more g.c (length ((b ∷ bs) ++ g.more)) p g.whole) in
        let there : char_at (((b ∷ bs) ++ g.more) ++ 93 ∷ [])
        ≡ Char g.c (length ((b ∷ bs) ++ g.more)) =
        rw g.whole at (char_stays ((b ∷ bs) ++ g.more) (93 ∷ [])) in
        let size : length ((b ∷ bs) ++ g.more) + 1 ≡ length ((b ∷ bs) ++ (g.more ++ 93 ∷ [])) =
        let l = length-append ((b ∷ bs) ++ g.more) (93 ∷ []) in
        let q = ap length (append_assoc (b ∷ bs) g.more (93 ∷ [])) in omega (arith, l, q) in
        record {
          more = g.more ++ 93 ∷ [];
          whole = ap (closing e 0) (sym (append_assoc (b ∷ bs) g.more (93 ∷ [])))
              ∙ closing_first e (((b ∷ bs) ++ g.more) ++ 93 ∷ []) g.c
              (length ((b ∷ bs) ++ g.more)) there
              ∙ rw (o.0, o.1) (ap (λ (q : List ℕ). longer (length ((b ∷ bs) ++ g.more))
              (closing false 0 q)) (drop-append_seam ((b ∷ bs) ++ g.more) (93 ∷ []))
              ∙ ap (longer (length ((b ∷ bs) ++ g.more))) bracket_closes ∙ ap Closed size);
        }

    char : (c m : ℕ) → char_at (b ∷ bs) ≡ Char c m →
        ((v : Bool) (q : List ℕ) → length q ≤ k → closing v 0 q ≡ Within → CloseGoesOn v q) →
        (v : Bool) → closes e c ≡ v →
        cond v (Closed m) (longer m (closing (escapes e c) 0 (drop m (b ∷ bs)))) ≡ Within →
        CloseGoesOn e (b ∷ bs)
    char c m f go true u h = absurd (cc)
    char c m f go false u h =
        let s = char_size (b ∷ bs) c m f in
        let l = length-drop m (b ∷ bs) in
        let g = go (escapes e c) (drop m (b ∷ bs)) (omega (arith, s.0, s.1, l, short))
        (longer_within m (closing (escapes e c) 0 (drop m (b ∷ bs))) h) in
        let there : char_at ((b ∷ bs) ++ g.more) ≡ Char c m =
        rw f at (char_stays (b ∷ bs) g.more) in
        let left : drop m ((b ∷ bs) ++ g.more) ≡ drop m (b ∷ bs) ++ g.more =
        drop-append-le m (b ∷ bs) g.more s.1 in
        let size : m + length (drop m (b ∷ bs) ++ g.more) ≡ length ((b ∷ bs) ++ g.more) =
        let i = length-append (drop m (b ∷ bs)) g.more in
        let j = length-append (b ∷ bs) g.more in omega (arith, i, j, l, s.1) in
        record {
          more = g.more;
          whole = closing_first e ((b ∷ bs) ++ g.more) c m there
              ∙ rw u (ap (λ (q : List ℕ). longer m (closing (escapes e c) 0 q)) left
              ∙ ap (longer m) g.whole ∙ ap Closed size);
        }

    by : (f : Front) → char_at (b ∷ bs) ≡ f →
        ((v : Bool) (q : List ℕ) → length q ≤ k → closing v 0 q ≡ Within → CloseGoesOn v q) →
        CloseGoesOn e (b ∷ bs)
    by Part f go = part f
    by NotChar f go = absurd (let z : Bad ≡ Within = (rw f at h) in cc)
    by (Char c m) f go =
        char c m f go (closes e c) refl (sym (closing_first e (b ∷ bs) c m f) ∙ h)

-- a blank that ends in a superblank

record RunGoesOn (bs : List ℕ) : Type 0 where
  more : List ℕ
  whole : blank 0 (bs ++ more) ≡ Open

further_inside : (n : ℕ) (r : Run) → further n r ≡ Inside → r ≡ Inside
further_inside n Open h = absurd (cc)
further_inside n Inside h = refl
further_inside n BadChar h = absurd (cc)
further_inside n (Done m) h = absurd (cc)

nothing_more : blank 0 [] ≡ Open
unfolding blank
nothing_more = refl

run_goes_on : (k : ℕ) (bs : List ℕ) → length bs ≤ k → blank 0 bs ≡ Inside → RunGoesOn bs
unfolding blank
run_goes_on k [] short h = absurd (cc)
run_goes_on zero (b ∷ bs) short h = absurd (omega (arith, short))
run_goes_on (suc k) (b ∷ bs) short h =
    by (is_white b) (eqb b 91) refl refl h (λ q l e. run_goes_on k q l e)
  where
    white : is_white b ≡ true → RunGoesOn bs → RunGoesOn (b ∷ bs)
    white w g = record {
      more = g.more;
      whole = blank_white b (bs ++ g.more) w ∙ ap (further 1) g.whole;
    }

    opened : b ≡ 91 → CloseGoesOn false bs → RunGoesOn (b ∷ bs)
    opened is g = record {
      more = g.more;
      whole = ap (λ q. blank 0 (q ∷ (bs ++ g.more))) is ∙ blank_bracket (bs ++ g.more)
          ∙ ap (λ r. further 1 (behind_close r (λ n. blank n (bs ++ g.more)))) g.whole
          ∙ ap (λ r. further 1 (further (length (bs ++ g.more)) r))
          (blank_skip (length (bs ++ g.more)) (bs ++ g.more)
          ∙ ap (blank 0) (drop-length (bs ++ g.more)) ∙ nothing_more);
    }

    closed_there : b ≡ 91 → (n : ℕ) → closing false 0 bs ≡ Closed n → RunGoesOn (drop n bs) →
        RunGoesOn (b ∷ bs)
    closed_there is n e g =
        let fits : n ≤ length bs = (closed_at false 0 bs n e).1 in
        let all : bs ++ g.more ≡ take n bs ++ (drop n bs ++ g.more) =
        ap (λ (q : List ℕ). q ++ g.more) (sym (take-append-drop n bs))
        ∙ append_assoc (take n bs) (drop n bs) g.more in
        record {
          more = g.more;
          whole = ap (λ q. blank 0 (q ∷ (bs ++ g.more))) is
              ∙ ap (λ (q : List ℕ). blank 0 (91 ∷ q)) all
              ∙ super_read (take n bs) (drop n bs ++ g.more) (closed_at false 0 bs n e).0
              ∙ ap (λ r. further 1 (further (length (take n bs)) r)) g.whole;
        }

    bracket : b ≡ 91 → (c : Close) → closing false 0 bs ≡ c →
        further 1 (behind_close c (λ n. blank n bs)) ≡ Inside →
        ((q : List ℕ) → length q ≤ k → blank 0 q ≡ Inside → RunGoesOn q) → RunGoesOn (b ∷ bs)
    bracket is Within e h go = opened is (close_goes_on (length bs) false bs (omega arith) e)
    bracket is Bad e h go = absurd (cc)
    bracket is (Closed n) e h go =
        let l = length-drop n bs in
        closed_there is n e (go (drop n bs) (omega (arith, l, short))
        (sym (blank_skip n bs) ∙ further_inside n (blank n bs)
        (further_inside 1 (further n (blank n bs)) h)))

    by : (v w : Bool) → is_white b ≡ v → eqb b 91 ≡ w →
        cond v (further 1 (blank 0 bs))
        (cond w (further 1 (behind_close (closing false 0 bs) (λ n. blank n bs))) (Done 0))
        ≡ Inside → ((q : List ℕ) → length q ≤ k → blank 0 q ≡ Inside → RunGoesOn q) →
        RunGoesOn (b ∷ bs)
    by true w e f h go =
        white e (go bs (omega (arith, short)) (further_inside 1 (blank 0 bs) h))
    by false true e f h go = bracket (eqb-true b 91 f) (closing false 0 bs) refl h go
    by false false e f h go = absurd (cc)

-- the rest of a chunk, behind its name

record BodyGoesOn (bs : List ℕ) : Type 0 where
  more : List ℕ
  parts : List Inner
  some : 0 < length more
  whole : body 0 (bs ++ more) ≡ Closes parts (length (bs ++ more))

behind_opens : (part : Inner) (n : ℕ) (r : Body) → behind_part part n r ≡ Opens → r ≡ Opens
behind_opens part n Opens h = refl
behind_opens part n (Fails kind) h = absurd (cc)
behind_opens part n (Closes parts m) h = absurd (cc)

end_there : body 0 (125 ∷ 36 ∷ []) ≡ Closes [] 2
end_there = body_brace (36 ∷ [])

-- a part that is all of the bytes, and the end
one_part : (p : List ℕ) (part : Inner) →
    ((y : List ℕ) → 0 < length y → blank_first y ≡ false →
    body 0 (p ++ y) ≡ behind_part part (length p) (body 0 y)) → BodyGoesOn p
one_part p part on = record {
  more = 125 ∷ 36 ∷ [];
  parts = part ∷ [];
  some = omega arith;
  whole = on (125 ∷ 36 ∷ []) (omega arith) refl ∙ ap (behind_part part (length p)) end_there
      ∙ ap (Closes (part ∷ [])) (sym (length-append p (125 ∷ 36 ∷ [])));
}

-- a front that goes on behind these bytes
body_more : (p more : List ℕ) → BodyGoesOn (p ++ more) → BodyGoesOn p
body_more p more g = record {
  more = more ++ g.more;
  parts = g.parts;
  some = let l = length-append more g.more in let s = g.some in omega (arith, l, s);
  whole = ap (body 0) (sym (append_assoc p more g.more)) ∙ g.whole
      ∙ ap (λ (q : List ℕ). Closes g.parts (length q)) (append_assoc p more g.more);
}

-- behind a part that is whole
body_past : (bs : List ℕ) (part : Inner) (n : ℕ) → n ≤ length bs →
    ((more : List ℕ) → 0 < length more → body 0 (take n bs ++ (drop n bs ++ more))
    ≡ behind_part part n (body 0 (drop n bs ++ more))) →
    BodyGoesOn (drop n bs) → BodyGoesOn bs
body_past bs part n fits on g =
    let all : take n bs ++ (drop n bs ++ g.more) ≡ bs ++ g.more =
    sym (append_assoc (take n bs) (drop n bs) g.more)
    ∙ ap (λ (q : List ℕ). q ++ g.more) (take-append-drop n bs) in
    let l = length-drop n bs in
    let i = length-append (drop n bs) g.more in
    let j = length-append bs g.more in
    record {
      more = g.more;
      parts = part ∷ g.parts;
      some = g.some;
      whole = ap (body 0) (sym all) ∙ on g.more g.some
          ∙ ap (behind_part part n) g.whole
          ∙ ap (Closes (part ∷ g.parts)) (omega (arith, i, j, l, fits));
    }

bad_body : (b : ℕ) (bs : List ℕ) → begins_blank b ≡ true → blank 0 (b ∷ bs) ≡ BadChar →
    body 0 (b ∷ bs) ≡ Fails NotUtf8
unfolding body portion
bad_body b bs t e = rw (t, e) refl

wrong_unit : (bs : List ℕ) (kind : MalformedKind) → rest (form_of Lexical) [] [] 0 bs ≡ Wrong kind →
    body 0 (94 ∷ bs) ≡ Fails kind
unfolding body portion
wrong_unit bs kind e = rw e refl

-- the blank at the front
blank_part : (b : ℕ) (bs : List ℕ) → begins_blank b ≡ true → blank 0 (b ∷ bs) ≡ Open →
    BodyGoesOn (b ∷ bs)
blank_part b bs t e =
    one_part (b ∷ bs) (inner.Blank (b ∷ bs))
    (λ y some dark. run_body (b ∷ bs) y (open_on (b ∷ bs) e) t some dark)

module _ (b : ℕ) (bs : List ℕ) (h : body 0 (b ∷ bs) ≡ Opens)
    (go : (q : List ℕ) → length q ≤ length bs → body 0 q ≡ Opens → BodyGoesOn q) where
  of_blank : begins_blank b ≡ true → (r : Run) → blank 0 (b ∷ bs) ≡ r → BodyGoesOn (b ∷ bs)
  of_blank t Open e = blank_part b bs t e
  of_blank t Inside e =
      let g = run_goes_on (length (b ∷ bs)) (b ∷ bs) (omega arith) e in
      body_more (b ∷ bs) g.more (blank_part b (bs ++ g.more) t g.whole)
  of_blank t BadChar e = absurd (let z : Fails NotUtf8 ≡ Opens = sym (bad_body b bs t e) ∙ h in cc)
  of_blank t (Done n) e =
      let on = done_on (b ∷ bs) n e in
      let some : 0 < n = blank_some b bs n t e in
      let fits : n ≤ length (b ∷ bs) = omega (arith, on.2) in
      let l = length-drop n (b ∷ bs) in
      let len : length (take n (b ∷ bs)) ≡ n = length-take-le n (b ∷ bs) fits in
      let left : body 0 (drop n (b ∷ bs)) ≡ Opens =
      behind_opens (inner.Blank (take n (b ∷ bs))) n (body 0 (drop n (b ∷ bs)))
      (sym (run_part b bs n t e some) ∙ h) in
      body_past (b ∷ bs) (inner.Blank (take n (b ∷ bs))) n fits
      (λ more s. run_body (take n (b ∷ bs)) (drop n (b ∷ bs) ++ more)
      (λ y. on.0 y ∙ ap (λ k. further k (blank 0 y)) (sym len)) (first_taken n some t)
      (let i = length-append (drop n (b ∷ bs)) more in omega (arith, i, l, on.2))
      (same (drop n (b ∷ bs)) more (omega (arith, l, on.2)) ∙ on.1)
      ∙ ap (λ k. behind_part (inner.Blank (take n (b ∷ bs))) k
      (body 0 (drop n (b ∷ bs) ++ more))) len)
      (go (drop n (b ∷ bs)) (omega (arith, l, some)) left)
    where
      first_taken : (m : ℕ) → 0 < m → begins_blank b ≡ true → blank_first (take m (b ∷ bs)) ≡ true
      first_taken zero some t = absurd (omega (arith, some))
      first_taken (suc m) some t = t

      same : (q x : List ℕ) → 0 < length q → blank_first (q ++ x) ≡ blank_first q
      same [] x s = absurd (omega (arith, s))
      same (a ∷ q) x s = refl

  of_unit_at : b ≡ 94 → (r : Rest) → rest (form_of Lexical) [] [] 0 bs ≡ r → BodyGoesOn (b ∷ bs)
  of_unit_at is Lacks e =
      let g = rest_goes_on (form_of Lexical) (length bs) [] [] bs (omega arith) e in
      let u = unit_of (bs ++ g.more) g.all (length (bs ++ g.more)) g.whole in
      let text : take (1 + length (bs ++ g.more)) (94 ∷ (bs ++ g.more)) ≡ (b ∷ bs) ++ g.more =
      take_all (1 + length (bs ++ g.more)) (94 ∷ (bs ++ g.more)) (omega arith)
      ∙ ap (λ q. q ∷ (bs ++ g.more)) (sym is) in
      body_more (b ∷ bs) g.more (one_part ((b ∷ bs) ++ g.more) (inner.Unit g.all)
      (λ y some dark. unit_body ((b ∷ bs) ++ g.more) y g.all
      (subst (λ (q : List ℕ). UnitOf Lexical q g.all) text u.0)))
  of_unit_at is (Wrong kind) e =
      absurd (let z : Fails kind ≡ Opens = sym (wrong_unit bs kind e)
      ∙ ap (λ q. body 0 (q ∷ bs)) (sym is) ∙ h in cc)
  of_unit_at is (Ends words n) e =
      let u = unit_of bs words n e in
      let same : 94 ∷ bs ≡ b ∷ bs = ap (λ q. q ∷ bs) (sym is) in
      let own : UnitOf Lexical (take (1 + n) (b ∷ bs)) words =
      subst (λ (q : List ℕ). UnitOf Lexical (take (1 + n) q) words) same u.0 in
      let fits : 1 + n ≤ length (b ∷ bs) = let f = u.1 in omega (arith, f) in
      let len : length (take (1 + n) (b ∷ bs)) ≡ 1 + n = length-take-le (1 + n) (b ∷ bs) fits in
      let back : drop n bs ≡ drop (1 + n) (b ∷ bs) =
      let g : suc n ≡ 1 + n = omega arith in ap (λ k. drop k (b ∷ bs)) g in
      let l = length-drop (1 + n) (b ∷ bs) in
      let left : body 0 (drop (1 + n) (b ∷ bs)) ≡ Opens =
      ap (body 0) (sym back) ∙ behind_opens (inner.Unit words) (1 + n) (body 0 (drop n bs))
      (sym (unit_part bs words n e) ∙ ap (body 0) same ∙ h) in
      body_past (b ∷ bs) (inner.Unit words) (1 + n) fits
      (λ more s. unit_body (take (1 + n) (b ∷ bs)) (drop (1 + n) (b ∷ bs) ++ more) words own
      ∙ ap (λ k. behind_part (inner.Unit words) k (body 0 (drop (1 + n) (b ∷ bs) ++ more))) len)
      (go (drop (1 + n) (b ∷ bs)) (omega (arith, l)) left)

  of_brace : b ≡ 125 → (xs : List ℕ) → bs ≡ xs → BodyGoesOn (b ∷ bs)
  of_brace is [] e = record {
    more = 36 ∷ [];
    parts = [];
    some = omega arith;
    whole = ap (λ q. body 0 (q ∷ (bs ++ 36 ∷ []))) is
        ∙ ap (λ (q : List ℕ). body 0 (125 ∷ (q ++ 36 ∷ []))) e ∙ end_there
        ∙ ap (λ (q : List ℕ). Closes [] (length (b ∷ (q ++ 36 ∷ [])))) (sym e);
  }
  of_brace is (x ∷ xs) e = absurd (no_end (eqb x 36)
      (sym (ap (λ (q : List ℕ). body 0 (b ∷ q)) e ∙ ap (λ q. body 0 (q ∷ x ∷ xs)) is
      ∙ body_brace (x ∷ xs)) ∙ h))
    where
      no_end : (v : Bool) → cond v (Closes [] 2) (Fails (wrong_byte x)) ≡ Opens → ⊥
      no_end true h = cc
      no_end false h = cc

  front_goes_on : BodyGoesOn (b ∷ bs)
  front_goes_on = by (begins_blank b) (eqb b 94) (eqb b 125) refl refl refl
    where
      by : (u v w : Bool) → begins_blank b ≡ u → eqb b 94 ≡ v → eqb b 125 ≡ w → BodyGoesOn (b ∷ bs)
      by true v w e f g = of_blank e (blank 0 (b ∷ bs)) refl
      by false true w e f g = of_unit_at (eqb-true b 94 f) (rest (form_of Lexical) [] [] 0 bs) refl
      by false false true e f g = of_brace (eqb-true b 125 g) bs refl
      by false false false e f g =
          absurd (let z : Fails (wrong_byte b) ≡ Opens = sym (body_wrong b bs e f g) ∙ h in cc)

body_goes_on : (k : ℕ) (bs : List ℕ) → length bs ≤ k → body 0 bs ≡ Opens → BodyGoesOn bs
body_goes_on k [] short h =
    record { more = 125 ∷ 36 ∷ []; parts = []; some = omega arith; whole = end_there }
body_goes_on zero (b ∷ bs) short h = absurd (omega (arith, short))
body_goes_on (suc k) (b ∷ bs) short h =
    front_goes_on b bs h (λ q l e. body_goes_on k q (omega (arith, l, short)) e)

-- an item

module _ (dialect : Dialect) where
  none_pieces : ArePieces dialect []
  none_pieces = record { superblanks = []; has = nothing refl refl }

  -- an item that is all of the bytes
  pub whole_pieces : (t : List ℕ) (thing : Item) → first dialect t ≡ Whole thing (length t) →
      ArePieces dialect t
  whole_pieces t thing e =
      let r = subst (FirstRow dialect t) e (first_row dialect t) in
      record {
        superblanks = item_supers thing;
        has = subst (λ (q : List ℕ). HasSuperblanks dialect q (item_supers thing))
            (take_all (length t) t (omega arith)) (row_has dialect thing (take (length t) t) r.0);
      }

  blank_pieces : (t : List ℕ) → blank 0 t ≡ Open → ArePieces dialect t
  blank_pieces t e =
      record { superblanks = blank_supers 0 t; has = subst (RunRow t) e (run_row 0 t) dialect }

  free_high : (c : ℕ) → 128 ≤ c → is_refused dialect c ≡ false
  free_high c h = by dialect
    where
      reserved : is_reserved c ≡ false
      reserved = rw (
        apart c 36 h (omega arith),
        apart c 47 h (omega arith),
        apart c 60 h (omega arith),
        apart c 62 h (omega arith),
        apart c 123 h (omega arith),
        apart c 125 h (omega arith),
        apart c 93 h (omega arith),
        apart c 64 h (omega arith),
      ) refl

      by : (d : Dialect) → is_refused d c ≡ false
      by Raw = rw (
        apart c 94 h (omega arith),
        apart c 36 h (omega arith),
        apart c 47 h (omega arith),
        apart c 60 h (omega arith),
        apart c 62 h (omega arith),
        apart c 123 h (omega arith),
        apart c 125 h (omega arith),
        apart c 93 h (omega arith),
        apart c 64 h (omega arith),
      ) refl
      by Analysed = reserved
      by Lexical = reserved
      by Bilingual = reserved
      by Chunked = reserved
      by Generated = rw (
        apart c 94 h (omega arith),
        apart c 36 h (omega arith),
        apart c 123 h (omega arith),
        apart c 125 h (omega arith),
        apart c 93 h (omega arith),
      ) refl

  module _ (b : ℕ) (bs : List ℕ) where
    at_run : begins_blank b ≡ true → (r : Run) → blank 0 (b ∷ bs) ≡ r →
        of_run (b ∷ bs) r ≡ Needs → BeginsText dialect (b ∷ bs)
    at_run t Open e h = record {
      more = [];
      pieces = subst (ArePieces dialect) (sym (append-nil (b ∷ bs))) (blank_pieces (b ∷ bs) e);
    }
    at_run t Inside e h =
        let g = run_goes_on (length (b ∷ bs)) (b ∷ bs) (omega arith) e in
        record { more = g.more; pieces = blank_pieces ((b ∷ bs) ++ g.more) g.whole }
    at_run t BadChar e h = absurd (cc)
    at_run t (Done n) e h = absurd (cc)

    at_escape : begins_blank b ≡ false → eqb b 92 ≡ true → (f : Front) → char_at bs ≡ f →
        of_escaped f ≡ Needs → BeginsText dialect (b ∷ bs)
    unfolding first
    at_escape u v Part e h =
        let g = char_goes_on bs e in
        let size : 1 + length (bs ++ g.more) ≡ length ((b ∷ bs) ++ g.more) = omega arith in
        record {
          more = g.more;
          pieces = whole_pieces ((b ∷ bs) ++ g.more) (plain g.c true)
              (rw (u, v, g.whole) (ap (Whole (plain g.c true)) size));
        }
    at_escape u v NotChar e h = absurd (cc)
    at_escape u v (Char c n) e h = absurd (cc)

    at_char : begins_blank b ≡ false → eqb b 92 ≡ false → begins_unit dialect b ≡ false →
        (f : Front) → char_at (b ∷ bs) ≡ f → of_char dialect f ≡ Needs →
        BeginsText dialect (b ∷ bs)
    unfolding first
    at_char u v w Part e h =
        let g = char_goes_on (b ∷ bs) e in
        let free = free_high g.c
        (part_high b bs g.more g.c (length ((b ∷ bs) ++ g.more)) e g.whole) in
        record {
          more = g.more;
          pieces = whole_pieces ((b ∷ bs) ++ g.more) (plain g.c false)
              (rw (u, v, w, g.whole, free) refl);
        }
    at_char u v w NotChar e h = absurd (cc)
    at_char u v w (Char c n) e h = absurd (refused (is_refused dialect c) h)
      where
        refused : (v : Bool) → cond v (Faulty (OfKind Stray)) (Whole (plain c false) n) ≡ Needs → ⊥
        refused true h = cc
        refused false h = cc

    module _ (caret : b ≡ 94) (has : has_units dialect ≡ true) where
      unit_end : has_chunks dialect ≡ false → (r : Rest) →
          rest (form_of dialect) [] [] 0 bs ≡ r → of_unit r ≡ Needs → BeginsText dialect (b ∷ bs)
      unit_end c Lacks e h =
          let g = rest_goes_on (form_of dialect) (length bs) [] [] bs (omega arith) e in
          let size : 1 + length (bs ++ g.more) ≡ length ((b ∷ bs) ++ g.more) = omega arith in
          record {
            more = g.more;
            pieces = whole_pieces ((b ∷ bs) ++ g.more) (item.Unit g.all)
                (ap (λ q. first dialect (q ∷ (bs ++ g.more))) caret
                ∙ first_caret dialect (bs ++ g.more) has
                ∙ rw c (ap of_unit g.whole ∙ ap (Whole (item.Unit g.all)) size));
          }
      unit_end c (Wrong kind) e h = absurd (cc)
      unit_end c (Ends words n) e h = absurd (cc)

      -- a name of so many bytes, and a content that goes on
      with_content : has_chunks dialect ≡ true → (t : List ℕ) (words : List (List Symbol)) (n : ℕ) →
          rest (form_of dialect) [] [] 0 t ≡ Ends words n → n ≤ length t →
          BodyGoesOn (drop n t) → BeginsText dialect (b ∷ t)
      with_content c t words n e fits g =
          let cut = rest_cut (form_of dialect) [] [] 0 t (drop n t ++ g.more) words n e in
          let all : take n t ++ (drop n t ++ g.more) ≡ t ++ g.more =
          sym (append_assoc (take n t) (drop n t) g.more)
          ∙ ap (λ (q : List ℕ). q ++ g.more) (take-append-drop n t) in
          let left : drop n (t ++ g.more) ≡ drop n t ++ g.more = drop-append-le n t g.more fits in
          let named : rest (form_of dialect) [] [] 0 (t ++ g.more) ≡ Ends words n =
          ap (rest (form_of dialect) [] [] 0) (sym all) ∙ cut.0 in
          let held : body n (t ++ g.more) ≡ Closes g.parts (length (drop n t ++ g.more)) =
          body_skip n (t ++ g.more) ∙ ap (body 0) left ∙ g.whole in
          let made : Item = item.Chunk (record { name = first_word words; content = g.parts }) in
          let size : (1 + n) + length (drop n t ++ g.more) ≡ length ((b ∷ t) ++ g.more) =
          let i = length-append (drop n t) g.more in let j = length-append t g.more in
          let l = length-drop n t in omega (arith, i, j, l, fits) in
          record {
            more = g.more;
            pieces = whole_pieces ((b ∷ t) ++ g.more) made
                (ap (λ q. first dialect (q ∷ (t ++ g.more))) caret
                ∙ first_caret dialect (t ++ g.more) has
                ∙ rw c (ap (of_chunk (t ++ g.more)) named
                ∙ ap (of_body (first_word words) [] (1 + n)) held ∙ ap (Whole made) size));
          }

      body_opens : (name : List Symbol) (n : ℕ) (z : Body) → of_body name [] n z ≡ Needs → z ≡ Opens
      body_opens name n Opens h = refl
      body_opens name n (Fails kind) h = absurd (cc)
      body_opens name n (Closes parts m) h = absurd (cc)

      chunk_end : has_chunks dialect ≡ true → (r : Rest) →
          rest (form_of dialect) [] [] 0 bs ≡ r → of_chunk bs r ≡ Needs →
          BeginsText dialect (b ∷ bs)
      chunk_end c Lacks e h =
          let g = rest_goes_on (form_of dialect) (length bs) [] [] bs (omega arith) e in
          let none : drop (length (bs ++ g.more)) (bs ++ g.more) ≡ [] =
          drop-length (bs ++ g.more) in
          let w = with_content c (bs ++ g.more) g.all (length (bs ++ g.more)) g.whole (omega arith)
          (subst BodyGoesOn (sym none) (body_goes_on 0 [] (omega arith) body_nil)) in
          record {
            more = g.more ++ w.more;
            pieces = subst (ArePieces dialect) (append_assoc (b ∷ bs) g.more w.more) w.pieces;
          }
      chunk_end c (Wrong kind) e h = absurd (cc)
      chunk_end c (Ends words n) e h =
          let fits : n ≤ length bs = (rest_cut (form_of dialect) [] [] 0 bs [] words n e).2 in
          let opens : body 0 (drop n bs) ≡ Opens =
          sym (body_skip n bs) ∙ body_opens (first_word words) (1 + n) (body n bs) h in
          with_content c bs words n e fits
          (body_goes_on (length (drop n bs)) (drop n bs) (omega arith) opens)

      caret_end : (v : Bool) → has_chunks dialect ≡ v →
          cond v (of_chunk bs (rest (form_of dialect) [] [] 0 bs))
          (of_unit (rest (form_of dialect) [] [] 0 bs)) ≡ Needs → BeginsText dialect (b ∷ bs)
      caret_end true c h = chunk_end c (rest (form_of dialect) [] [] 0 bs) refl h
      caret_end false c h = unit_end c (rest (form_of dialect) [] [] 0 bs) refl h

  -- what needs more begins a text
  pub item_goes_on : (bs : List ℕ) → first dialect bs ≡ Needs → BeginsText dialect bs
  unfolding first
  item_goes_on [] h = record { more = []; pieces = none_pieces }
  item_goes_on (b ∷ bs) h =
      by (begins_blank b) (eqb b 92) (begins_unit dialect b) refl refl refl h
    where
      by : (u v w : Bool) → begins_blank b ≡ u → eqb b 92 ≡ v → begins_unit dialect b ≡ w →
          cond u (of_run (b ∷ bs) (blank 0 (b ∷ bs))) (cond v (of_escaped (char_at bs))
          (cond w (of_caret dialect bs (rest (form_of dialect) [] [] 0 bs))
          (of_char dialect (char_at (b ∷ bs))))) ≡ Needs → BeginsText dialect (b ∷ bs)
      by true v w e f g h = at_run b bs e (blank 0 (b ∷ bs)) refl h
      by false true w e f g h = at_escape b bs e f (char_at bs) refl h
      by false false true e f g h =
          let p = and_parts (has_units dialect) (eqb b 94) g in
          caret_end b bs (eqb-true b 94 p.1) p.0 (has_chunks dialect) refl h
      by false false false e f g h = at_char b bs e f g (char_at (b ∷ bs)) refl h
