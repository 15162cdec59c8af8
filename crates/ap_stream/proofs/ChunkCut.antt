-- What is read of a chunk at the front of a text is read there too where the text is cut behind it
-- and goes on in any way; and it is written of words and blanks.
use Rattle.std.specs.Prelude.{◌≡◌, ◌≢◌, ℕ, zero, suc, ◌+◌, ◌-◌, ◌<◌, ◌≤◌, pred, List, [], ◌∷◌, ◌++◌, drop, take, length, Bool, true, false, cond, eqb, ◌||◌, refl}
use Rattle.std.specs.List.{flat_map}
use Rattle.std.proofs.Common.{arith, ap, sym, subst, ◌∙◌, append_assoc, length-append, drop-drop}
use Rattle.std.proofs.lemmas.Bool.{eqb-true}
use Rattle.std.proofs.lemmas.List.{append-nil, length-take-le, length-drop, take-append-drop}
use Rattle.std.proofs.lemmas.List.Concat.{flat_map-cons}
use Rattle.std.proofs.Math.Seq.{drop-append_seam, take-append_seam, drop-append-add, take-add}
use Rattle.ap_symbol.specs.Rendering.{rendering}
use Rattle.ap_symbol.specs.declared.symbol.Symbol.{Symbol}
use Rattle.ap_stream.specs.declared.dialect.Dialect.TheVariants.{Lexical, Chunked}
use Rattle.ap_stream.specs.declared.item.Chunk.{Chunk}
use Rattle.ap_stream.specs.declared.item.Inner.{Inner}
use Rattle.ap_stream.specs.declared.item.Inner.TheVariants as inner
use Rattle.ap_stream.specs.declared.item.Item.TheVariants as item
use Rattle.ap_stream.specs.Blanks.{Run, Open, Inside, BadChar, Done, blank, further, begins_blank, is_white, Close, Within, Bad, Closed, closing, closing_by, closes, escapes, longer, behind_close}
use Rattle.ap_stream.proofs.BlankLaws.{further_further, blank_white, blank_bracket, blank_done, blank_skip, blank_some}
use Rattle.ap_stream.specs.Chars.{Front, Part, NotChar, Char, char_at}
use Rattle.ap_stream.specs.Units.{form_of, Ends, rest, longer as later}
use Rattle.ap_stream.proofs.UnitLaws.{rest_brace}
use Rattle.ap_stream.specs.UnitBytes.{UnitOf}
use Rattle.ap_stream.specs.Chunks.{Held, portion, Body, Opens, Fails, Closes, behind_part, closed, body, wrong_byte}
use Rattle.ap_stream.proofs.ChunkLaws.{body_skip, body_brace}
use Rattle.ap_stream.proofs.InUnitLaws.{unit_always, first_caret}
use Rattle.ap_stream.proofs.InChunkLaws.{part_first, portion_of, part_agrees, part_on, part_some, body_held}
use Rattle.ap_stream.specs.Laws.{AreSpelt, IsBlank, NoBlankFirst, AreParts}
use Rattle.ap_stream.specs.Notation.{IsContentText, IsChunkText}
use Rattle.ap_symbol.specs.Kinds.{first_word}
use Rattle.ap_stream.specs.Reading.{Whole, first, of_chunk, of_body}
use Rattle.ap_stream.specs.Spelling.{unit_bytes, inner_bytes, chunk_bytes}
use Rattle.ap_stream.specs.Stands.{blank_first}
use Rattle.ap_stream.proofs.Back.{unit_back, word_back}
use Rattle.ap_stream.proofs.ChunkWalk.{shaped, Begins, brace, unit, run, content_begins, IsClosed, unit_part, run_part, unit_of}
use Rattle.ap_stream.proofs.Cut.{char_cut, char_size, cut_twice, rest_cut}
use Rattle.ap_stream.proofs.Superblanks.{closing_first}
use Rattle.ap_stream.proofs.BlankTexts.{RunText, run_text}
use Rattle.ap_stream.proofs.UnitTexts.{unit_text, name_text}
use Rattle.ap_stream.proofs.WordsRead.{unit_words, name_spelt}

drop_pred : (n b : ℕ) (bs : List ℕ) → 0 < n → drop n (b ∷ bs) ≡ drop (pred n) bs
drop_pred zero b bs some = absurd (omega (arith, some))
drop_pred (suc n) b bs some = refl

-- a superblank, behind its bracket

abbrev CloseCut : Bool → List ℕ → List ℕ → ℕ → Type 0
CloseCut e bs x n = (closing e 0 (take n bs ++ x) ≡ Closed n) × (n ≤ length bs)

closing_cut : (e : Bool) (skip : ℕ) (bs x : List ℕ) (n : ℕ) → closing e skip bs ≡ Closed n →
    CloseCut e (drop skip bs) x n
unfolding closing
closing_cut e skip [] x n h = absurd (cc)
closing_cut e (suc skip) (b ∷ bs) x n h = closing_cut e skip bs x n h
closing_cut e zero (b ∷ bs) x n h =
    by (char_at (b ∷ bs)) refl (λ v k m z. closing_cut v k bs x m z) h
  where
    at : (c m : ℕ) → char_at (b ∷ bs) ≡ Char c m →
        ((v : Bool) (k j : ℕ) → closing v k bs ≡ Closed j → CloseCut v (drop k bs) x j) →
        (v : Bool) → closes e c ≡ v → (r : Close) → closing (escapes e c) (pred m) bs ≡ r →
        cond v (Closed m) (longer m r) ≡ Closed n → CloseCut e (b ∷ bs) x n
    at c m f go true v r g h =
        let size : m ≡ n = cc in
        let s = char_size (b ∷ bs) c m f in
        let here : closing e 0 (take m (b ∷ bs) ++ x) ≡ Closed m =
        closing_first e (take m (b ∷ bs) ++ x) c m (char_cut (b ∷ bs) x c m f) ∙ rw v refl in (
          subst (λ k. closing e 0 (take k (b ∷ bs) ++ x) ≡ Closed k) size here,
          omega
              (arith, size, s.1),
        )
    at c m f go false v Within g h = absurd (cc)
    at c m f go false v Bad g h = absurd (cc)
    at c m f go false v (Closed k) g h =
        let size : m + k ≡ n = cc in
        let s = char_size (b ∷ bs) c m f in
        let back : drop m (b ∷ bs) ≡ drop (pred m) bs = drop_pred m b bs s.0 in
        let t = go (escapes e c) (pred m) k g in
        let y : List ℕ = take k (drop m (b ∷ bs)) ++ x in
        let len : length (take m (b ∷ bs)) ≡ m = length-take-le m (b ∷ bs) s.1 in
        let more : closing (escapes e c) 0 (take k (drop m (b ∷ bs)) ++ x) ≡ Closed k =
        ap (λ (q : List ℕ). closing (escapes e c) 0 (take k q ++ x)) back ∙ t.0 in
        let left : drop m (take m (b ∷ bs) ++ y) ≡ y =
        ap (λ z. drop z (take m (b ∷ bs) ++ y)) (sym len) ∙ drop-append_seam (take m (b ∷ bs)) y in
        let here : closing e 0 (take m (b ∷ bs) ++ y) ≡ Closed (m + k) =
        closing_first e (take m (b ∷ bs) ++ y) c m (char_cut (b ∷ bs) y c m f)
        ∙ rw v (ap (λ (q : List ℕ). longer m (closing (escapes e c) 0 q)) left
        ∙ ap (longer m) more) in
        let far : length (drop m (b ∷ bs)) ≡ length (b ∷ bs) - m = length-drop m (b ∷ bs) in
        let near : length (drop m (b ∷ bs)) ≡ length (drop (pred m) bs) = ap length back in (
          subst (λ z. closing e 0 (take z (b ∷ bs) ++ x) ≡ Closed z) size
              (ap (closing e 0) (cut_twice m k (b ∷ bs) x) ∙ here),
          omega (arith, size, t.1, far, near, s.1),
        )

    by : (f : Front) → char_at (b ∷ bs) ≡ f →
        ((v : Bool) (k j : ℕ) → closing v k bs ≡ Closed j → CloseCut v (drop k bs) x j) →
        closing_by e f (λ v k. closing v k bs) ≡ Closed n → CloseCut e (b ∷ bs) x n
    by Part f go h = absurd (cc)
    by NotChar f go h = absurd (cc)
    by (Char c m) f go h = at c m f go (closes e c) refl (closing (escapes e c) (pred m) bs) refl h

-- a blank

abbrev RunOn : List ℕ → Run → Type 0
RunOn bs Open = (x : List ℕ) → blank 0 (bs ++ x) ≡ further (length bs) (blank 0 x)
RunOn bs Inside = Unit {0}
RunOn bs BadChar = Unit {0}
RunOn bs (Done n) = ((x : List ℕ) → blank 0 (take n bs ++ x) ≡ further n (blank 0 x))
    × (blank_first (drop n bs) ≡ false) × (n < length bs)

white_on : (b : ℕ) (bs : List ℕ) (r : Run) → is_white b ≡ true → RunOn bs r →
    RunOn (b ∷ bs) (further 1 r)
white_on b bs Open w h = λ x. blank_white b (bs ++ x) w ∙ ap (further 1) (h x)
    ∙ further_further 1 (length bs) (blank 0 x) ∙ ap (λ n. further n (blank 0 x)) (omega arith)
white_on b bs Inside w h = tt
white_on b bs BadChar w h = tt
white_on b bs (Done n) w h =
    let grown : 1 + n ≡ suc n = omega arith in
    subst (λ k. RunOn (b ∷ bs) (Done k)) (sym grown) (
      λ x. blank_white b (take n bs ++ x) w ∙ ap (further 1) (h.0 x)
          ∙ further_further 1 n (blank 0 x) ∙ ap (λ k. further k (blank 0 x)) grown,
      h.1,
      omega (arith, h.2),
    )

super_step : (bs : List ℕ) (n : ℕ) (y : List ℕ) → closing false 0 bs ≡ Closed n →
    blank 0 (91 ∷ (take n bs ++ y)) ≡ further (1 + n) (blank 0 y)
super_step bs n y e =
    let c = closing_cut false 0 bs y n e in
    let len : length (take n bs) ≡ n = length-take-le n bs c.1 in
    let left : drop n (take n bs ++ y) ≡ y =
    ap (λ z. drop z (take n bs ++ y)) (sym len) ∙ drop-append_seam (take n bs) y in
    blank_bracket (take n bs ++ y)
    ∙ ap (λ k. further 1 (behind_close k (λ m. blank m (take n bs ++ y)))) c.0
    ∙ ap (λ r. further 1 (further n r)) (blank_skip n (take n bs ++ y) ∙ ap (blank 0) left)
    ∙ further_further 1 n (blank 0 y)

super_on : (bs : List ℕ) (n : ℕ) (r : Run) → closing false 0 bs ≡ Closed n → RunOn (drop n bs) r →
    RunOn (91 ∷ bs) (further 1 (further n r))
super_on bs n Open e h = λ x.
    let c = (closing_cut false 0 bs [] n e).1 in
    let all : bs ++ x ≡ take n bs ++ (drop n bs ++ x) =
    ap (λ (q : List ℕ). q ++ x) (sym (take-append-drop n bs))
    ∙ append_assoc (take n bs) (drop n bs) x in
    let l = length-drop n bs in
    ap (λ (q : List ℕ). blank 0 (91 ∷ q)) all ∙ super_step bs n (drop n bs ++ x) e
    ∙ ap (further (1 + n)) (h x) ∙ further_further (1 + n) (length (drop n bs)) (blank 0 x)
    ∙ ap (λ k. further k (blank 0 x)) (omega (arith, l, c))
super_on bs n Inside e h = tt
super_on bs n BadChar e h = tt
super_on bs n (Done m) e h =
    let c = (closing_cut false 0 bs [] n e).1 in
    let l = length-drop n bs in
    let size : suc (n + m) ≡ 1 + (n + m) = omega arith in
    let behind : drop m (drop n bs) ≡ drop (n + m) bs = drop-drop m n bs in
    subst (λ k. RunOn (91 ∷ bs) (Done k)) size (
      λ x. ap (λ (q : List ℕ). blank 0 (91 ∷ q)) (cut_twice n m bs x)
          ∙ super_step bs n (take m (drop n bs) ++ x) e ∙ ap (further (1 + n)) (h.0 x)
          ∙ further_further (1 + n) m (blank 0 x) ∙ ap (λ k. further k (blank 0 x)) (omega arith),
      ap blank_first (sym behind) ∙ h.1,
      omega (arith, l, c, h.2),
    )

run_cond : (bs : List ℕ) (v : Bool) (r s : Run) → (v ≡ true → RunOn bs r) → (v ≡ false → RunOn bs s)
    → RunOn bs (cond v r s)
run_cond bs true r s h k = h refl
run_cond bs false r s h k = k refl

nothing_blank : blank 0 [] ≡ Open
unfolding blank
nothing_blank = refl

further_none : (r : Run) → r ≡ further 0 r
further_none Open = refl
further_none Inside = refl
further_none BadChar = refl
further_none (Done n) = ap Done (omega arith)

pub run_on : (skip : ℕ) (bs : List ℕ) → RunOn (drop skip bs) (blank skip bs)
unfolding blank
run_on zero [] = λ x. further_none (blank 0 x)
run_on (suc skip) [] = λ x. further_none (blank 0 x)
run_on (suc skip) (b ∷ bs) = run_on skip bs
run_on zero (b ∷ bs) =
    run_cond (b ∷ bs) (is_white b) (further 1 (blank 0 bs)) _
    (λ w. white_on b bs (blank 0 bs) w (run_on 0 bs))
    (λ w. run_cond (b ∷ bs) (eqb b 91)
    (further 1 (behind_close (closing false 0 bs) (λ n. blank n bs))) (Done 0)
    (λ e. bracket (eqb-true b 91 e) (closing false 0 bs) refl (λ n. run_on n bs))
    (λ k. (λ x. further_none (blank 0 x), rw (w, k) refl, omega arith)))
  where
    bracket : b ≡ 91 → (c : Close) → closing false 0 bs ≡ c →
        ((n : ℕ) → RunOn (drop n bs) (blank n bs)) →
        RunOn (b ∷ bs) (further 1 (behind_close c (λ n. blank n bs)))
    bracket is Within e go = tt
    bracket is Bad e go = tt
    bracket is (Closed n) e go =
        subst (λ q. RunOn (q ∷ bs) (further 1 (further n (blank n bs)))) (sym is)
        (super_on bs n (blank n bs) e (go n))

-- a blank that is all of the bytes
pub open_on : (p : List ℕ) → blank 0 p ≡ Open → (x : List ℕ) →
    blank 0 (p ++ x) ≡ further (length p) (blank 0 x)
open_on p e = subst (RunOn p) e (run_on 0 p)

pub done_on : (bs : List ℕ) (n : ℕ) → blank 0 bs ≡ Done n → RunOn bs (Done n)
done_on bs n e = subst (RunOn bs) e (run_on 0 bs)

-- one part of a content, and what stands behind it

pub unit_body : (p y : List ℕ) (words : List (List Symbol)) → UnitOf Lexical p words →
    body 0 (p ++ y) ≡ behind_part (inner.Unit words) (length p) (body 0 y)
unit_body p y words u =
    let begins : part_first p ≡ true = ap part_first u.begins in
    body_held p y (inner.Unit words) (part_some p begins)
    ((part_agrees (p ++ y) (part_on p y begins)).0
    ∙ ap portion_of (unit_always Lexical p words u y))

not_blank : (y : List ℕ) → 0 < length y → blank_first y ≡ false → blank 0 y ≡ Done 0
not_blank [] some h = absurd (omega (arith, some))
not_blank (b ∷ bs) some h =
    let n = neither (is_white b) (eqb b 91) h in blank_done b bs n.0 n.1
  where
    neither : (a b : Bool) → (a || b) ≡ false → (a ≡ false) × (b ≡ false)
    neither true b h = absurd (cc)
    neither false b h = (refl, h)

blank_portion_at : (bs : List ℕ) (n : ℕ) → blank_first bs ≡ true → blank 0 bs ≡ Done n →
    portion bs ≡ Held (inner.Blank (take n bs)) n
unfolding portion
blank_portion_at [] n t e = absurd (cc)
blank_portion_at (b ∷ bs) n t e = rw (t, e) refl

pub run_body : (p y : List ℕ) → ((x : List ℕ) → blank 0 (p ++ x) ≡ further (length p) (blank 0 x)) →
    blank_first p ≡ true → 0 < length y → blank_first y ≡ false →
    body 0 (p ++ y) ≡ behind_part (inner.Blank p) (length p) (body 0 y)
run_body [] y on t some dark = absurd (cc)
run_body (b ∷ p) y on t some dark =
    let all : blank 0 ((b ∷ p) ++ y) ≡ Done (length (b ∷ p)) =
    on y ∙ ap (further (length (b ∷ p))) (not_blank y some dark) ∙ ap Done (omega arith) in
    body_held (b ∷ p) y (inner.Blank (b ∷ p)) (omega arith)
    (blank_portion_at ((b ∷ p) ++ y) (length (b ∷ p)) t all
    ∙ ap (λ q. Held (inner.Blank q) (length (b ∷ p))) (take-append_seam (b ∷ p) y))

-- what is read of a content

closes_behind : (part : Inner) (k : ℕ) (b : Body) (parts : List Inner) (n : ℕ) →
    behind_part part k b ≡ Closes parts n →
    (more : List Inner) × (j : ℕ) × (b ≡ Closes more j) × (parts ≡ part ∷ more) × (n ≡ k + j)
closes_behind part k Opens parts n h = absurd (cc)
closes_behind part k (Fails kind) parts n h = absurd (cc)
closes_behind part k (Closes more j) parts n h =
    let p : part ∷ more ≡ parts = cc in let s : k + j ≡ n = cc in (more, j, refl, sym p, sym s)

closed_dollar : (bs : List ℕ) (parts : List Inner) (n : ℕ) → closed bs ≡ Closes parts n →
    (bs ≡ 36 ∷ drop 1 bs) × (parts ≡ []) × (n ≡ 2)
closed_dollar [] parts n h = absurd (cc)
closed_dollar (b ∷ bs) parts n h = by (eqb b 36) refl h
  where
    by : (v : Bool) → eqb b 36 ≡ v → cond v (Closes [] 2) (Fails (wrong_byte b)) ≡ Closes parts n →
        (b ∷ bs ≡ 36 ∷ bs) × (parts ≡ []) × (n ≡ 2)
    by true e h =
        let p : [] ≡ parts = cc in let s : 2 ≡ n = cc in
        (ap (λ z. z ∷ bs) (eqb-true b 36 e), sym p, sym s)
    by false e h = absurd (cc)

record BodyCut (bs : List ℕ) (parts : List Inner) (n : ℕ) : Type 0 where
  read : (x : List ℕ) → body 0 (take n bs ++ x) ≡ Closes parts n
  some : 0 < n
  fits : n ≤ length bs
  written : AreParts parts
  dark : blank_first bs ≡ false → NoBlankFirst parts
  held : List ℕ
  content : IsContentText parts held
  spelled : take n bs ≡ held ++ 125 ∷ 36 ∷ []

module _ (b : ℕ) (bs : List ℕ) (parts : List Inner) (n : ℕ) (h : body 0 (b ∷ bs) ≡ Closes parts n)
    (go : (k : ℕ) (more : List Inner) (j : ℕ) → body k bs ≡ Closes more j →
    BodyCut (drop k bs) more j)
  where
    brace_cut : b ≡ 125 → BodyCut (b ∷ bs) parts n
    brace_cut is =
        let all : closed bs ≡ Closes parts n = sym (ap (λ z. body 0 (z ∷ bs)) is ∙ body_brace bs)
        ∙ h in
        let d = closed_dollar bs parts n all in
        let text : b ∷ bs ≡ 125 ∷ 36 ∷ drop 1 bs = ap (λ z. z ∷ bs) is
        ∙ ap (λ (q : List ℕ). 125 ∷ q) d.0 in
        let l = ap length d.0 in
        record {
          read = λ x. ap (λ k. body 0 (take k (b ∷ bs) ++ x)) d.2
              ∙ ap (λ (q : List ℕ). body 0 (take 2 q ++ x)) text ∙ body_brace (36 ∷ x)
              ∙ ap (λ q. Closes q 2) (sym d.1) ∙ ap (Closes parts) (sym d.2);
          some = omega (arith, d.2);
          fits = omega (arith, d.2, l);
          written = subst AreParts (sym d.1) tt;
          dark = λ _. subst NoBlankFirst (sym d.1) tt;
          held = [];
          content = subst (λ (q : List Inner). IsContentText q []) (sym d.1) refl;
          spelled = ap (λ k. take k (b ∷ bs)) d.2 ∙ ap (take 2) text;
        }

    part_cut : (part : Inner) (k : ℕ) → 0 < k → k ≤ length (b ∷ bs) →
        body 0 (b ∷ bs) ≡ behind_part part k (body 0 (drop k (b ∷ bs))) →
        ((more : List Inner) (j : ℕ) → BodyCut (drop k (b ∷ bs)) more j → (x : List ℕ) →
        body 0 (take k (b ∷ bs) ++ (take j (drop k (b ∷ bs)) ++ x))
        ≡ behind_part part k (body 0 (take j (drop k (b ∷ bs)) ++ x))) →
        ((more : List Inner) (j : ℕ) → BodyCut (drop k (b ∷ bs)) more j → AreParts (part ∷ more)) →
        (blank_first (b ∷ bs) ≡ false → (more : List Inner) → NoBlankFirst (part ∷ more)) →
        ((more : List Inner) (j : ℕ) (r : BodyCut (drop k (b ∷ bs)) more j) →
        IsContentText (part ∷ more) (take k (b ∷ bs) ++ r.held)) →
        BodyCut (b ∷ bs) parts n
    part_cut part k some fits is read written dark content =
        let c = closes_behind part k (body 0 (drop k (b ∷ bs))) parts n (sym is ∙ h) in
        let back : drop k (b ∷ bs) ≡ drop (pred k) bs = drop_pred k b bs some in
        let left : body (pred k) bs ≡ Closes c.0 c.1 =
        body_skip (pred k) bs ∙ ap (body 0) (sym back) ∙ c.2 in
        let rest : BodyCut (drop k (b ∷ bs)) c.0 c.1 =
        subst (λ (q : List ℕ). BodyCut q c.0 c.1) (sym back) (go (pred k) c.0 c.1 left) in
        let l = length-drop k (b ∷ bs) in
        record {
          read = λ x. ap (λ m. body 0 (take m (b ∷ bs) ++ x)) c.4
              ∙ ap (body 0) (cut_twice k c.1 (b ∷ bs) x) ∙ read c.0 c.1 rest x
              ∙ ap (behind_part part k) (rest.read x) ∙ ap (λ q. Closes q (k + c.1)) (sym c.3)
              ∙ ap (Closes parts) (sym c.4);
          some = let s = c.4 in omega (arith, s, some);
          fits = let s = c.4 in let f = rest.fits in omega (arith, s, f, l, fits);
          written = subst AreParts (sym c.3) (written c.0 c.1 rest);
          dark = λ d. subst NoBlankFirst (sym c.3) (dark d c.0);
          held = take k (b ∷ bs) ++ rest.held;
          content = subst (λ (q : List Inner). IsContentText q (take k (b ∷ bs) ++ rest.held))
              (sym c.3) (content c.0 c.1 rest);
          spelled = ap (λ m. take m (b ∷ bs)) c.4 ∙ take-add k c.1 (b ∷ bs)
              ∙ ap (λ (q : List ℕ). take k (b ∷ bs) ++ q) rest.spelled
              ∙ sym (append_assoc (take k (b ∷ bs)) rest.held (125 ∷ 36 ∷ []));
        }

    unit_cut : (words : List (List Symbol)) (m : ℕ) → b ≡ 94 →
        rest (form_of Lexical) [] [] 0 bs ≡ Ends words m → BodyCut (b ∷ bs) parts n
    unit_cut words m is e =
        let u = unit_of bs words m e in
        let same : 94 ∷ bs ≡ b ∷ bs = ap (λ z. z ∷ bs) (sym is) in
        let own : UnitOf Lexical (take (1 + m) (b ∷ bs)) words =
        subst (λ (q : List ℕ). UnitOf Lexical (take (1 + m) q) words) same u.0 in
        let fits : 1 + m ≤ length (b ∷ bs) = let f = u.1 in omega (arith, f) in
        let len : length (take (1 + m) (b ∷ bs)) ≡ 1 + m = length-take-le (1 + m) (b ∷ bs) fits in
        let back : drop m bs ≡ drop (1 + m) (b ∷ bs) =
        let g : suc m ≡ 1 + m = omega arith in ap (λ k. drop k (b ∷ bs)) g in
        part_cut (inner.Unit words) (1 + m) (omega arith) fits
        (ap (body 0) (sym same) ∙ unit_part bs words m e
        ∙ ap (λ (q : List ℕ). behind_part (inner.Unit words) (1 + m) (body 0 q)) back)
        (λ more j r x. unit_body (take (1 + m) (b ∷ bs)) _ words own
        ∙ ap (λ k. behind_part (inner.Unit words) k (body 0
        (take j (drop (1 + m) (b ∷ bs)) ++ x))) len)
        (λ more j r. (
          unit_words Lexical (take (1 + m) (b ∷ bs) ++ []) words _
              (unit_always Lexical (take (1 + m) (b ∷ bs)) words own []),
          r.written,
        )) (λ d more. tt)
        (λ more j r. (
          take (1 + m) (b ∷ bs),
          r.held,
          unit_text Lexical (take (1 + m) (b ∷ bs)) words own,
          r.content,
          refl,
        ))

    blank_cut : (m : ℕ) → begins_blank b ≡ true → blank 0 (b ∷ bs) ≡ Done m →
        BodyCut (b ∷ bs) parts n
    blank_cut m t e =
        let on = done_on (b ∷ bs) m e in
        let some : 0 < m = blank_some b bs m t e in
        let fits : m ≤ length (b ∷ bs) = omega (arith, on.2) in
        let len : length (take m (b ∷ bs)) ≡ m = length-take-le m (b ∷ bs) fits in
        let bright : blank_first (take m (b ∷ bs)) ≡ true = first_taken m some t in
        let l = length-drop m (b ∷ bs) in
        part_cut (inner.Blank (take m (b ∷ bs))) m some fits (run_part b bs m t e some)
        (λ more j r x. run_body (take m (b ∷ bs)) (take j (drop m (b ∷ bs)) ++ x)
        (λ y. on.0 y ∙ ap (λ k. further k (blank 0 y)) (sym len)) bright
        (front_some j (drop m (b ∷ bs)) x r.some (omega (arith, l, on.2)))
        (front_dark j (drop m (b ∷ bs)) x r.some (omega (arith, l, on.2)) on.1)
        ∙ ap (λ k. behind_part (inner.Blank (take m (b ∷ bs))) k
        (body 0 (take j (drop m (b ∷ bs)) ++ x)))
        len)
        (λ more j r. (
          (
            omega (arith, len, some),
            ap (blank 0) (sym (append-nil (take m (b ∷ bs)))) ∙ on.0 []
                ∙ ap (further m) nothing_blank,
          ),
          r.dark on.1,
          r.written,
        )) (λ d more. absurd (let z : true ≡ false = sym t ∙ d in cc))
        (λ more j r. (
          r.held,
          record {
            some = some_taken m some;
            are = (subst (RunText (b ∷ bs)) e (run_text 0 (b ∷ bs))).0;
          },
          r.dark on.1,
          r.content,
          refl,
        ))
      where
        some_taken : (m : ℕ) → 0 < m → take m (b ∷ bs) ≢ []
        some_taken zero some = absurd (omega (arith, some))
        some_taken (suc m) some = λ e. cc

        first_taken : (m : ℕ) → 0 < m → begins_blank b ≡ true → blank_first (take m (b ∷ bs)) ≡ true
        first_taken zero some t = absurd (omega (arith, some))
        first_taken (suc m) some t = t

        front_some : (j : ℕ) (q x : List ℕ) → 0 < j → 0 < length q → 0 < length (take j q ++ x)
        front_some zero q x s l = absurd (omega (arith, s))
        front_some (suc j) [] x s l = absurd (omega (arith, l))
        front_some (suc j) (a ∷ q) x s l = omega arith

        front_dark : (j : ℕ) (q x : List ℕ) → 0 < j → 0 < length q → blank_first q ≡ false →
            blank_first (take j q ++ x) ≡ false
        front_dark zero q x s l d = absurd (omega (arith, s))
        front_dark (suc j) [] x s l d = absurd (omega (arith, l))
        front_dark (suc j) (a ∷ q) x s l d = d

body_cut : (skip : ℕ) (bs : List ℕ) (parts : List Inner) (n : ℕ) → body skip bs ≡ Closes parts n →
    BodyCut (drop skip bs) parts n
unfolding body
body_cut skip [] parts n h = absurd (cc)
body_cut (suc skip) (b ∷ bs) parts n h = body_cut skip bs parts n h
body_cut zero (b ∷ bs) parts n h =
    by (content_begins b bs (subst IsClosed (sym h) tt)) (λ k more j e. body_cut k bs more j e)
  where
    by : Begins b bs → ((k : ℕ) (more : List Inner) (j : ℕ) → body k bs ≡ Closes more j →
        BodyCut (drop k bs) more j) → BodyCut (b ∷ bs) parts n
    by (brace is c) go = brace_cut b bs parts n h go is
    by (unit words m is e) go = unit_cut b bs parts n h go words m is e
    by (run m t e) go = blank_cut b bs parts n h go m t e

-- a chunk

pub record IsCut (bs : List ℕ) (chunk : Chunk) (n : ℕ) : Type 0 where
  pub read : (x : List ℕ) → first Chunked (take n bs ++ x) ≡ Whole (item.Chunk chunk) n
  pub some : 0 < n
  pub fits : n ≤ length bs
  pub name : AreSpelt false chunk.name
  pub parts : AreParts chunk.content
  pub text : IsChunkText chunk (take n bs)

pub chunk_cut : (bs : List ℕ) (chunk : Chunk) (n : ℕ) →
    first Chunked bs ≡ Whole (item.Chunk chunk) n →
    IsCut bs chunk n
chunk_cut bs chunk n h =
    let s = shaped bs chunk n h in
    let t : List ℕ = s.tail in
    let k : ℕ = s.named in
    let m : ℕ = s.size in
    let c : BodyCut (drop s.named s.tail) s.parts s.size =
    body_cut 0 (drop s.named s.tail) s.parts s.size s.body_is in
    let name = name_text s.tail s.words s.named s.name_is in
    let made : Chunk = record { name = first_word s.words; content = s.parts } in
    let r : (x : List ℕ) → (rest (form_of Chunked) [] [] 0 (take s.named s.tail ++ x)
    ≡ Ends s.words s.named)
    × (0 < s.named) × (s.named ≤ length s.tail) =
    λ x. rest_cut (form_of Chunked) [] [] 0 s.tail x s.words s.named s.name_is in
    let fits : s.named ≤ length s.tail = (r []).2 in
    let len : length (take s.named s.tail) ≡ s.named = length-take-le s.named s.tail fits in
    let size : n ≡ suc (s.named + s.size) = let z = s.size_is in omega (arith, z) in
    let l = length-drop s.named s.tail in
    let all : (x : List ℕ) → take n bs ++ x ≡ 94 ∷ (take s.named s.tail ++
    (take s.size (drop s.named s.tail) ++ x)) =
    λ x. ap (λ z. take z bs ++ x) size ∙ ap (λ (q : List ℕ). take
    (suc (s.named + s.size)) q ++ x) s.begins
    ∙ ap (λ (q : List ℕ). 94 ∷ q) (cut_twice s.named s.size s.tail x) in
    let left : (y : List ℕ) → drop s.named (take s.named s.tail ++ y) ≡ y =
    λ y. ap (λ z. drop z (take s.named s.tail ++ y)) (sym len)
    ∙ drop-append_seam (take s.named s.tail) y in
    record {
      read = λ x.
          let y : List ℕ = take s.size (drop s.named s.tail) ++ x in
          let more : body s.named (take s.named s.tail ++ y) ≡ Closes s.parts s.size =
          body_skip s.named (take s.named s.tail ++ y) ∙ ap (body 0) (left y) ∙ c.read x in
          ap (first Chunked) (all x) ∙ first_caret Chunked (take s.named s.tail ++ y) refl
          ∙ ap (of_chunk (take s.named s.tail ++ y)) (r y).0
          ∙ ap (of_body (first_word s.words) [] (1 + s.named)) more
          ∙ ap (λ q. Whole (item.Chunk q) (1 + s.named + s.size)) (sym s.chunk_is)
          ∙ ap (Whole (item.Chunk chunk)) (sym s.size_is);
      some = omega (arith, size);
      fits = let f = c.fits in let b = ap length s.begins in omega (arith, size, f, l, b, fits);
      name = subst (λ (q : Chunk). AreSpelt false q.name) (sym s.chunk_is)
          (name_spelt s.tail s.words s.named s.name_is);
      parts = subst (λ (q : Chunk). AreParts q.content) (sym s.chunk_is) c.written;
      text = subst (λ (q : Chunk). IsChunkText q (take n bs)) (sym s.chunk_is)
          (record {
            named = name.0;
            held = c.held;
            name_is = name.1;
            content_is = c.content;
            spelled = sym (append-nil (take n bs)) ∙ all []
                ∙ ap (λ (q : List ℕ). 94 ∷ (take s.named s.tail ++ q))
                (append-nil (take s.size (drop s.named s.tail)) ∙ c.spelled)
                ∙ ap (λ (q : List ℕ). 94 ∷ (q ++ (c.held ++ 125 ∷ 36 ∷ []))) name.2
                ∙ ap (λ (q : List ℕ). 94 ∷ q)
                (append_assoc name.0 (123 ∷ []) (c.held ++ 125 ∷ 36 ∷ []));
          });
    }

-- what is written of a chunk is read back

blank_begins : (bytes : List ℕ) → IsBlank bytes → blank_first bytes ≡ true
unfolding blank
blank_begins [] h = absurd (let s = h.0 in omega (arith, s))
blank_begins (b ∷ bs) h = by (is_white b) (eqb b 91) h.1
  where
    by : (v w : Bool) → cond v (further 1 (blank 0 bs))
        (cond w (further 1 (behind_close (closing false 0 bs) (λ n. blank n bs))) (Done 0)) ≡ Open →
        (v || w) ≡ true
    by true w e = refl
    by false true e = refl
    by false false e = absurd (cc)

parts_dark : (parts : List Inner) (x : List ℕ) → NoBlankFirst parts → AreParts parts →
    blank_first (flat_map inner_bytes parts ++ 125 ∷ x) ≡ false
parts_dark [] x n h = refl
parts_dark (inner.Unit words ∷ parts) x n h =
    ap (λ (q : List ℕ). blank_first (q ++ 125 ∷ x)) (flat_map-cons inner_bytes
    (inner.Unit words) parts)
parts_dark (inner.Blank bytes ∷ parts) x n h = absurd n

pub body_back : (parts : List Inner) (x : List ℕ) → AreParts parts →
    body 0 (flat_map inner_bytes parts ++ 125 ∷ 36 ∷ x)
    ≡ Closes parts (length (flat_map inner_bytes parts) + 2)
body_back [] x h = body_brace (36 ∷ x)
body_back (inner.Unit words ∷ parts) x h =
    let p : List ℕ = unit_bytes words in
    let y : List ℕ = flat_map inner_bytes parts ++ 125 ∷ 36 ∷ x in
    let list = flat_map-cons inner_bytes (inner.Unit words) parts in
    let l = ap length list ∙ length-append (unit_bytes words) (flat_map inner_bytes parts) in
    ap (λ (q : List ℕ). body 0 (q ++ 125 ∷ 36 ∷ x)) list
    ∙ ap (body 0) (append_assoc (unit_bytes words) (flat_map inner_bytes parts) (125 ∷ 36 ∷ x))
    ∙ body_held (unit_bytes words) y (inner.Unit words) (omega arith)
    ((part_agrees (unit_bytes words ++ y) refl).0 ∙ ap portion_of (unit_back Lexical words y h.0))
    ∙ ap (behind_part (inner.Unit words) (length (unit_bytes words))) (body_back parts x h.1)
    ∙ ap (Closes (inner.Unit words ∷ parts)) (omega (arith, l))
body_back (inner.Blank bytes ∷ parts) x h =
    let y : List ℕ = flat_map inner_bytes parts ++ 125 ∷ 36 ∷ x in
    let list = flat_map-cons inner_bytes (inner.Blank bytes) parts in
    let l = ap length list ∙ length-append bytes (flat_map inner_bytes parts) in
    let some : 0 < length (flat_map inner_bytes parts ++ 125 ∷ 36 ∷ x) =
    let k = length-append (flat_map inner_bytes parts) (125 ∷ 36 ∷ x) in omega (arith, k) in
    ap (λ (q : List ℕ). body 0 (q ++ 125 ∷ 36 ∷ x)) list
    ∙ ap (body 0) (append_assoc bytes (flat_map inner_bytes parts) (125 ∷ 36 ∷ x))
    ∙ run_body bytes y (open_on bytes h.0.1) (blank_begins bytes h.0) some
    (parts_dark parts (36 ∷ x) h.1 h.2)
    ∙ ap (behind_part (inner.Blank bytes) (length bytes)) (body_back parts x h.2)
    ∙ ap (Closes (inner.Blank bytes ∷ parts)) (omega (arith, l))

pub chunk_back : (name : List Symbol) (content : List Inner) (x : List ℕ) → AreSpelt false name →
    AreParts content → first Chunked (chunk_bytes name content ++ x)
    ≡ Whole (item.Chunk (record { name = name; content = content }))
    (length (chunk_bytes name content))
chunk_back name content x s h =
    let end : List ℕ = flat_map inner_bytes content ++ 125 ∷ 36 ∷ [] in
    let tail : List ℕ = flat_map inner_bytes content ++ 125 ∷ 36 ∷ x in
    let n : ℕ = length (rendering name) in
    let named : rest (form_of Chunked) [] [] 0 (rendering name ++ (123 ∷ tail))
    ≡ Ends (name ∷ []) (length (rendering name) + 1) =
    word_back (form_of Chunked) [] [] name (123 ∷ tail) s
    ∙ ap (later (length (rendering name))) (rest_brace (form_of Chunked) [] name tail) in
    let text : (rendering name ++ (123 ∷ end)) ++ x ≡ rendering name ++ (123 ∷ tail) =
    append_assoc (rendering name) (123 ∷ end) x
    ∙ ap (λ (q : List ℕ). rendering name ++ (123 ∷ q))
    (append_assoc (flat_map inner_bytes content) (125 ∷ 36 ∷ []) x) in
    let left : drop (length (rendering name) + 1) (rendering name ++ (123 ∷ tail)) ≡ tail =
    drop-append-add (rendering name) (123 ∷ tail) 1 in
    let held : body (length (rendering name) + 1) (rendering name ++ (123 ∷ tail))
    ≡ Closes content (length (flat_map inner_bytes content) + 2) =
    body_skip (length (rendering name) + 1) (rendering name ++ (123 ∷ tail)) ∙ ap (body 0) left
    ∙ body_back content x h in
    let size : 1 + (length (rendering name) + 1) + (length (flat_map inner_bytes content) + 2)
    ≡ length (chunk_bytes name content) =
    let a = length-append (rendering name) (123 ∷ end) in
    let b = length-append (flat_map inner_bytes content) (125 ∷ 36 ∷ []) in omega (arith, a, b) in
    ap (λ (q : List ℕ). first Chunked (94 ∷ q)) text
    ∙ first_caret Chunked (rendering name ++ (123 ∷ tail)) refl
    ∙ ap (of_chunk (rendering name ++ (123 ∷ tail))) named
    ∙ ap (of_body name [] (1 + (length (rendering name) + 1))) held
    ∙ ap (Whole (item.Chunk (record { name = name; content = content }))) size
