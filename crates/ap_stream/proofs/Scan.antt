-- A scan of a text, item by item, finds its superblanks.
use Rattle.std.specs.Prelude.{◌≡◌, ℕ, zero, suc, pred, ◌+◌, ◌<◌, ◌≤◌, List, [], ◌∷◌, ◌++◌, drop, take, length, Bool, true, false, ◌||◌, eqb, refl}
use Rattle.std.specs.List.{flat_map}
use Rattle.std.proofs.Common.{arith, ap, sym, subst, ◌∙◌, length-append}
use Rattle.std.proofs.lemmas.List.{append-nil, length-drop}
use Rattle.std.proofs.lemmas.List.Concat.{flat_map-cons}
use Rattle.std.proofs.Math.Seq.{drop-append_seam, take-append_seam, take-append-add, drop-append-add}
use Rattle.ap_stream.specs.declared.dialect.Dialect.{Dialect}
use Rattle.ap_stream.specs.declared.item.Item.{Item}
use Rattle.ap_stream.specs.declared.item.Item.TheVariants as item
use Rattle.ap_stream.specs.Blanks.{Run, Open, Inside, BadChar, Done, further, blank, is_white, begins_blank}
use Rattle.ap_stream.proofs.BlankLaws.{blank_white, blank_bracket, blank_done, blank_at, blank_some}
use Rattle.ap_stream.specs.Pieces.{HasSuperblanks, nothing, piece, IsPiece, plain, white, superblank, unit, IsToBracket, chunk}
use Rattle.ap_stream.specs.Reading.{Needs, Whole, first, last, Complete, of_run, last_run}
use Rattle.ap_stream.specs.Stands.{blank_first}
use Rattle.ap_stream.specs.Supers.{blank_supers, item_supers, items_of, supers}
use Rattle.ap_stream.proofs.Fronts.{to_bracket, white_other, IsWhole, plain_whole, unit_whole, one_list, chunk_whole}
use Rattle.ap_stream.proofs.Rows.{drop_pred}
use Rattle.ap_stream.proofs.Superblanks.{supers_other, supers_closed}

-- the scan goes on behind an item

items_skip : (dialect : Dialect) (n : ℕ) (bs : List ℕ) →
    items_of dialect n bs ≡ items_of dialect 0 (drop n bs)
unfolding items_of
items_skip dialect zero bs = refl
items_skip dialect (suc n) [] = refl
items_skip dialect (suc n) (b ∷ bs) = items_skip dialect n bs

items_whole : (dialect : Dialect) (b : ℕ) (bs : List ℕ) (thing : Item) (n : ℕ) →
    first dialect (b ∷ bs) ≡ Whole thing n → 0 < n → items_of dialect 0 (b ∷ bs) ≡ thing
    ∷ items_of dialect 0 (drop n (b ∷ bs))
unfolding items_of
items_whole dialect b bs thing n h some =
    rw h (ap (λ (q : List Item). thing ∷ q) (items_skip dialect (pred n) bs
    ∙ ap (items_of dialect 0) (sym (drop_pred n b bs some))))

items_open : (dialect : Dialect) (b : ℕ) (bs : List ℕ) (thing : Item) →
    first dialect (b ∷ bs) ≡ Needs → last (b ∷ bs) ≡ Complete thing →
    items_of dialect 0 (b ∷ bs) ≡ thing ∷ []
unfolding items_of
items_open dialect b bs thing h l = rw (h, l) refl

items_nil : (dialect : Dialect) → items_of dialect 0 [] ≡ []
unfolding items_of
items_nil dialect = refl

none_there : blank_supers 0 [] ≡ []
unfolding blank_supers
none_there = refl

open_run : blank 0 [] ≡ Open
unfolding blank
open_run = refl

pub first_blank : (dialect : Dialect) (b : ℕ) (bs : List ℕ) → begins_blank b ≡ true →
    first dialect (b ∷ bs) ≡ of_run (b ∷ bs) (blank 0 (b ∷ bs))
unfolding first
first_blank dialect b bs t = rw t refl

pub last_blank : (b : ℕ) (bs : List ℕ) → begins_blank b ≡ true →
    last (b ∷ bs) ≡ last_run (b ∷ bs) (blank 0 (b ∷ bs))
unfolding last
last_blank b bs t = rw t refl

-- the blank at the front of a text: its superblanks, and those of the rest
abbrev pub RunCut : Dialect → List ℕ → List (List ℕ) → Run → Type 0
RunCut dialect text supers Open = blank_supers 0 text ≡ supers
RunCut dialect text supers Inside = ⊥
RunCut dialect text supers BadChar = ⊥
RunCut dialect text supers (Done n) = (own : List (List ℕ)) × (more : List (List ℕ))
    × (blank_supers 0 (take n text) ≡ own) × HasSuperblanks dialect (drop n text) more
    × (supers ≡ own ++ more)

module _ (dialect : Dialect) where
  no_blank : (text : List ℕ) (supers : List (List ℕ)) → 0 < length text → blank_first text ≡ false →
      HasSuperblanks dialect text supers → RunCut dialect text supers (blank 0 text)
  no_blank [] supers some dark h = absurd (omega (arith, some))
  no_blank (b ∷ bs) supers some dark h =
      let n = neither (is_white b) (eqb b 91) dark in
      subst (RunCut dialect (b ∷ bs) supers) (sym (blank_done b bs n.0 n.1))
      ([], supers, none_there, h, refl)
    where
      neither : (a b : Bool) → (a || b) ≡ false → (a ≡ false) × (b ≡ false)
      neither true b h = absurd (cc)
      neither false b h = (refl, h)

  white_cut : (b : ℕ) (bs : List ℕ) (supers : List (List ℕ)) (r : Run) → is_white b ≡ true →
      RunCut dialect bs supers r → RunCut dialect (b ∷ bs) supers (further 1 r)
  white_cut b bs supers Open w h = supers_other b bs (white_other b w) ∙ h
  white_cut b bs supers Inside w h = absurd h
  white_cut b bs supers BadChar w h = absurd h
  white_cut b bs supers (Done n) w h =
      let grown : 1 + n ≡ suc n = omega arith in (
        h.0,
        h.1,
        ap (λ q. blank_supers 0 (take q (b ∷ bs))) grown
            ∙ supers_other b (take n bs) (white_other b w) ∙ h.2,
        subst (λ q. HasSuperblanks dialect (drop q (b ∷ bs)) h.1) (sym grown) h.3,
        h.4,
      )

  one_super : (inner bs : List ℕ) → IsToBracket inner → blank_supers 0 (91 ∷ (inner ++ bs))
      ≡ (91 ∷ inner) ∷ blank_supers 0 bs
  one_super inner bs t = supers_closed (inner ++ bs) (length inner) (to_bracket inner t bs)
      ∙ rw (take-append_seam inner bs, drop-append_seam inner bs) refl

  super_cut : (inner bs : List ℕ) (supers : List (List ℕ)) (r : Run) → IsToBracket inner →
      RunCut dialect bs supers r →
      RunCut dialect (91 ∷ (inner ++ bs)) ((91 ∷ inner) ∷ supers)
      (further 1 (further (length inner) r))
  super_cut inner bs supers Open t h =
      one_super inner bs t ∙ ap (λ (q : List (List ℕ)). (91 ∷ inner) ∷ q) h
  super_cut inner bs supers Inside t h = absurd h
  super_cut inner bs supers BadChar t h = absurd h
  super_cut inner bs supers (Done m) t h =
      let grown : 1 + (length inner + m) ≡ suc (length inner + m) = omega arith in (
        (91 ∷ inner) ∷ h.0,
        h.1,
        ap (λ q. blank_supers 0 (take q (91 ∷ (inner ++ bs)))) grown
            ∙ ap (λ (q : List ℕ). blank_supers 0 (91 ∷ q)) (take-append-add inner bs m)
            ∙ one_super inner (take m bs) t ∙ ap (λ (q : List (List ℕ)). (91 ∷ inner) ∷ q) h.2,
        subst (λ q. HasSuperblanks dialect (drop q (91 ∷ (inner ++ bs))) h.1) (sym grown)
            (subst (λ (q : List ℕ). HasSuperblanks dialect q h.1)
            (sym (drop-append-add inner bs m)) h.3),
        ap (λ (q : List (List ℕ)). (91 ∷ inner) ∷ q) h.4,
      )

  super_run : (inner bs : List ℕ) → IsToBracket inner → blank 0 (91 ∷ (inner ++ bs))
      ≡ further 1 (further (length inner) (blank 0 bs))
  super_run inner bs t = blank_bracket (inner ++ bs)
      ∙ ap (further 1) (rw (to_bracket inner t bs)
      (ap (further (length inner)) (blank_at inner bs)))

  pub run_cut : (text : List ℕ) (supers : List (List ℕ)) → HasSuperblanks dialect text supers →
      RunCut dialect text supers (blank 0 text)
  run_cut text supers (nothing e f) =
      let here : RunCut dialect [] [] (blank 0 []) =
      subst (RunCut dialect [] []) (sym open_run) none_there in
      subst (λ (q : List ℕ). RunCut dialect q supers (blank 0 q)) (sym e)
      (subst (λ (q : List (List ℕ)). RunCut dialect [] q (blank 0 [])) (sym f) here)
  run_cut text supers (piece front rest own more p h e f) = by p (run_cut rest more h)
    where
      whole : (given : List (List ℕ)) → IsWhole dialect given front →
          RunCut dialect text supers (blank 0 text)
      whole given w = no_blank text supers (let l = ap length e ∙ length-append front rest in
          omega (arith, l, w.some)) (ap blank_first e ∙ on front w.some w.dark)
          (piece front rest own more p h e f)
        where
          on : (q : List ℕ) → 0 < length q → blank_first q ≡ false → blank_first (q ++ rest) ≡ false
          on [] some dark = absurd (omega (arith, some))
          on (b ∷ q) some dark = dark

      as_text : (q : List ℕ) (s : List (List ℕ)) → text ≡ q → supers ≡ s →
          RunCut dialect q s (blank 0 q) → RunCut dialect text supers (blank 0 text)
      as_text q s u v k = subst (λ (z : List ℕ). RunCut dialect z supers (blank 0 z)) (sym u)
          (subst (λ (z : List (List ℕ)). RunCut dialect q z (blank 0 q)) (sym v) k)

      by : IsPiece dialect front own → RunCut dialect rest more (blank 0 rest) →
          RunCut dialect text supers (blank 0 text)
      by (plain q k) c = whole [] (plain_whole dialect front q)
      by (unit q k) c = whole [] (unit_whole dialect front q)
      by (chunk q k) c = whole _ (chunk_whole dialect front q)
      by (white b is w k) c =
          as_text (b ∷ rest) more (e ∙ ap (λ (z : List ℕ). z ++ rest) is)
          (f ∙ ap (λ (z : List (List ℕ)). z ++ more) k)
          (subst (RunCut dialect (b ∷ rest) more) (sym (blank_white b rest w))
          (white_cut b rest more (blank 0 rest) w c))
      by (superblank s k) c =
          as_text (91 ∷ (s.rest ++ rest)) ((91 ∷ s.rest) ∷ more)
          (e ∙ ap (λ (z : List ℕ). z ++ rest) s.begins)
          (f ∙ ap (λ (z : List (List ℕ)). z ++ more) (k ∙ ap (λ (z : List ℕ). z ∷ []) s.begins))
          (subst (RunCut dialect (91 ∷ (s.rest ++ rest)) ((91 ∷ s.rest) ∷ more))
          (sym (super_run s.rest rest s.goes_on))
          (super_cut s.rest rest more (blank 0 rest) s.goes_on c))

  -- the scan, in a text of so many bytes at most
  abbrev Finds : List ℕ → List (List ℕ) → Type 0
  Finds text found = flat_map item_supers (items_of dialect 0 text) ≡ found

  finds_item : (text : List ℕ) (thing : Item) (rest : List Item) (own more found : List (List ℕ)) →
      items_of dialect 0 text ≡ thing ∷ rest → item_supers thing ≡ own → flat_map item_supers rest
      ≡ more → found ≡ own ++ more → Finds text found
  finds_item text thing rest own more found e o m f = ap (flat_map item_supers) e
      ∙ flat_map-cons item_supers thing rest
      ∙ ap (λ (q : List (List ℕ)). q ++ flat_map item_supers rest) o
      ∙ ap (λ (q : List (List ℕ)). own ++ q) m ∙ sym f

  abbrev FindsBelow : ℕ → Type 0
  FindsBelow k = (text : List ℕ) (found : List (List ℕ)) → length text ≤ k →
      HasSuperblanks dialect text found → Finds text found

  finds_blank : (k b : ℕ) (bs : List ℕ) (found : List (List ℕ)) → length bs ≤ k →
      begins_blank b ≡ true → FindsBelow k → (r : Run) → blank 0 (b ∷ bs) ≡ r →
      RunCut dialect (b ∷ bs) found r → Finds (b ∷ bs) found
  finds_blank k b bs found short t go Open e c =
      finds_item (b ∷ bs) (item.Blank (b ∷ bs)) [] found [] found
      (items_open dialect b bs (item.Blank (b ∷ bs)) (first_blank dialect b bs t
      ∙ ap (of_run (b ∷ bs)) e) (last_blank b bs t ∙ ap (last_run (b ∷ bs)) e)) c refl
      (sym (append-nil found))
  finds_blank k b bs found short t go Inside e c = absurd c
  finds_blank k b bs found short t go BadChar e c = absurd c
  finds_blank k b bs found short t go (Done n) e c =
      let some : 0 < n = blank_some b bs n t e in
      let l = length-drop n (b ∷ bs) in
      finds_item (b ∷ bs) (item.Blank (take n (b ∷ bs))) (items_of dialect 0 (drop n (b ∷ bs))) c.0
      c.1 found (items_whole dialect b bs (item.Blank (take n (b ∷ bs))) n
      (first_blank dialect b bs t ∙ ap (of_run (b ∷ bs)) e) some) c.2
      (go (drop n (b ∷ bs)) c.1 (omega (arith, l, some, short)) c.3) c.4

  finds_whole : (k b : ℕ) (bs front rest : List ℕ) (found own given more : List (List ℕ)) →
      length bs ≤ k → FindsBelow k → b ∷ bs ≡ front ++ rest → IsWhole dialect given front →
      own ≡ given → found ≡ own ++ more → HasSuperblanks dialect rest more → Finds (b ∷ bs) found
  finds_whole k b bs front rest found own given more short go e w is f h =
      let there : first dialect (b ∷ bs) ≡ Whole w.thing (length front) =
      ap (first dialect) e ∙ w.read rest in
      let back : drop (length front) (b ∷ bs) ≡ rest = ap (drop (length front)) e
      ∙ drop-append_seam front rest in
      let l = ap length e ∙ length-append front rest in
      finds_item (b ∷ bs) w.thing (items_of dialect 0 (drop (length front) (b ∷ bs))) own more found
      (items_whole dialect b bs w.thing (length front) there w.some) (w.supers ∙ sym is)
      (ap (λ (q : List ℕ). flat_map item_supers (items_of dialect 0 q)) back
      ∙ go rest more (omega (arith, l, w.some, short)) h) f

  finds_piece : (k b : ℕ) (bs front rest : List ℕ) (found own more : List (List ℕ)) →
      length bs ≤ k → FindsBelow k → b ∷ bs ≡ front ++ rest → found ≡ own ++ more →
      HasSuperblanks dialect rest more → HasSuperblanks dialect (b ∷ bs) found →
      IsPiece dialect front own → Finds (b ∷ bs) found
  finds_piece k b bs front rest found own more short go e f h all (plain q none) =
      finds_whole k b bs front rest found own [] more short go e (plain_whole dialect front q) none
      f h
  finds_piece k b bs front rest found own more short go e f h all (unit q none) =
      finds_whole k b bs front rest found own [] more short go e (unit_whole dialect front q) none
      f h
  finds_piece k b bs front rest found own more short go e f h all (chunk q is) =
      finds_whole k b bs front rest found own _ more short go e (chunk_whole dialect front q) is f h
  finds_piece k b bs front rest found own more short go e f h all (white a is w none) =
      finds_blank k b bs found short
      (begins (ap blank_first (e ∙ ap (λ (z : List ℕ). z ++ rest) is)) w) go (blank 0 (b ∷ bs)) refl
      (run_cut (b ∷ bs) found all)
    where
      begins : begins_blank b ≡ begins_blank a → is_white a ≡ true → begins_blank b ≡ true
      begins s w = s ∙ rw w refl
  finds_piece k b bs front rest found own more short go e f h all (superblank s none) =
      finds_blank k b bs found short (ap blank_first (e ∙ ap (λ (z : List ℕ). z ++ rest) s.begins))
      go (blank 0 (b ∷ bs)) refl (run_cut (b ∷ bs) found all)

  finds : (k : ℕ) → FindsBelow k
  finds k [] found short h = ap (flat_map item_supers) (items_nil dialect)
      ∙ one_list dialect [] [] found (nothing refl refl) h
  finds zero (b ∷ bs) found short h = absurd (omega (arith, short))
  finds (suc k) (b ∷ bs) found short (nothing e f) = absurd (cc)
  finds (suc k) (b ∷ bs) found short (piece front rest own more p h e f) =
      finds_piece k b bs front rest found own more (omega (arith, short)) (finds k) e f h
      (piece front rest own more p h e f) p

pub scan_finds : (dialect : Dialect) (text : List ℕ) (found : List (List ℕ)) →
    HasSuperblanks dialect text found → supers dialect text ≡ found
scan_finds dialect text found h = finds dialect (length text) text found (omega arith) h
