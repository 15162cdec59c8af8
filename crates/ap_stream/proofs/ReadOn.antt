-- A row of pieces is read to its end, or to an item over the limit.
use Rattle.std.specs.Prelude.{◌≡◌, ◌⊎◌, ℕ, zero, suc, ◌+◌, ◌<◌, ◌≤◌, Bool, true, false, cond, leb, List, [], ◌∷◌, ◌++◌, drop, take, length, Some, refl}
use Rattle.std.proofs.Common.{arith, ap, sym, subst, ◌∙◌, inl, inr}
use Rattle.std.proofs.lemmas.List.{length-drop, take-append-drop}
use Rattle.std.proofs.Math.Seq.{drop-append_seam}
use Rattle.ap_stream.specs.declared.dialect.Dialect.{Dialect}
use Rattle.ap_stream.specs.declared.fault.LimitKind.TheVariants.{ItemTooLong}
use Rattle.ap_stream.specs.declared.item.Item.{Item}
use Rattle.ap_stream.specs.declared.item.Item.TheVariants as item
use Rattle.ap_stream.specs.Blanks.{Run, Open, Inside, BadChar, Done, blank, begins_blank, is_white}
use Rattle.ap_stream.proofs.BlankLaws.{blank_some}
use Rattle.ap_stream.specs.Limits.{item_max}
use Rattle.ap_stream.specs.Pieces.{HasSuperblanks, nothing, piece, IsPiece, plain, white, superblank, unit, chunk}
use Rattle.ap_stream.specs.ReadOn.{IsNoneOrTooLong, IsReadOn, ArePieces}
use Rattle.ap_stream.specs.Reading.{First, Reads, Needs, Whole, Faulty, Past, first, last, Complete, of_run, last_run, limited, past, at_limit, at_end, counted, followed, read_at, reads}
use Rattle.ap_stream.proofs.ReadingLaws.{reads_nil, reads_whole, reads_faulty, reads_needs}
use Rattle.ap_stream.specs.Stands.{blank_first}
use Rattle.ap_stream.proofs.Fronts.{IsWhole, plain_whole, unit_whole, chunk_whole}
use Rattle.ap_stream.proofs.Scan.{RunCut, run_cut, first_blank, last_blank}
use Rattle.ap_stream.proofs.Stays.{StaysSo, needs, first_stays}

-- within a limit an item is what it is without one, or it is over the limit
module _ (most : ℕ) (dialect : Dialect) (bs : List ℕ) where
  abbrev pub IsSame : First → Type 0
  IsSame f = (f ≡ first dialect bs) ⊎ (f ≡ Faulty (Past ItemTooLong))

  so_far : (n : ℕ) → StaysSo needs (first dialect (take n bs)) (first dialect bs)
  so_far n = subst (λ (q : List ℕ). StaysSo needs (first dialect (take n bs)) (first dialect q))
      (take-append-drop n bs) (first_stays dialect (take n bs) (drop n bs))

  same_limit : (f : First) → StaysSo needs f (first dialect bs) → IsSame (at_limit most f)
  same_limit Needs h = inr refl
  same_limit (Whole thing n) h = by (leb n most)
    where
      by : (v : Bool) → IsSame (cond v (Whole thing n) (Faulty (Past ItemTooLong)))
      by true = inl (sym (h refl))
      by false = inr refl
  same_limit (Faulty kind) h = inr refl

  same_past : (f : First) → StaysSo needs f (first dialect bs) →
      IsSame (past most f (first dialect (take (suc most) bs)))
  same_past Needs h = same_limit (first dialect (take (suc most) bs)) (so_far (suc most))
  same_past (Whole thing n) h = inl (sym (h refl))
  same_past (Faulty kind) h = inl (sym (h refl))

  pub limited_same : IsSame (limited most dialect bs)
  unfolding limited
  limited_same = by (leb (length bs) most)
    where
      by : (v : Bool) → IsSame (cond v (first dialect bs)
          (past most (first dialect (take most bs)) (first dialect (take (suc most) bs))))
      by true = inl refl
      by false = same_past (first dialect (take most bs)) (so_far most)

module _ (dialect : Dialect) where
  -- the item at the front of a row of pieces, and the pieces behind it; or a blank that is all of
  -- the text
  abbrev pub AtFront : List ℕ → Type 0
  AtFront text = ((thing : Item) × (n : ℕ) × (first dialect text ≡ Whole thing n) × (0 < n)
      × ArePieces dialect (drop n text))
      ⊎ ((thing : Item) × (first dialect text ≡ Needs) × (last text ≡ Complete thing))

  at_blank : (b : ℕ) (bs : List ℕ) (found : List (List ℕ)) → begins_blank b ≡ true → (r : Run) →
      blank 0 (b ∷ bs) ≡ r → RunCut dialect (b ∷ bs) found r → AtFront (b ∷ bs)
  at_blank b bs found t Open e c = inr (
    item.Blank (b ∷ bs),
    first_blank dialect b bs t ∙ ap (of_run (b ∷ bs)) e,
    last_blank b bs t ∙ ap (last_run (b ∷ bs)) e,
  )
  at_blank b bs found t Inside e c = absurd c
  at_blank b bs found t BadChar e c = absurd c
  at_blank b bs found t (Done n) e c = inl (
    item.Blank (take n (b ∷ bs)),
    n,
    first_blank dialect b bs t ∙ ap (of_run (b ∷ bs)) e,
    blank_some b bs n t e,
    record { superblanks = c.1; has = c.3 },
  )

  at_whole : (text front rest : List ℕ) (given more : List (List ℕ)) → text ≡ front ++ rest →
      HasSuperblanks dialect rest more → IsWhole dialect given front → AtFront text
  at_whole text front rest given more e h w =
      let back : rest ≡ drop (length front) text = sym (ap (drop (length front)) e
      ∙ drop-append_seam front rest) in
      inl (
        w.thing,
        length front,
        ap (first dialect) e ∙ w.read rest,
        w.some,
        record {
          superblanks = more;
          has = subst (λ (q : List ℕ). HasSuperblanks dialect q more) back h;
        },
      )

  pub at_front : (b : ℕ) (bs : List ℕ) (found : List (List ℕ)) →
      HasSuperblanks dialect (b ∷ bs) found → AtFront (b ∷ bs)
  at_front b bs found (nothing e f) = absurd (cc)
  at_front b bs found (piece front rest own more p h e f) = by p
    where
      begins : (a : ℕ) → begins_blank b ≡ begins_blank a → is_white a ≡ true → begins_blank b ≡ true
      begins a s w = s ∙ rw w refl

      whole_run : begins_blank b ≡ true → AtFront (b ∷ bs)
      whole_run t = at_blank b bs found t (blank 0 (b ∷ bs)) refl
          (run_cut dialect (b ∷ bs) found (piece front rest own more p h e f))

      by : IsPiece dialect front own → AtFront (b ∷ bs)
      by (plain q k) = at_whole (b ∷ bs) front rest [] more e h (plain_whole dialect front q)
      by (unit q k) = at_whole (b ∷ bs) front rest [] more e h (unit_whole dialect front q)
      by (chunk q k) = at_whole (b ∷ bs) front rest _ more e h (chunk_whole dialect front q)
      by (white a is w k) =
          whole_run (begins a (ap blank_first (e ∙ ap (λ (z : List ℕ). z ++ rest) is)) w)
      by (superblank s k) =
          whole_run (ap blank_first (e ∙ ap (λ (z : List ℕ). z ++ rest) s.begins))

  -- a text of so many bytes at most
  abbrev ReadsBelow : ℕ → Type 0
  ReadsBelow k = (place : ℕ) (text : List ℕ) → length text ≤ k → ArePieces dialect text →
      IsNoneOrTooLong (reads dialect place text).stop

  reads_item : (k place b : ℕ) (bs : List ℕ) → length bs ≤ k → ReadsBelow k →
      AtFront (b ∷ bs) → IsSame item_max dialect (b ∷ bs) (limited item_max dialect (b ∷ bs)) →
      IsNoneOrTooLong (reads dialect place (b ∷ bs)).stop
  reads_item k place b bs short go front (inr over) =
      inr (
        place,
        ap (λ (r : Reads). r.stop) (reads_faulty dialect place (b ∷ bs) (Past ItemTooLong) over
            (omega arith)),
      )
  reads_item k place b bs short go (inl f) (inl same) =
      let l = length-drop f.1 (b ∷ bs) in
      let on : reads dialect place (b ∷ bs) ≡ followed (Some (read_at place f.0 f.1))
      (reads dialect (counted (place + f.1)) (drop f.1 (b ∷ bs))) =
      reads_whole dialect place (b ∷ bs) f.0 f.1 (same ∙ f.2) f.3 (omega arith) in
      subst IsNoneOrTooLong (sym (ap (λ (r : Reads). r.stop) on))
      (go (counted (place + f.1)) (drop f.1 (b ∷ bs)) (omega (arith, l, f.3, short)) f.4)
  reads_item k place b bs short go (inr f) (inl same) =
      inl (ap (λ (r : Reads). r.stop) (reads_needs dialect place (b ∷ bs) (same ∙ f.1) (omega arith)
      ∙ ap (at_end place (b ∷ bs)) f.2))

  reads_on : (k : ℕ) → ReadsBelow k
  reads_on k place [] short h = inl (ap (λ (r : Reads). r.stop) (reads_nil dialect place))
  reads_on zero place (b ∷ bs) short h = absurd (omega (arith, short))
  reads_on (suc k) place (b ∷ bs) short h =
      reads_item k place b bs (omega (arith, short)) (reads_on k)
      (at_front b bs h.superblanks h.has) (limited_same item_max dialect (b ∷ bs))

pub pieces_read : (dialect : Dialect) (text : List ℕ) (superblanks : List (List ℕ)) →
    HasSuperblanks dialect text superblanks → IsReadOn dialect text
pieces_read dialect text superblanks h =
    reads_on dialect (length text) 0 text (omega arith)
    (record { superblanks = superblanks; has = h })

pub are_read : (dialect : Dialect) (text : List ℕ) → ArePieces dialect text → IsReadOn dialect text
are_read dialect text h = pieces_read dialect text h.superblanks h.has
