-- Superblanks one behind another are a text of these superblanks.
use Rattle.std.specs.Prelude.{◌≡◌, ℕ, zero, suc, List, [], ◌∷◌, ◌++◌, take, Bool, true, false, cond, eqb, refl}
use Rattle.std.specs.List.{flat_map}
use Rattle.std.proofs.Common.{sym, subst}
use Rattle.std.proofs.lemmas.List.Concat.{flat_map-cons}
use Rattle.ap_stream.specs.declared.dialect.Dialect.{Dialect}
use Rattle.ap_stream.specs.declared.item.Inner.{Inner}
use Rattle.ap_stream.specs.declared.item.Inner.TheVariants as inner
use Rattle.ap_stream.specs.Blanks.{Close, Within, Bad, Closed, closing}
use Rattle.ap_stream.specs.Supers.{blank_supers, closed_super, inner_supers}
use Rattle.ap_stream.proofs.Rows.{closed_at}
use Rattle.ap_stream.specs.Pieces.{HasSuperblanks, nothing, piece, IsPiece, plain, white, superblank, unit, IsSuperblank, chunk}
use Rattle.ap_stream.proofs.Joined.{joined, one_piece}

abbrev pub AreSuperblanks : List (List ℕ) → Type 0
AreSuperblanks [] = Unit {0}
AreSuperblanks (bytes ∷ more) = IsSuperblank bytes × AreSuperblanks more

pub supers_append : (a b : List (List ℕ)) → AreSuperblanks a → AreSuperblanks b →
    AreSuperblanks (a ++ b)
supers_append [] b h k = k
supers_append (bytes ∷ a) b h k = (h.0, supers_append a b h.1 k)

-- what a scan of a blank finds are superblanks
scanned_are : (skip : ℕ) (bs : List ℕ) → AreSuperblanks (blank_supers skip bs)
unfolding blank_supers
scanned_are skip [] = tt
scanned_are (suc skip) (b ∷ bs) = scanned_are skip bs
scanned_are zero (b ∷ bs) = by (eqb b 91) (closing false 0 bs) refl (λ n. scanned_are n bs)
  where
    at : (c : Close) → closing false 0 bs ≡ c → ((n : ℕ) → AreSuperblanks (blank_supers n bs)) →
        AreSuperblanks (closed_super bs c (λ n. blank_supers n bs))
    at Within e go = tt
    at Bad e go = tt
    at (Closed n) e go = (
      record { rest = take n bs; begins = refl; goes_on = (closed_at false 0 bs n e).0 },
      go n,
    )

    by : (v : Bool) (c : Close) → closing false 0 bs ≡ c →
        ((n : ℕ) → AreSuperblanks (blank_supers n bs)) →
        AreSuperblanks (cond v (closed_super bs c (λ n. blank_supers n bs)) (blank_supers 0 bs))
    by true c e go = at c e go
    by false c e go = go 0

content_are : (parts : List Inner) → AreSuperblanks (flat_map inner_supers parts)
content_are [] = tt
content_are (part ∷ parts) =
    subst AreSuperblanks (sym (flat_map-cons inner_supers part parts))
    (supers_append (inner_supers part) (flat_map inner_supers parts) (own part) (content_are parts))
  where
    own : (p : Inner) → AreSuperblanks (inner_supers p)
    own (inner.Unit words) = tt
    own (inner.Blank bytes) = scanned_are 0 bytes

piece_are : (dialect : Dialect) (bytes : List ℕ) (own : List (List ℕ)) → IsPiece dialect bytes own →
    AreSuperblanks own
piece_are dialect bytes own (plain p e) = subst AreSuperblanks (sym e) tt
piece_are dialect bytes own (white b is w e) = subst AreSuperblanks (sym e) tt
piece_are dialect bytes own (superblank s e) = subst AreSuperblanks (sym e) (s, tt)
piece_are dialect bytes own (unit u e) = subst AreSuperblanks (sym e) tt
piece_are dialect bytes own (chunk c e) =
    subst AreSuperblanks (sym e) (content_are c.chunk.content)

-- what a text has are superblanks
pub supers_are : (dialect : Dialect) (text : List ℕ) (supers : List (List ℕ)) →
    HasSuperblanks dialect text supers → AreSuperblanks supers
supers_are dialect text supers (nothing e f) = subst AreSuperblanks (sym f) tt
supers_are dialect text supers (piece front rest own more p h e f) =
    subst AreSuperblanks (sym f)
    (supers_append own more (piece_are dialect front own p) (supers_are dialect rest more h))

pub supers_alone : (dialect : Dialect) (supers : List (List ℕ)) → AreSuperblanks supers →
    HasSuperblanks dialect (flat_map (λ bytes. bytes) supers) supers
supers_alone dialect [] h = nothing refl refl
supers_alone dialect (bytes ∷ more) h =
    subst (λ (q : List ℕ). HasSuperblanks dialect q (bytes ∷ more))
    (sym (flat_map-cons (λ (b : List ℕ). b) bytes more))
    (joined dialect bytes (flat_map (λ b. b) more) (bytes ∷ []) more
    (one_piece dialect bytes (bytes ∷ []) (superblank h.0 refl))
    (supers_alone dialect more h.1))
