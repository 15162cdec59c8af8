-- The items of a text, and what stops it, by the Apertium stream format. A text is cut item by
-- item. Places and sizes are in bytes.
use Rattle.std.specs.Prelude.{◌≡◌, ℕ, zero, suc, ◌+◌, ◌<◌, List, [], ◌∷◌, drop, length, Some, refl}
use Rattle.std.proofs.Common.{arith, ap}
use Rattle.ap_stream.specs.Limits.{item_max}
use Rattle.ap_stream.specs.declared.dialect.Dialect.{Dialect}
use Rattle.ap_stream.specs.declared.item.Item.{Item}
use Rattle.ap_stream.specs.Reading.{Kind, fault_at, first, last, limited, counted, read_at, nothing, stopped, followed, at_end, walk, reads, Needs, Whole, Faulty}

-- laws

pub first_nil : (dialect : Dialect) → first dialect [] ≡ Needs
unfolding first
first_nil dialect = refl

walk_skip : (dialect : Dialect) (place n : ℕ) (bs : List ℕ) →
    walk dialect place n bs ≡ walk dialect place 0 (drop n bs)
unfolding walk
walk_skip dialect place zero bs = refl
walk_skip dialect place (suc n) [] = refl
walk_skip dialect place (suc n) (b ∷ bs) = walk_skip dialect place n bs

pub reads_nil : (dialect : Dialect) (place : ℕ) → reads dialect place [] ≡ nothing
unfolding reads walk
reads_nil dialect place = refl

-- behind a whole item the text goes on
pub reads_whole : (dialect : Dialect) (place : ℕ) (bs : List ℕ) (thing : Item) (n : ℕ) →
    limited item_max dialect bs ≡ Whole thing n → 0 < n → 0 < length bs →
    reads dialect place bs ≡ followed (Some (read_at place thing n))
    (reads dialect (counted (place + n)) (drop n bs))
unfolding reads walk
reads_whole dialect place [] thing n h some more = absurd (omega arith)
reads_whole dialect place (b ∷ bs) thing zero h some more = absurd (omega arith)
reads_whole dialect place (b ∷ bs) thing (suc n) h some more =
    rw h (ap (followed (Some (read_at place thing (suc n))))
    (walk_skip dialect (counted (place + suc n)) n bs))

pub reads_faulty : (dialect : Dialect) (place : ℕ) (bs : List ℕ) (kind : Kind) →
    limited item_max dialect bs ≡ Faulty kind → 0 < length bs →
    reads dialect place bs ≡ stopped (fault_at kind place)
unfolding reads walk
reads_faulty dialect place [] kind h more = absurd (omega arith)
reads_faulty dialect place (b ∷ bs) kind h more = rw h refl

pub reads_needs : (dialect : Dialect) (place : ℕ) (bs : List ℕ) → limited item_max dialect bs
    ≡ Needs → 0 < length bs → reads dialect place bs ≡ at_end place bs (last bs)
unfolding reads walk
reads_needs dialect place [] h more = absurd (omega arith)
reads_needs dialect place (b ∷ bs) h more = rw h refl
