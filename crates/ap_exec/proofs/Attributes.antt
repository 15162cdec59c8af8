-- Which items fit: one of one symbol that symbol alone, and none a tag with which none begins.
use Rattle.std.proofs.Common.{◌≡◌, ℕ, suc, ◌+◌, Bool, true, false, ◌&&◌, List, [], ◌∷◌, length, map, cond, slice_get, Option, Some, None, refl, ap, sym, ◌∙◌, arith, bytes_eq}
use Rattle.std.proofs.lemmas.Bool.{and_left}
use Rattle.std.specs.List.{filter}
use Rattle.ap_symbol.specs.Fitting.{fits_lem}
use Rattle.ap_symbol.specs.declared.symbol.Symbol.{Symbol}
use Rattle.ap_symbol.specs.declared.symbol.Symbol.TheVariants.{Letter, Tag, Blank, Join, Queue, Alarm, Star, At}
use Rattle.ap_rules.specs.Attributes.{tag_is_first, begins_with_tag}
use Rattle.ap_rules.specs.declared.attribute.AttrItem.{AttrItem}
use Rattle.ap_exec.specs.Attributes.{BeginsWithTag}
use Rattle.ap_exec.specs.Parts.{Span, begins_with, item_fits, longer, longest, sought, tags_in, items_in, items_of}

and_true : (b : Bool) → (b && true) ≡ b
and_true true = refl
and_true false = refl

-- an item of one symbol fits where the word begins with that
pub one_fits : (item word rest : List Symbol) (s t : Symbol) → item ≡ s ∷ [] → word ≡ t ∷ rest →
    item_fits item word ≡ fits_lem true s t
one_fits item word rest s t one front =
    ap (λ (i : List Symbol). item_fits i word) one ∙ ap (item_fits (s ∷ [])) front
    ∙ and_true (fits_lem true s t)

-- items that don't begin with a tag

other_first : (item : List Symbol) (name : List ℕ) (rest : List Symbol) →
    tag_is_first name item ≡ false → item_fits item (Tag name ∷ rest) ≡ false
other_first [] name rest none = refl
other_first (Tag own ∷ more) name rest none =
    and_left (bytes_eq own name) (begins_with more rest) none
other_first (Letter a ∷ more) name rest none = refl
other_first (Blank ∷ more) name rest none = refl
other_first (Join ∷ more) name rest none = refl
other_first (Queue ∷ more) name rest none = refl
other_first (Alarm ∷ more) name rest none = refl
other_first (Star ∷ more) name rest none = refl
other_first (At ∷ more) name rest none = refl

-- the items that begin with the tag tell the longest
begun_alone : (best : Option ℕ) (items : List AttrItem) (name : List ℕ) (rest : List Symbol) →
    longest best (map tags_in items) (Tag name ∷ rest)
    ≡ longest best (map tags_in (filter (begins_with_tag name) items)) (Tag name ∷ rest)
begun_alone best [] name rest = refl
begun_alone best (item ∷ items) name rest =
    by (λ next. begun_alone next items name rest) (begins_with_tag name item) refl
  where
    word : List Symbol
    word = Tag name ∷ rest

    begun : List AttrItem
    begun = filter (begins_with_tag name) items

    next : Bool → Option ℕ
    next fits = cond fits (longer best (length item.tags)) best

    by : ((o : Option ℕ) → longest o (map tags_in items) word ≡ longest o (map tags_in begun) word)
        → (b : Bool) → begins_with_tag name item ≡ b →
        longest (next (item_fits item.tags word)) (map tags_in items) word
        ≡ longest best (map tags_in (cond b (item ∷ begun) begun)) word
    by more true e = more (next (item_fits item.tags word))
    by more false e = ap (λ (fits : Bool). longest (next fits) (map tags_in items) word)
        (other_first item.tags name rest e) ∙ more best

pub near_alone : (near items : List AttrItem) (name : List ℕ) (word : List Symbol) →
    BeginsWithTag name word →
    filter (begins_with_tag name) near ≡ filter (begins_with_tag name) items →
    longest None (map tags_in near) word ≡ longest None (map tags_in items) word
near_alone near items name word begins same =
    ap (longest None (map tags_in near)) begins.front
    ∙ begun_alone None near name begins.rest
    ∙ ap (λ (xs : List AttrItem). longest None (map tags_in xs) (Tag name ∷ begins.rest)) same
    ∙ sym (begun_alone None items name begins.rest)
    ∙ sym (ap (longest None (map tags_in items)) begins.front)

pub none_near : (near items : List AttrItem) (name : List ℕ) (word : List Symbol) →
    BeginsWithTag name word → length near ≡ 0 →
    filter (begins_with_tag name) near ≡ filter (begins_with_tag name) items →
    longest None (map tags_in items) word ≡ None
none_near [] items name word begins none same = sym (near_alone [] items name word begins same)
none_near (item ∷ near) items name word begins none same = absurd (omega (arith, none))

-- where there are no items, a word is passed to its end
past_all : (at : ℕ) (word : List Symbol) →
    sought at [] word ≡ (let end : Span = record { start = at + length word; count = 0 } in end)
past_all at [] =
    let e : at ≡ at + 0 = omega arith in
    ap (λ (n : ℕ). let end : Span = record { start = n; count = 0 } in end) e
past_all at (s ∷ word) =
    let e : at + 1 + length word ≡ at + suc (length word) = omega arith in
    past_all (at + 1) word
    ∙ ap (λ (n : ℕ). let end : Span = record { start = n; count = 0 } in end) e

pub sought_nothing : (attributes : List (List AttrItem)) (n at : ℕ) (word : List Symbol) →
    slice_get attributes n ≡ None → sought at (items_of attributes n) word
    ≡ (let end : Span = record { start = at + length word; count = 0 } in end)
sought_nothing attributes n at word none =
    ap (λ (o : Option (List AttrItem)). sought at (items_in o) word) none ∙ past_all at word

pub items_are : (attributes : List (List AttrItem)) (n : ℕ) (items : List AttrItem) →
    slice_get attributes n ≡ Some items → items_of attributes n ≡ map tags_in items
items_are attributes n items is = ap items_in is
