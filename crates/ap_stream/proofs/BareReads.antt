-- Bare runs are read as their items, and so is each end of one.
use Rattle.std.specs.Prelude.{◌≡◌, ℕ, suc, ◌+◌, ◌≤◌, ◌<◌, List, [], ◌∷◌, ◌++◌, drop, length, Bool, true, false, ◌&&◌, ◌||◌, eqb, nat_lt, refl, encode_utf8}
use Rattle.std.proofs.Common.{zero, inl, arith, ap, sym, subst, ◌∙◌, ◌-◌, length-drop}
use Rattle.std.proofs.lemmas.Bool.{ltb-true}
use Rattle.std.proofs.lemmas.Str.{encode_ascii}
use Rattle.ap_stream.specs.declared.dialect.Dialect.{Dialect}
use Rattle.ap_stream.specs.declared.dialect.Dialect.TheVariants.{Raw}
use Rattle.ap_stream.specs.declared.item.Item.{Item}
use Rattle.ap_stream.specs.declared.item.Item.TheVariants as item
use Rattle.ap_stream.specs.declared.item.Read.{Read}
use Rattle.ap_stream.specs.Bare.{plain_byte, plain_first, bare_run, bare_item, bare_items}
use Rattle.ap_stream.specs.Blanks.{is_white}
use Rattle.ap_stream.specs.Copying.{is_common, preceded}
use Rattle.ap_stream.specs.Reading.{plain, reads, read_at, counted}
use Rattle.ap_stream.proofs.Copied.{none, common_free, common_reads, white_reads, counted_twice, counted_is}

both : (a b : Bool) → (a && b) ≡ true → (a ≡ true) × (b ≡ true)
both true true e = (refl, refl)
both true false e = absurd (cc)
both false b e = absurd (cc)

other : (a b : Bool) → a ≡ false → (a || b) ≡ true → b ≡ true
other true b h e = absurd (cc)
other false b h e = e

bare_plain : (b : ℕ) (t : Bool) → is_white b ≡ t → t ≡ false → bare_item b ≡ plain b false
bare_plain b true h e = absurd (cc)
bare_plain b false h e = rw h refl

bare_white : (b : ℕ) (t : Bool) → is_white b ≡ t → t ≡ true → bare_item b ≡ item.Blank (b ∷ [])
bare_white b false h e = absurd (cc)
bare_white b true h e = rw h refl

module _ (dialect : Dialect) where
  -- a plain character at the front
  plain_reads : (b : ℕ) → plain_byte b ≡ true → (place : ℕ) (x : List ℕ) →
      reads dialect place (b ∷ x)
      ≡ preceded (read_at place (bare_item b) 1 ∷ []) (reads dialect (counted (place + 1)) x)
  plain_reads b h place x =
      let k = both (nat_lt b 128) (is_common b) h in
      let low : b < 128 = ltb-true b 128 k.0 in
      let one : encode_utf8 b ≡ b ∷ [] = encode_ascii b low in
      let dark = (none (is_white b) (eqb b 91) (common_free b k.1 Raw).blank).0 in
      let is : bare_item b ≡ plain b false = bare_plain b false dark refl in
      subst (λ (i : Item). reads dialect place (b ∷ x)
      ≡ preceded (read_at place i 1 ∷ []) (reads dialect (counted (place + 1)) x)) (sym is)
      (subst (λ (q : List ℕ). reads dialect place (q ++ x)
      ≡ preceded (read_at place (plain b false) (length q) ∷ [])
      (reads dialect (counted (place + length q)) x)) one
      (common_reads dialect b (inl (omega (arith, low))) k.1 place x))

  -- white space at the front, before a plain character
  blank_reads : (b : ℕ) (bytes : List ℕ) → is_white b ≡ true → plain_first bytes ≡ true →
      (place : ℕ) (x : List ℕ) → reads dialect place (b ∷ (bytes ++ x))
      ≡ preceded (read_at place (bare_item b) 1 ∷ [])
      (reads dialect (counted (place + 1)) (bytes ++ x))
  blank_reads b [] white h place x = absurd (cc)
  blank_reads b (c ∷ bytes) white h place x =
      let k = both (nat_lt c 128) (is_common c) h in
      let n = none (is_white c) (eqb c 91) (common_free c k.1 Raw).blank in
      let is : bare_item b ≡ item.Blank (b ∷ []) = bare_white b true white refl in
      subst (λ (i : Item). reads dialect place (b ∷ c ∷ (bytes ++ x))
      ≡ preceded (read_at place i 1 ∷ [])
      (reads dialect (counted (place + 1)) (c ∷ (bytes ++ x)))) (sym is)
      (white_reads dialect b c (bytes ++ x) white n.0 n.1 place)

  one_reads : (b : ℕ) (bytes : List ℕ) (t : Bool) → plain_byte b ≡ t →
      (t || (is_white b && plain_first bytes)) ≡ true → (place : ℕ) (x : List ℕ) →
      reads dialect place (b ∷ (bytes ++ x))
      ≡ preceded (read_at place (bare_item b) 1 ∷ [])
      (reads dialect (counted (place + 1)) (bytes ++ x))
  one_reads b bytes true h e place x = plain_reads b h place (bytes ++ x)
  one_reads b bytes false h e place x =
      let k = both (is_white b) (plain_first bytes) (other false _ refl e) in
      blank_reads b bytes k.0 k.1 place x

  pub bare_reads : (bytes : List ℕ) → bare_run bytes ≡ true → (place : ℕ) →
      counted place ≡ place → (x : List ℕ) → reads dialect place (bytes ++ x)
      ≡ preceded (bare_items place bytes) (reads dialect (counted (place + length bytes)) x)
  bare_reads [] h place counts x =
      let e : counted (place + 0) ≡ place = ap counted (omega arith) ∙ counts in
      ap (λ (q : ℕ). reads dialect q x) (sym e)
  bare_reads (b ∷ bytes) h place counts x =
      let k = both (plain_byte b || (is_white b && plain_first bytes)) (bare_run bytes) h in
      let far : counted (counted (place + 1) + length bytes)
      ≡ counted (place + length (b ∷ bytes)) =
      counted_twice place 1 (length bytes) ∙ ap (λ n. counted (place + n)) (omega arith) in
      one_reads b bytes (plain_byte b) refl k.0 place x
      ∙ ap (preceded (read_at place (bare_item b) 1 ∷ []))
      (bare_reads bytes k.1 (counted (place + 1)) (counted_is (place + 1)) x)
      ∙ ap (λ (q : ℕ). preceded (bare_items place (b ∷ bytes)) (reads dialect q x)) far

-- an end of a bare run
pub bare_drop : (n : ℕ) (bytes : List ℕ) → bare_run bytes ≡ true → bare_run (drop n bytes) ≡ true
bare_drop zero bytes h = h
bare_drop (suc n) [] h = h
bare_drop (suc n) (b ∷ bytes) h =
    bare_drop n bytes
    (both (plain_byte b || (is_white b && plain_first bytes)) (bare_run bytes) h).1

pub drop_items : (n : ℕ) (place : ℕ) (bytes : List ℕ) → counted place ≡ place → n ≤ length bytes →
    drop n (bare_items place bytes) ≡ bare_items (counted (place + n)) (drop n bytes)
drop_items zero place bytes counts fits =
    let e : counted (place + 0) ≡ place = ap counted (omega arith) ∙ counts in
    ap (λ (q : ℕ). bare_items q bytes) (sym e)
drop_items (suc n) place [] counts fits = absurd (omega (arith, fits))
drop_items (suc n) place (b ∷ bytes) counts fits =
    let far : counted (counted (place + 1) + n) ≡ counted (place + suc n) =
    counted_twice place 1 n ∙ ap (λ m. counted (place + m)) (omega arith) in
    drop_items n (counted (place + 1)) bytes (counted_is (place + 1)) (omega (arith, fits))
    ∙ ap (λ (q : ℕ). bare_items q (drop n bytes)) far

-- the first items of a run are used, and the others are still to be read
pub rest_reads : (dialect : Dialect) (bytes : List ℕ) (n : ℕ) → bare_run bytes ≡ true →
    n ≤ length bytes → (place : ℕ) → counted place ≡ place → (x : List ℕ) →
    reads dialect (counted (place + n)) (drop n bytes ++ x)
    ≡ preceded (drop n (bare_items place bytes))
    (reads dialect (counted (place + length bytes)) x)
rest_reads dialect bytes n h fits place counts x =
    let size : length (drop n bytes) ≡ length bytes - n = length-drop n bytes in
    let far : counted (counted (place + n) + length (drop n bytes))
    ≡ counted (place + length bytes) =
    counted_twice place n (length (drop n bytes))
    ∙ ap (λ m. counted (place + m)) (omega (arith, size, fits)) in
    bare_reads dialect (drop n bytes) (bare_drop n bytes h) (counted (place + n))
    (counted_is (place + n)) x
    ∙ ap (λ (q : ℕ). preceded (bare_items (counted (place + n)) (drop n bytes))
    (reads dialect q x)) far
    ∙ ap (λ (q : List Read). preceded q (reads dialect (counted (place + length bytes)) x))
    (sym (drop_items n place bytes counts fits))

pub items_size : (place : ℕ) (bytes : List ℕ) → length (bare_items place bytes) ≡ length bytes
items_size place [] = refl
items_size place (b ∷ bytes) = ap suc (items_size (counted (place + 1)) bytes)
