-- The turn of a tool that handles each item by itself.
use Rattle.std.specs.Prelude.{◌≡◌, ℕ, ◌+◌, ◌-◌, ◌<◌, ◌≤◌, leb, nat_lt, Bool, true, false, List, [], ◌∷◌, ◌++◌, length, Option, Some, None, refl, IfSome}
use Rattle.std.proofs.Common.{arith, ap, sym, subst, ◌∙◌, length-append}
use Rattle.std.proofs.lemmas.Bool.Decides.{nat_tests}
use Rattle.ap_stream.specs.Limits.{stage_max, unit_max}
use Rattle.ap_symbol.specs.declared.symbol.Symbol.{Symbol}
use Rattle.ap_stream.specs.declared.dialect.Dialect.{Dialect}
use Rattle.ap_stream.specs.declared.item.Item.{Item}
use Rattle.ap_stream.specs.declared.item.Item.TheVariants as item
use Rattle.ap_stream.specs.declared.item.Read.{Read}
use Rattle.ap_stream.specs.Reading.{IsRead, read_at}
use Rattle.ap_stream.specs.Spelling.{spelled}
use Rattle.ap_stream.specs.Told.{behind}
use Rattle.ap_stream.specs.Each.{each, item_text, is_over, is_worded, Single, held_items, held_size}
use Rattle.ap_stream.specs.Copying.{GivesUnit}
use Rattle.ap_stream.specs.UnitBytes.{UnitOf}
use Rattle.ap_stream.proofs.BareSpells.{bare_size}
use Rattle.ap_stream.proofs.UnitWords.{words_are}

module _ (given : List (List Symbol) → List ℕ) (read : Read) (xs : List Read) where
  pub each_writes : is_over given read.item ≡ false →
      behind (item_text given read.item) (each given xs) ≡ each given (read ∷ xs)
  each_writes e = rw e refl

under : (n : ℕ) → nat_lt unit_max n ≡ false → n ≤ unit_max
under n h = grind (arith, nat_tests)

-- what a turn writes is within the bound
sized : (given : List (List Symbol) → List ℕ) (thing : Item) (size : ℕ) →
    is_over given thing ≡ false → (is_worded thing ≡ false → length (spelled thing) ≤ size) →
    size ≤ unit_max → length (item_text given thing) ≤ unit_max
sized given (item.Plain c) size e h short = let k = h refl in omega (arith, k, short)
sized given (item.Blank bytes) size e h short = let k = h refl in omega (arith, k, short)
sized given (item.Unit words) size e h short = under (length (given words)) e
sized given (item.Chunk c) size e h short = under (length (spelled (item.Chunk c))) e

pub text_fits : (given : List (List Symbol) → List ℕ) (dialect : Dialect) (read : Read) →
    is_over given read.item ≡ false → IsRead dialect read →
    length (item_text given read.item) ≤ unit_max
text_fits given dialect read e h =
    sized given read.item read.size e (λ w. bare_size dialect read w h) h.short

-- an item that isn't made of words gives its spelling, however long
pub bare_text : (given : List (List Symbol) → List ℕ) (thing : Item) → is_worded thing ≡ false →
    spelled thing ≡ item_text given thing
bare_text given (item.Plain c) h = refl
bare_text given (item.Blank bytes) h = refl
bare_text given (item.Unit words) h = absurd (cc)
bare_text given (item.Chunk c) h = absurd (cc)

pub bare_under : (given : List (List Symbol) → List ℕ) (thing : Item) → is_worded thing ≡ false →
    is_over given thing ≡ false
bare_under given thing h = rw h refl

module _ {W : Type 0} (given : W → List (List Symbol) → List ℕ) (now : Single W) (writer after : W)
    (dialect : Dialect) (held next : Option Read) (finished : Bool)
    (view : record { writer = writer; dialect = dialect; item = held; finished = finished } ≡ now)
    (read : Read) (is : held ≡ Some read) (invariant : IfSome held (IsRead dialect))
    (text old new : List ℕ) (t : text ≡ item_text (given writer) read.item)
    (same : given after ≡ given writer) (under_max : is_over (given writer) read.item ≡ false)
    (e : new ≡ old ++ text) (gone : next ≡ None) where
  is_read : IsRead dialect read
  is_read = subst (λ (h : Option Read). IfSome h (IsRead dialect)) is invariant

  pub turn_wrote : (x : List ℕ) × (new ≡ old ++ x) × (length x ≤ stage_max)
      × (length (held_items next) < length (held_items now.item))
      × (held_size next < held_size now.item) × (dialect ≡ now.dialect) × (finished ≡ now.finished)
      × ((xs : List Read) → (now.finished ≡ true → xs ≡ []) →
      behind x (each (given after) (held_items next ++ xs))
      ≡ each (given now.writer) (held_items now.item ++ xs))
  turn_wrote =
      let fits : length text ≤ stage_max = let l =
      text_fits (given writer) dialect read under_max is_read in let m = ap length t in
      omega (arith, l, m) in
      rw (← view, gone, is) (
        text,
        e,
        fits,
        omega arith,
        is_read.some,
        refl,
        refl,
        λ xs f. rw (same, t) (each_writes (given writer) read xs under_max),
      )

pub few_appended : (old text new : List ℕ) → new ≡ old ++ text →
    leb (length new - length old) unit_max ≡ true → length text ≤ unit_max
few_appended old text new e h =
    let l : length new ≡ length old + length text = ap length e ∙ length-append old text in
    let k : length new - length old ≤ unit_max = grind (arith, nat_tests) in omega (arith, l, k)

over : (n : ℕ) → n ≤ unit_max → nat_lt unit_max n ≡ false
over n h = grind (arith, nat_tests)

past : (n : ℕ) → unit_max < n → nat_lt unit_max n ≡ true
past n h = grind (arith, nat_tests)

-- a unit that gives too much
pub unit_over : (given : List (List Symbol) → List ℕ) (words : List (List Symbol)) →
    unit_max < length (given words) → is_over given (item.Unit words) ≡ true
unit_over given words h = past (length (given words)) h

none_held : (held : Option Read) → length (held_items held) ≡ 0 → held ≡ None
none_held None e = refl
none_held (Some read) e = absurd (omega (arith, e))

-- a unit that is taken by itself
pub unit_gives : {W : Type 0} (given : W → List (List Symbol) → List ℕ) (now : Single W)
    (writer after : W) (dialect : Dialect) (held : Option Read) (finished : Bool) →
    record { writer = writer; dialect = dialect; item = held; finished = finished } ≡ now →
    length (held_items now.item) ≡ 0 → given after ≡ given writer → (bytes : List ℕ)
    (words : List (List Symbol)) → UnitOf dialect bytes words →
    length (given writer words) ≤ unit_max →
    GivesUnit (λ h xs. each (given h.writer) (held_items h.item ++ xs)) now.dialect now
    (record { writer = after; dialect = dialect; item = held; finished = finished }) bytes
    (given writer words)
unit_gives given now writer after dialect held finished view none same bytes words is short =
    let gone : held ≡ None = none_held held (rw (← view) at none) in
    record {
      short = short;
      gives = λ place size xs. rw (← view, gone, words_are dialect bytes words is, same)
          (sym (each_writes (given writer) (read_at place (item.Unit words) size) xs
          (over (length (given writer words)) short)));
    }
