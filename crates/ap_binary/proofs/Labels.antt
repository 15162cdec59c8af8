-- What labels are read: plain ones, with a symbol on one side at least.
use Rattle.std.proofs.Common.{◌≡◌, ℕ, true, not, ◌&&◌, List, [], ◌∷◌, take, drop, refl, sym, ◌∙◌, ap, subst, IfSome, Option, Some, None}
use Rattle.std.specs.Prelude.{IsTrue, ◌==◌, if◌then◌else◌}
use Rattle.std.specs.List.{prefix_len}
use Rattle.std.proofs.lemmas.Bool.{and_parts}
use Rattle.ap_symbol.specs.TagNames.{is_tag_name}
use Rattle.ap_symbol.specs.declared.symbol.Symbol.{Symbol}
use Rattle.ap_symbol.specs.declared.symbol.Symbol.TheVariants.{Letter, Tag, Blank, Join, Queue, Alarm}
use Rattle.ap_fst.specs.Sections.{is_plain_side, is_plain_label}
use Rattle.ap_fst.specs.Sides.{has_side}
use Rattle.ap_fst.specs.declared.label.Edge.{Edge}
use Rattle.ap_fst.specs.declared.label.Label.{Label}
use Rattle.ap_binary.specs.Reading.{◌>>=◌}
use Rattle.ap_binary.specs.Pieces.{side_at, letter_at, character_at, tag_at, tag_of, is_utf8, is_name_byte, label_of, label_at, edge_at, number_then, byte_at, state_of}
use Rattle.ap_binary.proofs.Bools.{both_true}
use Rattle.ap_binary.proofs.Options.{chosen, bind_some, some_holds, some_if}
use Rattle.ap_binary.proofs.Letters.{plain_character_at, IsPlainLetter}

abbrev IsPlainRead : Option Symbol × List ℕ → Type 0
IsPlainRead v = is_plain_side v.0 ≡ true

letter_plain : (bytes : List ℕ) → IfSome (letter_at bytes) IsPlainRead
unfolding letter_at
letter_plain bytes = bind_some {A = ℕ × List ℕ} {B = Option Symbol × List ℕ} (character_at bytes)
    (λ c. Some (Some (Letter c.0), c.1)) IsPlainRead
    (λ c is. let p : IsPlainLetter c.0 = plain_character_at bytes c.1 c.0 is in ap not p.plain)

tag_plain : (name : List ℕ) (tag : Symbol) → tag_of name ≡ Some tag →
    is_plain_side (Some tag) ≡ true
tag_plain name tag h =
    let s : ((is_utf8 name && is_tag_name name) ≡ true) × (Tag name ≡ tag) =
    some_if (is_utf8 name && is_tag_name name) (Tag name) tag h in
    ap (λ (t : Symbol). is_plain_side (Some t)) (sym s.1)
    ∙ (and_parts (is_utf8 name) (is_tag_name name) s.0).1

tag_at_plain : (bytes : List ℕ) → IfSome (tag_at bytes) IsPlainRead
unfolding tag_at
tag_at_plain bytes = bind_some {A = Symbol} {B = Option Symbol × List ℕ}
    (tag_of (take (prefix_len is_name_byte bytes) bytes))
    (λ tag. Some (Some tag, drop (prefix_len is_name_byte bytes) bytes)) IsPlainRead
    (λ tag is. tag_plain (take (prefix_len is_name_byte bytes) bytes) tag is)

pub side_plain : (bytes : List ℕ) → IfSome (side_at bytes) IsPlainRead
unfolding side_at
side_plain [] = tt
side_plain (b ∷ rest) =
    let P : Option Symbol × List ℕ → Type 0 = IsPlainRead in
    let last : IfSome (if b == 65 then Some (Some Alarm, rest) else None) P =
    chosen (b == 65) (Some (Some Alarm, rest)) None P refl tt in
    let queue = chosen (b == 81) (Some (Some Queue, rest)) (if b == 65 then Some (Some Alarm, rest)
    else None) P refl last in
    let join = chosen (b == 74) (Some (Some Join, rest)) (if b == 81 then Some (Some Queue, rest)
    else (if b == 65 then Some (Some Alarm, rest) else None)) P refl queue in
    let blank = chosen (b == 66) (Some (Some Blank, rest)) (if b == 74 then Some (Some Join, rest)
    else (if b == 81 then Some (Some Queue, rest)
    else (if b == 65 then Some (Some Alarm, rest) else None))) P refl join in
    let tag = chosen (b == 84) (tag_at rest) (if b == 66 then Some (Some Blank, rest)
    else (if b == 74 then Some (Some Join, rest)
    else (if b == 81 then Some (Some Queue, rest)
    else (if b == 65 then Some (Some Alarm, rest) else None)))) P (tag_at_plain rest) blank in
    let letter = chosen (b == 76) (letter_at rest) (if b == 84 then tag_at rest
    else (if b == 66 then Some (Some Blank, rest)
    else (if b == 74 then Some (Some Join, rest)
    else (if b == 81 then Some (Some Queue, rest)
    else (if b == 65 then Some (Some Alarm, rest) else None))))) P (letter_plain rest) tag in
    chosen (b == 45) (Some (None, rest)) (if b == 76 then letter_at rest
    else (if b == 84 then tag_at rest
    else (if b == 66 then Some (Some Blank, rest)
    else (if b == 74 then Some (Some Join, rest)
    else (if b == 81 then Some (Some Queue, rest)
    else (if b == 65 then Some (Some Alarm, rest) else None)))))) P refl letter

pub record IsGoodLabel (l : Label) : Type 0 where
  pub sided : IsTrue (has_side l)
  pub plain : IsTrue (is_plain_label l)

good_label : (left right : Option Symbol) (label : Label) → is_plain_side left ≡ true →
    is_plain_side right ≡ true → label_of left right ≡ Some label → IsGoodLabel label
good_label left right label p q h =
    let made : Label = record { left = left; right = right } in
    let s : (has_side made ≡ true) × (made ≡ label) = some_if (has_side made) made label h in
    subst IsGoodLabel s.1 (record {
      sided = s.0;
      plain =
          both_true (is_plain_side left) (is_plain_side right) p q;
    })

pub label_good : (bytes : List ℕ) → IfSome (label_at bytes) (λ x. IsGoodLabel x.0)
unfolding label_at
label_good bytes =
    let P : Label × List ℕ → Type 0 = λ x. IsGoodLabel x.0 in
    bind_some {A = Option Symbol × List ℕ} {B = Label × List ℕ} (side_at bytes)
    (λ left. ◌>>=◌ {A = List ℕ} {B = Label × List ℕ} (byte_at 32 left.1)
    (λ after. ◌>>=◌ {A = Option Symbol × List ℕ} {B = Label × List ℕ} (side_at after)
    (λ right. ◌>>=◌ {A = Label} {B = Label × List ℕ} (label_of left.0 right.0)
    (λ label. Some (label, right.1))))) P
    (λ left is. bind_some {A = List ℕ} {B = Label × List ℕ} (byte_at 32 left.1)
    (λ after. ◌>>=◌ {A = Option Symbol × List ℕ} {B = Label × List ℕ} (side_at after)
    (λ right. ◌>>=◌ {A = Label} {B = Label × List ℕ} (label_of left.0 right.0)
    (λ label. Some (label, right.1)))) P
    (λ after is2. bind_some {A = Option Symbol × List ℕ} {B = Label × List ℕ} (side_at after)
    (λ right. ◌>>=◌ {A = Label} {B = Label × List ℕ} (label_of left.0 right.0)
    (λ label. Some (label, right.1))) P
    (λ right is3. bind_some {A = Label} {B = Label × List ℕ} (label_of left.0 right.0)
    (λ label. Some (label, right.1)) P
    (λ label is4. good_label left.0 right.0 label
    (some_holds (side_at bytes) left IsPlainRead (side_plain bytes) is)
    (some_holds (side_at after) right IsPlainRead (side_plain after) is3) is4))))

pub edge_good : (bytes : List ℕ) → IfSome (edge_at bytes) (λ x. IsGoodLabel x.0.label)
unfolding edge_at
edge_good bytes =
    let P : Edge × List ℕ → Type 0 = λ x. IsGoodLabel x.0.label in
    let N : Type 0 = Option ℕ × List ℕ in
    let E : Type 0 = Edge × List ℕ in
    bind_some {A = N} {B = E} (number_then 32 bytes)
    (λ from. ◌>>=◌ {A = Label × List ℕ} {B = E} (label_at from.1)
    (λ label. ◌>>=◌ {A = List ℕ} {B = E} (byte_at 32 label.1)
    (λ after. ◌>>=◌ {A = N} {B = E} (number_then 10 after)
    (λ to. Some (
      record {
        from = state_of from.0;
        label = label.0;
        to =
            state_of to.0;
      },
      to.1,
    ))))) P
    (λ from is. bind_some {A = Label × List ℕ} {B = E} (label_at from.1)
    (λ label. ◌>>=◌ {A = List ℕ} {B = E} (byte_at 32 label.1)
    (λ after. ◌>>=◌ {A = N} {B = E} (number_then 10 after)
    (λ to. Some (
      record {
        from = state_of from.0;
        label = label.0;
        to =
            state_of to.0;
      },
      to.1,
    )))) P
    (λ label is2. bind_some {A = List ℕ} {B = E} (byte_at 32 label.1)
    (λ after. ◌>>=◌ {A = N} {B = E} (number_then 10 after)
    (λ to. Some (record { from = state_of from.0; label = label.0; to = state_of to.0 }, to.1)))
    P
    (λ after is3. bind_some {A = N} {B = E} (number_then 10 after)
    (λ to. Some (
      record {
        from = state_of from.0;
        label = label.0;
        to =
            state_of to.0;
      },
      to.1,
    )) P
    (λ to is4. some_holds (label_at from.1) label (λ x. IsGoodLabel x.0) (label_good from.1) is2))))
