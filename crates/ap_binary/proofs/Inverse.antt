-- What is read is what stands there: the fields and lines of the value, written again, are the
-- bytes that were read.
use Rattle.std.proofs.Common.{◌≡◌, inl, inr, ℕ, suc, zero, ◌+◌, ◌-◌, ◌^◌, ◌<◌, eqb, true, false, not, ◌||◌, ◌&&◌, nat_le, nat_lt, List, [], ◌∷◌, ◌++◌, length, take, drop, get_or, refl, sym, ◌∙◌, ap, subst, arith, append_assoc, IfSome, Option, Some, None}
use Rattle.std.specs.Prelude.{◌==◌, if◌then◌else◌, decimal, codes}
use Rattle.std.specs.List.{prefix_len, flat_map, list_all}
use Rattle.std.specs.Str.{all_ascii_digits, bytes_eq}
use Rattle.std.proofs.lemmas.Bool.{and_parts, cases_Bool}
use Rattle.std.proofs.lemmas.Bool.Decides.{nat_tests}
use Rattle.std.proofs.lemmas.Fmt.{decimal-digits_value}
use Rattle.std.proofs.lemmas.List.{take-append-drop}
use Rattle.std.proofs.lemmas.Slice.Eq.{bytes_eq-Decides}
use Rattle.ap_symbol.specs.Alphabet.{is_closed}
use Rattle.ap_symbol.specs.TagNames.{is_tag_name}
use Rattle.ap_symbol.specs.Words.{is_white}
use Rattle.ap_symbol.specs.declared.symbol.Symbol.{Symbol}
use Rattle.ap_symbol.specs.declared.symbol.Symbol.TheVariants.{Letter, Tag, Blank, Join, Queue, Alarm}
use Rattle.ap_fst.specs.Sides.{has_side}
use Rattle.ap_fst.specs.declared.compiled.Kind2.{Kind2}
use Rattle.ap_fst.specs.declared.label.Edge.{Edge}
use Rattle.ap_fst.specs.declared.label.Label.{Label}
use Rattle.ap_binary.specs.Held.{is_held_side, is_held_label, is_held_edge}
use Rattle.ap_binary.specs.Reading.{◌>>=◌}
use Rattle.ap_binary.specs.Pieces.{byte_at, word_at, is_digit, value_after, is_numeral, limited, number_at, state_of, is_character, scalar_of, unless_white, character_of, character_at, letter_at, is_utf8, is_name_byte, tag_of, tag_at, side_at, label_of, label_at, number_then, edge_at, final_at, kind_at, head_at, begins_with, next_letter_at, with_letters, letters_in, alphabet_at}
use Rattle.ap_binary.specs.Text.{side_text, then_space, then_end, edge_text, final_text, section_name, head_of, letter_text, alphabet_text}
use Rattle.ap_binary.specs.declared.heads.Head.{Head}
use Rattle.ap_binary.proofs.Bools.{or_cases, both_true, not_true, eqb_is}
use Rattle.ap_binary.proofs.Numbers.{some_limited}
use Rattle.ap_binary.proofs.Numerals.{own}
use Rattle.ap_binary.proofs.Options.{bound, IsBound, some_if, some_unless, chosen, chosen_by, chosen_if, map_some, bind_some, some_holds}
use Rattle.ap_binary.proofs.Letters.{IsPlainLetter, plain_character}
use Rattle.ap_binary.proofs.Rereading.{spaced, ended, four}

-- ---- numbers

digits_front : (bs : List ℕ) → all_ascii_digits (take (prefix_len is_digit bs) bs) ≡ true
digits_front [] = refl
digits_front (b ∷ bs) = elim (cases_Bool (is_digit b)) [
  | inl e ↦
      let q : prefix_len is_digit (b ∷ bs) ≡ suc (prefix_len is_digit bs) = rw e (omega arith) in
      let k : all_ascii_digits (take (prefix_len is_digit bs) bs) ≡ true = digits_front bs in
      ap (λ i. all_ascii_digits (take i (b ∷ bs))) q ∙ rw (e, k) refl
  | inr e ↦ let q : prefix_len is_digit (b ∷ bs) ≡ zero = rw e refl in
      ap (λ i. all_ascii_digits (take i (b ∷ bs))) q
]

numeral_some : (ds : List ℕ) → is_numeral ds ≡ true → 0 < length ds
numeral_some ds h = let e : nat_lt 0 (length ds) ≡ true =
    (and_parts (nat_lt 0 (length ds)) (not (eqb (get_or ds 0 0) 48) || eqb (length ds) 1) h).0 in
    grind (arith, nat_tests, e)

numeral_lead : (ds : List ℕ) → is_numeral ds ≡ true → get_or ds 0 0 ≡ 48 → length ds ≡ 1
numeral_lead ds h first =
    elim (or_cases (not (eqb (get_or ds 0 0) 48)) (eqb (length ds) 1)
    (and_parts (nat_lt 0 (length ds)) (not (eqb (get_or ds 0 0) 48) || eqb (length ds) 1) h).1) [
      | inl e ↦ let f : eqb (get_or ds 0 0) 48 ≡ false = not_true (eqb (get_or ds 0 0) 48) e in
          absurd (grind (arith, nat_tests, f, first))
      | inr e ↦ eqb_is (length ds) 1 e
    ]

abbrev IsNumberOf : List ℕ → Option ℕ × List ℕ → Type 0
IsNumberOf bytes v = (n : ℕ) → v.0 ≡ Some n → (bytes ≡ decimal n ++ v.1) × (n < 2 ^ 64)

number_inv : (bytes : List ℕ) → IfSome (number_at bytes) (IsNumberOf bytes)
unfolding number_at
number_inv bytes =
    let k : ℕ = prefix_len is_digit bytes in
    let ds : List ℕ = take k bytes in
    chosen_if (is_numeral ds) (limited (value_after 0 ds), drop k bytes) (IsNumberOf bytes)
    (λ numeral n e.
    let s : (n ≡ value_after 0 ds) × (value_after 0 ds < 2 ^ 64) =
    some_limited n (value_after 0 ds) (sym e) in
    let d : decimal (value_after 0 ds) ≡ ds =
    decimal-digits_value own ds (digits_front bytes) (numeral_some ds numeral)
    (numeral_lead ds numeral) s.1 in (
      sym (take-append-drop k bytes) ∙ ap (λ z. z ++ drop k bytes) (sym d ∙ ap decimal (sym s.0)),
      omega (arith, s.0, s.1),
    ))

byte_inv : (b : ℕ) (bytes : List ℕ) → IfSome (byte_at b bytes) (λ rest. bytes ≡ b ∷ rest)
unfolding byte_at
byte_inv b [] = tt
byte_inv b (c ∷ rest) = chosen_if (c == b) rest (λ z. c ∷ rest ≡ b ∷ z)
    (λ e. ap (λ z. z ∷ rest) (eqb_is c b e))

pub byte_is : (b : ℕ) (bytes rest : List ℕ) → byte_at b bytes ≡ Some rest → bytes ≡ b ∷ rest
byte_is b bytes rest is =
    some_holds (byte_at b bytes) rest (λ z. bytes ≡ b ∷ z) (byte_inv b bytes) is

word_inv : (w bytes : List ℕ) → IfSome (word_at w bytes) (λ rest. bytes ≡ w ++ rest)
unfolding word_at
word_inv w bytes = chosen_if (bytes_eq (take (length w) bytes) w) (drop (length w) bytes)
    (λ rest. bytes ≡ w ++ rest)
    (λ e. sym (take-append-drop (length w) bytes)
    ∙ ap (λ z. z ++ drop (length w) bytes) ((bytes_eq-Decides (take (length w) bytes) w).0 e))

pub word_is : (w bytes rest : List ℕ) → word_at w bytes ≡ Some rest → bytes ≡ w ++ rest
word_is w bytes rest is =
    some_holds (word_at w bytes) rest (λ z. bytes ≡ w ++ z) (word_inv w bytes) is

then_inv : (b : ℕ) (bytes : List ℕ) →
    IfSome (number_then b bytes) (λ v. (n : ℕ) → v.0 ≡ Some n → (bytes ≡ decimal n ++ b ∷ v.1)
    × (n < 2 ^ 64))
unfolding number_then
then_inv b bytes =
    let N : Type 0 = Option ℕ × List ℕ in
    let P : N → Type 0 = λ v. (n : ℕ) → v.0 ≡ Some n → (bytes ≡ decimal n ++ b ∷ v.1)
    × (n < 2 ^ 64) in
    bind_some {A = N} {B = N} (number_at bytes)
    (λ n. ◌>>=◌ {A = List ℕ} {B = N} (byte_at b n.1) (λ rest. Some (n.0, rest))) P
    (λ n is. bind_some {A = List ℕ} {B = N} (byte_at b n.1) (λ rest. Some (n.0, rest)) P
    (λ rest is2 k e. let r : (bytes ≡ decimal k ++ n.1) × (k < 2 ^ 64) =
    some_holds (number_at bytes) n (IsNumberOf bytes) (number_inv bytes) is k e in
    (r.0 ∙ ap (λ z. decimal k ++ z) (byte_is b n.1 rest is2), r.1)))

then_is : (b : ℕ) (bytes : List ℕ) (v : Option ℕ × List ℕ) (n : ℕ) → number_then b bytes ≡ Some v →
    v.0 ≡ Some n → (bytes ≡ decimal n ++ b ∷ v.1) × (n < 2 ^ 64)
then_is b bytes v n is e =
    some_holds (number_then b bytes) v (λ w. (k : ℕ) → w.0 ≡ Some k → (bytes ≡ decimal k ++ b ∷ w.1)
    × (k < 2 ^ 64)) (then_inv b bytes) is n e

-- ---- sides

of_number : (n : Option ℕ) (c : ℕ) → character_of n ≡ Some c → n ≡ Some c
of_number None c h = cc
of_number (Some k) c h =
    let b : IsBound (scalar_of k) unless_white c = bound (scalar_of k) unless_white c h in
    let s : (is_character k ≡ true) × (k ≡ b.x) = some_if (is_character k) k b.x b.is in
    let u : (is_white b.x ≡ false) × (b.x ≡ c) = some_unless (is_white b.x) b.x c b.gives in
    ap (λ (z : ℕ). let o : Option ℕ = Some z in o) (s.1 ∙ u.1)

abbrev IsCharacterOf : List ℕ → ℕ × List ℕ → Type 0
IsCharacterOf bytes v = (bytes ≡ decimal v.0 ++ v.1) × (is_character v.0 ≡ true)

character_inv : (bytes : List ℕ) → IfSome (character_at bytes) (IsCharacterOf bytes)
unfolding character_at
character_inv bytes =
    let N : Type 0 = Option ℕ × List ℕ in
    let C : Type 0 = ℕ × List ℕ in
    bind_some {A = N} {B = C} (number_at bytes)
    (λ n. ◌>>=◌ {A = ℕ} {B = C} (character_of n.0) (λ c. Some (c, n.1))) (IsCharacterOf bytes)
    (λ n is. bind_some {A = ℕ} {B = C} (character_of n.0) (λ c. Some (c, n.1)) (IsCharacterOf bytes)
    (λ c is2.
    let plain : IsPlainLetter c = plain_character n.0 c is2 in
    let r : (bytes ≡ decimal c ++ n.1) × (c < 2 ^ 64) =
    some_holds (number_at bytes) n (IsNumberOf bytes) (number_inv bytes) is c
    (of_number n.0 c is2) in
    (r.0, plain.char)))

abbrev IsSideOf : List ℕ → Option Symbol × List ℕ → Type 0
IsSideOf bytes v = (bytes ≡ side_text v.0 ++ v.1) × (is_held_side v.0 ≡ true)

letter_inv : (bytes : List ℕ) → IfSome (letter_at bytes) (IsSideOf (76 ∷ bytes))
unfolding letter_at
letter_inv bytes = bind_some {A = ℕ × List ℕ} {B = Option Symbol × List ℕ} (character_at bytes)
    (λ c. Some (Some (Letter c.0), c.1)) (IsSideOf (76 ∷ bytes))
    (λ c is. let r : IsCharacterOf bytes c =
    some_holds (character_at bytes) c (IsCharacterOf bytes) (character_inv bytes) is in
    (ap (λ z. 76 ∷ z) r.0, r.1))

tag_inv : (bytes : List ℕ) → IfSome (tag_at bytes) (IsSideOf (84 ∷ bytes))
unfolding tag_at
tag_inv bytes =
    let k : ℕ = prefix_len is_name_byte bytes in
    let name : List ℕ = take k bytes in
    bind_some {A = Symbol} {B = Option Symbol × List ℕ} (tag_of name)
    (λ tag. Some (Some tag, drop k bytes)) (IsSideOf (84 ∷ bytes))
    (λ tag is.
    let s : ((is_utf8 name && is_tag_name name) ≡ true) × (Tag name ≡ tag) =
    some_if (is_utf8 name && is_tag_name name) (Tag name) tag is in
    subst (λ (t : Symbol). IsSideOf (84 ∷ bytes) (Some t, drop k bytes)) s.1
    (ap (λ z. 84 ∷ z) (sym (take-append-drop k bytes)), s.0))

side_inv : (bytes : List ℕ) → IfSome (side_at bytes) (IsSideOf bytes)
unfolding side_at
side_inv [] = tt
side_inv (b ∷ rest) =
    let P : Option Symbol × List ℕ → Type 0 = IsSideOf (b ∷ rest) in
    let first : (n : ℕ) → eqb b n ≡ true → b ∷ rest ≡ n ∷ rest =
    λ n e. ap (λ z. z ∷ rest) (eqb_is b n e) in
    let last : IfSome (if b == 65 then Some (Some Alarm, rest) else None) P =
    chosen_by (b == 65) (Some (Some Alarm, rest)) None P (λ e. (first 65 e, refl)) tt in
    let queue = chosen_by (b == 81) (Some (Some Queue, rest)) (if b == 65
    then Some (Some Alarm, rest) else None) P (λ e. (first 81 e, refl)) last in
    let join = chosen_by (b == 74) (Some (Some Join, rest)) (if b == 81 then Some (Some Queue, rest)
    else (if b == 65 then Some (Some Alarm, rest) else None)) P
    (λ e. (first 74 e, refl)) queue in
    let blank = chosen_by (b == 66) (Some (Some Blank, rest)) (if b == 74
    then Some (Some Join, rest)
    else (if b == 81 then Some (Some Queue, rest)
    else (if b == 65 then Some (Some Alarm, rest) else None))) P
    (λ e. (first 66 e, refl)) join in
    let tag = chosen_by (b == 84) (tag_at rest) (if b == 66 then Some (Some Blank, rest)
    else (if b == 74 then Some (Some Join, rest)
    else (if b == 81 then Some (Some Queue, rest)
    else (if b == 65 then Some (Some Alarm, rest) else None)))) P
    (λ e. map_some (tag_at rest) (IsSideOf (84 ∷ rest)) P (λ v q. (first 84 e ∙ q.0, q.1))
    (tag_inv rest)) blank in
    let letter = chosen_by (b == 76) (letter_at rest) (if b == 84 then tag_at rest
    else (if b == 66 then Some (Some Blank, rest)
    else (if b == 74 then Some (Some Join, rest)
    else (if b == 81 then Some (Some Queue, rest)
    else (if b == 65 then Some (Some Alarm, rest) else None))))) P
    (λ e. map_some (letter_at rest) (IsSideOf (76 ∷ rest)) P (λ v q. (first 76 e ∙ q.0, q.1))
    (letter_inv rest)) tag in
    chosen_by (b == 45) (Some (None, rest)) (if b == 76 then letter_at rest
    else (if b == 84 then tag_at rest
    else (if b == 66 then Some (Some Blank, rest)
    else (if b == 74 then Some (Some Join, rest)
    else (if b == 81 then Some (Some Queue, rest)
    else (if b == 65 then Some (Some Alarm, rest) else None)))))) P
    (λ e. (first 45 e, refl)) letter

side_is : (bytes : List ℕ) (v : Option Symbol × List ℕ) → side_at bytes ≡ Some v → IsSideOf bytes v
side_is bytes v is = some_holds (side_at bytes) v (IsSideOf bytes) (side_inv bytes) is

-- ---- edges and final states

abbrev pub IsLabelOf : List ℕ → Label × List ℕ → Type 0
IsLabelOf bytes v = (bytes ≡ then_space (side_text v.0.left) ++ (side_text v.0.right ++ v.1))
    × (is_held_label v.0 ≡ true)

label_whole : (bytes after : List ℕ) (left right : Option Symbol × List ℕ) (label : Label) →
    side_at bytes ≡ Some left → byte_at 32 left.1 ≡ Some after → side_at after ≡ Some right →
    label_of left.0 right.0 ≡ Some label → IsLabelOf bytes (label, right.1)
label_whole bytes after left right label is is2 is3 is4 =
    let made : Label = record { left = left.0; right = right.0 } in
    let s : (has_side made ≡ true) × (made ≡ label) = some_if (has_side made) made label is4 in
    let l : IsSideOf bytes left = side_is bytes left is in
    let r : IsSideOf after right = side_is after right is3 in
    let whole : bytes ≡ then_space (side_text left.0) ++ (side_text right.0 ++ right.1) =
    l.0 ∙ ap (λ z. side_text left.0 ++ z) (byte_is 32 left.1 after is2 ∙ ap (λ z. 32 ∷ z) r.0)
    ∙ sym (spaced (side_text left.0) (side_text right.0 ++ right.1)) in
    subst (λ (z : Label). IsLabelOf bytes (z, right.1)) s.1
    (whole, both_true (is_held_side left.0) (is_held_side right.0) l.1 r.1)

pub label_inv : (bytes : List ℕ) → IfSome (label_at bytes) (IsLabelOf bytes)
unfolding label_at
label_inv bytes =
    let S : Type 0 = Option Symbol × List ℕ in
    let L : Type 0 = Label × List ℕ in
    bind_some {A = S} {B = L} (side_at bytes)
    (λ left. ◌>>=◌ {A = List ℕ} {B = L} (byte_at 32 left.1)
    (λ after. ◌>>=◌ {A = S} {B = L} (side_at after)
    (λ right. ◌>>=◌ {A = Label} {B = L} (label_of left.0 right.0)
    (λ label. Some (label, right.1))))) (IsLabelOf bytes)
    (λ left is. bind_some {A = List ℕ} {B = L} (byte_at 32 left.1)
    (λ after. ◌>>=◌ {A = S} {B = L} (side_at after)
    (λ right. ◌>>=◌ {A = Label} {B = L} (label_of left.0 right.0)
    (λ label. Some (label, right.1)))) (IsLabelOf bytes)
    (λ after is2. bind_some {A = S} {B = L} (side_at after)
    (λ right. ◌>>=◌ {A = Label} {B = L} (label_of left.0 right.0)
    (λ label. Some (label, right.1))) (IsLabelOf bytes)
    (λ right is3. bind_some {A = Label} {B = L} (label_of left.0 right.0)
    (λ label. Some (label, right.1)) (IsLabelOf bytes)
    (λ label is4. label_whole bytes after left right label is is2 is3 is4))))

state_some : (n : Option ℕ) → state_of n < 2 ^ 64 - 1 → n ≡ Some (state_of n)
state_some None lt = absurd (omega arith)
state_some (Some n) lt = refl

abbrev pub IsEdgeOf : List ℕ → Edge × List ℕ → Type 0
IsEdgeOf bytes v = v.0.from < 2 ^ 64 - 1 → v.0.to < 2 ^ 64 - 1 → (bytes ≡ edge_text v.0 ++ v.1)
    × (is_held_edge v.0 ≡ true)

edge_whole : (bytes after : List ℕ) (from to : Option ℕ × List ℕ) (label : Label × List ℕ) →
    number_then 32 bytes ≡ Some from → label_at from.1 ≡ Some label →
    byte_at 32 label.1 ≡ Some after → number_then 10 after ≡ Some to
    → IsEdgeOf bytes (record { from = state_of from.0; label = label.0; to = state_of to.0 }, to.1)
edge_whole bytes after from to label is is2 is3 is4 small small' =
    let a : (bytes ≡ decimal (state_of from.0) ++ 32 ∷ from.1) × (state_of from.0 < 2 ^ 64) =
    then_is 32 bytes from (state_of from.0) is (state_some from.0 small) in
    let d : (after ≡ decimal (state_of to.0) ++ 10 ∷ to.1) × (state_of to.0 < 2 ^ 64) =
    then_is 10 after to (state_of to.0) is4 (state_some to.0 small') in
    let l : IsLabelOf from.1 label =
    some_holds (label_at from.1) label (IsLabelOf from.1) (label_inv from.1) is2 in
    let f : List ℕ = then_space (decimal (state_of from.0)) in
    let left : List ℕ = then_space (side_text label.0.left) in
    let right : List ℕ = side_text label.0.right in
    let t : List ℕ = then_end (decimal (state_of to.0)) in
    let tail : label.1 ≡ 32 ∷ (t ++ to.1) = byte_is 32 label.1 after is3
    ∙ ap (λ z. 32 ∷ z) (d.0 ∙ sym (ended (decimal (state_of to.0)) to.1)) in
    let middle : from.1 ≡ left ++ (then_space right ++ (t ++ to.1)) =
    l.0 ∙ ap (λ z. left ++ z) (ap (λ z. right ++ z) tail ∙ sym (spaced right (t ++ to.1))) in
    let whole : bytes ≡ f ++ (left ++ (then_space right ++ (t ++ to.1))) =
    a.0 ∙ ap (λ z. decimal (state_of from.0) ++ 32 ∷ z) middle
    ∙ sym (spaced (decimal (state_of from.0)) (left ++ (then_space right ++ (t ++ to.1)))) in
    (whole ∙ sym (four f left (then_space right) t to.1), l.1)

pub edge_inv : (bytes : List ℕ) → IfSome (edge_at bytes) (IsEdgeOf bytes)
unfolding edge_at
edge_inv bytes =
    let N : Type 0 = Option ℕ × List ℕ in
    let E : Type 0 = Edge × List ℕ in
    bind_some {A = N} {B = E} (number_then 32 bytes)
    (λ from. ◌>>=◌ {A = Label × List ℕ} {B = E} (label_at from.1)
    (λ label. ◌>>=◌ {A = List ℕ} {B = E} (byte_at 32 label.1)
    (λ after. ◌>>=◌ {A = N} {B = E} (number_then 10 after)
    (λ to. Some (
      record { from = state_of from.0; label = label.0; to = state_of to.0 },
      to.1,
    ))))) (IsEdgeOf bytes)
    (λ from is. bind_some {A = Label × List ℕ} {B = E} (label_at from.1)
    (λ label. ◌>>=◌ {A = List ℕ} {B = E} (byte_at 32 label.1)
    (λ after. ◌>>=◌ {A = N} {B = E} (number_then 10 after)
    (λ to. Some (
      record { from = state_of from.0; label = label.0; to = state_of to.0 },
      to.1,
    )))) (IsEdgeOf bytes)
    (λ label is2. bind_some {A = List ℕ} {B = E} (byte_at 32 label.1)
    (λ after. ◌>>=◌ {A = N} {B = E} (number_then 10 after)
    (λ to. Some (record { from = state_of from.0; label = label.0; to = state_of to.0 }, to.1)))
    (IsEdgeOf bytes)
    (λ after is3. bind_some {A = N} {B = E} (number_then 10 after)
    (λ to. Some (record { from = state_of from.0; label = label.0; to = state_of to.0 }, to.1))
    (IsEdgeOf bytes)
    (λ to is4. edge_whole bytes after from to label is is2 is3 is4))))

pub edge_use : (bytes : List ℕ) (x : Edge × List ℕ) → edge_at bytes ≡ Some x →
    x.0.from < 2 ^ 64 - 1 → x.0.to < 2 ^ 64 - 1 → (bytes ≡ edge_text x.0 ++ x.1)
    × (is_held_edge x.0 ≡ true)
edge_use bytes x is = some_holds (edge_at bytes) x (IsEdgeOf bytes) (edge_inv bytes) is

pub final_inv : (bytes : List ℕ) →
    IfSome (final_at bytes) (λ v. v.0 < 2 ^ 64 - 1 → bytes ≡ final_text v.0 ++ v.1)
unfolding final_at
final_inv bytes = bind_some {A = Option ℕ × List ℕ} {B = ℕ × List ℕ} (number_then 10 bytes)
    (λ n. Some (state_of n.0, n.1)) (λ v. v.0 < 2 ^ 64 - 1 → bytes ≡ final_text v.0 ++ v.1)
    (λ n is small. (then_is 10 bytes n (state_of n.0) is (state_some n.0 small)).0
    ∙ sym (ended (decimal (state_of n.0)) n.1))

-- ---- the first line of a section

pub kind_inv : (kind : Kind2) (bytes : List ℕ) →
    IfSome (kind_at kind bytes)
    (λ rest. bytes ≡ (codes "section " ++ then_space (section_name kind)) ++ rest)
unfolding kind_at
kind_inv kind bytes =
    let P : List ℕ → Type 0 =
    λ rest. bytes ≡ (codes "section " ++ then_space (section_name kind)) ++ rest in
    bind_some {A = List ℕ} {B = List ℕ} (word_at (codes "section ") bytes)
    (λ word. ◌>>=◌ {A = List ℕ} {B = List ℕ} (word_at (section_name kind) word)
    (λ name. byte_at 32 name)) P
    (λ word is. bind_some {A = List ℕ} {B = List ℕ} (word_at (section_name kind) word)
    (λ name. byte_at 32 name) P
    (λ name is2. map_some (byte_at 32 name) (λ rest. name ≡ 32 ∷ rest) P
    (λ rest q. word_is (codes "section ") bytes word is
    ∙ ap (λ z. codes "section " ++ z) (word_is (section_name kind) word name is2
    ∙ ap (λ z. section_name kind ++ z) q ∙ sym (spaced (section_name kind) rest))
    ∙ sym (append_assoc (codes "section ") (then_space (section_name kind)) rest))
    (byte_inv 32 name)))

pub record IsHeadOf (kind : Kind2) (bytes : List ℕ) (v : Head × List ℕ) (s e f : ℕ) : Type 0 where
  pub whole : bytes ≡ head_of kind s e f ++ v.1
  pub states : s < 2 ^ 64
  pub edges : e < 2 ^ 64
  pub finals : f < 2 ^ 64

abbrev pub AreHeadsOf : Kind2 → List ℕ → Head × List ℕ → Type 0
AreHeadsOf kind bytes v = (s e f : ℕ) → v.0.states ≡ Some s → v.0.edges ≡ Some e →
    v.0.finals ≡ Some f → IsHeadOf kind bytes v s e f

head_whole : (kind : Kind2) (bytes name : List ℕ) (states edges finals : Option ℕ × List ℕ) →
    kind_at kind bytes ≡ Some name → number_then 32 name ≡ Some states →
    number_then 32 states.1 ≡ Some edges → number_then 10 edges.1 ≡ Some finals
    → AreHeadsOf kind bytes (
      record {
        states = states.0;
        edges = edges.0;
        finals =
            finals.0;
      },
      finals.1,
    )
head_whole kind bytes name states edges finals is is2 is3 is4 s e f p q r =
    let k : List ℕ = codes "section " ++ then_space (section_name kind) in
    let whole : bytes ≡ k ++ name =
    some_holds (kind_at kind bytes) name (λ rest. bytes ≡ k ++ rest) (kind_inv kind bytes) is in
    let a : (name ≡ decimal s ++ 32 ∷ states.1) × (s < 2 ^ 64) = then_is 32 name states s is2 p in
    let b : (states.1 ≡ decimal e ++ 32 ∷ edges.1) × (e < 2 ^ 64) =
    then_is 32 states.1 edges e is3 q in
    let c : (edges.1 ≡ decimal f ++ 10 ∷ finals.1) × (f < 2 ^ 64) =
    then_is 10 edges.1 finals f is4 r in
    let x : List ℕ = then_space (decimal s) in
    let y : List ℕ = then_space (decimal e) in
    let z : List ℕ = then_end (decimal f) in
    let c' : edges.1 ≡ z ++ finals.1 = c.0 ∙ sym (ended (decimal f) finals.1) in
    let b' : states.1 ≡ y ++ (z ++ finals.1) = b.0 ∙ sym (spaced (decimal e) edges.1)
    ∙ ap (λ w. y ++ w) c' in
    let a' : name ≡ x ++ (y ++ (z ++ finals.1)) = a.0 ∙ sym (spaced (decimal s) states.1)
    ∙ ap (λ w. x ++ w) b' in
    let assoc : (k ++ (x ++ (y ++ z))) ++ finals.1 ≡ k ++ (x ++ (y ++ (z ++ finals.1))) =
    append_assoc k (x ++ (y ++ z)) finals.1
    ∙ ap (λ w. k ++ w) (append_assoc x (y ++ z) finals.1
    ∙ ap (λ w. x ++ w) (append_assoc y z finals.1)) in
    record {
      whole = whole ∙ ap (λ w. k ++ w) a' ∙ sym assoc;
      states = a.1;
      edges =
          b.1;
      finals = c.1;
    }

pub head_inv : (kind : Kind2) (bytes : List ℕ) → IfSome (head_at kind bytes) (AreHeadsOf kind bytes)
unfolding head_at
head_inv kind bytes =
    let N : Type 0 = Option ℕ × List ℕ in
    let H : Type 0 = Head × List ℕ in
    bind_some {A = List ℕ} {B = H} (kind_at kind bytes)
    (λ name. ◌>>=◌ {A = N} {B = H} (number_then 32 name)
    (λ states. ◌>>=◌ {A = N} {B = H} (number_then 32 states.1)
    (λ edges. ◌>>=◌ {A = N} {B = H} (number_then 10 edges.1)
    (λ finals. Some (
      record { states = states.0; edges = edges.0; finals = finals.0 },
      finals.1,
    ))))) (AreHeadsOf kind bytes)
    (λ name is. bind_some {A = N} {B = H} (number_then 32 name)
    (λ states. ◌>>=◌ {A = N} {B = H} (number_then 32 states.1)
    (λ edges. ◌>>=◌ {A = N} {B = H} (number_then 10 edges.1)
    (λ finals. Some (
      record { states = states.0; edges = edges.0; finals = finals.0 },
      finals.1,
    )))) (AreHeadsOf kind bytes)
    (λ states is2. bind_some {A = N} {B = H} (number_then 32 states.1)
    (λ edges. ◌>>=◌ {A = N} {B = H} (number_then 10 edges.1)
    (λ finals. Some (
      record { states = states.0; edges = edges.0; finals = finals.0 },
      finals.1,
    ))) (AreHeadsOf kind bytes)
    (λ edges is3. bind_some {A = N} {B = H} (number_then 10 edges.1)
    (λ finals. Some (
      record { states = states.0; edges = edges.0; finals = finals.0 },
      finals.1,
    )) (AreHeadsOf kind bytes)
    (λ finals is4. head_whole kind bytes name states edges finals is is2 is3 is4))))

-- ---- the alphabet

abbrev IsNextOf : List ℕ → ℕ × List ℕ → Type 0
IsNextOf bytes v = (bytes ≡ letter_text v.0 ++ v.1) × (is_character v.0 ≡ true)

next_inv : (least : ℕ) (bytes : List ℕ) → IfSome (next_letter_at least bytes) (IsNextOf bytes)
unfolding next_letter_at
next_inv least bytes =
    let C : Type 0 = ℕ × List ℕ in
    bind_some {A = List ℕ} {B = C} (byte_at 32 bytes)
    (λ rest. ◌>>=◌ {A = C} {B = C} (character_at rest) (λ c. if nat_le least c.0 then Some c
    else None)) (IsNextOf bytes)
    (λ rest is. bind_some {A = C} {B = C} (character_at rest) (λ c. if nat_le least c.0 then Some c
    else None) (IsNextOf bytes)
    (λ c is2. chosen_if (nat_le least c.0) c (IsNextOf bytes)
    (λ e. let r : IsCharacterOf rest c =
    some_holds (character_at rest) c (IsCharacterOf rest) (character_inv rest) is2 in
    (byte_is 32 bytes rest is ∙ ap (λ z. 32 ∷ z) r.0, r.1))))

abbrev AreLettersOf : List ℕ → List ℕ × List ℕ → Type 0
AreLettersOf bytes v = (bytes ≡ flat_map letter_text v.0 ++ v.1)
    × (list_all is_character v.0 ≡ true)

letters_inv : (n least : ℕ) (bytes : List ℕ) →
    IfSome (letters_in n least bytes) (AreLettersOf bytes)
unfolding letters_in
letters_inv zero least bytes = (refl, refl)
letters_inv (suc n) least bytes =
    let C : Type 0 = ℕ × List ℕ in
    let V : Type 0 = List ℕ × List ℕ in
    chosen (begins_with 32 bytes)
    (next_letter_at least bytes >>= λ c. with_letters (c.0 ∷ []) (letters_in n (c.0 + 1) c.1))
    (Some ([], bytes)) (AreLettersOf bytes)
    (bind_some {A = C} {B = V} (next_letter_at least bytes)
    (λ c. with_letters (c.0 ∷ []) (letters_in n (c.0 + 1) c.1)) (AreLettersOf bytes)
    (λ c is. bind_some {A = V} {B = V} (letters_in n (c.0 + 1) c.1)
    (λ x. Some ((c.0 ∷ []) ++ x.0, x.1)) (AreLettersOf bytes)
    (λ x is2.
    let a : IsNextOf bytes c =
    some_holds (next_letter_at least bytes) c (IsNextOf bytes) (next_inv least bytes) is in
    let b : AreLettersOf c.1 x =
    some_holds (letters_in n (c.0 + 1) c.1) x (AreLettersOf c.1)
    (letters_inv n (c.0 + 1) c.1) is2 in (
      a.0 ∙ ap (λ z. letter_text c.0 ++ z) b.0
          ∙ sym (append_assoc (letter_text c.0) (flat_map letter_text x.0) x.1),
      both_true (is_character c.0) (list_all is_character x.0) a.1 b.1,
    ))))
    (refl, refl)

abbrev pub IsAlphabetOf : List ℕ → List ℕ × List ℕ → Type 0
IsAlphabetOf bytes v = (bytes ≡ alphabet_text v.0 ++ v.1) × (list_all is_character v.0 ≡ true)

pub alphabet_inv : (bytes : List ℕ) → IfSome (alphabet_at bytes) (IsAlphabetOf bytes)
unfolding alphabet_at
alphabet_inv bytes =
    let V : Type 0 = List ℕ × List ℕ in
    let P : V → Type 0 = IsAlphabetOf bytes in
    bind_some {A = List ℕ} {B = V} (word_at (codes "alphabet") bytes)
    (λ word. ◌>>=◌ {A = V} {B = V} (letters_in (length word) 0 word)
    (λ letters. ◌>>=◌ {A = List ℕ} {B = V} (byte_at 10 letters.1)
    (λ rest. if is_closed letters.0 then Some (letters.0, rest) else None))) P
    (λ word is. bind_some {A = V} {B = V} (letters_in (length word) 0 word)
    (λ letters. ◌>>=◌ {A = List ℕ} {B = V} (byte_at 10 letters.1)
    (λ rest. if is_closed letters.0 then Some (letters.0, rest) else None)) P
    (λ letters is2. bind_some {A = List ℕ} {B = V} (byte_at 10 letters.1)
    (λ rest. if is_closed letters.0 then Some (letters.0, rest) else None) P
    (λ rest is3. chosen_if (is_closed letters.0) (letters.0, rest) P (λ closed.
    let l : AreLettersOf word letters =
    some_holds (letters_in (length word) 0 word) letters (AreLettersOf word)
    (letters_inv (length word) 0 word) is2 in
    let fields : List ℕ = flat_map letter_text letters.0 in (
      word_is (codes "alphabet") bytes word is
          ∙ ap (λ z. codes "alphabet" ++ z)
          (l.0 ∙ ap (λ z. fields ++ z) (byte_is 10 letters.1 rest is3) ∙ sym (ended fields rest))
          ∙ sym (append_assoc (codes "alphabet") (then_end fields) rest),
      l.1,
    )))))
