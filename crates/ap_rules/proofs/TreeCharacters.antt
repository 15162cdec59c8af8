-- The values of attributes in a tree that was read consist of characters.
use Rattle.std.proofs.Common.{◌≡◌, ℕ, zero, suc, ◌+◌, ◌-◌, ◌<◌, ◌≤◌, Bool, true, false, cond, ◌==◌, nat_lt, List, [], ◌∷◌, ◌++◌, length, drop, take, length-drop, refl, sym, subst, arith, Option, Some, None}
use Rattle.std.specs.Option.{unwrap_or}
use Rattle.std.specs.Str.{IsUtf8, is_utf8, bytes_eq}
use Rattle.std.specs.Str.Lossy.{valid_len_up_to, utf8_valid_len, error_len_after_two, error_len_after_one, error_len_of_some, utf8_error_len, utf8_invalid_len, after_first_chunk, replacement_bytes, second_byte_min, second_byte_max, utf8_lossy}
use Rattle.std.specs.Int.{is_in_range}
use Rattle.std.specs.Prelude.{slice_index}
use Rattle.std.proofs.Math.Utf8.{encode}
use Rattle.std.proofs.lemmas.Bool.Decides.{nat_tests}
use Rattle.std.proofs.lemmas.List.{take_all}
use Rattle.std.proofs.lemmas.Str.{IsUtf8-from_is_utf8, IsUtf8-nil, IsUtf8-append, utf8_valid_len_le, utf8_lossy-IsUtf8, utf8_lossy_step, scalars-chars}
use Rattle.ap_markup.specs.Decoding.{text_of}
use Rattle.ap_markup.specs.Deep.{pruned}
use Rattle.ap_markup.specs.Documents.{Placed, SpellsElement, alone, around, SpellsParts, nothing as no_parts, comment, reference, run, element as element_parts}
use Rattle.ap_markup.specs.Forms.{AreAttributes, IsPiece, doctype, comment as comment_piece, start, end, reference as reference_piece, run as run_piece, AreCut}
use Rattle.ap_markup.specs.Pieces.{Pair, Shape, DoctypeLine, Comment, Start, End, Reference, Text}
use Rattle.ap_markup.specs.Said.{value_of, is_named}
use Rattle.ap_markup.specs.Sentences.{GivesTree}
use Rattle.ap_markup.specs.Tree.{Tag, Parts, Done, Run, Element}
use Rattle.ap_markup.specs.declared.elements.MarkupFault.{MarkupFault}
use Rattle.ap_markup.specs.declared.tables.Table.{Table}
use Rattle.ap_rules.specs.Children.{Children, nothing, element, children, within}
use Rattle.ap_rules.specs.Soundness.{Opt, Each}
use Rattle.ap_rules.specs.Texts.{given_text}
use Rattle.ap_rules.proofs.Sound.{opt_if}
use Rattle.ap_rules.proofs.WordsMade.{AreCharacters}

-- bytes with U+FFFD in place of what spells no character are UTF-8

more_than_none : (b : Bool) (x y : Option ℕ) (n : ℕ) → 0 < unwrap_or x n → 0 < unwrap_or y n →
    0 < unwrap_or (cond b x y) n
more_than_none true x y n p q = p
more_than_none false x y n p q = q

wrong_some : (bs : List ℕ) → 0 < length bs → 0 < utf8_invalid_len bs
unfolding utf8_error_len
wrong_some bs some =
    let n = length bs in
    let x = slice_index bs 0 in
    let third = is_in_range 0x80 0xBF (slice_index bs 2) in
    let second = is_in_range (second_byte_min x) (second_byte_max x) (slice_index bs 1) in
    let three : Option ℕ = cond (nat_lt n 4) None (Some 3) in
    let one : 0 < unwrap_or (Some 1) n = omega arith in
    let two : 0 < unwrap_or (Some 2) n = omega arith in
    let after_three = more_than_none (nat_lt n 4) None (Some 3) n some (omega arith) in
    let after_two : 0 < unwrap_or (error_len_after_two bs) n =
    more_than_none (nat_lt n 3) None (cond third three (Some 2)) n some
    (more_than_none third three (Some 2) n after_three two) in
    let after_one : 0 < unwrap_or (error_len_after_one bs) n =
    more_than_none (nat_lt n 2) None (cond second (error_len_after_two bs) (Some 1)) n some
    (more_than_none second (error_len_after_two bs) (Some 1) n after_two one) in
    more_than_none (n == 0) None (error_len_of_some bs) n some
    (more_than_none (is_in_range 0xC2 0xF4 x) (error_len_after_one bs) (Some 1) n after_one one)

rest_shorter : (bs : List ℕ) → ¬ (utf8_valid_len bs ≡ length bs) →
    length (after_first_chunk bs) < length bs
rest_shorter bs faulty =
    let n = utf8_valid_len bs in
    let within = utf8_valid_len_le bs in
    let wrong = wrong_some (drop n bs) (omega (arith, length-drop n bs)) in
    omega (arith, length-drop (n + utf8_invalid_len (drop n bs)) bs)

front_utf8 : (bs : List ℕ) (n : ℕ) → IsUtf8 (take (valid_len_up_to bs n) bs)
front_utf8 bs zero = IsUtf8-nil
front_utf8 bs (suc n) = by (is_utf8 (take (suc n) bs)) refl (front_utf8 bs n)
  where
    by : (t : Bool) → is_utf8 (take (suc n) bs) ≡ t → IsUtf8 (take (valid_len_up_to bs n) bs) →
        IsUtf8 (take (cond t (suc n) (valid_len_up_to bs n)) bs)
    by true e k = IsUtf8-from_is_utf8 (take (suc n) bs) e
    by false e k = k

valid_utf8 : (bs : List ℕ) → IsUtf8 (take (utf8_valid_len bs) bs)
unfolding utf8_valid_len
valid_utf8 bs = front_utf8 bs (length bs)

replacement_utf8 : IsUtf8 replacement_bytes
unfolding encode
replacement_utf8 = (0xFFFD ∷ [], (refl, refl))

lossy_whole : (bs : List ℕ) → utf8_valid_len bs ≡ length bs → IsUtf8 (utf8_lossy bs)
lossy_whole bs same =
    let all : IsUtf8 bs = subst IsUtf8 (take_all (utf8_valid_len bs) bs (omega (arith, same)))
    (valid_utf8 bs) in
    subst IsUtf8 (sym (utf8_lossy-IsUtf8 bs all)) all

lossy_within : (n : ℕ) (bs : List ℕ) → length bs ≤ n → IsUtf8 (utf8_lossy bs)
lossy_within zero bs le = let valid = utf8_valid_len_le bs in
    lossy_whole bs (omega (arith, le, valid))
lossy_within (suc n) bs le =
    by (utf8_valid_len bs == length bs) refl (λ few. lossy_within n (after_first_chunk bs) few)
  where
    by : (t : Bool) → (utf8_valid_len bs == length bs) ≡ t →
        (length (after_first_chunk bs) ≤ n → IsUtf8 (utf8_lossy (after_first_chunk bs))) →
        IsUtf8 (utf8_lossy bs)
    by true e more = lossy_whole bs (grind (arith, nat_tests, e))
    by false e more =
        let faulty : ¬ (utf8_valid_len bs ≡ length bs) =
        λ same. grind (arith, nat_tests, e, same) in
        let less = rest_shorter bs faulty in
        subst IsUtf8 (sym (utf8_lossy_step bs faulty))
        (IsUtf8-append (take (utf8_valid_len bs) bs)
        (replacement_bytes ++ utf8_lossy (after_first_chunk bs)) (valid_utf8 bs)
        (IsUtf8-append replacement_bytes (utf8_lossy (after_first_chunk bs)) replacement_utf8
        (more (omega (arith, less, le)))))

decoded_characters : (bytes : List ℕ) → AreCharacters (text_of bytes)
decoded_characters bytes =
    scalars-chars (utf8_lossy bytes) (lossy_within (length bytes) bytes (omega arith))

-- a value of characters
abbrev pub IsGiven : Pair → Type 0
IsGiven a = AreCharacters a.1

-- each attribute has one
abbrev pub AreGiven : List Pair → Type 0
AreGiven given = Each IsGiven given

abbrev pub HaveGiven : Parts → Type 0
HaveGiven Done = Unit {0}
HaveGiven (Run text at more) = HaveGiven more
HaveGiven (Element tag kids more) = AreGiven tag.attributes × HaveGiven kids × HaveGiven more

abbrev pub HoldGiven : Children → Type 0
HoldGiven nothing = Unit {0}
HoldGiven (element tag own more) = AreGiven tag.attributes × HoldGiven own × HoldGiven more

abbrev GivesIn : Shape → Type 0
GivesIn DoctypeLine = Unit {0}
GivesIn Comment = Unit {0}
GivesIn (Start name given closed) = AreGiven given
GivesIn (End name) = Unit {0}
GivesIn (Reference c) = Unit {0}
GivesIn (Text text) = Unit {0}

abbrev Gives : Placed → Type 0
Gives p = GivesIn p.1

attributes_given : (bytes : List ℕ) (given : List Pair) → AreAttributes bytes given → AreGiven given
attributes_given bytes [] h = tt
attributes_given bytes (a ∷ more) (own, rest, is, one, others) = (
  subst IsGiven (sym one.says) (decoded_characters one.value),
  attributes_given rest more others,
)

piece_given : (own : List ℕ) (shape : Shape) → IsPiece own shape → GivesIn shape
piece_given own shape (doctype body plain is said) = subst GivesIn (sym said) tt
piece_given own shape (comment_piece body up is said) = subst GivesIn (sym said) tt
piece_given own shape (start name attributes spaces given closed named listed single
    space is said) =
    subst GivesIn (sym said) (attributes_given attributes given listed)
piece_given own shape (end name spaces named space is said) = subst GivesIn (sym said) tt
piece_given own shape (reference_piece c is said) = subst GivesIn (sym said) tt
piece_given own shape (run_piece b more plain is said) = subst GivesIn (sym said) tt

cut_given : (at : ℕ) (bytes : List ℕ) (ps : List Placed) (back : List ℕ) → AreCut at bytes ps back →
    Each Gives ps
cut_given at bytes [] back h = tt
cut_given at bytes (p ∷ ps) back (own, rest, is, place, piece, ends, more) =
    (piece_given own p.1 piece, cut_given (at + length own) rest ps back more)

each_front : {A : Type 0} (P : A → Type 0) (xs ys : List A) → Each P (xs ++ ys) → Each P xs
each_front P [] ys h = tt
each_front P (x ∷ xs) ys h = (h.0, each_front P xs ys h.1)

each_back : {A : Type 0} (P : A → Type 0) (xs ys : List A) → Each P (xs ++ ys) → Each P ys
each_back P [] ys h = h
each_back P (x ∷ xs) ys h = each_back P xs ys h.1

mutual
  element_given : (text : List ℕ) (ps : List Placed) (tag : Tag) (kids : Parts) →
      SpellsElement text ps tag kids → Each Gives ps → AreGiven tag.attributes × HaveGiven kids
  element_given text ps tag kids (alone at name given is tag_is kids_is) h =
      let k = subst (Each Gives) is h in (
        subst (λ (t : Tag). AreGiven t.attributes) (sym tag_is) k.0,
        subst HaveGiven (sym kids_is) tt,
      )
  element_given text ps tag kids (around {inner = inner} at to name given parts is tag_is) h =
      let k = subst (Each Gives) is h in (
        subst (λ (t : Tag). AreGiven t.attributes) (sym tag_is) k.0,
        parts_given text inner kids parts (each_front Gives inner ((to, End name) ∷ []) k.1),
      )

  parts_given : (text : List ℕ) (ps : List Placed) (parts : Parts) → SpellsParts text ps parts →
      Each Gives ps → HaveGiven parts
  parts_given text ps parts (no_parts is parts_is) h = subst HaveGiven (sym parts_is) tt
  parts_given text ps parts (comment {more = more} at spelled is) h =
      parts_given text more parts spelled (subst (Each Gives) is h).1
  parts_given text ps parts (reference {more = more} {rest = rest} at c spelled is parts_is) h =
      subst HaveGiven (sym parts_is)
      (parts_given text more rest spelled (subst (Each Gives) is h).1)
  parts_given text ps parts (run {more = more} {rest = rest} at bytes spelled is parts_is) h =
      subst HaveGiven (sym parts_is)
      (parts_given text more rest spelled (subst (Each Gives) is h).1)
  parts_given text ps parts (element_parts {own = own} {more = more} {kids = kids} {rest = rest}
      {tag = tag} one spelled is parts_is) h =
      let k = subst (Each Gives) is h in
      let first = element_given text own tag kids one (each_front Gives own more k) in
      subst HaveGiven (sym parts_is)
      (first.0, first.1, parts_given text more rest spelled (each_back Gives own more k))

pruned_given : (room : ℕ) (p : Parts) → HaveGiven p → HaveGiven (pruned room p)
unfolding pruned
pruned_given room Done h = tt
pruned_given room (Run text at more) h = pruned_given room more h
pruned_given room (Element tag kids more) h =
    by (room == 0) (pruned_given (room - 1) kids h.1) (pruned_given room more h.2)
  where
    by : (t : Bool) → HaveGiven (pruned (room - 1) kids) → HaveGiven (pruned room more) →
        HaveGiven (cond t (pruned room more)
        (Element tag (pruned (room - 1) kids) (pruned room more)))
    by true k l = l
    by false k l = (h.0, k, l)

pub tree_given : (text : List ℕ) (table : Table) (root : Parts) (first : Option MarkupFault) →
    GivesTree text table root first → HaveGiven root
tree_given text table root first g =
    let s = g.spelled in
    let d = s.spelled in
    let all : Each Gives (d.before ++ d.own ++ d.after) =
    subst (Each Gives) d.is (cut_given (length text - length s.body) s.body s.pieces [] s.cut) in
    let own = each_back Gives d.before d.own (each_front Gives (d.before ++ d.own) d.after all) in
    let one = element_given text d.own d.tag d.kids d.spelled own in
    let whole : HaveGiven g.whole = subst HaveGiven (sym d.root_is) (one.0, one.1, tt) in
    subst HaveGiven (sym g.root_is) (pruned_given 200 g.whole whole)

pub children_given : (parts : Parts) → HaveGiven parts → HoldGiven (children parts)
unfolding children
children_given Done h = tt
children_given (Run text at more) h = children_given more h
children_given (Element tag kids more) h =
    (h.0, children_given kids h.1, children_given more h.2)

pub within_given : (name : List ℕ) (own : Children) → HoldGiven own → HoldGiven (within name own)
within_given name nothing h = tt
within_given name (element tag inner more) h =
    by (is_named name tag) h.1 (within_given name more h.2)
  where
    by : (t : Bool) → HoldGiven inner → HoldGiven (within name more) →
        HoldGiven (cond t inner (within name more))
    by true k l = k
    by false k l = l

pub value_given : (name : List ℕ) (given : List Pair) → AreGiven given →
    Opt AreCharacters (value_of name given)
value_given name [] h = tt
value_given name (a ∷ more) h =
    opt_if AreCharacters (bytes_eq name a.0) (Some a.1) (value_of name more) h.0
    (value_given name more h.1)

pub text_given : (o : Option (List ℕ)) → Opt AreCharacters o → AreCharacters (given_text o)
text_given None h = refl
text_given (Some text) h = h
