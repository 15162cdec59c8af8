-- The words of a chunk in postchunk: the number that digits write, the tag of a number, and one
-- part more.
use Rattle.std.specs.Prelude.{◌≡◌, ℕ, zero, suc, ◌+◌, ◌-◌, ◌*◌, ◌<◌, ◌≤◌, ◌==◌, Bool, false, List, [], ◌∷◌, ◌++◌, length, map, take, drop, slice_get, refl}
use Rattle.std.proofs.Common.{arith, ap, sym, ◌∙◌, get_or}
use Rattle.std.proofs.lemmas.Bool.{ne_eqb}
use Rattle.std.proofs.lemmas.List.{append-nil, map-append, take_more}
use Rattle.ap_symbol.specs.Recasing.{carry_lem}
use Rattle.ap_symbol.specs.declared.recasing.Case.{Case}
use Rattle.ap_symbol.specs.declared.recasing.Case.TheVariants.{Low, First, All}
use Rattle.ap_symbol.specs.declared.symbol.Symbol.{Symbol}
use Rattle.ap_stream.specs.declared.item.Inner.{Inner}
use Rattle.ap_stream.specs.declared.item.Inner.TheVariants as inner
use Rattle.ap_chunk.specs.Parts.{word_of}
use Rattle.ap_chunk.specs.Chunks.{number_from, alone, tag_of, fill_word, content_words, carry_words, carry_one, part_words}

-- numbers

number_grows : (n : ℕ) (bs : List ℕ) → n ≤ number_from n bs
number_grows n [] = omega arith
number_grows n (b ∷ bs) = let g = number_grows (10 * n + (b - 48)) bs in omega (arith, g)

pub number_next : (n i m : ℕ) (bs : List ℕ) → i < length bs → m ≡ n * 10 + (get_or bs i 0 - 48) →
    number_from n (drop i bs) ≡ number_from m (drop (i + 1) bs)
number_next n i m [] h is = absurd (omega arith)
number_next n zero m (b ∷ bs) h is = let e : 10 * n + (b - 48) ≡ m = omega (arith, is) in
    ap (λ k. number_from k bs) e
number_next n (suc i) m (x ∷ bs) h is =
    let e : suc i + 1 ≡ suc (i + 1) = omega arith in
    number_next n i m bs (omega (arith, h)) is ∙ ap (λ k. number_from m (drop k (x ∷ bs))) (sym e)

-- what a digit makes too great stays so
pub number_beyond : (most n : ℕ) (bs : List ℕ) → most < n → most < number_from n bs
number_beyond most n bs h = let g = number_grows n bs in omega (arith, g, h)

-- tags

none_beyond : (tags : List Symbol) (n : ℕ) → length tags ≤ n → alone (slice_get tags n) ≡ []
none_beyond [] n h = refl
none_beyond (tag ∷ tags) zero h = absurd (omega (arith, h))
none_beyond (tag ∷ tags) (suc n) h = none_beyond tags n (omega (arith, h))

pub tag_beyond : (tags : List Symbol) (n : ℕ) → length tags < n → tag_of tags n ≡ []
tag_beyond tags zero h = absurd (omega (arith, h))
tag_beyond tags (suc n) h = none_beyond tags n (omega (arith, h))

one_there : (tags : List Symbol) (n : ℕ) (d : Symbol) → n < length tags → alone (slice_get tags n)
    ≡ get_or tags n d ∷ []
one_there [] n d h = absurd (omega (arith, h))
one_there (tag ∷ tags) zero d h = refl
one_there (tag ∷ tags) (suc n) d h = one_there tags n d (omega (arith, h))

pub tag_there : (tags : List Symbol) (n : ℕ) (d : Symbol) → 0 < n → n ≤ length tags →
    tag_of tags n ≡ get_or tags (n - 1) d ∷ []
tag_there tags zero d h le = absurd (omega (arith, h))
tag_there tags (suc n) d h le = let e : suc n - 1 ≡ n = omega arith in
    one_there tags n d (omega (arith, le)) ∙ ap (λ k. get_or tags k d ∷ []) (sym e)

-- words

words_more : (parts : List Inner) (part : Inner) → content_words (parts ++ part ∷ [])
    ≡ content_words parts ++ content_words (part ∷ [])
words_more [] part = refl
words_more (inner.Unit words ∷ parts) part = ap (λ (ws : List (List Symbol)). word_of 0 words ∷ ws)
    (words_more parts part)
words_more (inner.Blank bytes ∷ parts) part = words_more parts part

carry_more : (c : Case) (ws : List (List Symbol)) (w : List Symbol) → carry_words c (ws ++ w ∷ [])
    ≡ carry_words c ws ++ carry_one c (length (carry_words c ws) == 0) w ∷ []
carry_more Low ws w = refl
carry_more First [] w = refl
carry_more First (v ∷ ws) w =
    let e : (length (carry_lem First v ∷ ws) == 0) ≡ false =
    ne_eqb (length (carry_lem First v ∷ ws)) 0 (λ k. omega (arith, k)) in
    ap (λ (b : Bool). carry_lem First v ∷ (ws ++ carry_one First b w ∷ [])) (sym e)
carry_more All ws w = map-append (carry_lem All) ws (w ∷ [])

part_more : (c : Case) (tags : List Symbol) (parts : List Inner) (part : Inner) →
    carry_words c (map (fill_word tags) (content_words (parts ++ part ∷ [])))
    ≡ carry_words c (map (fill_word tags) (content_words parts)) ++ part_words c tags
    (length (carry_words c (map (fill_word tags) (content_words parts))) == 0) part
part_more c tags parts (inner.Unit words) =
    ap (λ (ws : List (List Symbol)). carry_words c (map (fill_word tags) ws))
    (words_more parts (inner.Unit words))
    ∙ ap (carry_words c) (map-append (fill_word tags) (content_words parts)
    (content_words (inner.Unit words ∷ [])))
    ∙ carry_more c (map (fill_word tags) (content_words parts)) _
part_more c tags parts (inner.Blank bytes) =
    ap (λ (ws : List (List Symbol)). carry_words c (map (fill_word tags) ws))
    (words_more parts (inner.Blank bytes) ∙ append-nil (content_words parts))
    ∙ sym (append-nil (carry_words c (map (fill_word tags) (content_words parts))))

pub one_part_more : (c : Case) (tags : List Symbol) (parts : List Inner) (i : ℕ) (part : Inner)
    (made new : List (List Symbol)) → i < length parts → part ≡ get_or parts i part
    → made ≡ carry_words c (map (fill_word tags) (content_words (take i parts))) →
    new ≡ made ++ part_words c tags (length made == 0) part
    → new ≡ carry_words c (map (fill_word tags) (content_words (take (i + 1) parts)))
one_part_more c tags parts i part made new h is m n =
    n ∙ ap (λ (ws : List (List Symbol)). ws ++ part_words c tags (length ws == 0) part) m
    ∙ sym (part_more c tags (take i parts) part)
    ∙ ap (λ (ps : List Inner). carry_words c (map (fill_word tags) (content_words ps)))
    (ap (λ (p : Inner). take i parts ++ p ∷ []) is ∙ sym (take_more parts i part h))
