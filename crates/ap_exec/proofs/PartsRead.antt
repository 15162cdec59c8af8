-- What was written to a head, a queue, tags or an attribute is read there.
use Rattle.std.proofs.Common.{◌≡◌, ◌⊎◌, inl, inr, ℕ, zero, suc, ◌+◌, ◌-◌, ◌<◌, ◌≤◌, ◌==◌, Bool, true, false, not, ◌||◌, cond, List, [], ◌∷◌, ◌++◌, length, take, drop, append_assoc, refl, sym, ap, ◌∙◌, subst, arith, Option, Some, None, if◌then◌else◌, nat_lt}
use Rattle.std.specs.List.{list_all, prefix_len}
use Rattle.std.proofs.Math.Seq.{drop-append_seam}
use Rattle.std.proofs.lemmas.Bool.{false≢true, and_parts}
use Rattle.std.proofs.lemmas.Bool.Decides.{nat_tests}
use Rattle.std.proofs.lemmas.List.{drop-drop, take_at, length-append, length-drop}
use Rattle.std.proofs.lemmas.List.Folds.{length-prefix_len, list_all-append}
use Rattle.ap_symbol.proofs.FittingSymbols.{fits_itself}
use Rattle.ap_symbol.proofs.Partners.{and_both}
use Rattle.ap_symbol.specs.Fitting.{fits_lem}
use Rattle.ap_symbol.specs.Lists.{IsIn}
use Rattle.ap_symbol.specs.declared.symbol.Symbol.{Symbol}
use Rattle.ap_symbol.specs.declared.symbol.Symbol.TheVariants.{Tag, Queue, Letter, Blank, Join, Alarm, Star, At}
use Rattle.ap_rules.specs.Soundness.{Each}
use Rattle.ap_rules.specs.declared.attribute.AttrItem.{AttrItem}
use Rattle.ap_rules.specs.declared.value.Clip.{Clip}
use Rattle.ap_rules.specs.declared.value.ClipPart.{ClipPart}
use Rattle.ap_rules.specs.declared.value.ClipPart.TheVariants.{Lemh, Lemq, Tags, Attribute}
use Rattle.ap_rules.specs.declared.value.Side.{Side}
use Rattle.ap_rules.specs.declared.value.Side.TheVariants.{Source, Target}
use Rattle.ap_symbol.specs.Kinds.{is_tag, is_queue}
use Rattle.ap_exec.specs.Parts.{part_at, Span, is_lemma, is_head, item_fits, longer, longest, found, sought, items_of, span_of, cut, side_in, word_on}
use Rattle.ap_exec.specs.Units.{Shown, Sight}
use Rattle.ap_exec.specs.WordLaws.{IsOnWhole, IsWrittenAt, WasThere, IsQueuePart, AreTags, IsOneTag, HeadIsRead, QueueIsRead, TagsAreRead, AttributeIsRead}
use Rattle.ap_exec.specs.Writing.{spliced, is_kept, replaced}
use Rattle.ap_exec.proofs.Rereading.{reread, rewritten, none_passes, all_pass, Reads, no_side, read_at}
use Rattle.ap_exec.proofs.Splices.{written_is_read}

-- the symbols in front that pass

front_passes : (test : Symbol → Bool) (word : List Symbol) →
    list_all test (take (prefix_len test word) word) ≡ true
front_passes test [] = refl
front_passes test (x ∷ word) = by (test x) refl (front_passes test word)
  where
    by : (b : Bool) → test x ≡ b → list_all test (take (prefix_len test word) word) ≡ true →
        list_all test (take (cond b (1 + prefix_len test word) 0) (x ∷ word)) ≡ true
    by true e h = let next : 1 + prefix_len test word ≡ suc (prefix_len test word) = omega arith in
        ap (λ (k : ℕ). list_all test (take k (x ∷ word))) next ∙ and_both (test x) _ e h
    by false e h = refl

front_within : (test : Symbol → Bool) (word : List Symbol) → prefix_len test word ≤ length word
front_within test [] = omega arith
front_within test (x ∷ word) = by (test x) (front_within test word)
  where
    by : (b : Bool) → prefix_len test word ≤ length word →
        cond b (1 + prefix_len test word) 0 ≤ length (x ∷ word)
    by true h = omega (arith, h)
    by false h = omega arith

-- a symbol of a head is one of a lemma
head_is_lemma : (s : Symbol) → is_head s ≡ true → is_lemma s ≡ true
head_is_lemma s h = by (is_tag s) (is_queue s) h
  where
    by : (t q : Bool) → not (t || q) ≡ true → not t ≡ true
    by true q h = h
    by false q h = refl

heads_are_lemmas : (word : List Symbol) → list_all is_head word ≡ true →
    list_all is_lemma word ≡ true
heads_are_lemmas [] h = refl
heads_are_lemmas (s ∷ word) h =
    let both = and_parts (is_head s) (list_all is_head word) h in
    and_both (is_lemma s) _ (head_is_lemma s both.0) (heads_are_lemmas word both.1)

queue_is_lemma : (s : Symbol) → is_queue s ≡ true → is_lemma s ≡ true
queue_is_lemma Queue h = refl
queue_is_lemma (Tag name) h = absurd (false≢true h)
queue_is_lemma (Letter c) h = refl
queue_is_lemma Blank h = refl
queue_is_lemma Join h = refl
queue_is_lemma Alarm h = refl
queue_is_lemma Star h = refl
queue_is_lemma At h = refl

queue_ends : (s : Symbol) (more : List Symbol) → is_queue s ≡ true →
    prefix_len is_head (s ∷ more) ≡ 0
queue_ends Queue more h = refl
queue_ends (Tag name) more h = absurd (false≢true h)
queue_ends (Letter c) more h = absurd (false≢true h)
queue_ends Blank more h = absurd (false≢true h)
queue_ends Join more h = absurd (false≢true h)
queue_ends Alarm more h = absurd (false≢true h)
queue_ends Star more h = absurd (false≢true h)
queue_ends At more h = absurd (false≢true h)

tag_ends : (s : Symbol) (more : List Symbol) → is_tag s ≡ true →
    prefix_len is_lemma (s ∷ more) ≡ 0
tag_ends s more h = ap (λ (b : Bool). cond (not b) (1 + prefix_len is_lemma more) 0) h

-- a part that stands where it stood, as long as what was written, is that
as_long : (attributes : List (List AttrItem)) (part : ClipPart) (value word : List Symbol)
    (start count : ℕ) →
    span_of attributes part word ≡ (let s : Span = record { start = start; count = count } in s)
    → start + count ≤ length word
    → span_of attributes part (rewritten attributes part value word)
    ≡ (let s : Span = record { start = start; count = length value } in s)
    → reread attributes part (rewritten attributes part value word) ≡ value
as_long attributes part value word start count was within now =
    let made = rewritten attributes part value word in
    ap (λ (s : Span). cut s made) now
    ∙ ap (λ (s : Span). cut (record { start = start; count = length value })
    (spliced s value word)) was
    ∙ (written_is_read (record { start = start; count = count }) value word within).0

head_word : (attributes : List (List AttrItem)) (value word : List Symbol) →
    list_all is_head value ≡ true →
    reread attributes Lemh (rewritten attributes Lemh value word) ≡ value
head_word attributes value word all =
    let rest = drop (0 + prefix_len is_head word) word in
    let none : prefix_len is_head rest ≡ 0 =
    ap (λ (n : ℕ). prefix_len is_head (drop n word)) (omega arith) ∙ none_passes is_head word in
    ap (λ (n : ℕ). take n (value ++ rest)) (all_pass is_head value rest all none)
    ∙ take_at value rest (length value) refl

queue_word : (attributes : List (List AttrItem)) (value word : List Symbol) → IsQueuePart value →
    0 < (span_of attributes Lemq word).count →
    reread attributes Lemq (rewritten attributes Lemq value word) ≡ value
queue_word attributes [] word q there = absurd q
queue_word attributes (s ∷ more) word q there =
    let value = s ∷ more in
    let h = prefix_len is_head word in
    let l = prefix_len is_lemma word in
    let front = take h word in
    let rest = drop (h + (l - h)) word in
    let within = front_within is_lemma word in
    let at : h + (l - h) ≡ l = omega (arith, there) in
    let none : prefix_len is_lemma rest ≡ 0 =
    ap (λ (n : ℕ). prefix_len is_lemma (drop n word)) at ∙ none_passes is_lemma word in
    let three : front ++ value ++ rest ≡ front ++ (value ++ rest) = append_assoc front value rest in
    let long : length front ≡ h = length-prefix_len is_head word in
    let heads : prefix_len is_head (front ++ value ++ rest) ≡ h =
    ap (prefix_len is_head) three
    ∙ all_pass is_head front (value ++ rest) (front_passes is_head word)
    (queue_ends s (more ++ rest) q.0) ∙ long in
    let all : list_all is_lemma (front ++ value) ≡ true =
    list_all-append is_lemma front value
    ∙ and_both (list_all is_lemma front) (list_all is_lemma value)
    (heads_are_lemmas front (front_passes is_head word))
    (and_both (is_lemma s) (list_all is_lemma more) (queue_is_lemma s q.0) q.1) in
    let both : length (front ++ value) ≡ h + length value =
    length-append front value ∙ ap (λ (n : ℕ). n + length value) long in
    let lemma_ : prefix_len is_lemma (front ++ value ++ rest) ≡ h + length value =
    all_pass is_lemma (front ++ value) rest all none ∙ both in
    let count : prefix_len is_lemma (front ++ value ++ rest)
    - prefix_len is_head (front ++ value ++ rest) ≡ length value = omega (arith, heads, lemma_) in
    as_long attributes Lemq value word h (l - h) refl (omega (arith, at, within))
    (ap (λ (n : ℕ). let sp : Span = record {
      start = n;
      count = prefix_len is_lemma (front ++ value ++ rest)
          - prefix_len is_head (front ++ value ++ rest);
    } in sp) heads
    ∙ ap (λ (n : ℕ). let sp : Span = record { start = h; count = n } in sp) count)

tags_word : (attributes : List (List AttrItem)) (value word : List Symbol) → AreTags value →
    0 < (span_of attributes Tags word).count →
    reread attributes Tags (rewritten attributes Tags value word) ≡ value
tags_word attributes [] word t there = absurd t
tags_word attributes (s ∷ more) word t there =
    let value = s ∷ more in
    let l = prefix_len is_lemma word in
    let n = prefix_len is_tag (drop l word) in
    let front = take l word in
    let rest = drop (l + n) word in
    let less = front_within is_lemma word in
    let within : l + n ≤ length word = omega (
      arith,
      less,
      front_within is_tag (drop l word),
      length-drop l word,
    ) in
    let none : prefix_len is_tag rest ≡ 0 =
    ap (prefix_len is_tag) (sym (drop-drop n l word)) ∙ none_passes is_tag (drop l word) in
    let three : front ++ value ++ rest ≡ front ++ (value ++ rest) = append_assoc front value rest in
    let long : length front ≡ l = length-prefix_len is_lemma word in
    let start : prefix_len is_lemma (front ++ value ++ rest) ≡ l =
    ap (prefix_len is_lemma) three
    ∙ all_pass is_lemma front (value ++ rest) (front_passes is_lemma word)
    (tag_ends s (more ++ rest) t.0) ∙ long in
    let behind : drop l (front ++ value ++ rest) ≡ value ++ rest =
    ap (drop l) three ∙ ap (λ (k : ℕ). drop k (front ++ (value ++ rest))) (sym long)
    ∙ drop-append_seam front (value ++ rest) in
    let count : prefix_len is_tag (drop (prefix_len is_lemma (front ++ value ++ rest))
    (front ++ value ++ rest)) ≡ length value =
    ap (λ (k : ℕ). prefix_len is_tag (drop k (front ++ value ++ rest))) start
    ∙ ap (prefix_len is_tag) behind
    ∙ all_pass is_tag value rest (and_both (is_tag s) (list_all is_tag more) t.0 t.1) none in
    as_long attributes Tags value word l n refl within
    (ap (λ (k : ℕ). let sp : Span = record {
      start = k;
      count = prefix_len is_tag (drop (prefix_len is_lemma (front ++ value ++ rest))
          (front ++ value ++ rest));
    } in sp) start
    ∙ ap (λ (k : ℕ). let sp : Span = record { start = l; count = k } in sp) count)

-- items of one tag each fit by the first symbol of a word alone

one_fits_same : (item : List Symbol) → IsOneTag item → (x : Symbol) (a b : List Symbol) →
    item_fits item (x ∷ a) ≡ item_fits item (x ∷ b)
one_fits_same [] one x a b = refl
one_fits_same (s ∷ []) one x a b = refl
one_fits_same (s ∷ t ∷ more) one x a b = absurd one

longest_same : (best : Option ℕ) (items : List (List Symbol)) → Each IsOneTag items →
    (x : Symbol) (a b : List Symbol) → longest best items (x ∷ a) ≡ longest best items (x ∷ b)
longest_same best [] each x a b = refl
longest_same best (item ∷ items) each x a b =
    ap (λ (v : Bool). longest (if v then longer best (length item) else best) items (x ∷ a))
    (one_fits_same item each.0 x a b)
    ∙ longest_same (if item_fits item (x ∷ b) then longer best (length item) else best) items
    each.1 x a b

one_long : (item : List Symbol) → IsOneTag item → length item ≡ 1
one_long [] one = absurd one
one_long (s ∷ []) one = refl
one_long (s ∷ t ∷ more) one = absurd one

-- nothing, or one symbol
abbrev IsOne : Option ℕ → Type 0
IsOne None = Unit {0}
IsOne (Some n) = n ≡ 1

longer_one : (best : Option ℕ) → IsOne best → longer best 1 ≡ Some 1
longer_one None h = refl
longer_one (Some m) h = ap (λ (k : ℕ). Some (if nat_lt k 1 then 1 else k)) h

longest_one : (best : Option ℕ) (items : List (List Symbol)) (word : List Symbol) →
    IsOne best → Each IsOneTag items → IsOne (longest best items word)
longest_one best [] word h each = h
longest_one best (item ∷ items) word h each =
    by (item_fits item word) (λ o k. longest_one o items word k each.1)
  where
    by : (v : Bool) → ((o : Option ℕ) → IsOne o → IsOne (longest o items word)) →
        IsOne (longest (if v then longer best (length item) else best) items word)
    by true go = go (longer best (length item))
        (subst IsOne (sym (ap (longer best) (one_long item each.0) ∙ longer_one best h)) refl)
    by false go = go best h

-- once one fits, it stays
longest_stays : (items : List (List Symbol)) (word : List Symbol) → Each IsOneTag items →
    longest (Some 1) items word ≡ Some 1
longest_stays [] word each = refl
longest_stays (item ∷ items) word each =
    by (item_fits item word) (longest_stays items word each.1)
  where
    by : (v : Bool) → longest (Some 1) items word ≡ Some 1 →
        longest (if v then longer (Some 1) (length item) else Some 1) items word ≡ Some 1
    by true go = ap (λ (o : Option ℕ). longest o items word)
        (ap (longer (Some 1)) (one_long item each.0)) ∙ go
    by false go = go

fits_own : (s : Symbol) (rest : List Symbol) → item_fits (s ∷ []) (s ∷ rest) ≡ true
fits_own s rest = and_both (fits_lem true s s) true (fits_itself true s) refl

-- an item fits where it stands
longest_own : (best : Option ℕ) (items : List (List Symbol)) (s : Symbol) (rest : List Symbol) →
    IsOne best → Each IsOneTag items → IsIn (s ∷ []) items →
    longest best items (s ∷ rest) ≡ Some 1
longest_own best [] s rest h each at = absurd at
longest_own best (item ∷ items) s rest h each (inl e) =
    let fits : item_fits item (s ∷ rest) ≡ true =
    ap (λ (i : List Symbol). item_fits i (s ∷ rest)) (sym e) ∙ fits_own s rest in
    ap (λ (v : Bool). longest (if v then longer best (length item) else best) items (s ∷ rest)) fits
    ∙ ap (λ (o : Option ℕ). longest o items (s ∷ rest))
    (ap (longer best) (one_long item each.0) ∙ longer_one best h)
    ∙ longest_stays items (s ∷ rest) each.1
longest_own best (item ∷ items) s rest h each (inr at) =
    by (item_fits item (s ∷ rest)) (longest_own best items s rest h each.1 at)
  where
    by : (v : Bool) → longest best items (s ∷ rest) ≡ Some 1 →
        longest (if v then longer best (length item) else best) items (s ∷ rest) ≡ Some 1
    by true go = ap (λ (o : Option ℕ). longest o items (s ∷ rest))
        (ap (longer best) (one_long item each.0) ∙ longer_one best h)
        ∙ longest_stays items (s ∷ rest) each.1
    by false go = go

abbrev one_at : ℕ → Span
one_at n = record { start = n; count = 1 }

-- Where an item is found, it is one symbol at some place; and with another item at that place, that
-- is found there.
record FoundAt (items : List (List Symbol)) (s : Symbol) (word : List Symbol) (at : ℕ) : Type 0
  where
    place : ℕ
    below : place < length word
    is : sought at items word ≡ one_at (at + place)
    again : sought at items (take place word ++ (s ∷ drop (place + 1) word)) ≡ one_at (at + place)

found_at : (items : List (List Symbol)) (s : Symbol) → Each IsOneTag items →
    IsIn (s ∷ []) items → (word : List Symbol) (at : ℕ) → 0 < (sought at items word).count →
    FoundAt items s word at
found_at items s each own [] at there = absurd (omega (arith, there))
found_at items s each own (x ∷ word) at there =
    by (longest None items (x ∷ word)) refl (longest_one None items (x ∷ word) tt each)
    (found_at items s each own word (at + 1)) there
  where
    at_is : at ≡ at + 0
    at_is = omega arith

    by : (o : Option ℕ) → longest None items (x ∷ word) ≡ o → IsOne o →
        (0 < (sought (at + 1) items word).count → FoundAt items s word (at + 1)) →
        0 < (found at o (sought (at + 1) items word)).count → FoundAt items s (x ∷ word) at
    by (Some n) e one go some = record {
      place = 0;
      below = omega arith;
      is = ap (λ (p : Option ℕ). found at p (sought (at + 1) items word)) e
          ∙ ap (λ (k : ℕ). let sp : Span = record { start = at; count = k } in sp) one
          ∙ ap one_at at_is;
      again = ap (λ (p : Option ℕ). found at p (sought (at + 1) items word))
          (longest_own None items s word tt each own) ∙ ap one_at at_is;
    }
    by None e one go some =
        let next = go some in
        let k = next.place in
        let on : at + 1 + k ≡ at + suc k = omega arith in
        let past : suc k + 1 ≡ suc (k + 1) = omega arith in
        let rest = take k word ++ (s ∷ drop (k + 1) word) in
        record {
          place = suc k;
          below = omega (arith, next.below);
          is = ap (λ (p : Option ℕ). found at p (sought (at + 1) items word)) e ∙ next.is
              ∙ ap one_at on;
          again = ap (λ (m : ℕ). sought at items (x ∷ (take k word ++ (s ∷ drop m (x ∷ word)))))
              past
              ∙ ap (λ (p : Option ℕ). found at p (sought (at + 1) items rest))
              (longest_same None items each x rest word ∙ e) ∙ next.again ∙ ap one_at on;
        }

-- a place behind others
take_none : (n : ℕ) → take {A = Symbol} n [] ≡ []
take_none zero = refl
take_none (suc n) = refl

take_plus : (m n : ℕ) (word : List Symbol) →
    take (m + n) word ≡ take m word ++ take n (drop m word)
take_plus zero n word = ap (λ (k : ℕ). take k word) (omega arith)
take_plus (suc m) n [] = take_none (suc m + n) ∙ sym (take_none n)
take_plus (suc m) n (s ∷ word) =
    let e : suc m + n ≡ suc (m + n) = omega arith in
    ap (λ (k : ℕ). take k (s ∷ word)) e
    ∙ ap (λ (x : List Symbol). s ∷ x) (take_plus m n word)

-- the first symbol of a word is a tag, and stays so where another one tag is put in
tag_first : (s : Symbol) → is_tag s ≡ true → (word : List Symbol) → prefix_len is_lemma word ≡ 0 →
    (k : ℕ) → k < length word →
    prefix_len is_lemma (take k word ++ (s ∷ drop (k + 1) word)) ≡ 0
tag_first s tag word none zero below = tag_ends s (drop (0 + 1) word) tag
tag_first s tag [] none (suc k) below = absurd (omega (arith, below))
tag_first s tag (x ∷ word) none (suc k) below =
    let past : suc k + 1 ≡ suc (k + 1) = omega arith in
    ap (λ (m : ℕ). prefix_len is_lemma (x ∷ (take k word ++ (s ∷ drop m (x ∷ word))))) past
    ∙ by (is_lemma x) none
  where
    by : (b : Bool) → cond b (1 + prefix_len is_lemma word) 0 ≡ 0 →
        cond b (1 + prefix_len is_lemma (take k word ++ (s ∷ drop (k + 1) word))) 0 ≡ 0
    by true h = absurd (omega (arith, h))
    by false h = refl

attribute_word : (attributes : List (List AttrItem)) (n : ℕ) (value word : List Symbol) →
    Each IsOneTag (items_of attributes n) → IsIn value (items_of attributes n) → IsOneTag value →
    0 < (span_of attributes (Attribute n) word).count →
    reread attributes (Attribute n) (rewritten attributes (Attribute n) value word) ≡ value
attribute_word attributes n [] word each own one there = absurd one
attribute_word attributes n (s ∷ t ∷ more) word each own one there = absurd one
attribute_word attributes n (s ∷ []) word each own one there =
    let items = items_of attributes n in
    let l = prefix_len is_lemma word in
    let tail = drop l word in
    let f = found_at items s each own tail l there in
    let k = f.place in
    let front = take l word in
    let new = take k tail ++ (s ∷ drop (k + 1) tail) in
    let less = front_within is_lemma word in
    let within : l + k + 1 ≤ length word = omega (arith, less, f.below, length-drop l word) in
    let long : length front ≡ l = length-prefix_len is_lemma word in
    let value = s ∷ [] in
    let made = spliced (one_at (l + k)) value word in
    let behind : drop (l + k + 1) word ≡ drop (k + 1) tail =
    ap (λ (m : ℕ). drop m word) (omega arith) ∙ sym (drop-drop (k + 1) l word) in
    let in_two : made ≡ front ++ new =
    append_assoc (take (l + k) word) value (drop (l + k + 1) word)
    ∙ ap (λ (x : List Symbol). x ++ (s ∷ drop (l + k + 1) word)) (take_plus l k word)
    ∙ append_assoc front (take k tail) (s ∷ drop (l + k + 1) word)
    ∙ ap (λ (x : List Symbol). front ++ (take k tail ++ (s ∷ x))) behind in
    let start : prefix_len is_lemma made ≡ l =
    ap (prefix_len is_lemma) in_two
    ∙ all_pass is_lemma front new (front_passes is_lemma word)
    (tag_first s one tail (none_passes is_lemma word) k f.below) ∙ long in
    let end : drop l made ≡ new =
    ap (drop l) in_two ∙ ap (λ (m : ℕ). drop m (front ++ new)) (sym long)
    ∙ drop-append_seam front new in
    let span : span_of attributes (Attribute n) made ≡ one_at (l + k) =
    ap (λ (m : ℕ). sought m items (drop m made)) start ∙ ap (sought l items) end ∙ f.again in
    as_long attributes (Attribute n) value word (l + k) 1 f.is within
    (ap (λ (sp : Span). span_of attributes (Attribute n) (spliced sp value word)) f.is ∙ span)

-- on a whole word of a unit

some_kept : (n : ℕ) → 0 < n → (n == 0) ≡ false
some_kept n h = grind (arith, nat_tests)

-- a part that isn't kept is replaced
module _ (attributes : List (List AttrItem)) (part : ClipPart) (value : List Symbol) where
  abbrev ReadsOn : List Symbol → Type 0
  ReadsOn word = reread attributes part (rewritten attributes part value word) ≡ value

  replaced_reads : (side : Side) (queue : Bool) (unit : Shown) →
      (side ≡ Source) ⊎ (queue ≡ true) →
      is_kept part (span_of attributes part (word_on side queue unit)).count ≡ false →
      ReadsOn (word_on side queue unit) → Reads attributes side queue value unit part
  replaced_reads Source queue unit on kept h =
      ap (λ (b : Bool). reread attributes part (word_on Source queue (if b then unit
      else replaced Source (span_of attributes part unit.source) value unit))) kept ∙ h
  replaced_reads Target true unit on kept h =
      ap (λ (b : Bool). reread attributes part (word_on Target true (if b then unit
      else replaced Target (span_of attributes part unit.target) value unit))) kept ∙ h
  replaced_reads Target false unit (inl e) kept h = absurd (no_side e)
  replaced_reads Target false unit (inr e) kept h = absurd (false≢true e)

pub head_is_read : HeadIsRead
head_is_read sight c value e on all w =
    let side = side_in sight.form c.side in
    read_at sight c value w
    (subst (Reads sight.attributes side c.queue value w.before) (sym e)
    (replaced_reads sight.attributes Lemh value side c.queue w.before on refl
    (head_word sight.attributes value (word_on side c.queue w.before) all)))

module _ (sight : Sight) (c : Clip) (value : List Symbol) (part : ClipPart) (e : c.part ≡ part)
    (on : IsOnWhole sight.form c) (w : IsWrittenAt sight c value)
    (there : WasThere sight c w.before) where
  abbrev word_before : List Symbol
  word_before = word_on (side_in sight.form c.side) c.queue w.before

  was_there : 0 < (span_of sight.attributes part word_before).count
  was_there =
      subst (λ (p : ClipPart). 0 < (span_of sight.attributes p word_before).count) e there

  part_is_read : is_kept part (span_of sight.attributes part word_before).count ≡ false →
      ReadsOn sight.attributes part value word_before →
      part_at sight c.pos c.part c.side c.queue ≡ value
  part_is_read kept h =
      read_at sight c value w
      (subst (Reads sight.attributes (side_in sight.form c.side) c.queue value w.before) (sym e)
      (replaced_reads sight.attributes part value (side_in sight.form c.side) c.queue w.before on
      kept h))

pub queue_is_read : QueueIsRead
queue_is_read sight c value e on q w there =
    let some = was_there sight c value Lemq e on w there in
    part_is_read sight c value Lemq e on w there (some_kept _ some)
    (queue_word sight.attributes value (word_before sight c value Lemq e on w there) q some)

pub tags_are_read : TagsAreRead
tags_are_read sight c value e on t w there =
    let some = was_there sight c value Tags e on w there in
    part_is_read sight c value Tags e on w there (some_kept _ some)
    (tags_word sight.attributes value (word_before sight c value Tags e on w there) t some)

-- an item of items of one tag is one tag
one_of : (items : List (List Symbol)) (value : List Symbol) → Each IsOneTag items →
    IsIn value items → IsOneTag value
one_of [] value each at = absurd at
one_of (item ∷ items) value each (inl e) = subst IsOneTag (sym e) each.0
one_of (item ∷ items) value each (inr at) = one_of items value each.1 at

pub attribute_is_read : AttributeIsRead
attribute_is_read sight c n value e on each own w there =
    let some = was_there sight c value (Attribute n) e on w there in
    part_is_read sight c value (Attribute n) e on w there (some_kept _ some)
    (attribute_word sight.attributes n value
    (word_before sight c value (Attribute n) e on w there) each own
    (one_of (items_of sight.attributes n) value each own) some)
