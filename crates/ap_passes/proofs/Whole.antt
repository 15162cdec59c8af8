-- Nothing of a word is lost.
use Rattle.std.proofs.Common.{◌≡◌, ◌⊎◌, inl, inr, ℕ, suc, ◌+◌, ◌-◌, ◌<◌, ◌≤◌, Bool, true, false, not, cond, ◌||◌, List, [], ◌∷◌, ◌++◌, length, get_or, take, drop, sym, ap, ◌∙◌, refl, subst, arith}
use Rattle.std.specs.Prelude.{nat_lt}
use Rattle.std.specs.List.{filter, flat_map, list_any, list_all}
use Rattle.std.proofs.lemmas.Bool.{cond-true, cond-false, and_parts, and_from, and_cases, or_from, ltb-false, cases_lt}
use Rattle.std.proofs.lemmas.List.{append_assoc, take-append-drop, take-take, drop-drop, drop-take, drop_more}
use Rattle.ap_symbol.specs.Kinds.{is_join, is_queue, is_tag, is_marked}
use Rattle.ap_symbol.specs.declared.symbol.Symbol.{Symbol}
use Rattle.ap_symbol.specs.declared.symbol.Symbol.TheVariants.{Letter, Tag, Blank, Join, Queue, Alarm, Star, At}
use Rattle.ap_passes.specs.Laws.{joined_one, rejoined, HasPart, IsMoved, moves, untagged, without, is_joinless, IsSplit, IsTakenApart}
use Rattle.ap_passes.specs.Marks.{is_end, until, begins_with, stops_at}
use Rattle.ap_passes.specs.Splitting.{between, in_front, between_joins, parts, is_filled, tag_place, queue_place, part_end, invariable, is_moved, moved, split}
use Rattle.ap_passes.proofs.Finding.{none_before, none_take, found, until_le, until_none, stops_until}
use Rattle.ap_passes.proofs.MovedParts.{moved_places, moved_is, moved_not}
use Rattle.ap_passes.proofs.Staying.{split_open}

-- joined again by Joins
rejoined_front : (front : List Symbol) (words : List (List Symbol)) →
    rejoined (in_front front words) ≡ front ++ rejoined words
rejoined_front front [] = refl
rejoined_front front (word ∷ words) = append_assoc front word (flat_map joined_one words)

front_flat : (front : List Symbol) (words : List (List Symbol)) →
    flat_map joined_one (in_front front words) ≡ Join ∷ rejoined (in_front front words)
front_flat front [] = refl
front_flat front (word ∷ words) = refl

joins_flat_at : (b : Bool) (x : Symbol) (words : List (List Symbol)) →
    flat_map joined_one (cond b ([] ∷ words) (in_front (x ∷ []) words)) ≡ Join
    ∷ rejoined (cond b ([] ∷ words) (in_front (x ∷ []) words))
joins_flat_at true x words = refl
joins_flat_at false x words = front_flat (x ∷ []) words

joins_flat : (word : List Symbol) → flat_map joined_one (between_joins word) ≡ Join
    ∷ rejoined (between_joins word)
joins_flat [] = refl
joins_flat (x ∷ word) = joins_flat_at (is_join x) x (between_joins word)

join_is : (x : Symbol) → is_join x ≡ true → Join ≡ x
join_is (Letter c) h = cc
join_is (Tag name) h = cc
join_is Blank h = cc
join_is Join h = refl
join_is Queue h = cc
join_is Alarm h = cc
join_is Star h = cc
join_is At h = cc

rejoined_at : (b : Bool) (x : Symbol) (word : List Symbol) → is_join x ≡ b →
    rejoined (between_joins word) ≡ word →
    rejoined (cond b ([] ∷ between_joins word) (in_front (x ∷ []) (between_joins word))) ≡ x ∷ word
rejoined_at true x word e on = joins_flat word ∙ ap (λ z. Join ∷ z) on
    ∙ ap (λ y. y ∷ word) (join_is x e)
rejoined_at false x word e on = rejoined_front (x ∷ []) (between_joins word) ∙ ap (λ z. x ∷ z) on

rejoined_joins : (word : List Symbol) → rejoined (between_joins word) ≡ word
rejoined_joins [] = refl
rejoined_joins (x ∷ word) = rejoined_at (is_join x) x word refl (rejoined_joins word)

rejoined_parts : (word : List Symbol) → rejoined (parts word) ≡ word
rejoined_parts word =
    rejoined_front (take (tag_place word) word) (between_joins (drop (tag_place word) word))
    ∙ ap (λ z. take (tag_place word) word ++ z) (rejoined_joins (drop (tag_place word) word))
    ∙ take-append-drop (tag_place word) word

all_kept : (words : List (List Symbol)) → list_all is_filled words ≡ true →
    filter is_filled words ≡ words
all_kept [] h = refl
all_kept (word ∷ words) h =
    let p = and_parts (is_filled word) (list_all is_filled words) h in
    cond-true (is_filled word) (word ∷ filter is_filled words) (filter is_filled words) p.0
    ∙ ap (λ z. word ∷ z) (all_kept words p.1)

-- a word cut at places
cut_on : (word : List Symbol) (n m : ℕ) → n ≤ m → drop n word ≡ between n m word ++ drop m word
cut_on word n m h =
    sym (take-append-drop (m - n) (drop n word))
    ∙ ap (λ z. between n m word ++ z) (drop-drop (m - n) n word
    ∙ ap (λ k. drop k word) (let e : n + (m - n) ≡ m = omega (arith, h) in e))

front_on : (word : List Symbol) (n m : ℕ) → n ≤ m → take n word ++ between n m word ≡ take m word
front_on word n m h =
    let e : n + (m - n) ≡ m = omega (arith, h) in
    ap (λ z. z ++ between n m word) (sym (take-take n m word h))
    ∙ ap (λ z. take n (take m word) ++ z) (sym (drop-take n (m - n) word)
    ∙ ap (λ k. drop n (take k word)) e) ∙ take-append-drop n (take m word)

-- the invariable part holds no tag and no Join
queue_no_end : (x : Symbol) → is_queue x ≡ true → is_end x ≡ false
queue_no_end (Letter c) h = refl
queue_no_end (Tag name) h = cc
queue_no_end Blank h = refl
queue_no_end Join h = cc
queue_no_end Queue h = refl
queue_no_end Alarm h = refl
queue_no_end Star h = refl
queue_no_end At h = refl

part_ends : (word : List Symbol) → queue_place word < length word →
    list_any is_end (invariable word) ≡ false
part_ends word h =
    let q = queue_place word in
    let k = until is_end (drop (q + 1) word) in
    let size : part_end word - q ≡ suc k = omega arith in
    let x = get_or word q Blank in
    let e : invariable word ≡ x ∷ take k (drop (q + 1) word) = ap (λ n. take n (drop q word)) size
    ∙ ap (take (suc k)) (drop_more word q Blank h) in
    ap (list_any is_end) e ∙ or_from (is_end x) (list_any is_end (take k (drop (q + 1) word)))
    (queue_no_end x (found is_queue word Blank h)) (none_before is_end (drop (q + 1) word))

-- it begins with a Queue, and behind it stands what ends it, or nothing
part_is : (word : List Symbol) → queue_place word < length word →
    invariable word ≡ get_or word (queue_place word) Blank
    ∷ take (until is_end (drop (queue_place word + 1) word)) (drop (queue_place word + 1) word)
part_is word h =
    let q = queue_place word in
    let k = until is_end (drop (q + 1) word) in
    let size : part_end word - q ≡ suc k = omega arith in
    ap (λ n. take n (drop q word)) size ∙ ap (take (suc k)) (drop_more word q Blank h)

part_begins : (word : List Symbol) → queue_place word < length word →
    begins_with is_queue (invariable word) ≡ true
part_begins word h = ap (begins_with is_queue) (part_is word h) ∙ found is_queue word Blank h

part_over : (word : List Symbol) → stops_at is_end (drop (part_end word) word) ≡ true
part_over word =
    let n = queue_place word + 1 in
    ap (stops_at is_end) (sym (drop-drop (until is_end (drop n word)) n word))
    ∙ stops_until is_end (drop n word)

-- so it is the invariable part of the word behind what stands before the first Queue
has_part : (word before : List Symbol) → queue_place word < length word →
    before ≡ take (queue_place word) word →
    HasPart word before (invariable word) (drop (part_end word) word)
has_part word before within e =
    let q = queue_place word in
    record {
      is = sym (take-append-drop q word)
          ∙ ap (λ z. take q word ++ z) (cut_on word q (part_end word) (omega arith))
          ∙ ap (λ z. z ++ (invariable word ++ drop (part_end word) word)) (sym e);
      first = ap (list_any is_queue) e ∙ none_before is_queue word;
      begins = part_begins word within;
      runs = part_ends word within;
      ends = part_over word;
    }

-- the tags before it begin with the first tag
tags_begin : (word : List Symbol) (t q : ℕ) → t ≡ tag_place word → t < q → q < length word →
    begins_with is_tag (between t q word) ≡ true
tags_begin word t q is h k =
    let size : q - t ≡ suc (q - t - 1) = omega (arith, h) in
    let within : t < length word = omega (arith, h, k) in
    ap (λ n. begins_with is_tag (take n (drop t word))) size
    ∙ ap (λ z. begins_with is_tag (take (suc (q - t - 1)) z)) (drop_more word t Blank within)
    ∙ ap (λ n. is_tag (get_or word n Blank)) is
    ∙ found is_tag word Blank (omega (arith, within, is))

-- it was moved
moved_on : (word : List Symbol) → is_moved word ≡ true → IsMoved word (moved word)
moved_on word h =
    let p = moved_places word h in
    let t = tag_place word in
    let q = queue_place word in
    let le : t ≤ q = omega (arith, p.0) in
    moves (take t word) (between t q word) (invariable word) (drop (part_end word) word)
    (has_part word (take t word ++ between t q word) p.1 (front_on word t q le))
    (none_before is_tag word) (tags_begin word t q refl p.0 p.1) (moved_is word h)

-- there is one, but no tag stands before it
stands : (word : List Symbol) → is_moved word ≡ false → queue_place word ≤ tag_place word →
    queue_place word < length word → IsMoved word (moved word)
stands word h le within =
    let q = queue_place word in
    untagged (take q word) (invariable word) (drop (part_end word) word)
    (has_part word (take q word) within refl)
    (ap (list_any is_tag) (sym (take-take q (tag_place word) word le))
    ∙ none_take is_tag q (take (tag_place word) word) (none_before is_tag word)) (moved_not word h)

-- there is none
lacks : (word : List Symbol) → is_moved word ≡ false → length word ≤ queue_place word →
    IsMoved word (moved word)
lacks word h past =
    without (until_none is_queue word (let s = until_le is_queue word in omega (arith, s, past)))
    (moved_not word h)

stays : (word : List Symbol) → is_moved word ≡ false → (queue_place word < length word)
    ⊎ (length word ≤ queue_place word) → IsMoved word (moved word)
stays word h (inr past) = lacks word h past
stays word h (inl within) =
    stands word h (elim (and_cases (nat_lt (tag_place word) (queue_place word))
    (nat_lt (queue_place word) (length word)) h) [
      | inl e ↦ ltb-false (tag_place word) (queue_place word) e
      | inr e ↦ let l = ltb-false (queue_place word) (length word) e in omega (arith, l, within)
    ]) within

moved_by : (b : Bool) (word : List Symbol) → is_moved word ≡ b → IsMoved word (moved word)
moved_by true word h = moved_on word h
moved_by false word h = stays word h (cases_lt (queue_place word) (length word))

pub nothing_lost : (word : List Symbol) → is_marked word ≡ false →
    list_all is_filled (parts (moved word)) ≡ true → IsMoved word (rejoined (split word))
nothing_lost word bare filled =
    let e : rejoined (split word) ≡ moved word =
    ap rejoined (split_open word bare ∙ all_kept (parts (moved word)) filled)
    ∙ rejoined_parts (moved word) in
    subst (IsMoved word) (sym e) (moved_by (is_moved word) word refl)

-- the parts of a word
no_joins_at : (b : Bool) (x : Symbol) (words : List (List Symbol)) → is_join x ≡ b →
    list_all is_joinless words ≡ true →
    list_all is_joinless (cond b ([] ∷ words) (in_front (x ∷ []) words)) ≡ true
no_joins_at true x words e on = on
no_joins_at false x [] e on =
    and_from (is_joinless (x ∷ [])) true (ap (λ b. not (b || false)) e) refl
no_joins_at false x (word ∷ words) e on =
    let p = and_parts (is_joinless word) (list_all is_joinless words) on in
    and_from (is_joinless (x ∷ word)) (list_all is_joinless words)
    (ap (λ b. not (b || list_any is_join word)) e ∙ p.0) p.1

no_joins : (word : List Symbol) → list_all is_joinless (between_joins word) ≡ true
no_joins [] = refl
no_joins (x ∷ word) = no_joins_at (is_join x) x (between_joins word) refl (no_joins word)

some_parts_at : (b : Bool) (x : Symbol) (words : List (List Symbol)) → (first : List Symbol)
    × (others : List (List Symbol))
    × (cond b ([] ∷ words) (in_front (x ∷ []) words) ≡ first ∷ others)
some_parts_at true x words = ([], words, refl)
some_parts_at false x [] = (x ∷ [], [], refl)
some_parts_at false x (word ∷ words) = (x ∷ word, words, refl)

some_parts : (word : List Symbol) → (first : List Symbol) × (others : List (List Symbol))
    × (between_joins word ≡ first ∷ others)
some_parts [] = ([], [], refl)
some_parts (x ∷ word) = some_parts_at (is_join x) x (between_joins word)

tag_no_join : (x : Symbol) → is_tag x ≡ true → is_join x ≡ false
tag_no_join (Letter c) h = cc
tag_no_join (Tag name) h = refl
tag_no_join Blank h = cc
tag_no_join Join h = cc
tag_no_join Queue h = cc
tag_no_join Alarm h = cc
tag_no_join Star h = cc
tag_no_join At h = cc

any_behind : (front : List Symbol) (x : Symbol) (more : List Symbol) → is_tag x ≡ true →
    list_any is_tag (front ++ (x ∷ more)) ≡ true
any_behind [] x more h = ap (λ b. b || list_any is_tag more) h
any_behind (y ∷ front) x more h =
    ap (λ b. is_tag y || b) (any_behind front x more h) ∙ or_true (is_tag y)
  where
    or_true : (b : Bool) → (b || true) ≡ true
    or_true true = refl
    or_true false = refl

-- where more than one part is made of what a tag begins, the first begins with it
tag_first : (front word first : List Symbol) (others : List (List Symbol)) →
    stops_at is_tag word ≡ true → between_joins word ≡ first ∷ others →
    (others ≡ []) ⊎ (list_any is_tag (front ++ first) ≡ true)
tag_first front [] first others h e = inl (let one : first ∷ others ≡ [] ∷ [] = sym e in cc)
tag_first front (x ∷ word) first others h e =
    let made = some_parts word in
    let is : between_joins (x ∷ word) ≡ (x ∷ made.0) ∷ made.1 =
    cond-false (is_join x) ([] ∷ between_joins word) (in_front (x ∷ []) (between_joins word))
    (tag_no_join x h)
    ∙ ap (in_front (x ∷ [])) made.2 in
    let first_is : x ∷ made.0 ≡ first = (let both : (x ∷ made.0) ∷ made.1 ≡ first ∷ others =
    sym is ∙ e in cc) in
    inr (ap (λ z. list_any is_tag (front ++ z)) (sym first_is) ∙ any_behind front x made.0 h)

splits : (word : List Symbol) → IsSplit word (parts word)
splits word =
    let t = tag_place word in
    let made = some_parts (drop t word) in
    let all : list_all is_joinless (made.0 ∷ made.1) ≡ true =
    ap (list_all is_joinless) (sym made.2) ∙ no_joins (drop t word) in
    let p = and_parts (is_joinless made.0) (list_all is_joinless made.1) all in
    record {
      first = take t word ++ made.0;
      others = made.1;
      parts_are = ap (in_front (take t word)) made.2;
      whole = rejoined_parts word;
      unsplit = record {
        front = take t word;
        back = made.0;
        is = refl;
        no_tag = none_before is_tag word;
        no_join = not_true (list_any is_join made.0) p.0;
      };
      tagged = tag_first (take t word) (drop t word) made.0 made.1 (stops_until is_tag word) made.2;
      joinless = p.1;
    }
  where
    not_true : (b : Bool) → not b ≡ true → b ≡ false
    not_true true h = sym h
    not_true false h = refl

pub takes_apart : (word : List Symbol) → is_marked word ≡ false → IsTakenApart word (split word)
takes_apart word bare =
    record {
      whole = moved word;
      parts = parts (moved word);
      moved = moved_by (is_moved word) word refl;
      split = splits (moved word);
      words_are = split_open word bare;
    }
