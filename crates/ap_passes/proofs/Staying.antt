-- Words that stay as they are.
use Rattle.std.proofs.Common.{◌≡◌, ◌<◌, Bool, true, false, cond, List, [], ◌∷◌, length, take, drop, ap, ◌∙◌, refl, arith}
use Rattle.std.specs.Prelude.{nat_lt}
use Rattle.std.specs.List.{filter, list_any, list_all}
use Rattle.std.proofs.lemmas.Bool.{cond-true, cond-false, or_parts, and_left, and_right, and_from, le-ltb}
use Rattle.std.proofs.lemmas.List.{take-append-drop, drop_all}
use Rattle.ap_symbol.specs.Kinds.{is_join, is_queue, is_tag, is_joint, is_marked}
use Rattle.ap_symbol.specs.declared.symbol.Symbol.{Symbol}
use Rattle.ap_passes.specs.Splitting.{in_front, between_joins, parts, is_filled, tag_place, queue_place, is_moved, moved, split}
use Rattle.ap_passes.proofs.Cutting.{filled_by}
use Rattle.ap_passes.proofs.Finding.{none_until, none_less, none_drop, until_le}
use Rattle.ap_passes.proofs.MovedParts.{moved_not}

joins_none : (word : List Symbol) → list_any is_join word ≡ false → between_joins word ≡ word ∷ []
joins_none [] h = refl
joins_none (x ∷ word) h =
    let p = or_parts (is_join x) (list_any is_join word) h in
    cond-false (is_join x) ([] ∷ between_joins word) (in_front (x ∷ []) (between_joins word)) p.0
    ∙ ap (in_front (x ∷ [])) (joins_none word p.1)

pub parts_none : (word : List Symbol) → list_any is_join (drop (tag_place word) word) ≡ false →
    parts word ≡ word ∷ []
parts_none word h = ap (in_front (take (tag_place word) word))
    (joins_none (drop (tag_place word) word) h)
    ∙ ap (λ z. z ∷ []) (take-append-drop (tag_place word) word)

filled_whole : (word : List Symbol) → 0 < length word → filter is_filled (word ∷ []) ≡ word ∷ []
filled_whole word h = cond-true (is_filled word) (word ∷ []) [] (filled_by word h)

pub split_marked : (word : List Symbol) → is_marked word ≡ true → split word ≡ word ∷ []
unfolding split
split_marked word h = cond-true (is_marked word) (word ∷ [])
    (filter is_filled (parts (moved word))) h

pub split_open : (word : List Symbol) → is_marked word ≡ false →
    split word ≡ filter is_filled (parts (moved word))
unfolding split
split_open word h = cond-false (is_marked word) (word ∷ [])
    (filter is_filled (parts (moved word))) h

-- a word that isn't marked, whose invariable part isn't moved, and that has no Join behind a tag
stays_by : (b : Bool) (word : List Symbol) → is_marked word ≡ b → 0 < length word →
    is_moved word ≡ false → list_any is_join (drop (tag_place word) word) ≡ false →
    split word ≡ word ∷ []
stays_by true word m some still whole = split_marked word m
stays_by false word m some still whole =
    split_open word m ∙ ap (λ z. filter is_filled (parts z)) (moved_not word still)
    ∙ ap (filter is_filled) (parts_none word whole) ∙ filled_whole word some

joint_join : (x : Symbol) → is_joint x ≡ false → is_join x ≡ false
joint_join x h = (or_parts (is_join x) (is_queue x) h).0

joint_queue : (x : Symbol) → is_joint x ≡ false → is_queue x ≡ false
joint_queue x h = (or_parts (is_join x) (is_queue x) h).1

pub plain_split : (word : List Symbol) → 0 < length word → list_any is_joint word ≡ false →
    split word ≡ word ∷ []
plain_split word some h =
    let no_queue = none_until is_queue word (none_less is_joint is_queue joint_queue word h) in
    let still : is_moved word ≡ false =
    and_right (nat_lt (tag_place word) (queue_place word))
    (nat_lt (queue_place word) (length word))
    (le-ltb (queue_place word) (length word) (omega (arith, no_queue))) in
    stays_by (is_marked word) word refl some still
    (none_drop is_join (tag_place word) word (none_less is_joint is_join joint_join word h))

pub tagless_split : (word : List Symbol) → 0 < length word → list_any is_tag word ≡ false →
    split word ≡ word ∷ []
tagless_split word some h =
    let no_tag = none_until is_tag word h in
    let short = until_le is_queue word in
    let still : is_moved word ≡ false =
    and_left (nat_lt (tag_place word) (queue_place word))
    (nat_lt (queue_place word) (length word))
    (le-ltb (tag_place word) (queue_place word) (omega (arith, no_tag, short))) in
    stays_by (is_marked word) word refl some still
    (ap (list_any is_join) (drop_all (tag_place word) word (omega (arith, no_tag))))

-- no word that is made is empty
kept_pass_at : (b : Bool) (word : List Symbol) (words : List (List Symbol)) → is_filled word ≡ b →
    list_all is_filled words ≡ true → list_all is_filled (cond b (word ∷ words) words) ≡ true
kept_pass_at true word words h on = and_from (is_filled word) (list_all is_filled words) h on
kept_pass_at false word words h on = on

kept_pass : (words : List (List Symbol)) → list_all is_filled (filter is_filled words) ≡ true
kept_pass [] = refl
kept_pass (word ∷ words) =
    kept_pass_at (is_filled word) word (filter is_filled words) refl (kept_pass words)

marked_filled : (word : List Symbol) → is_marked word ≡ true → is_filled word ≡ true
marked_filled [] h = h
marked_filled (x ∷ word) h = refl

none_empty_by : (b : Bool) (word : List Symbol) → is_marked word ≡ b →
    list_all is_filled (split word) ≡ true
none_empty_by true word m = ap (list_all is_filled) (split_marked word m)
    ∙ and_from (is_filled word) true (marked_filled word m) refl
none_empty_by false word m = ap (list_all is_filled) (split_open word m)
    ∙ kept_pass (parts (moved word))

pub none_empty : (word : List Symbol) → list_all is_filled (split word) ≡ true
none_empty word = none_empty_by (is_marked word) word refl
