-- The words that are made of a word that was read can be written and read again.
use Rattle.std.proofs.Common.{◌≡◌, ℕ, ◌-◌, ◌<◌, Bool, true, false, cond, List, [], ◌∷◌, ◌++◌, length, take, drop, sym, refl, subst, arith}
use Rattle.std.specs.List.{filter, list_all}
use Rattle.std.proofs.lemmas.Bool.{and_parts}
use Rattle.ap_symbol.specs.Kinds.{is_join, is_marked}
use Rattle.ap_symbol.specs.declared.symbol.Symbol.{Symbol}
use Rattle.ap_stream.specs.declared.dialect.Dialect.TheVariants.{Analysed, Lexical}
use Rattle.ap_stream.specs.Laws.{AreSpelt, EachSpelt, AreWords}
use Rattle.ap_stream.proofs.Written.{spelt_append, spelt_take, spelt_drop}
use Rattle.ap_passes.specs.Laws.{EachWord}
use Rattle.ap_passes.specs.Splitting.{between, in_front, between_joins, parts, is_filled, tag_place, queue_place, part_end, invariable, is_moved, moved, split}
use Rattle.ap_passes.proofs.MovedParts.{moved_is, moved_not}
use Rattle.ap_passes.proofs.Staying.{split_marked, split_open, none_empty}

spelt_between : (from to : ℕ) (word : List Symbol) → AreSpelt false word →
    AreSpelt false (between from to word)
spelt_between from to word h =
    spelt_take false (to - from) (drop from word) (spelt_drop from word h)

spelt_moved_by : (b : Bool) (word : List Symbol) → is_moved word ≡ b → AreSpelt false word →
    AreSpelt false (moved word)
spelt_moved_by true word e h = subst (AreSpelt false) (sym (moved_is word e))
    (spelt_append (take (tag_place word) word)
    (invariable word ++ (between (tag_place word) (queue_place word) word
    ++ drop (part_end word) word)) (spelt_take false (tag_place word) word h)
    (spelt_append (invariable word) (between (tag_place word) (queue_place word) word
    ++ drop (part_end word) word) (spelt_between (queue_place word) (part_end word) word h)
    (spelt_append (between (tag_place word) (queue_place word) word) (drop (part_end word) word)
    (spelt_between (tag_place word) (queue_place word) word h)
    (spelt_drop (part_end word) word h))))
spelt_moved_by false word e h = subst (AreSpelt false) (sym (moved_not word e)) h

front_spelt : (front : List Symbol) (words : List (List Symbol)) → AreSpelt false front →
    EachSpelt words → EachSpelt (in_front front words)
front_spelt front [] h k = (h, tt)
front_spelt front (word ∷ words) h k = (spelt_append front word h k.0, k.1)

joins_spelt_at : (b : Bool) (x : Symbol) (words : List (List Symbol)) → AreSpelt false (x ∷ []) →
    EachSpelt words → EachSpelt (cond b ([] ∷ words) (in_front (x ∷ []) words))
joins_spelt_at true x words h k = (tt, k)
joins_spelt_at false x words h k = front_spelt (x ∷ []) words h k

joins_spelt : (word : List Symbol) → AreSpelt false word → EachSpelt (between_joins word)
joins_spelt [] h = (tt, tt)
joins_spelt (x ∷ word) h =
    joins_spelt_at (is_join x) x (between_joins word) (h.0, tt) (joins_spelt word h.1)

kept_spelt_at : (b : Bool) (word : List Symbol) (words : List (List Symbol)) → AreSpelt false word →
    EachSpelt words → EachSpelt (cond b (word ∷ words) words)
kept_spelt_at true word words h k = (h, k)
kept_spelt_at false word words h k = k

kept_spelt : (words : List (List Symbol)) → EachSpelt words → EachSpelt (filter is_filled words)
kept_spelt [] h = tt
kept_spelt (word ∷ words) h =
    kept_spelt_at (is_filled word) word (filter is_filled words) h.0 (kept_spelt words h.1)

split_spelt_by : (b : Bool) (word : List Symbol) → is_marked word ≡ b → AreSpelt false word →
    EachSpelt (split word)
split_spelt_by true word m h = subst EachSpelt (sym (split_marked word m)) (h, tt)
split_spelt_by false word m h =
    let whole = spelt_moved_by (is_moved word) word refl h in
    let t = tag_place (moved word) in
    subst EachSpelt (sym (split_open word m))
    (kept_spelt (parts (moved word))
    (front_spelt (take t (moved word)) (between_joins (drop t (moved word)))
    (spelt_take false t (moved word) whole)
    (joins_spelt (drop t (moved word)) (spelt_drop t (moved word) whole))))

filled_some : (word : List Symbol) → is_filled word ≡ true → 0 < length word
filled_some [] h = cc
filled_some (x ∷ word) h = omega arith

each_word : (words : List (List Symbol)) → list_all is_filled words ≡ true → EachSpelt words →
    EachWord words
each_word [] h k = tt
each_word (word ∷ words) h k = let p = and_parts (is_filled word) (list_all is_filled words) h in
    ((refl, filled_some word p.0, k.0, tt, refl), each_word words p.1 k.1)

pub split_reads : (word : List Symbol) → AreWords Lexical (word ∷ []) → EachWord (split word)
split_reads word h = each_word (split word) (none_empty word)
    (split_spelt_by (is_marked word) word refl h.2)

pub first_reads : (surface reading : List Symbol) (readings : List (List Symbol)) →
    0 < length reading → AreWords Analysed (surface ∷ reading ∷ readings) →
    AreWords Lexical (reading ∷ [])
first_reads surface reading readings some h = (refl, some, h.3.0, tt, refl)
