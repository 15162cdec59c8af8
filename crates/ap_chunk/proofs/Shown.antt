-- What a match gives to a rule, as the rule reads it.
use Rattle.std.specs.Prelude.{◌≡◌, List, [], ◌∷◌, ◌++◌, map, refl}
use Rattle.std.proofs.Common.{ap, sym, ◌∙◌}
use Rattle.std.proofs.lemmas.List.{map-append}
use Rattle.std.proofs.lemmas.List.Concat.{flat_map-cons}
use Rattle.ap_symbol.specs.declared.symbol.Symbol.{Symbol}
use Rattle.ap_stream.specs.declared.item.Read.{Read}
use Rattle.ap_exec.specs.Acting.{shown}
use Rattle.ap_exec.specs.Units.{Shown}
use Rattle.ap_chunk.specs.Matches.{worded, matched_item, matched_items, shown_items, shown_word}

pub items_shown : (reads : List Read) → shown_items reads ≡ map shown (matched_items reads)
items_shown [] = refl
items_shown (read ∷ reads) =
    flat_map-cons (λ (r : Read). map shown (matched_item r.item)) read reads
    ∙ ap (λ (us : List Shown). map shown (matched_item read.item) ++ us) (items_shown reads)
    ∙ sym (map-append shown (matched_item read.item) (matched_items reads))
    ∙ ap (map shown) (sym (flat_map-cons (λ (r : Read). matched_item r.item) read reads))

pub words_shown : (words : List (List Symbol)) → map shown_word words
    ≡ map shown (map worded words)
words_shown [] = refl
words_shown (word ∷ words) = ap (λ (us : List Shown). shown_word word ∷ us) (words_shown words)
