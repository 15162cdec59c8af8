use Rattle.std.proofs.Common.{◌≡◌, true, not, [], ◌∷◌, refl}
use Rattle.std.proofs.lemmas.Bool.{and_parts, not-true}
use Rattle.std.specs.List.{list_all}
use Rattle.ap_symbol.specs.declared.symbol.Symbol.TheVariants as symbol
use Rattle.ap_symbol.specs.Words.{is_white, is_proper}
use Rattle.ap_stream.specs.Laws.{WordsAreSpelt}

pub words_are_spelt : WordsAreSpelt
words_are_spelt [] p h = tt
words_are_spelt (symbol.Letter c ∷ word) p h =
    let parts : (is_proper (symbol.Letter c) ≡ true) × (list_all is_proper word ≡ true) =
    and_parts (is_proper (symbol.Letter c)) (list_all is_proper word) p in (
      (h.0, not-true (is_white c) (and_parts (not (is_white c)) true parts.0).0),
      words_are_spelt word parts.1 h.1,
    )
words_are_spelt (symbol.Tag name ∷ word) p h = (
  (refl, h.0),
  words_are_spelt word
      (and_parts (is_proper (symbol.Tag name)) (list_all is_proper word) p).1 h.1,
)
words_are_spelt (symbol.Blank ∷ word) p h = (
  tt,
  words_are_spelt word
      (and_parts (is_proper symbol.Blank) (list_all is_proper word) p).1 h.1,
)
words_are_spelt (symbol.Join ∷ word) p h = (
  refl,
  words_are_spelt word
      (and_parts (is_proper symbol.Join) (list_all is_proper word) p).1 h.1,
)
words_are_spelt (symbol.Queue ∷ word) p h = (
  refl,
  words_are_spelt word
      (and_parts (is_proper symbol.Queue) (list_all is_proper word) p).1 h.1,
)
words_are_spelt (symbol.Alarm ∷ word) p h = (
  refl,
  words_are_spelt word
      (and_parts (is_proper symbol.Alarm) (list_all is_proper word) p).1 h.1,
)
words_are_spelt (symbol.Star ∷ word) p h = (
  refl,
  words_are_spelt word
      (and_parts (is_proper symbol.Star) (list_all is_proper word) p).1 h.1,
)
words_are_spelt (symbol.At ∷ word) p h =
    (refl, words_are_spelt word (and_parts (is_proper symbol.At) (list_all is_proper word) p).1 h.1)
