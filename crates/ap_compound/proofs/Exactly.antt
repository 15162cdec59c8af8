-- The readings of a surface are those of its splits into parts of the dictionary, and each of these.
use Rattle.std.proofs.Common.{◌≡◌, inr, ◌<◌, Bool, true, false, List, [], ◌∷◌, ◌++◌, map, length, refl, sym, ap, subst, ◌∙◌, arith}
use Rattle.std.specs.Prelude.{◌↔◌, IsTrue, not, ◌&&◌, if◌then◌else◌}
use Rattle.std.specs.List.{filter, list_all}
use Rattle.std.specs.List.Sorted.{IsStrictlySortedBy}
use Rattle.std.proofs.lemmas.Map.Lookups.{exact_bytes}
use Rattle.ap_symbol.specs.Fitting.{lists_fit}
use Rattle.ap_symbol.specs.Lists.{IsIn}
use Rattle.ap_symbol.specs.Rendering.{word_cmp}
use Rattle.ap_symbol.specs.Words.{AreProper, is_proper}
use Rattle.ap_symbol.specs.declared.symbol.Symbol.{Symbol}
use Rattle.ap_symbol.specs.declared.symbol.Symbol.TheVariants.{Join}
use Rattle.ap_symbol.proofs.RecasedWords.{stays_proper}
use Rattle.ap_fst.specs.Sections.{Parts, IsCompiled, section_of}
use Rattle.ap_fst.proofs.Listing.{in_map, in_mapped, IsImage, in_filter, filter_in, IsKept}
use Rattle.ap_live.specs.Found.{in_order}
use Rattle.ap_live.specs.Lexicon.{Reads, lexicon_of, Spelled}
use Rattle.ap_live.specs.Readings.{carried, any_words}
use Rattle.ap_live.specs.Relations.{relation_of}
use Rattle.ap_live.proofs.AnyWords.{IsAny, any_is, any_of, any_proper, carried_proper}
use Rattle.ap_live.proofs.Coherence.{section_is, sections_proper, lexicon_is}
use Rattle.ap_live.proofs.Finding.{OneRendering}
use Rattle.ap_live.proofs.WordOrder.{in_order_sound, in_order_there, in_order_sorted}
use Rattle.ap_compound.specs.Laws.{IsPart, IsSplitOf, end_part, more_parts, IsFewestOf, IsCompoundReading}
use Rattle.ap_compound.specs.Splits.{compounds, fewest, joined_word, may_split, compound_readings}
use Rattle.ap_compound.specs.Tags.{tag_of, holds, is_part_tag, bare}
use Rattle.ap_compound.specs.declared.tags.Part.{Part}
use Rattle.ap_compound.specs.declared.tags.Part.TheVariants.{Left, Right}
use Rattle.ap_compound.proofs.Assembling.{IsFewest, fewest_is, fewest_of}
use Rattle.ap_compound.proofs.PartWords.{joined_words}
use Rattle.ap_compound.proofs.Splitting.{IsSplit, ends, goes, some_split}
use Rattle.ap_compound.proofs.Walking.{IsRest, split_of_rest, rest_of_split, two_parts}

-- ---- proper words

proper_first : (a b : Bool) → IsTrue (a && b) → IsTrue a
proper_first true b h = refl
proper_first false b h = h

proper_second : (a b : Bool) → IsTrue (a && b) → IsTrue b
proper_second true b h = h
proper_second false b h = absurd (cc)

proper_both : (a b : Bool) → IsTrue a → IsTrue b → IsTrue (a && b)
proper_both true b h k = k
proper_both false b h k = h

kept_proper : (b : Bool) (x : Symbol) (word : List Symbol) → IsTrue (is_proper x) →
    AreProper word → AreProper (if b then x ∷ word else word)
kept_proper true x word p h = proper_both (is_proper x) (list_all is_proper word) p h
kept_proper false x word p h = h

bare_proper : (word : List Symbol) → AreProper word → AreProper (bare word)
bare_proper [] h = h
bare_proper (x ∷ word) h =
    kept_proper (not (is_part_tag x)) x (bare word)
    (proper_first (is_proper x) (list_all is_proper word) h)
    (bare_proper word (proper_second (is_proper x) (list_all is_proper word) h))

joins_proper : (front back : List Symbol) → AreProper front → AreProper back →
    AreProper (front ++ Join ∷ back)
joins_proper [] back h k = k
joins_proper (x ∷ front) back h k =
    proper_both (is_proper x) (list_all is_proper (front ++ Join ∷ back))
    (proper_first (is_proper x) (list_all is_proper front) h)
    (joins_proper front back (proper_second (is_proper x) (list_all is_proper front) h) k)

fit_none : (sensitive : Bool) (left : List Symbol) → IsTrue (lists_fit sensitive left []) →
    left ≡ []
fit_none sensitive [] h = refl
fit_none sensitive (x ∷ left) h = absurd (cc)

some_length : (symbols : List Symbol) → (symbols ≡ [] → ⊥) → 0 < length symbols
some_length [] h = absurd (h refl)
some_length (x ∷ symbols) h = omega arith

module _ (law : OneRendering) (p : Parts) (sensitive : Bool) (compiled : IsCompiled p) where
  part_to : (part : Part) (symbols w : List Symbol) →
      IsIn w (map bare (filter (holds (tag_of part)) (any_words (lexicon_of p sensitive) symbols))) →
      IsPart p sensitive part symbols w
  part_to part symbols w i =
      let all : List (List Symbol) = any_words (lexicon_of p sensitive) symbols in
      let m : IsImage bare w (filter (holds (tag_of part)) (any_words (lexicon_of p sensitive) symbols)) =
      in_mapped bare w (filter (holds (tag_of part)) (any_words (lexicon_of p sensitive) symbols)) i in
      let k : IsKept (holds (tag_of part)) m.source (any_words (lexicon_of p sensitive) symbols) =
      filter_in (holds (tag_of part)) m.source (any_words (lexicon_of p sensitive) symbols) m.listed in
      let a : IsAny (lexicon_of p sensitive) symbols m.source =
      any_is (lexicon_of p sensitive) symbols m.source k.listed in
      let r : Reads sensitive (relation_of p) a.kind symbols m.source =
      ((lexicon_is law p sensitive compiled (sections_proper p compiled)).exactly a.kind symbols
      m.source).0 a.listed in
      record {
        kind = a.kind;
        left = r.left;
        right = m.source;
        related = r.related;
        fit = r.fit;
        marked = k.passes;
        word_is = m.image;
      }

  part_from : (part : Part) (symbols w : List Symbol) → IsPart p sensitive part symbols w →
      IsIn w (map bare (filter (holds (tag_of part)) (any_words (lexicon_of p sensitive) symbols)))
  part_from part symbols w h =
      let r : Reads sensitive (relation_of p) h.kind symbols h.right =
      record { left = h.left; related = h.related; fit = h.fit } in
      let listed : IsIn h.right ((lexicon_of p sensitive).readings h.kind symbols) =
      ((lexicon_is law p sensitive compiled (sections_proper p compiled)).exactly h.kind symbols
      h.right).1 r in
      subst (λ (z : List Symbol). IsIn z (map bare (filter (holds (tag_of part))
      (any_words (lexicon_of p sensitive) symbols)))) (sym h.word_is)
      (in_map bare h.right
      (filter (holds (tag_of part)) (any_words (lexicon_of p sensitive) symbols))
      (in_filter (holds (tag_of part)) h.right (any_words (lexicon_of p sensitive) symbols)
      (any_of (lexicon_of p sensitive) h.kind symbols h.right listed) h.marked))

  -- no left word is empty
  part_some : (part : Part) (symbols w : List Symbol) → IsPart p sensitive part symbols w →
      0 < length symbols
  part_some part symbols w h = some_length symbols (λ none.
      let left : h.left ≡ [] = fit_none sensitive h.left
      (subst (λ (z : List Symbol). IsTrue (lists_fit sensitive h.left z)) none h.fit) in
      let r : Spelled (section_of p h.kind) h.left h.right = h.related in
      (section_is p h.kind compiled).sides (record {
        labels = r.labels;
        accepted = r.accepted;
        empty = r.left_is ∙ left;
      }))

  split_to : (symbols : List Symbol) (words : List (List Symbol)) →
      IsSplit (lexicon_of p sensitive) symbols words → IsSplitOf p sensitive symbols words
  split_to symbols words (ends word some right e) =
      end_part word (part_to Right symbols word right) e
  split_to symbols words (goes front back word more is some left s e) =
      more_parts front back word more is (part_to Left front word left) (split_to back more s) e

  split_from : (symbols : List Symbol) (words : List (List Symbol)) →
      IsSplitOf p sensitive symbols words → IsSplit (lexicon_of p sensitive) symbols words
  split_from symbols words (end_part word part e) =
      ends word (part_some Right symbols word part) (part_from Right symbols word part) e
  split_from symbols words (more_parts front back word more is part s e) =
      goes front back word more is (part_some Left front word part)
      (part_from Left front word part) (split_from back more s) e

  rest_from : (surface : List Symbol) (words : List (List Symbol)) →
      IsSplitOf p sensitive surface words → 1 < length words →
      IsRest (lexicon_of p sensitive) surface 0 words
  rest_from surface words s several =
      let t : IsSplit (lexicon_of p sensitive) surface words = split_from surface words s in
      rest_of_split (lexicon_of p sensitive) surface 0 surface words t refl
      (some_split (lexicon_of p sensitive) surface words t) (inr several)

  fewest_to : (surface : List Symbol) (words : List (List Symbol)) →
      IsFewest (lexicon_of p sensitive) surface words → IsFewestOf p sensitive surface words
  fewest_to surface words f = record {
    split = split_to surface words
        (split_of_rest (lexicon_of p sensitive) surface 0 words f.rest);
    several = two_parts (lexicon_of p sensitive) surface words f.rest;
    least = λ others s several. f.least others (rest_from surface others s several);
  }

  fewest_from : (surface : List Symbol) (words : List (List Symbol)) →
      IsFewestOf p sensitive surface words → IsFewest (lexicon_of p sensitive) surface words
  fewest_from surface words f = record {
    rest = rest_from surface words f.split f.several;
    least = λ others r. f.least others
        (split_to surface others (split_of_rest (lexicon_of p sensitive) surface 0 others r))
        (two_parts (lexicon_of p sensitive) surface others r);
  }

  abbrev all_of : List Symbol → List (List Symbol)
  all_of surface = map (carried sensitive surface)
      (map joined_word (fewest (compounds (lexicon_of p sensitive) surface)))

  proper_of : (surface w : List Symbol) → IsIn w (all_of surface) → AreProper w
  proper_of surface w i =
      carried_proper stays_proper sensitive surface
      (map joined_word (fewest (compounds (lexicon_of p sensitive) surface))) (all_of surface) refl
      (joined_words AreProper refl bare_proper joins_proper (lexicon_of p sensitive)
      (λ symbols v j. any_proper p sensitive symbols v compiled j) surface) w i

  reading_to : (surface w : List Symbol) → IsIn w (all_of surface) →
      IsCompoundReading p sensitive surface w
  reading_to surface w i =
      let joined : List (List Symbol) =
      map joined_word (fewest (compounds (lexicon_of p sensitive) surface)) in
      let m : IsImage (carried sensitive surface) w
      (map joined_word (fewest (compounds (lexicon_of p sensitive) surface))) =
      in_mapped (carried sensitive surface) w
      (map joined_word (fewest (compounds (lexicon_of p sensitive) surface))) i in
      let n : IsImage joined_word m.source (fewest (compounds (lexicon_of p sensitive) surface)) =
      in_mapped joined_word m.source (fewest (compounds (lexicon_of p sensitive) surface)) m.listed
      in
      record {
        words = n.source;
        fewest = fewest_to surface n.source
            (fewest_is (lexicon_of p sensitive) surface n.source n.listed);
        reading_is = m.image ∙ ap (carried sensitive surface) n.image;
      }

  reading_from : (surface w : List Symbol) → IsCompoundReading p sensitive surface w →
      IsIn w (all_of surface)
  reading_from surface w r =
      subst (λ (z : List Symbol). IsIn z (all_of surface)) (sym r.reading_is)
      (in_map (carried sensitive surface) (joined_word r.words)
      (map joined_word (fewest (compounds (lexicon_of p sensitive) surface)))
      (in_map joined_word r.words (fewest (compounds (lexicon_of p sensitive) surface))
      (fewest_of (lexicon_of p sensitive) surface r.words (fewest_from surface r.words r.fewest))))

  readings_to : (b : Bool) (surface w : List Symbol) → may_split surface ≡ b →
      IsIn w (if b then in_order (all_of surface) else []) →
      (may_split surface ≡ true) × IsCompoundReading p sensitive surface w
  readings_to true surface w may i =
      (may, reading_to surface w (in_order_sound (all_of surface) w i))
  readings_to false surface w may i = absurd i

  readings_from : (surface w : List Symbol) → may_split surface ≡ true →
      IsCompoundReading p sensitive surface w →
      IsIn w (if may_split surface then in_order (all_of surface) else [])
  readings_from surface w may r =
      subst (λ (b : Bool). IsIn w (if b then in_order (all_of surface) else [])) (sym may)
      (in_order_there (all_of surface) w
      (λ u v i j e. law u v (proper_of surface u i) (proper_of surface v j) (exact_bytes _ _ e))
      (reading_from surface w r))

  none_sorted : IsStrictlySortedBy word_cmp []
  none_sorted = in_order_sorted []

  sorted_by : (b : Bool) (surface : List Symbol) →
      IsStrictlySortedBy word_cmp (if b then in_order (all_of surface) else [])
  sorted_by true surface = in_order_sorted (all_of surface)
  sorted_by false surface = none_sorted

  pub readings_sorted : (surface : List Symbol) →
      IsStrictlySortedBy word_cmp (compound_readings (lexicon_of p sensitive) sensitive surface)
  unfolding compound_readings
  readings_sorted surface = sorted_by (may_split surface) surface

  pub readings_exact : (surface w : List Symbol) →
      IsIn w (compound_readings (lexicon_of p sensitive) sensitive surface)
      ↔ (may_split surface ≡ true) × IsCompoundReading p sensitive surface w
  unfolding compound_readings
  readings_exact surface w = (
    λ i. readings_to (may_split surface) surface w refl i,
    λ h. readings_from surface w h.0 h.1,
  )
