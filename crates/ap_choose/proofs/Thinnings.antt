-- Readings and their chances, one by one; and the first allowed choice of either.
use Rattle.std.specs.Prelude.{◌≡◌, ℕ, suc, ◌+◌, ◌<◌, ◌≤◌, true, List, [], ◌∷◌, ◌++◌, length, drop, get_or, Option, refl}
use Rattle.std.proofs.Common.{arith, ap, sym, subst, ◌∙◌, inl, inr, append_assoc}
use Rattle.std.proofs.lemmas.List.{append-nil, drop_more, drop_all}
use Rattle.ap_symbol.specs.declared.symbol.Symbol.{Symbol}
use Rattle.ap_stream.specs.declared.item.Item.TheVariants as item
use Rattle.ap_stream.specs.declared.item.Read.{Read}
use Rattle.ap_choose.specs.declared.chance.Chance.{Chance}
use Rattle.ap_choose.specs.Choice.{Reading, numbered, first_tag}
use Rattle.ap_choose.specs.Chances.{has_number, Thins, AreThin}
use Rattle.ap_choose.specs.Numbering.{number_of}
use Rattle.ap_choose.specs.Sentences.{units}

-- the chances so far, of the words before a place
pub record IsThinning (names : List (List ℕ)) (words : List (List Symbol)) (at : ℕ)
    (found : List Chance) : Type 0 where
  pub on : (more : List Chance) → Thins names found (numbered at (drop at words)) more →
      Thins names [] (numbered 0 words) (found ++ more)

pub thin_end : (names : List (List ℕ)) (words : List (List Symbol)) (at : ℕ) (found : List Chance) →
    length words ≤ at → IsThinning names words at found → Thins names [] (numbered 0 words) found
thin_end names words at found le h =
    let none : numbered at (drop at words) ≡ [] = ap (numbered at) (drop_all at words le) in
    subst (Thins names [] (numbered 0 words)) (append-nil found)
    (h.on [] (subst (λ (rs : List Reading). Thins names found rs []) (sym none) refl))

module _ (names : List (List ℕ)) (words : List (List Symbol)) (at : ℕ) (found : List Chance)
    (h : IsThinning names words at found) (lt : at < length words) (word : List Symbol)
    (is : word ≡ get_or words at word) (tag : Option ℕ) (t : tag ≡ number_of names (first_tag word))
  where
    next_reading : numbered at (drop at words) ≡ record {
      place = at;
      tag =
          first_tag word;
    } ∷ numbered (at + 1) (drop (at + 1) words)
    next_reading =
        let one : suc at ≡ at + 1 = omega arith in
        ap (numbered at) (drop_more words at word lt
        ∙ ap (λ (w : List Symbol). w ∷ drop (at + 1) words) (sym is))
        ∙ ap (λ (n : ℕ). record { place = at; tag = first_tag word } ∷ numbered n
        (drop (at + 1) words)) one

    pub thin_dropped : has_number found tag ≡ true → IsThinning names words (at + 1) found
    thin_dropped seen = record {
      on =
          λ more k. h.on more (subst (λ (rs : List Reading). Thins names found rs more)
          (sym next_reading) (inl (ap (has_number found) (sym t) ∙ seen, k)));
    }

    pub thin_kept : (new : List Chance) → new ≡ found ++ record { place = at; tag = tag } ∷ [] →
        IsThinning names words (at + 1) new
    thin_kept new n = record {
      on = λ more k.
          let chance : Chance = record { place = at; tag = tag } in
          let on : Thins names (found ++ chance ∷ []) (numbered (at + 1) (drop (at + 1) words))
          more =
          subst (λ (f : List Chance). Thins names f (numbered (at + 1) (drop (at + 1) words))
          more) n k in
          subst (Thins names [] (numbered 0 words)) (sym (append_assoc found (chance ∷ []) more)
          ∙ ap (λ (f : List Chance). f ++ more) (sym n))
          (h.on (chance ∷ more) (subst (λ (rs : List Reading). Thins names found rs (chance ∷ more))
          (sym next_reading) (inr (chance, more, refl, record { place = refl; tag = t }, on))));
    }

-- the chances of the units so far
pub record AreThinning (names : List (List ℕ)) (items : List Read) (at : ℕ)
    (found : List (List Chance)) : Type 0 where
  pub on : (more : List (List Chance)) → AreThin names (units (drop at items)) more →
      AreThin names (units items) (found ++ more)

pub units_end : (names : List (List ℕ)) (items : List Read) (at : ℕ) (found : List (List Chance)) →
    length items ≤ at → AreThinning names items at found → AreThin names (units items) found
units_end names items at found le h =
    let none : units (drop at items) ≡ [] = ap units (drop_all at items le) in
    subst (AreThin names (units items)) (append-nil found)
    (h.on [] (subst (λ (us : List (List Reading)). AreThin names us []) (sym none) tt))
