-- What the search carries on from place to place: that lesser lengths are not licensed, and how far
-- the items behind are like those in front.
use Rattle.std.specs.Prelude.{◌≡◌, ◌⊎◌, ℕ, ◌-◌, ◌<◌, ◌≤◌, Bool, false, List, ◌++◌, length, take, drop, refl}
use Rattle.std.proofs.Common.{arith, ap, sym, ◌∙◌, inl, inr, subst}
use Rattle.std.proofs.lemmas.Bool.{cases_lt}
use Rattle.std.proofs.lemmas.List.{take-take, length-take, length-drop, length-append}
use Rattle.ap_symbol.specs.declared.symbol.Symbol.{Symbol}
use Rattle.ap_fst.specs.Sections.{Parts, IsCompiled}
use Rattle.ap_stream.specs.declared.item.Read.{Read}
use Rattle.ap_live.specs.Found.{has_words}
use Rattle.ap_live.specs.Greatest.{greatest}
use Rattle.ap_live.specs.Lexicon.{Lexicon, lexicon_of}
use Rattle.ap_live.specs.SectionLives.{AreLive}
use Rattle.ap_live.specs.declared.live_sections.LiveSections.{LiveSections}
use Rattle.ap_live.proofs.Coherence.{coherent}
use Rattle.ap_live.proofs.Greatest.{greatest_above, greatest_is}
use Rattle.ap_analysis.specs.Agreements.{AreLikeFront, IsAgreement}
use Rattle.ap_analysis.specs.Items.{symbols}
use Rattle.ap_analysis.specs.Licence.{is_licensed, surface}
use Rattle.ap_analysis.specs.Searching.{IsCarried, IsSearch, IsViable}
use Rattle.ap_analysis.specs.declared.agreement.Agreement.{Agreement}
use Rattle.ap_analysis.specs.declared.search.Phase.TheVariants.{Stepping}
use Rattle.ap_analysis.specs.declared.search.Search.{Search}
use Rattle.ap_analysis.proofs.Agreements.{like_pushed}
use Rattle.ap_analysis.proofs.Lengths.{licensed_more}
use Rattle.ap_analysis.proofs.Marks.{licensed_alike, surface_alike}
use Rattle.ap_analysis.proofs.Stepped.{search_at, search_of, viable_down, viable_of}

within_held : (n count : ℕ) → n ≤ count - 1 → (n ≡ 0) ⊎ (n < count)
within_held n count le =
    elim (cases_lt n count) [
      | inl lt ↦ inr lt
      | inr ge ↦ inl (omega arith)
    ]

-- nothing is known of any length
pub nothing_carried : (lexicon : Lexicon) (reads : List Read) (agreement : Agreement) →
    IsAgreement reads agreement → IsCarried lexicon reads 0 agreement
nothing_carried lexicon reads agreement is = record {
  held = inl refl;
  none = λ n some le. absurd (omega (arith, some, le));
  agrees = is;
}

-- more items come
pub carried_pushed : (lexicon : Lexicon) (reads xs : List Read) (vain : ℕ) (agreement : Agreement) →
    IsCarried lexicon reads vain agreement → IsCarried lexicon (reads ++ xs) vain agreement
carried_pushed lexicon reads xs vain agreement is = elim is.held [
  | inl z ↦ record {
    held = inl z;
    none = λ n some le. absurd (omega (arith, some, le, z));
    agrees = like_pushed reads xs agreement.by agreement.count is.agrees;
  }
  | inr lt ↦ record {
    held = inr (let l = length-append reads xs in omega (arith, l, lt));
    none = λ n some le. ap has_words (licensed_more lexicon reads xs n (omega (arith, le, lt)))
        ∙ is.none n some le;
    agrees = like_pushed reads xs agreement.by agreement.count is.agrees;
  }
]

-- where no length up to one is licensed, there is no greatest
pub none_greatest : (test : ℕ → Bool) (n vain : ℕ) → n ≤ vain →
    ((m : ℕ) → 0 < m → m ≤ vain → test m ≡ false) → greatest test n ≡ 0
none_greatest test n vain le none =
    greatest_is test n 0 (omega arith) (inl refl) (λ m some under. none m some (omega arith))

-- another length is known to be in vain
pub search_vain : (p : Parts) (sensitive : Bool) (reads : List Read) (search : Search) (vain : ℕ) →
    (vain ≡ 0) ⊎ (vain < length reads)
    → ((n : ℕ) → 0 < n → n ≤ vain → is_licensed (lexicon_of p sensitive) reads n ≡ false)
    → IsSearch p sensitive reads search → IsSearch p sensitive reads
    (search_of search.lives search.looked search.phase vain search.agreement)
search_vain p sensitive reads search vain held none is = record {
  within = is.within;
  lives_are = is.lives_are;
  phase_is = is.phase_is;
  carried = record { held = held; none = none; agrees = is.carried.agrees };
}

-- the greatest licensed length is known to be none
pub search_in_vain : (p : Parts) (sensitive : Bool) (reads : List Read) (search : Search)
    (viable vain : ℕ) → vain ≤ viable → vain ≤ length reads - 1
    → greatest (is_licensed (lexicon_of p sensitive) reads) viable ≡ 0
    → IsSearch p sensitive reads search → IsSearch p sensitive reads
    (search_of search.lives search.looked search.phase vain search.agreement)
search_in_vain p sensitive reads search viable vain under within none is =
    search_vain p sensitive reads search vain (within_held vain (length reads) within)
    (λ n some le. greatest_above (is_licensed (lexicon_of p sensitive) reads) viable n
    (omega (arith, none, some)) (omega (arith, le, under))) is

-- The items in front leave, and those behind are like so many of them.
module _ (lexicon : Lexicon) (reads : List Read) (by count : ℕ)
    (like : AreLikeFront reads by count) where
  viable_moved : (n : ℕ) → n ≤ count → IsViable lexicon reads n →
      IsViable lexicon (drop by reads) n
  viable_moved n le is =
      let same : surface (drop by reads) n ≡ surface reads n =
      surface_alike (drop by reads) reads count like.same n le in
      record {
        within =
            let e = ap length same in
            let a = length-take n (symbols (drop by reads)) in
            let b = length-take n (symbols reads) in
            let w = is.within in
            omega (arith, e, a, b, w);
        viable = elim is.viable [
          | inl z ↦ inl z
          | inr t ↦ inr (ap lexicon.viable same ∙ t)
        ];
      }

  carried_moved : (old new : ℕ) (before after : Agreement) → new ≤ old → new ≤ count - 1 →
      IsAgreement (drop by reads) after → IsCarried lexicon reads old before →
      IsCarried lexicon (drop by reads) new after
  carried_moved old new before after less under agrees is = record {
    held = within_held new (length (drop by reads)) (let w = like.within in let d =
        length-drop by reads in omega (arith, w, d, under));
    none = λ n some le.
        licensed_alike (drop by reads) reads count like.same lexicon n
        (omega (arith, some, le, under))
        ∙ is.none n some (omega (arith, le, less));
    agrees = agrees;
  }

pub search_moved : (p : Parts) (sensitive : Bool) (reads : List Read) (search : Search)
    (by count looked vain : ℕ) (lives : LiveSections) (agreement : Agreement) → IsCompiled p →
    search.phase ≡ Stepping → looked ≤ search.looked → looked ≤ count → vain ≤ search.vain →
    vain ≤ count - 1 → IsSearch p sensitive reads search → AreLikeFront reads by count
    → AreLive p sensitive (take looked (take search.looked (symbols reads))) lives
    → IsAgreement (drop by reads) agreement → IsSearch p sensitive (drop by reads)
    (search_of lives looked search.phase vain agreement)
search_moved p sensitive reads search by count looked vain lives agreement compiled e less under
    vain_less vain_under is like live agrees =
    search_at p sensitive (drop by reads) looked lives search.phase vain agreement e
    (subst (λ (seen : List Symbol). AreLive p sensitive seen lives)
    (take-take looked search.looked (symbols reads) less
    ∙ sym (surface_alike (drop by reads) reads count like.same looked under)) live)
    (viable_moved (lexicon_of p sensitive) reads by count like looked under
    (viable_down (lexicon_of p sensitive) reads looked search.looked
    (coherent p sensitive compiled) less
    (viable_of (lexicon_of p sensitive) reads search.looked search.phase e is.phase_is)))
    (carried_moved (lexicon_of p sensitive) reads by count like search.vain vain search.agreement
    agreement vain_less vain_under agrees is.carried)
