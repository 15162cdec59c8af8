-- The search at the front of held items: one symbol more, back to the longest match, and what it
-- finds.
use Rattle.std.specs.Prelude.{◌≡◌, ◌⊎◌, ℕ, suc, ◌<◌, ◌≤◌, Bool, true, false, List, [], ◌∷◌, ◌++◌, length, take, drop, Some, None}
use Rattle.std.proofs.Common.{refl, ap, sym, ◌∙◌, subst, arith, get_or, inl, inr}
use Rattle.std.proofs.lemmas.Bool.{cases_lt}
use Rattle.std.proofs.lemmas.List.{length-take, length-append, take-take, take_all}
use Rattle.ap_symbol.specs.declared.symbol.Symbol.{Symbol}
use Rattle.ap_fst.specs.Sections.{Parts}
use Rattle.ap_stream.specs.declared.item.Read.{Read}
use Rattle.ap_stream.proofs.ItemFronts.{front_short, front_more, front_stops, IsNextSymbol, front_next}
use Rattle.ap_live.specs.Greatest.{greatest}
use Rattle.ap_live.specs.Lexicon.{Lexicon, IsCoherent, lexicon_of, viable_in}
use Rattle.ap_live.specs.SectionLives.{AreLive}
use Rattle.ap_live.proofs.AnyWords.{viable_front}
use Rattle.ap_live.proofs.Greatest.{greatest_within, greatest_above, greatest_is}
use Rattle.ap_lookup.specs.Matching.{is_match, fitting}
use Rattle.ap_lookup.specs.PostGenerating.{symbol_of, symbols}
use Rattle.ap_lookup.specs.PostSearching.{IsBegun, AreVain, IsAgreement, IsSearch, IsBack, IsEnd, IsFound}
use Rattle.ap_lookup.specs.declared.post_search.Search.{Search}
use Rattle.ap_lookup.specs.declared.post_search.Found.{Found}
use Rattle.ap_lookup.proofs.Agreements.{agreement_of, symbols_grow, agreement_more}
use Rattle.ap_lookup.proofs.Matches.{match_front, fitting_is, match_seen}
use Rattle.ap_lookup.proofs.PostSteps.{matched_is}

-- what was seen is no more than there is
pub seen_within : (reads : List Read) (seen : List Symbol) →
    seen ≡ take (length seen) (symbols reads) → length seen ≤ length (symbols reads)
seen_within reads seen is =
    let l = length-take (length seen) (symbols reads) in
    let e = ap length is in
    omega (arith, l, e)

pub seen_items : (reads : List Read) (seen : List Symbol) →
    seen ≡ take (length seen) (symbols reads) → length seen ≤ length reads
seen_items reads seen is = let w = seen_within reads seen is in let s = front_short symbol_of reads
    in omega (arith, w, s)

-- the same search where more items come
pub search_more : (p : Parts) (sensitive : Bool) (reads xs : List Read) (search : Search) →
    IsSearch p sensitive reads search → IsSearch p sensitive (reads ++ xs) search
search_more p sensitive reads xs search is = record {
  seen_are = is.seen_are ∙ sym
      (front_more symbol_of reads xs (length search.seen.items)
      (seen_items reads search.seen.items is.seen_are));
  lives_are = is.lives_are;
  begun = is.begun;
  vain_within = let g = symbols_grow reads xs in let w = is.vain_within in omega (arith, g, w);
  vain_are = λ n some le within.
      let w = is.vain_within in
      let low : n ≤ length (symbols reads) = omega (arith, w, le) in
      let s = front_short symbol_of reads in
      match_front (lexicon_of p sensitive) 0 (symbols (reads ++ xs)) (symbols reads) n
      (front_more symbol_of reads xs n (omega (arith, s, low))) ∙ is.vain_are n some le low;
  agreed = agreement_more reads xs search.agreement is.agreed;
}

-- the same symbols seen
pub search_same : (p : Parts) (sensitive : Bool) (reads : List Read) (search new : Search) →
    IsSearch p sensitive reads search → new.seen.items ≡ search.seen.items →
    AreLive p sensitive search.seen.items new.lives → new.vain ≡ search.vain → new.agreement
    ≡ search.agreement → IsSearch p sensitive reads new
search_same p sensitive reads search new is e live vain agreement = record {
  seen_are = rw e is.seen_are;
  lives_are = rw e live;
  begun = rw e is.begun;
  vain_within = rw vain is.vain_within;
  vain_are = rw vain is.vain_are;
  agreed = rw agreement is.agreed;
}

-- at the next item
module _ (p : Parts) (sensitive : Bool) (reads : List Read) (search : Search)
    (is : IsSearch p sensitive reads search) (more : length search.seen.items < length reads)
    (at : ℕ) (count : at ≡ length search.seen.items) (d : Read) where
  within : length search.seen.items ≤ length (symbols reads)
  within = seen_within reads search.seen.items is.seen_are

  here : IsBegun (lexicon_of p sensitive) (take (length search.seen.items) (symbols reads))
  here = subst (λ (z : List Symbol). IsBegun (lexicon_of p sensitive) z) is.seen_are is.begun

  item_is : symbol_of (get_or reads at d).item
      ≡ symbol_of (get_or reads (length search.seen.items) d).item
  item_is = ap (λ (k : ℕ). symbol_of (get_or reads k d).item) count

  pub stops_here : None ≡ symbol_of (get_or reads at d).item →
      IsEnd (lexicon_of p sensitive) reads (length search.seen.items)
  stops_here none = record {
    within = within;
    here = here;
    past =
        inl (sym (front_stops symbol_of reads (length search.seen.items) d within more
        (sym (none ∙ item_is))));
  }

  module _ (x : Symbol) (some : Some x ≡ symbol_of (get_or reads at d).item) where
    next : IsNextSymbol (symbols reads) (length search.seen.items) x
    next = front_next symbol_of reads (length search.seen.items) d x within more
        (sym (some ∙ item_is))

    next_is : take (suc (length search.seen.items)) (symbols reads) ≡ search.seen.items ++ x ∷ []
    next_is = next.is ∙ ap (λ (z : List Symbol). z ++ x ∷ []) (sym is.seen_are)

    pub dead_here : viable_in p sensitive (search.seen.items ++ x ∷ []) ≡ false →
        IsEnd (lexicon_of p sensitive) reads (length search.seen.items)
    dead_here dead = record {
      within = within;
      here = here;
      past =
          inr (ap (viable_in p sensitive) next_is ∙ dead);
    }

    pub goes_on : (new : Search) → new.seen.items ≡ search.seen.items ++ x ∷ [] →
        AreLive p sensitive (search.seen.items ++ x ∷ []) new.lives →
        viable_in p sensitive (search.seen.items ++ x ∷ []) ≡ true → new.vain ≡ search.vain →
        new.agreement ≡ search.agreement → IsSearch p sensitive reads new
    goes_on new e live viable vain agreement =
        let l : length new.seen.items ≡ suc (length search.seen.items) =
        (let a = ap length e ∙ length-append search.seen.items (x ∷ []) in omega (arith, a)) in
        record {
          seen_are = e ∙ sym next_is ∙ ap (λ (k : ℕ). take k (symbols reads)) (sym l);
          lives_are = subst (λ (z : List Symbol). AreLive p sensitive z new.lives) (sym e) live;
          begun = inr (ap (viable_in p sensitive) e ∙ viable);
          vain_within = rw vain is.vain_within;
          vain_are = rw vain is.vain_are;
          agreed = rw agreement is.agreed;
        }

-- where no item is left
pub all_end : (p : Parts) (sensitive : Bool) (reads : List Read) (search : Search) →
    IsSearch p sensitive reads search → length reads ≤ length search.seen.items →
    IsEnd (lexicon_of p sensitive) reads (length search.seen.items)
all_end p sensitive reads search is le = record {
  within = seen_within reads search.seen.items is.seen_are;
  here = subst (λ (z : List Symbol). IsBegun (lexicon_of p sensitive) z) is.seen_are is.begun;
  past = inl (let s = front_short symbol_of reads in let w =
      seen_within reads search.seen.items is.seen_are in omega (arith, s, w, le));
}

pub all_seen : (reads : List Read) (seen : List Symbol) → seen ≡ take (length seen) (symbols reads)
    → length reads ≤ length seen → length seen ≡ length reads
all_seen reads seen is le = let s = seen_items reads seen is in omega (arith, s, le)

begun_at : (lexicon : Lexicon) (symbols : List Symbol) (n : ℕ) → n ≤ length symbols →
    IsBegun lexicon (take n symbols) → (n ≡ 0) ⊎ (lexicon.viable (take n symbols) ≡ true)
begun_at lexicon symbols n le (inl z) =
    inl (let l = length-take n symbols in omega (arith, l, z, le))
begun_at lexicon symbols n le (inr t) = inr t

pub end_is : (lexicon : Lexicon) (reads : List Read) (n : ℕ) → IsCoherent lexicon →
    IsEnd lexicon reads n → fitting lexicon (symbols reads) ≡ n
end_is lexicon reads n whole ends =
    fitting_is lexicon (symbols reads) whole n ends.within
    (begun_at lexicon (symbols reads) n ends.within ends.here) ends.past

-- back at fewer symbols
begun_less : (lexicon : Lexicon) (seen : List Symbol) (m : ℕ) → IsCoherent lexicon →
    m ≤ length seen → IsBegun lexicon seen → IsBegun lexicon (take m seen)
begun_less lexicon seen m whole le (inl z) =
    inl (let l = length-take m seen in omega (arith, l, z, le))
begun_less lexicon seen m whole le (inr t) =
    inr (viable_front lexicon seen m (length seen) whole le
    (ap lexicon.viable (let a : take (length seen) seen ≡ seen = all_of seen in a) ∙ t))
  where
    all_of : (xs : List Symbol) → take (length xs) xs ≡ xs
    all_of [] = refl
    all_of (x ∷ xs) = ap (λ (z : List Symbol). x ∷ z) (all_of xs)

-- what is in vain among the symbols seen is so among all
vain_all : (lexicon : Lexicon) (symbols seen : List Symbol) (vain : ℕ) →
    seen ≡ take (length seen) symbols → vain ≤ length seen → AreVain lexicon seen vain →
    AreVain lexicon symbols vain
vain_all lexicon symbols seen vain is fits none n some le within =
    let low : n ≤ length seen = omega (arith, fits, le) in
    sym (match_front lexicon 0 seen symbols n
    (ap (take n) is ∙ take-take n (length seen) symbols low))
    ∙ none n some le low

-- where the longest match is 0, all is in vain
none_matched : (lexicon : Lexicon) (seen : List Symbol) (m : ℕ) → m ≡ 0 →
    m ≡ greatest (is_match lexicon 0 seen) (length seen) → AreVain lexicon seen (length seen)
none_matched lexicon seen m zero_is value n some le within =
    greatest_above (is_match lexicon 0 seen) (length seen) n (omega (arith, zero_is, value, some)) le

-- what is in vain after the way back
record IsVainIn (p : Parts) (sensitive : Bool) (reads : List Read) (vain : ℕ) : Type 0 where
  within : vain ≤ length (symbols reads)
  are : AreVain (lexicon_of p sensitive) (symbols reads) vain

module _ (p : Parts) (sensitive : Bool) (reads : List Read) (search new : Search) (m : ℕ)
    (whole : IsCoherent (lexicon_of p sensitive)) (is : IsSearch p sensitive reads search)
    (value : m ≡ greatest (is_match (lexicon_of p sensitive) 0 search.seen.items)
    (length search.seen.items)) (back : IsBack search new m) where
  back_vain : IsVainIn p sensitive reads new.vain
  back_vain = elim back.vain_is [
    | inl same ↦ rw same (record { within = is.vain_within; are = is.vain_are })
    | inr none ↦ rw none.1 (record {
      within = seen_within reads search.seen.items is.seen_are;
      are = vain_all (lexicon_of p sensitive) (symbols reads) search.seen.items
          (length search.seen.items) is.seen_are (omega arith)
          (none_matched (lexicon_of p sensitive) search.seen.items m none.0 value);
    })
  ]

  back_is : new.seen.items ≡ take back.kept (symbols reads)
  back_is = back.seen_are ∙ ap (take back.kept) is.seen_are
      ∙ take-take back.kept (length search.seen.items) (symbols reads) back.within

  pub match_is_seen : 0 < m → new.seen.items ≡ take m (symbols reads)
  match_is_seen some =
      back_is ∙ ap (λ (n : ℕ). take n (symbols reads)) (back.at_match some)

  pub search_back : AreLive p sensitive new.seen.items new.lives → IsSearch p sensitive reads new
  search_back live =
      let l : length new.seen.items ≡ back.kept =
      (let a = ap length back.seen_are ∙ length-take back.kept search.seen.items in
      let w = back.within in omega (arith, a, w)) in
      record {
        seen_are = back_is ∙ ap (λ (k : ℕ). take k (symbols reads)) (sym l);
        lives_are = live;
        begun = subst (λ (z : List Symbol). IsBegun (lexicon_of p sensitive) z)
            (sym back.seen_are)
            (begun_less (lexicon_of p sensitive) search.seen.items back.kept whole back.within
            is.begun);
        vain_within = back_vain.within;
        vain_are = back_vain.are;
        agreed = rw back.agreed is.agreed;
      }

-- where all is in vain there is no match
pub all_vain : (lexicon : Lexicon) (seen : List Symbol) (vain : ℕ) → AreVain lexicon seen vain →
    length seen ≤ vain → greatest (is_match lexicon 0 seen) (length seen) ≡ 0
all_vain lexicon seen vain none le =
    greatest_is (is_match lexicon 0 seen) (length seen) 0 (omega arith) (inl refl)
    (λ n some within. none n some (omega (arith, le, within)) within)

-- Where items are let go, and those behind agree.

-- the first of the symbols seen are the first of other ones
cut_seen : (a b seen : List Symbol) (n : ℕ) → seen ≡ take (length seen) a → take n b ≡ take n a →
    take n seen ≡ take (length (take n seen)) b
cut_seen a b seen n is same = elim (cases_lt (length seen) n) [
  | inl all ↦
      let e : take n seen ≡ seen = take_all n seen (omega arith) in
      let k : take (length seen) b ≡ take (length seen) a =
      sym (take-take (length seen) n b (omega arith)) ∙ ap (take (length seen)) same
      ∙ take-take (length seen) n a (omega arith) in
      rw e (is ∙ sym k)
  | inr some ↦
      let l : length (take n seen) ≡ n = (let t = length-take n seen in omega (arith, t, some)) in
      ap (take n) is ∙ take-take n (length seen) a some ∙ sym same
      ∙ ap (λ (k : ℕ). take k b) (sym l)
]

begun_cut : (lexicon : Lexicon) (seen : List Symbol) (n : ℕ) → IsCoherent lexicon →
    IsBegun lexicon seen → IsBegun lexicon (take n seen)
begun_cut lexicon seen n whole is = elim (cases_lt (length seen) n) [
  | inl all ↦ let e : take n seen ≡ seen = take_all n seen (omega arith) in rw e is
  | inr some ↦ begun_less lexicon seen n whole some is
]

pub search_left : (p : Parts) (sensitive : Bool) (reads : List Read) (search new : Search)
    (by count : ℕ) → IsCoherent (lexicon_of p sensitive) → IsSearch p sensitive reads search →
    IsAgreement reads (agreement_of by count) → new.seen.items ≡ take count search.seen.items →
    AreLive p sensitive new.seen.items new.lives → new.vain ≤ search.vain → new.vain ≤ count →
    IsAgreement (drop by reads) new.agreement → IsSearch p sensitive (drop by reads) new
search_left p sensitive reads search new by count whole is agreed seen live less low left = record {
  seen_are = rw seen (cut_seen (symbols reads) (symbols (drop by reads)) search.seen.items count
      is.seen_are agreed.same);
  lives_are = live;
  begun = subst (λ (z : List Symbol). IsBegun (lexicon_of p sensitive) z) (sym seen)
      (begun_cut (lexicon_of p sensitive) search.seen.items count whole is.begun);
  vain_within = let w = agreed.within in omega (arith, w, low);
  vain_are = λ n some le within.
      let fits : n ≤ count = omega (arith, le, low) in
      match_front (lexicon_of p sensitive) 0 (symbols (drop by reads)) (symbols reads) n
      (sym (take-take n count (symbols (drop by reads)) fits) ∙ ap (take n) agreed.same
      ∙ take-take n count (symbols reads) fits)
      ∙ is.vain_are n some (omega (arith, le, less))
      (let w = is.vain_within in omega (arith, le, less, w));
  agreed = left;
}

-- what is found
pub found_is : (lexicon : Lexicon) (reads : List Read) (seen : List Symbol) (m span : ℕ)
    (finished : Bool) → IsCoherent lexicon → seen ≡ take (length seen) (symbols reads) →
    IsEnd lexicon reads (length seen) → m ≡ greatest (is_match lexicon 0 seen) (length seen)
    → span ≡ length seen → (length seen < length reads) ⊎ (finished ≡ true) →
    IsFound lexicon reads finished (let found : Found =
    record { matched = m; span = span } in found)
found_is lexicon reads seen m span finished whole is ends value count settled =
    let e = end_is lexicon reads (length seen) whole ends in
    record {
      matched_is = value ∙ match_seen lexicon (symbols reads) seen (length seen) whole is
          ends.within e ∙ sym (matched_is lexicon reads);
      span_is = count ∙ sym e;
      settled = rw count settled;
      within = let w = seen_items reads seen is in omega (arith, w, count);
      below = let w = greatest_within (is_match lexicon 0 seen) (length seen) in
          omega (arith, value, w, count);
    }

pub settled_by : (ends finished : Bool) (n count : ℕ) → (ends ≡ true → n < count) →
    (ends ≡ true) ⊎ (finished ≡ true) → (n < count) ⊎ (finished ≡ true)
settled_by ends finished n count more (inl e) = inl (more e)
settled_by ends finished n count more (inr f) = inr f

-- nothing is seen, and nothing known
pub none_seen : (p : Parts) (sensitive : Bool) (reads : List Read) (search : Search) →
    search.seen.items ≡ [] → AreLive p sensitive [] search.lives → search.vain ≡ 0 →
    IsAgreement reads search.agreement → IsSearch p sensitive reads search
none_seen p sensitive reads search none live vain agreed = record {
  seen_are = none ∙ ap (λ (z : List Symbol). take (length z) (symbols reads)) (sym none);
  lives_are = subst (λ (z : List Symbol). AreLive p sensitive z search.lives) (sym none) live;
  begun = inl (ap length none);
  vain_within = omega (arith, vain);
  vain_are = λ n some le within. absurd (omega (arith, some, le, vain));
  agreed = agreed;
}

no_symbol : (seen : List Symbol) → length seen ≡ 0 → seen ≡ []
no_symbol [] e = refl
no_symbol (x ∷ seen) e = absurd (omega arith)

pub nothing_seen : (p : Parts) (sensitive : Bool) (reads : List Read) (seen : List Symbol)
    (search : Search) → length seen ≡ 0 → AreLive p sensitive seen search.lives →
    search.seen.items ≡ seen → search.vain ≡ 0 → IsAgreement reads search.agreement →
    IsSearch p sensitive reads search
nothing_seen p sensitive reads seen search none live same vain agreed =
    let e = no_symbol seen none in
    none_seen p sensitive reads search (same ∙ e)
    (subst (λ (z : List Symbol). AreLive p sensitive z search.lives) e live) vain agreed
