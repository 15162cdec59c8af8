-- The loops over a surface, its places and what is listed of them, step by step.
use Rattle.std.proofs.Common.{◌≡◌, inl, inr, ℕ, ◌+◌, ◌-◌, ◌<◌, ◌≤◌, zero, suc, Bool, true, List, [], ◌∷◌, ◌++◌, length, get_or, take, drop, Option, Some, None, refl, sym, ap, subst, ◌∙◌, append_assoc, append-nil, arith}
use Rattle.std.specs.Prelude.{◌↔◌, slice_get, not, ◌==◌, if◌then◌else◌}
use Rattle.std.specs.List.{flat_map}
use Rattle.std.proofs.lemmas.Bool.{cases_lt}
use Rattle.std.proofs.lemmas.Bool.Decides.{nat_tests}
use Rattle.std.proofs.lemmas.List.{take_more, drop_more, drop_all, length-append}
use Rattle.std.proofs.lemmas.Option.{none-some, same_Some}
use Rattle.ap_symbol.specs.Lists.{IsIn}
use Rattle.ap_symbol.specs.declared.symbol.Symbol.{Symbol}
use Rattle.ap_symbol.specs.Words.{AreProper}
use Rattle.ap_fst.specs.Sections.{Parts}
use Rattle.ap_fst.proofs.Listing.{in_either}
use Rattle.ap_live.specs.Found.{has_words}
use Rattle.ap_live.specs.Lexicon.{Lexicon}
use Rattle.ap_live.specs.SectionLives.{AreLive}
use Rattle.ap_live.specs.declared.live_sections.LiveSections.{LiveSections}
use Rattle.ap_compound.specs.Places.{words_at, IsRow, IsLeast, arriving, completing, Arrives, Completes, IsPlaceAt, joins, is_number, going, goings, ending, words_from, AreListed}
use Rattle.ap_compound.specs.Splits.{left_parts}
use Rattle.ap_compound.specs.declared.listing.Listed.{Listed}
use Rattle.ap_compound.specs.declared.place.Place.{Place}
use Rattle.ap_compound.proofs.Walking.{one_place, place_within}

-- ---- words at a place

pub words_at_read : (xs : List (List (List Symbol))) (k : ℕ) (x : List (List Symbol)) →
    k < length xs → x ≡ get_or xs k x → words_at xs k ≡ x
words_at_read [] k x lt e = absurd (omega (arith, lt))
words_at_read (y ∷ xs) zero x lt e = sym e
words_at_read (y ∷ xs) (suc k) x lt e = words_at_read xs k x (omega arith) e

pub words_at_past : (xs : List (List (List Symbol))) (k : ℕ) → length xs ≤ k → words_at xs k ≡ []
words_at_past [] k le = refl
words_at_past (y ∷ xs) zero le = absurd (omega (arith, le))
words_at_past (y ∷ xs) (suc k) le = words_at_past xs k (omega arith)

pub some_words : (words : List (List Symbol)) (empty : Bool) → empty ≡ (length words == 0) →
    not empty ≡ has_words words
some_words [] empty e = ap not e
some_words (w ∷ words) empty e = ap not e ∙ grind (arith, nat_tests)

-- a place of a list that is read
pub place_read : {X : Type 0} (xs : List X) (k : ℕ) (x : X) → k < length xs → x ≡ get_or xs k x →
    slice_get xs k ≡ Some x
place_read [] k x lt e = absurd (omega (arith, lt))
place_read (y ∷ xs) zero x lt e = ap Some (sym e)
place_read (y ∷ xs) (suc k) x lt e = place_read xs k x (omega arith) e

-- what a part gives, where the place behind it is reached by just so many parts
pub going_counted : (p : Place) (next k : ℕ) (x : Listed) (fronts : List (List Symbol)) →
    is_number x.fewest next ≡ true → words_at p.lefts.items k ≡ fronts →
    flat_map (joins x.words) fronts ≡ going p next k x
going_counted p next k x fronts e f =
    ap (flat_map (joins x.words)) (sym f)
    ∙ ap (λ (b : Bool). if b then flat_map (joins x.words) (words_at p.lefts.items k) else [])
    (sym e)

pub proper_more : (words : List (List Symbol)) (at : ℕ) (word : List Symbol) → at < length words →
    word ≡ get_or words at word → AreProper word →
    ((w : List Symbol) → IsIn w (take at words) → AreProper w) → (w : List Symbol) →
    IsIn w (take (at + 1) words) → AreProper w
proper_more words at word lt is proper old w i =
    let cut : take (at + 1) words ≡ take at words ++ word ∷ [] = take_more words at word lt
    ∙ ap (λ (z : List Symbol). take at words ++ z ∷ []) (sym is) in
    elim (in_either w (take at words) (word ∷ [])
    (subst (λ (z : List (List Symbol)). IsIn w z) cut i)) [
      | inl k ↦ old w k
      | inr k ↦ elim k [
        | inl e ↦ subst (λ (z : List Symbol). AreProper z) (sym e) proper
        | inr n ↦ absurd n
      ]
    ]

pub live_more : (p : Parts) (sensitive : Bool) (symbols : List Symbol) (at : ℕ) (x : Symbol)
    (lives : LiveSections) → at < length symbols → x ≡ get_or symbols at x →
    AreLive p sensitive (take at symbols ++ x ∷ []) lives →
    AreLive p sensitive (take (at + 1) symbols) lives
live_more p sensitive symbols at x lives lt is live =
    subst (λ (z : List Symbol). AreLive p sensitive z lives)
    (sym (take_more symbols at x lt ∙ ap (λ (z : Symbol). take at symbols ++ z ∷ []) (sym is))) live

words_at_front : (xs ys : List (List (List Symbol))) (k : ℕ) → k < length xs →
    words_at (xs ++ ys) k ≡ words_at xs k
words_at_front [] ys k lt = absurd (omega (arith, lt))
words_at_front (x ∷ xs) ys zero lt = refl
words_at_front (x ∷ xs) ys (suc k) lt = words_at_front xs ys k (omega arith)

words_at_end : (xs : List (List (List Symbol))) (x : List (List Symbol)) (k : ℕ) →
    k ≡ length xs → words_at (xs ++ x ∷ []) k ≡ x
words_at_end [] x zero e = refl
words_at_end [] x (suc k) e = absurd (omega arith)
words_at_end (y ∷ xs) x zero e = absurd (omega arith)
words_at_end (y ∷ xs) x (suc k) e = words_at_end xs x k (omega arith)

pub lefts_more : (lexicon : Lexicon) (symbols : List Symbol) (at : ℕ)
    (lefts more : List (List (List Symbol))) (words : List (List Symbol)) → length lefts ≡ at →
    more ≡ lefts ++ words ∷ [] → words ≡ left_parts lexicon (take (at + 1) symbols) →
    ((k : ℕ) → k < at → words_at lefts k ≡ left_parts lexicon (take (suc k) symbols)) →
    (k : ℕ) → k < at + 1 → words_at more k ≡ left_parts lexicon (take (suc k) symbols)
lefts_more lexicon symbols at lefts more words count is value old k lt =
    ap (λ (z : List (List (List Symbol))). words_at z k) is ∙ elim (cases_lt k at) [
      | inl l ↦ words_at_front lefts (words ∷ []) k (omega (arith, count)) ∙ old k l
      | inr l ↦
          let same : k ≡ at = omega (arith, lt) in
          let next : at + 1 ≡ suc k = omega arith in
          words_at_end lefts words k (omega (arith, count, same)) ∙ value
          ∙ ap (λ (n : ℕ). left_parts lexicon (take n symbols)) next
    ]

-- ---- places

front_place : {X : Type 0} (xs ys : List X) (i : ℕ) → i < length xs →
    slice_get (xs ++ ys) i ≡ slice_get xs i
front_place [] ys i lt = absurd (omega (arith, lt))
front_place (x ∷ xs) ys zero lt = refl
front_place (x ∷ xs) ys (suc i) lt = front_place xs ys i (omega arith)

end_place : {X : Type 0} (xs : List X) (x : X) (i : ℕ) → i ≡ length xs →
    slice_get (xs ++ x ∷ []) i ≡ Some x
end_place [] x zero e = refl
end_place [] x (suc i) e = absurd (omega arith)
end_place (y ∷ xs) x zero e = absurd (omega arith)
end_place (y ∷ xs) x (suc i) e = end_place xs x i (omega arith)

-- which way parts lead to a place depends on those before it alone
arrives_more : (places more : List Place) (i j m : ℕ) → j < length places → Arrives places i j m →
    Arrives (places ++ more) i j m
arrives_more places more i j m lt a = record {
  place = a.place;
  at = front_place places more j lt ∙ a.at;
  is = a.is;
}

arrives_less : (places more : List Place) (i j m : ℕ) → j < length places →
    Arrives (places ++ more) i j m → Arrives places i j m
arrives_less places more i j m lt a = record {
  place = a.place;
  at = sym (front_place places more j lt) ∙ a.at;
  is = a.is;
}

least_grown : (places more : List Place) (i : ℕ) (found : Option ℕ) → i ≤ length places →
    IsLeast (Arrives places i) i found → IsLeast (Arrives (places ++ more) i) i found
least_grown places more i found le l = record {
  attained = λ m e. let a = l.attained m e in
      let lt : a.0 < i = a.1.0 in
      (a.0, (a.1.0, arrives_more places more i a.0 m (omega arith) a.1.1));
  least = λ j m lt a. l.least j m lt (arrives_less places more i j m (omega arith) a);
}

place_grown : (lexicon : Lexicon) (surface : List Symbol) (places more : List Place) (i : ℕ)
    (p : Place) → i ≤ length places → IsPlaceAt lexicon surface places i p →
    IsPlaceAt lexicon surface (places ++ more) i p
place_grown lexicon surface places more i p le h = record {
  row = h.row;
  begins = h.begins;
  fewest = λ pos. least_grown places more i p.fewest le (h.fewest pos);
}

pub explored_more : (lexicon : Lexicon) (surface : List Symbol) (places more : List Place)
    (place : Place) (at : ℕ) → length places ≡ at → more ≡ places ++ place ∷ [] →
    ((i : ℕ) (p : Place) → slice_get places i ≡ Some p → IsPlaceAt lexicon surface places i p) →
    ((m : ℕ) → place.fewest ≡ Some m →
    IsRow lexicon (drop at surface) place.lefts.items place.rights) →
    (length places ≡ 0 → place.fewest ≡ Some 0) →
    (0 < length places → IsLeast (Arrives places (length places)) (length places) place.fewest) →
    (i : ℕ) (p : Place) → slice_get more i ≡ Some p → IsPlaceAt lexicon surface more i p
explored_more lexicon surface places more place at count is each row first behind i p there =
    subst (λ (z : List Place). IsPlaceAt lexicon surface z i p) (sym is)
    (elim (cases_lt i (length places)) [
      | inl l ↦ place_grown lexicon surface places (place ∷ []) i p (omega arith)
          (each i p (sym (front_place places (place ∷ []) i l)
          ∙ ap (λ (z : List Place). slice_get z i) (sym is) ∙ there))
      | inr l ↦
          let within : i < length (places ++ place ∷ []) = place_within (places ++ place ∷ []) i p
          (ap (λ (z : List Place). slice_get z i) (sym is) ∙ there) in
          let here : i ≡ length places =
          omega (arith, within, l, length-append places (place ∷ [])) in
          let same : place ≡ p = same_Some place p (sym (end_place places place i here)
          ∙ ap (λ (z : List Place). slice_get z i) (sym is) ∙ there) in
          let to : at ≡ i = omega (arith, count, here) in
          subst (λ (z : Place). IsPlaceAt lexicon surface (places ++ place ∷ []) i z) same
          (place_grown lexicon surface places (place ∷ []) i place (omega arith) (record {
            row = subst (λ (n : ℕ). (m : ℕ) → place.fewest ≡ Some m →
                IsRow lexicon (drop n surface) place.lefts.items place.rights) to row;
            begins = λ zeroth. first (omega (arith, here, zeroth));
            fewest = λ pos. subst (λ (n : ℕ). IsLeast (Arrives places n) n place.fewest) (sym here)
                (behind (omega (arith, here, pos)));
          }))
    ])

-- the same by what is read of the places so far, and of the surface from there on
pub explored_next : (lexicon : Lexicon) (surface symbols : List Symbol)
    (places slice more : List Place) (place : Place) (fewest : Option ℕ) (at : ℕ) →
    length places ≡ at → slice ≡ places → more ≡ places ++ place ∷ [] →
    symbols ≡ drop at surface → place.fewest ≡ fewest →
    ((i : ℕ) (p : Place) → slice_get places i ≡ Some p → IsPlaceAt lexicon surface places i p) →
    ((m : ℕ) → place.fewest ≡ Some m → IsRow lexicon symbols place.lefts.items place.rights) →
    (length slice ≡ 0 → fewest ≡ Some 0) →
    (0 < length slice → IsLeast (Arrives slice (length slice)) (length slice) fewest) →
    (i : ℕ) (p : Place) → slice_get more i ≡ Some p → IsPlaceAt lexicon surface more i p
explored_next lexicon surface symbols places slice more place fewest at count s is sym_is f each row
    first behind =
    explored_more lexicon surface places more place at count is each
    (subst (λ (z : List Symbol). (m : ℕ) → place.fewest ≡ Some m →
    IsRow lexicon z place.lefts.items place.rights) sym_is row)
    (subst (λ (z : List Place). length z ≡ 0 → place.fewest ≡ Some 0) s (λ e. f ∙ first e))
    (subst (λ (z : List Place). 0 < length z →
    IsLeast (Arrives z (length z)) (length z) place.fewest) s
    (λ pos. subst (λ (o : Option ℕ). IsLeast (Arrives slice (length slice)) (length slice) o)
    (sym f) (behind pos)))

pub arrives_is : (places : List Place) (n at m : ℕ) (place : Place) →
    slice_get places at ≡ Some place → arriving place (n - at - 1) ≡ Some m →
    Arrives places n at m
arrives_is places n at m place there is = record { place = place; at = there; is = is }

pub arrives_of : (places : List Place) (n at m : ℕ) (place : Place) →
    slice_get places at ≡ Some place → Arrives places n at m → arriving place (n - at - 1) ≡ Some m
arrives_of places n at m place there a =
    ap (λ (z : Place). arriving z (n - at - 1)) (one_place places at place a.place there a.at) ∙ a.is

pub completes_is : (places : List Place) (at m : ℕ) (place : Place) → 0 < at →
    slice_get places at ≡ Some place → completing place ≡ Some m → Completes places at m
completes_is places at m place behind there is =
    record { place = place; behind = behind; at = there; is = is }

pub completes_of : (places : List Place) (at m : ℕ) (place : Place) →
    slice_get places at ≡ Some place → Completes places at m → completing place ≡ Some m
completes_of places at m place there a =
    ap completing (one_place places at place a.place there a.at) ∙ a.is

-- the first place completes nothing
pub completes_none : (places : List Place) → IsLeast (Completes places) 1 None
completes_none places = record {
  attained = λ m e. absurd (none-some m e);
  least = λ i m lt c. absurd (let behind : 0 < i = c.behind in omega (arith, lt));
}

-- past the end there are no places
pub completes_end : (places : List Place) (at : ℕ) (found : Option ℕ) → length places ≤ at →
    IsLeast (Completes places) at found → IsLeast (Completes places) (length places) found
completes_end places at found le l = record {
  attained = λ m e. let a = l.attained m e in
      (a.0, (place_within places a.0 a.1.1.place a.1.1.at, a.1.1));
  least = λ i m lt c. l.least i m (omega arith) c;
}

-- ---- what is listed

pub goings_more : (p : Place) (next k : ℕ) (behind : List Listed) (x : Listed)
    (old into more : List (List Symbol)) → k < length behind → x ≡ get_or behind k x →
    more ≡ into ++ going p next k x → into ++ goings p next k (drop k behind) ≡ old →
    more ++ goings p next (k + 1) (drop (k + 1) behind) ≡ old
unfolding goings
goings_more p next k behind x old into more lt is e so_far =
    let cut : drop k behind ≡ x ∷ drop (k + 1) behind = drop_more behind k x lt
    ∙ ap (λ (z : Listed). z ∷ drop (k + 1) behind) (sym is) in
    let one : k + 1 ≡ suc k = omega arith in
    let step : goings p next k (drop k behind)
    ≡ going p next k x ++ goings p next (suc k) (drop (k + 1) behind) =
    ap (goings p next k) cut in
    ap (λ (z : List (List Symbol)). z ++ goings p next (k + 1) (drop (k + 1) behind)) e
    ∙ append_assoc into (going p next k x) (goings p next (k + 1) (drop (k + 1) behind))
    ∙ ap (λ (n : ℕ). into ++ (going p next k x ++ goings p next n (drop (k + 1) behind))) one
    ∙ ap (λ (z : List (List Symbol)). into ++ z) (sym step) ∙ so_far

pub goings_end : (p : Place) (next k : ℕ) (behind : List Listed) (old into : List (List Symbol)) →
    length behind ≤ k → into ++ goings p next k (drop k behind) ≡ old → into ≡ old
unfolding goings
goings_end p next k behind old into le so_far =
    sym (append-nil into)
    ∙ ap (λ (z : List Listed). into ++ goings p next k z) (sym (drop_all k behind le)) ∙ so_far

pub listed_none : (total n : ℕ) (places : List Place) (lists : List Listed) → length places ≤ n →
    lists ≡ [] → AreListed total n (drop n places) lists
listed_none total n places lists le e =
    subst (λ (z : List Place). AreListed total n z lists) (sym (drop_all n places le)) e

pub listed_more : (total at next : ℕ) (places : List Place) (place : Place) (x : Listed)
    (lists more : List Listed) → next ≡ at + 1 → at < length places →
    place ≡ get_or places at place → more ≡ x ∷ lists → x.fewest ≡ place.fewest →
    ((w : List Symbol) → IsIn w x.words
    ↔ IsIn w (words_from place.fewest place at total lists)) →
    AreListed total next (drop next places) lists → AreListed total at (drop at places) more
listed_more total at next places place x lists more up lt is e same members so_far =
    let cut : drop at places ≡ place ∷ drop (at + 1) places = drop_more places at place lt
    ∙ ap (λ (z : Place). z ∷ drop (at + 1) places) (sym is) in
    let one : next ≡ suc at = omega (arith, up) in
    let rest : AreListed total (suc at) (drop (at + 1) places) lists =
    subst (λ (n : ℕ). AreListed total n (drop (at + 1) places) lists) one
    (subst (λ (n : ℕ). AreListed total next (drop n places) lists) up so_far) in
    subst (λ (z : List Listed). AreListed total at (drop at places) z) (sym e)
    (subst (λ (z : List Place). AreListed total at z (x ∷ lists)) (sym cut)
    (same, members, rest))

-- the words of a place are those that were appended, in order
pub words_from_is : (fewest : Option ℕ) (count next : ℕ)
    (none first into made result : List (List Symbol)) (p : Place) (at total : ℕ)
    (behind : List Listed) → fewest ≡ Some count → next ≡ suc count → none ≡ [] →
    first ≡ none ++ ending p at total next → into ≡ first ++ goings p next 0 behind →
    ((w : List Symbol) → IsIn w made ↔ IsIn w into) → result ≡ made → (w : List Symbol) →
    IsIn w result ↔ IsIn w (words_from fewest p at total behind)
words_from_is fewest count next none first into made result p at total behind f up n e g members r
    w =
    let all : into ≡ ending p at total (suc count) ++ goings p (suc count) 0 behind =
    g ∙ ap (λ (z : List (List Symbol)). z ++ goings p next 0 behind)
    (e ∙ ap (λ (z : List (List Symbol)). z ++ ending p at total next) n)
    ∙ ap (λ (k : ℕ). ending p at total k ++ goings p k 0 behind) up in
    subst (λ (o : Option ℕ). IsIn w result ↔ IsIn w (words_from o p at total behind)) (sym f)
    (subst (λ (z : List (List Symbol)). IsIn w z
    ↔ IsIn w (ending p at total (suc count) ++ goings p (suc count) 0 behind)) (sym r)
    (subst (λ (z : List (List Symbol)). IsIn w made ↔ IsIn w z) all (members w)))
