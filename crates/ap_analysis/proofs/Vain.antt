-- Walks that go on in vain: where an earlier one ended and had no licence, a later one that goes on
-- alike ends too, and has none.
use Rattle.std.specs.Prelude.{◌≡◌, ℕ, suc, ◌+◌, ◌-◌, ◌<◌, ◌≤◌, Bool, true, false, List, [], ◌∷◌, ◌++◌, length, take, drop, refl, if◌then◌else◌, Result, Ok, Err, OnOk, OnErr}
use Rattle.std.proofs.Common.{arith, ap, sym, ◌∙◌, inl, inr, subst, append_assoc}
use Rattle.std.proofs.lemmas.Bool.{cases_lt}
use Rattle.std.proofs.lemmas.List.{take-append-drop, take-take, drop-take, length-append, length-take, length-drop}
use Rattle.std.proofs.Math.Seq.{drop-append-add}
use Rattle.ap_symbol.specs.declared.symbol.Symbol.{Symbol}
use Rattle.ap_fst.specs.Sections.{Parts}
use Rattle.ap_fst.specs.declared.compiled.Kind2.TheVariants.{Standard, Inconditional, Postblank, Preblank}
use Rattle.ap_stream.specs.declared.item.Read.{Read}
use Rattle.ap_stream.proofs.ItemFronts.{front_short, front_ends, front_goes_on, front_more}
use Rattle.ap_live.specs.Found.{has_words}
use Rattle.ap_live.specs.Greatest.{greatest}
use Rattle.ap_live.specs.Lexicon.{Lexicon, IsCoherent, lexicon_of}
use Rattle.ap_live.specs.SectionLives.{AreLive}
use Rattle.ap_live.specs.Walks.{AddsNote, GoAlike, IsMetAt, MovesDown}
use Rattle.ap_live.specs.declared.live_sections.LiveSections.{LiveSections}
use Rattle.ap_live.specs.declared.walked.Walked.{Walked}
use Rattle.ap_live.proofs.Greatest.{greatest_above, greatest_within, greatest_cut, greatest_down}
use Rattle.ap_live.proofs.Walks.{walked_as, walked_met, walked_noted, walked_passed}
use Rattle.ap_analysis.specs.Items.{symbol_of, symbols}
use Rattle.ap_analysis.specs.Licence.{begins_alphabetic, surface, is_licensed}
use Rattle.ap_analysis.specs.Searching.{IsFound, IsUnlicensed}
use Rattle.ap_analysis.specs.Vain.{AreVain, IsClosed, IsEnded, IsVain, WentInVain}
use Rattle.ap_analysis.specs.declared.search.Ended.{Ended}
use Rattle.ap_analysis.specs.declared.search.Found.{Found}
use Rattle.ap_analysis.proofs.Lengths.{licensed_more, words_of}
use Rattle.ap_analysis.proofs.Searches.{end_pushed, found_known}

-- ---- two walks that go on alike

same_some : (a b c d : List (List Symbol)) → has_words a ≡ has_words c → has_words b ≡ has_words d →
    has_words (a ++ b) ≡ has_words (c ++ d)
same_some [] b [] d h k = k
same_some [] b (w ∷ c) d h k = cc
same_some (v ∷ a) b [] d h k = cc
same_some (v ∷ a) b (w ∷ c) d h k = refl

standard_alike : (lexicon : Lexicon) (t : Bool) (one two : List Symbol) →
    has_words (lexicon.readings Standard one) ≡ has_words (lexicon.readings Standard two) →
    has_words (if t then [] else lexicon.readings Standard one)
    ≡ has_words (if t then [] else lexicon.readings Standard two)
standard_alike lexicon true one two h = refl
standard_alike lexicon false one two h = h

-- the same is licensed behind both
words_alike : (lexicon : Lexicon) (t : Bool) (one two more : List Symbol) → GoAlike lexicon one two →
    has_words (words_of lexicon t (one ++ more)) ≡ has_words (words_of lexicon t (two ++ more))
unfolding words_of
words_alike lexicon t one two more alike =
    same_some (if t then [] else lexicon.readings Standard (one ++ more)) _
    (if t then [] else lexicon.readings Standard (two ++ more)) _
    (standard_alike lexicon t (one ++ more) (two ++ more) (alike.reads Standard more))
    (same_some (lexicon.readings Inconditional (one ++ more)) _
    (lexicon.readings Inconditional (two ++ more)) _ (alike.reads Inconditional more)
    (same_some (lexicon.readings Postblank (one ++ more)) _
    (lexicon.readings Postblank (two ++ more)) _ (alike.reads Postblank more)
    (alike.reads Preblank more)))

licensed_is : (lexicon : Lexicon) (reads : List Read) (n : ℕ) → is_licensed lexicon reads n
    ≡ has_words (words_of lexicon (begins_alphabetic lexicon (drop n reads)) (surface reads n))
unfolding words_of
licensed_is lexicon reads n = refl

take_on : {X : Type 0} (m n : ℕ) (xs : List X) →
    take (m + n) xs ≡ take m xs ++ take n (drop m xs)
take_on {X = X} m n xs =
    sym (take-append-drop m (take (m + n) xs))
    ∙ ap (λ (front : List X). front ++ drop m (take (m + n) xs))
    (take-take m (m + n) xs (omega arith))
    ∙ ap (λ (rest : List X). take m xs ++ rest) (drop-take m n xs)

-- the symbols of items of which so many have one
pub record AreJoined (gone reads : List Read) : Type 0 where
  pub all : length (symbols gone) ≡ length gone
  pub is : symbols (gone ++ reads) ≡ symbols gone ++ symbols reads

joined : (gone reads : List Read) → length gone ≤ length (symbols (gone ++ reads)) →
    AreJoined gone reads
joined gone reads le = elim (cases_lt (length (symbols gone)) (length gone)) [
  | inl less ↦
      let e = ap length (front_ends symbol_of gone reads less) in absurd (omega (arith, e, less, le))
  | inr ge ↦
      let all : length (symbols gone) ≡ length gone =
      (let s = front_short symbol_of gone in omega (arith, s, ge)) in
      record { all = all; is = front_goes_on symbol_of gone reads all }
]

module _ (lexicon : Lexicon) (gone reads : List Read) (place at : ℕ) (at_is : at ≡ length gone + place)
    (within : at ≤ length (symbols (gone ++ reads)))
    (alike : GoAlike lexicon (surface (gone ++ reads) at) (surface reads place)) where
  both : AreJoined gone reads
  both = joined gone reads (omega (arith, at_is, within))

  pub symbols_within : length (symbols (gone ++ reads)) ≡ length gone + length (symbols reads)
  symbols_within =
      let e = ap length both.is in
      let l = length-append (symbols gone) (symbols reads) in
      omega (arith, e, l, both.all)

  more_gone : drop at (symbols (gone ++ reads)) ≡ drop place (symbols reads)
  more_gone =
      let a : at ≡ length (symbols gone) + place = omega (arith, at_is, both.all) in
      ap (λ (s : List Symbol). drop at s) both.is
      ∙ ap (λ (n : ℕ). drop n (symbols gone ++ symbols reads)) a
      ∙ drop-append-add (symbols gone) (symbols reads) place

  module _ (k : ℕ) where
    seen_gone : surface (gone ++ reads) (at + k)
        ≡ surface (gone ++ reads) at ++ take k (drop place (symbols reads))
    seen_gone = take_on at k (symbols (gone ++ reads))
        ∙ ap (λ (rest : List Symbol). surface (gone ++ reads) at ++ take k rest) more_gone

    seen_here : surface reads (place + k)
        ≡ surface reads place ++ take k (drop place (symbols reads))
    seen_here = take_on place k (symbols reads)

    pub viable_alike : lexicon.viable (surface (gone ++ reads) (at + k))
        ≡ lexicon.viable (surface reads (place + k))
    viable_alike = ap lexicon.viable seen_gone
        ∙ alike.viable (take k (drop place (symbols reads))) ∙ ap lexicon.viable (sym seen_here)

    begins_alike : begins_alphabetic lexicon (drop (at + k) (gone ++ reads))
        ≡ begins_alphabetic lexicon (drop (place + k) reads)
    begins_alike =
        let a : at + k ≡ length gone + (place + k) = omega (arith, at_is) in
        ap (λ (n : ℕ). begins_alphabetic lexicon (drop n (gone ++ reads))) a
        ∙ ap (begins_alphabetic lexicon) (drop-append-add gone reads (place + k))

    pub licensed_alike : is_licensed lexicon (gone ++ reads) (at + k)
        ≡ is_licensed lexicon reads (place + k)
    licensed_alike =
        licensed_is lexicon (gone ++ reads) (at + k)
        ∙ ap (λ (t : Bool). has_words (words_of lexicon t (surface (gone ++ reads) (at + k))))
        begins_alike
        ∙ ap (λ (s : List Symbol).
        has_words (words_of lexicon (begins_alphabetic lexicon (drop (place + k) reads)) s)) seen_gone
        ∙ words_alike lexicon (begins_alphabetic lexicon (drop (place + k) reads))
        (surface (gone ++ reads) at) (surface reads place) (take k (drop place (symbols reads))) alike
        ∙ ap (λ (s : List Symbol).
        has_words (words_of lexicon (begins_alphabetic lexicon (drop (place + k) reads)) s))
        (sym seen_here)
        ∙ sym (licensed_is lexicon reads (place + k))

  none_alike : (ahead : ℕ) → ((n : ℕ) → at ≤ n → n ≤ at + ahead →
      is_licensed lexicon (gone ++ reads) n ≡ false)
      → (n : ℕ) → place ≤ n → n ≤ place + ahead → is_licensed lexicon reads n ≡ false
  none_alike ahead none n low high =
      let k = n - place in
      let e : place + k ≡ n = omega (arith, low) in
      ap (is_licensed lexicon reads) (sym e) ∙ sym (licensed_alike k)
      ∙ none (at + k) (omega arith) (omega (arith, low, high))

  pub vain_alike : (ahead : ℕ) → IsVain lexicon (gone ++ reads) at (at + ahead) →
      IsVain lexicon reads place (place + ahead)
  vain_alike ahead vain = record {
    ends = record {
      here = record {
        within = (let w = vain.ends.here.within in let s = symbols_within in
            omega (arith, w, s, at_is));
        viable = elim vain.ends.here.viable [
          | inl z ↦ inl (omega (arith, z, at_is))
          | inr t ↦ inr (sym (viable_alike ahead) ∙ t)
        ];
      };
      past = elim vain.ends.past [
        | inl all ↦ inl (let s = symbols_within in omega (arith, all, s, at_is))
        | inr dead ↦
            let a : suc (at + ahead) ≡ at + suc ahead = omega arith in
            let b : suc (place + ahead) ≡ place + suc ahead = omega arith in
            inr (ap (λ (n : ℕ). lexicon.viable (surface reads n)) b
            ∙ sym (viable_alike (suc ahead))
            ∙ ap (λ (n : ℕ). lexicon.viable (surface (gone ++ reads) n)) (sym a) ∙ dead)
      ];
    };
    none = none_alike ahead vain.none;
  }

-- A walk that is where an earlier one was, and goes on alike, ends there too, and in vain.
pub vain_met : (lexicon : Lexicon) (reads : List Read) (finished : Bool) (place ahead : ℕ)
    (before : List Symbol) → WentInVain lexicon reads finished place ahead before →
    GoAlike lexicon before (surface reads place) → IsVain lexicon reads place (place + ahead)
vain_met lexicon reads finished place ahead before went alike =
    let vain : IsVain lexicon (went.gone ++ reads) went.at (went.at + ahead) =
    subst (λ (w : List Read). IsVain lexicon w went.at (went.at + ahead)) went.whole_is went.vain in
    vain_alike lexicon went.gone reads place went.at went.at_is
    (let w = vain.ends.here.within in omega (arith, w))
    (subst (λ (s : List Symbol). GoAlike lexicon s (surface reads place))
    (went.seen_is ∙ ap (λ (w : List Read). surface w went.at) went.whole_is) alike) ahead vain

-- ---- where items come and leave

-- the first so many items leave
pub vain_passed : (lexicon : Lexicon) (reads : List Read) (finished : Bool) (count place ahead : ℕ)
    (seen : List Symbol) → count ≤ length reads →
    WentInVain lexicon reads finished (count + place) ahead seen →
    WentInVain lexicon (drop count reads) finished place ahead seen
vain_passed lexicon reads finished count place ahead seen le went = record {
  gone = went.gone ++ take count reads;
  whole = went.whole;
  whole_is = went.whole_is
      ∙ ap (λ (rest : List Read). went.gone ++ rest) (sym (take-append-drop count reads))
      ∙ sym (append_assoc went.gone (take count reads) (drop count reads));
  at = went.at;
  at_is =
      let a = length-append went.gone (take count reads) in
      let t = length-take count reads in
      let is = went.at_is in
      omega (arith, a, t, is, le);
  seen_is = went.seen_is;
  vain = went.vain;
  closed = elim went.closed [
    | inl lt ↦ inl (let d = length-drop count reads in omega (arith, d, lt, le))
    | inr f ↦ inr f
  ];
}

vain_more : (lexicon : Lexicon) (reads xs : List Read) (from end : ℕ) → end < length reads →
    IsVain lexicon reads from end → IsVain lexicon (reads ++ xs) from end
vain_more lexicon reads xs from end lt is = record {
  ends = end_pushed lexicon reads xs end lt is.ends;
  none = λ n low high. ap has_words (licensed_more lexicon reads xs n (omega (arith, high, lt)))
      ∙ is.none n low high;
}

-- more items come
pub vain_pushed : (lexicon : Lexicon) (reads xs : List Read) (place ahead : ℕ)
    (seen : List Symbol) → WentInVain lexicon reads false place ahead seen →
    WentInVain lexicon (reads ++ xs) false place ahead seen
vain_pushed lexicon reads xs place ahead seen went =
    elim went.closed [
      | inl lt ↦
          let within : went.at + ahead < length went.whole =
          (let e = ap length went.whole_is in let l = length-append went.gone reads in
          let is = went.at_is in omega (arith, e, l, is, lt)) in
          record {
            gone = went.gone;
            whole = went.whole ++ xs;
            whole_is = ap (λ (w : List Read). w ++ xs) went.whole_is
                ∙ append_assoc went.gone reads xs;
            at = went.at;
            at_is = went.at_is;
            seen_is = went.seen_is
                ∙ sym (front_more symbol_of went.whole xs went.at (omega (arith, within)));
            vain = vain_more lexicon went.whole xs went.at (went.at + ahead) within went.vain;
            closed = inl (let l = length-append reads xs in omega (arith, l, lt));
          }
      | inr f ↦ absurd (cc)
    ]

-- no item follows
pub vain_finished : (lexicon : Lexicon) (reads : List Read) (finished : Bool) (place ahead : ℕ)
    (seen : List Symbol) → WentInVain lexicon reads finished place ahead seen →
    WentInVain lexicon reads true place ahead seen
vain_finished lexicon reads finished place ahead seen went = record {
  gone = went.gone;
  whole = went.whole;
  whole_is = went.whole_is;
  at = went.at;
  at_is = went.at_is;
  seen_is = went.seen_is;
  vain = went.vain;
  closed = inr refl;
}

module _ (p : Parts) (sensitive : Bool) where
  pub passed : (reads : List Read) (finished : Bool) (count : ℕ) (old new : Walked) →
      count ≤ length reads → MovesDown count old new → AreVain p sensitive reads finished old →
      AreVain p sensitive (drop count reads) finished new
  passed reads finished count old new le moves =
      walked_passed p sensitive (WentInVain (lexicon_of p sensitive) reads finished)
      (WentInVain (lexicon_of p sensitive) (drop count reads) finished) count old new moves
      (λ place ahead seen. vain_passed (lexicon_of p sensitive) reads finished count place ahead seen
      le)

  pub pushed : (reads xs : List Read) (walked : Walked) → AreVain p sensitive reads false walked →
      AreVain p sensitive (reads ++ xs) false walked
  pushed reads xs walked =
      walked_as p sensitive (WentInVain (lexicon_of p sensitive) reads false)
      (WentInVain (lexicon_of p sensitive) (reads ++ xs) false) walked
      (λ place ahead seen. vain_pushed (lexicon_of p sensitive) reads xs place ahead seen)

  pub closed_all : (reads : List Read) (finished : Bool) (walked : Walked) →
      AreVain p sensitive reads finished walked → AreVain p sensitive reads true walked
  closed_all reads finished walked =
      walked_as p sensitive (WentInVain (lexicon_of p sensitive) reads finished)
      (WentInVain (lexicon_of p sensitive) reads true) walked
      (λ place ahead seen. vain_finished (lexicon_of p sensitive) reads finished place ahead seen)

-- ---- on the way back

-- none is licensed where the search stands, nor behind it
none_behind : (lexicon : Lexicon) (reads : List Read) (looked at viable : ℕ) → looked ≤ viable →
    ((n : ℕ) → looked < n → n ≤ viable → is_licensed lexicon reads n ≡ false) → 0 < at →
    at ≤ looked
    → greatest (is_licensed lexicon reads) looked ≡ greatest (is_licensed lexicon reads) at →
    is_licensed lexicon reads at ≡ false
    → (n : ℕ) → at ≤ n → n ≤ viable → is_licensed lexicon reads n ≡ false
none_behind lexicon reads looked at viable least none some under same here n low high =
    elim (cases_lt looked n) [
      | inl lt ↦ none n lt high
      | inr ge ↦
          let d = greatest_down (is_licensed lexicon reads) at some here in
          let w = greatest_within (is_licensed lexicon reads) (at - 1) in
          greatest_above (is_licensed lexicon reads) looked n
          (omega (arith, d, w, same, low, some)) (omega (arith, ge))
    ]

pub came_back : (p : Parts) (sensitive : Bool) (reads : List Read) (finished : Bool)
    (looked at ahead : ℕ) (ended : Ended) (lives : LiveSections) (old new : Walked) →
    IsEnded (lexicon_of p sensitive) reads finished looked ended → 0 < at → at ≤ looked
    → greatest (is_licensed (lexicon_of p sensitive) reads) looked
    ≡ greatest (is_licensed (lexicon_of p sensitive) reads) at
    → is_licensed (lexicon_of p sensitive) reads at ≡ false → ahead ≡ ended.viable - at
    → AddsNote at ahead lives old new → AreLive p sensitive (surface reads at) lives →
    AreVain p sensitive reads finished old → AreVain p sensitive reads finished new
came_back p sensitive reads finished looked at ahead ended lives old new is some under same here
    ahead_is adds live =
    let least = is.least in
    let end : ended.viable ≡ at + ahead = omega (arith, least, under, ahead_is) in
    walked_noted p sensitive (WentInVain (lexicon_of p sensitive) reads finished) at ahead lives old
    new (surface reads at) adds live
    (record {
      gone = [];
      whole = reads;
      whole_is = refl;
      at = at;
      at_is = omega arith;
      seen_is = refl;
      vain = subst (λ (n : ℕ). IsVain (lexicon_of p sensitive) reads at n) end
          (record {
            ends = is.ends;
            none = none_behind (lexicon_of p sensitive) reads looked at ended.viable is.least is.none
                some under same here;
          });
      closed = subst (λ (n : ℕ). IsClosed reads finished n) end is.closed;
    })

-- the greatest licensed length is not behind where the search stands
pub greatest_ended : (lexicon : Lexicon) (reads : List Read) (finished : Bool) (looked : ℕ)
    (ended : Ended) → IsEnded lexicon reads finished looked ended →
    greatest (is_licensed lexicon reads) ended.viable ≡ greatest (is_licensed lexicon reads) looked
greatest_ended lexicon reads finished looked ended is =
    greatest_cut (is_licensed lexicon reads) ended.viable looked is.least is.none

-- the greatest licensed length up to where it stands is found
pub found_ended : (lexicon : Lexicon) (reads : List Read) (finished : Bool) (looked n : ℕ)
    (ended : Ended) → IsCoherent lexicon → IsEnded lexicon reads finished looked ended →
    n ≡ greatest (is_licensed lexicon reads) looked → 0 < n
    → IsFound lexicon reads finished (let found : Found =
    record { licence = n; unknown = 0; span = ended.viable; any_ending = ended.any_ending } in found)
found_ended lexicon reads finished looked n ended coherent is at some =
    found_known lexicon reads ended.viable n finished coherent is.ends
    (at ∙ sym (greatest_ended lexicon reads finished looked ended is)) some is.closed
    ended.any_ending is.ending_is

-- and there is none
pub unlicensed_ended : (lexicon : Lexicon) (reads : List Read) (finished : Bool) (looked n : ℕ)
    (ended : Ended) → IsEnded lexicon reads finished looked ended →
    n ≡ greatest (is_licensed lexicon reads) looked → n ≡ 0 →
    IsUnlicensed lexicon reads ended.viable finished
unlicensed_ended lexicon reads finished looked n ended is at none = record {
  ends = is.ends;
  none = greatest_ended lexicon reads finished looked ended is ∙ sym at ∙ none;
  settled = is.closed;
}

-- ---- on the way

-- what is known of an earlier walk that was in the same states
pub walk_met : (p : Parts) (sensitive : Bool) (reads : List Read) (finished : Bool)
    (place ahead : ℕ) (lives : LiveSections) (walked : Walked) → IsMetAt p walked place lives ahead →
    AreLive p sensitive (surface reads place) lives → AreVain p sensitive reads finished walked →
    IsVain (lexicon_of p sensitive) reads place (place + ahead)
    × IsClosed reads finished (place + ahead)
walk_met p sensitive reads finished place ahead lives walked met live vain =
    let went = walked_met p sensitive (WentInVain (lexicon_of p sensitive) reads finished) place ahead
    lives walked (surface reads place) met live vain in (
      vain_met (lexicon_of p sensitive) reads finished place ahead went.before went.holds went.alike,
      went.holds.closed,
    )

-- an item more, or none for want of memory
pub pushed_or_not : {T E : Type 0} (r : Result T E) (p : Parts) (sensitive finished : Bool)
    (walked : Walked) (items new : List Read) (read : Read) → finished ≡ false →
    OnOk r (new ≡ items ++ read ∷ []) → OnErr r (new ≡ items) →
    AreVain p sensitive items finished walked → AreVain p sensitive new finished walked
pushed_or_not (Ok x) p sensitive false walked items new read open_ ok err vain =
    subst (λ (z : List Read). AreVain p sensitive z false walked) (sym ok)
    (pushed p sensitive items (read ∷ []) walked vain)
pushed_or_not (Ok x) p sensitive true walked items new read open_ ok err vain = absurd (cc)
pushed_or_not (Err x) p sensitive finished walked items new read open_ ok err vain =
    subst (λ (z : List Read). AreVain p sensitive z finished walked) (sym err) vain
