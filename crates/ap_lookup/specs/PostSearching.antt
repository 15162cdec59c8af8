-- What the search for a match at the front of the held items knows.
use Rattle.std.specs.Prelude.{◌≡◌, ◌⊎◌, ℕ, suc, ◌<◌, ◌≤◌, Bool, true, false, List, length, take, drop, slice_index_or}
use Rattle.ap_fst.specs.Sections.{Parts}
use Rattle.ap_stream.specs.declared.item.Read.{Read}
use Rattle.ap_symbol.specs.declared.symbol.Symbol.{Symbol}
use Rattle.ap_live.specs.Lexicon.{Lexicon, lexicon_of}
use Rattle.ap_live.specs.SectionLives.{AreLive}
use Rattle.ap_lookup.specs.Matching.{is_match, fitting}
use Rattle.ap_lookup.specs.PostGenerating.{symbols, matched}
use Rattle.ap_lookup.specs.declared.agreement.Agreement.{Agreement}
use Rattle.ap_lookup.specs.declared.post_search.Search.{Search}
use Rattle.ap_lookup.specs.declared.post_search.Found.{Found}

-- none of them, or they fit a beginning of a left word
abbrev pub IsBegun : Lexicon → List Symbol → Type 0
IsBegun lexicon seen = (length seen ≡ 0) ⊎ (lexicon.viable seen ≡ true)

-- no front of one symbol or more, up to so many, fits a left word
abbrev pub AreVain : Lexicon → List Symbol → ℕ → Type 0
AreVain lexicon seen vain = (n : ℕ) → 0 < n → n ≤ vain → n ≤ length seen →
    is_match lexicon 0 seen n ≡ false

-- so many symbols at the front of the items behind are those at the front of all
pub record IsAgreement (reads : List Read) (agreement : Agreement) : Type 0 where
  pub within : agreement.count ≤ length (symbols (drop agreement.by reads))
  pub same : take agreement.count (symbols (drop agreement.by reads))
      ≡ take agreement.count (symbols reads)

-- the symbols seen so far are the first of the items', and fit a beginning of a left word; what is
-- known to be in vain is so, and the items agree as is said
pub record IsSearch (p : Parts) (sensitive : Bool) (reads : List Read)
    (search : Search) : Type 0 where
  pub seen_are : search.seen.items ≡ take (length search.seen.items) (symbols reads)
  pub lives_are : AreLive p sensitive search.seen.items search.lives
  pub begun : IsBegun (lexicon_of p sensitive) search.seen.items
  pub vain_within : search.vain ≤ length (symbols reads)
  pub vain_are : AreVain (lexicon_of p sensitive) (symbols reads) search.vain
  pub agreed : IsAgreement reads search.agreement

-- Back from the symbols seen: at the match, where there is one. Where there is none, all of them
-- are in vain.
pub record IsBack (old new : Search) (matched : ℕ) : Type 0 where
  pub kept : ℕ
  pub within : kept ≤ length old.seen.items
  pub seen_are : new.seen.items ≡ take kept old.seen.items
  pub at_match : 0 < matched → kept ≡ matched
  pub vain_is : (new.vain ≡ old.vain) ⊎ ((matched ≡ 0) × (new.vain ≡ length old.seen.items))
  pub agreed : new.agreement ≡ old.agreement

-- no symbol more fits with those seen
pub record IsEnd (lexicon : Lexicon) (reads : List Read) (n : ℕ) : Type 0 where
  pub within : n ≤ length (symbols reads)
  pub here : IsBegun lexicon (take n (symbols reads))
  pub past : (n ≡ length (symbols reads)) ⊎ (lexicon.viable (take (suc n) (symbols reads)) ≡ false)

-- what the search found is what the definition says, and further items change nothing
pub record IsFound (lexicon : Lexicon) (reads : List Read) (finished : Bool)
    (found : Found) : Type 0 where
  pub matched_is : found.matched ≡ matched lexicon reads
  pub span_is : found.span ≡ fitting lexicon (symbols reads)
  pub settled : (found.span < length reads) ⊎ (finished ≡ true)
  pub within : found.span ≤ length reads
  pub below : found.matched ≤ found.span

-- the place of the first item
pub record IsFirstPlace (reads : List Read) (place : ℕ) : Type 0 where
  pub first : Read
  pub is : first ≡ slice_index_or reads 0 first
  pub place_is : place ≡ first.place
