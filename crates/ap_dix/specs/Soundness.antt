use Rattle.std.specs.Prelude.{ℕ, ◌+◌, Bool, true, false, not, ◌&&◌, nat_lt, IsTrue, List, [], ◌∷◌, length}
use Rattle.std.specs.List.{list_all}
use Rattle.ap_symbol.specs.Words.{is_white}
use Rattle.ap_symbol.specs.declared.symbol.Symbol.{Symbol}
use Rattle.ap_symbol.specs.declared.symbol.Symbol.TheVariants.{Letter, Blank, Star, At}
use Rattle.ap_dix.specs.Forms.{Form, Forms, one, class, sequence, either, star, plus, opt, no_forms, then_form}
use Rattle.ap_dix.specs.declared.dictionary.Dictionary.{Dictionary}
use Rattle.ap_dix.specs.declared.dictionary.Entry.{Entry}
use Rattle.ap_dix.specs.declared.dictionary.EntryPart.{EntryPart}
use Rattle.ap_dix.specs.declared.dictionary.EntryPart.TheVariants.{Identity, Pair, Paradigm, Expression}
use Rattle.ap_dix.specs.declared.dictionary.Pardef.{Pardef}
use Rattle.ap_dix.specs.declared.dictionary.Section.{Section}

-- what a word of a dictionary may hold
abbrev pub is_entry_symbol : Symbol → Bool
is_entry_symbol Star = false
is_entry_symbol At = false
is_entry_symbol _ = true

-- what an expression may hold as one symbol: a blank, or a letter that is no white space
abbrev pub is_one_symbol : Symbol → Bool
is_one_symbol Blank = true
is_one_symbol (Letter c) = not (is_white c)
is_one_symbol _ = false

-- each symbol of the expression is such
abbrev mutual
  pub is_sound_form : Form → Bool
  is_sound_form (one s) = is_one_symbol s
  is_sound_form (class ranges) = true
  is_sound_form (sequence es) = are_sound_forms es
  is_sound_form (either es) = are_sound_forms es
  is_sound_form (star e) = is_sound_form e
  is_sound_form (plus e) = is_sound_form e
  is_sound_form (opt e) = is_sound_form e

  pub are_sound_forms : Forms → Bool
  are_sound_forms no_forms = true
  are_sound_forms (then_form e es) = is_sound_form e && are_sound_forms es

-- a paradigm has a number below this one, no word holds a star or an at, and expressions are sound
abbrev pub is_sound_part : ℕ → EntryPart → Bool
is_sound_part bound (Identity word) = list_all is_entry_symbol word
is_sound_part bound (Pair left right) = list_all is_entry_symbol left
    && list_all is_entry_symbol right
is_sound_part bound (Paradigm n) = nat_lt n bound
is_sound_part bound (Expression e text) = is_sound_form e

abbrev pub is_sound_entry : ℕ → Entry → Bool
is_sound_entry bound entry = list_all (is_sound_part bound) entry.parts

-- each paradigm, from this number on, names paradigms above it only
abbrev pub are_sound_pardefs : ℕ → List Pardef → Bool
are_sound_pardefs n [] = true
are_sound_pardefs n (pardef ∷ pardefs) = list_all (is_sound_entry n) pardef.entries
    && are_sound_pardefs (n + 1) pardefs

-- A dictionary is sound where each paradigm that an entry names is there, and stands above the
-- paradigm that the entry is of; no word holds a star or an at; each symbol of an expression is a
-- blank or a letter that is no white space; and the alphabet holds no white space.
pub record IsSound (d : Dictionary) : Type 0 where
  pub pardefs : IsTrue (are_sound_pardefs 0 d.pardefs)
  pub sections : IsTrue (list_all
      (λ (section : Section). list_all (is_sound_entry (length d.pardefs))
      section.entries) d.sections)
  pub alphabet : IsTrue (list_all (λ c. not (is_white c)) d.alphabet)
