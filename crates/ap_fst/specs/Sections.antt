use Rattle.std.specs.Prelude.{ℕ, Bool, true, false, not, ◌&&◌, List, IsTrue, Option, Some, None}
use Rattle.std.specs.List.{list_all}
use Rattle.std.specs.Ordering.{nat_cmp}
use Rattle.ap_symbol.specs.Alphabet.{is_closed}
use Rattle.ap_symbol.specs.TagNames.{is_tag_name}
use Rattle.ap_symbol.specs.Words.{is_white}
use Rattle.ap_symbol.specs.declared.symbol.Symbol.{Symbol}
use Rattle.ap_symbol.specs.declared.symbol.Symbol.TheVariants.{Letter, Tag, Blank, Join, Queue, Alarm, Star, At}
use Rattle.ap_fst.specs.Lists.{IsIn, Ascends}
use Rattle.ap_fst.specs.Machines.{Machine, IsMachine}
use Rattle.ap_fst.specs.Trimming.{IsTrimmed}
use Rattle.ap_fst.specs.Silence.{HasNoEmptyCycle, HasEmptySide}
use Rattle.ap_fst.specs.declared.label.Label.{Label}
use Rattle.ap_fst.specs.declared.label.Edge.{Edge}
use Rattle.ap_fst.specs.declared.compiled.Kind2.{Kind2}
use Rattle.ap_fst.specs.declared.compiled.Kind2.TheVariants.{Standard, Inconditional, Postblank, Preblank}
use Rattle.ap_fst.specs.declared.compiled.Way.{Way}

-- a side of a dictionary's label: no Star, no At, no white-space letter, and a tag with the name of
-- a tag
abbrev pub is_plain_side : Option Symbol → Bool
is_plain_side None = true
is_plain_side (Some (Letter c)) = not (is_white c)
is_plain_side (Some (Tag name)) = is_tag_name name
is_plain_side (Some Blank) = true
is_plain_side (Some Join) = true
is_plain_side (Some Queue) = true
is_plain_side (Some Alarm) = true
is_plain_side (Some Star) = false
is_plain_side (Some At) = false

abbrev pub is_plain_label : Label → Bool
is_plain_label l = is_plain_side l.left && is_plain_side l.right

-- A section of a compiled dictionary: trimmed, without an empty cycle and an empty side, and with
-- plain labels.
pub record IsSection (m : Machine) : Type 0 where
  pub sound : IsMachine m
  pub trimmed : IsTrimmed m
  pub cycles : HasNoEmptyCycle m
  pub sides : HasEmptySide m → ⊥
  pub plain : (e : Edge) → IsIn e m.edges → IsTrue (is_plain_label e.label)

-- Its alphabet: ascending, closed under case partners, without white space.
pub record IsAlphabet (letters : List ℕ) : Type 0 where
  pub ascend : Ascends nat_cmp letters
  pub closed : IsTrue (is_closed letters)
  pub no_white : IsTrue (list_all (λ c. not (is_white c)) letters)

-- what is seen of a compiled dictionary
pub record Parts : Type 0 where
  pub alphabet : List ℕ
  pub way : Way
  pub standard : Machine
  pub inconditional : Machine
  pub postblank : Machine
  pub preblank : Machine

pub record IsCompiled (p : Parts) : Type 0 where
  pub letters : IsAlphabet p.alphabet
  pub standard_is : IsSection p.standard
  pub inconditional_is : IsSection p.inconditional
  pub postblank_is : IsSection p.postblank
  pub preblank_is : IsSection p.preblank

-- the section of a kind
abbrev pub section_of : Parts → Kind2 → Machine
section_of p Standard = p.standard
section_of p Inconditional = p.inconditional
section_of p Postblank = p.postblank
section_of p Preblank = p.preblank
