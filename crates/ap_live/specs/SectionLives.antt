-- What is held of the sections of a compiled dictionary after some inputs.
use Rattle.std.specs.Prelude.{◌≡◌, ℕ, ◌<◌, Bool, List, [], ◌++◌, length, Option, Some, None}
use Rattle.ap_symbol.specs.declared.symbol.Symbol.{Symbol}
use Rattle.ap_fst.specs.Machines.{Machine}
use Rattle.ap_fst.specs.Sections.{Parts}
use Rattle.ap_live.specs.Fitting.{Input}
use Rattle.ap_live.specs.Lexicon.{inputs_of}
use Rattle.ap_live.specs.Lives.{Lives, IsLive}
use Rattle.ap_live.specs.Rows.{Reach}
use Rattle.ap_live.specs.declared.live_sections.LiveSections.{LiveSections}
use Rattle.ap_live.specs.declared.section_live.SectionLive.{SectionLive}

-- The live set of a section after the first of these inputs; so many come behind them, which are
-- not gone on by, since nothing is reached after the first.
pub record IsLiveBehind (m : Machine) (seen : List Input) (live : Lives) (behind : ℕ) : Type 0 where
  pub first : List Input
  pub rest : List Input
  pub whole : seen ≡ first ++ rest
  pub count : length rest ≡ behind
  pub live_is : IsLive m first live
  pub dead : 0 < behind → (s : ℕ) → Reach m.edges first s → ⊥

-- what is held of a section after these inputs: nothing, where it has no final state, or its live
-- set
abbrev pub IsLiveIfAny : Machine → List Input → Option Lives → ℕ → Type 0
IsLiveIfAny m seen None behind = m.finals ≡ []
IsLiveIfAny m seen (Some live) behind = IsLiveBehind m seen live behind

abbrev pub IsSectionLive : Machine → List Input → SectionLive → Type 0
IsSectionLive m seen section = IsLiveIfAny m seen section.live section.behind

-- what is held of the four sections after these symbols
pub record AreLive (p : Parts) (sensitive : Bool) (symbols : List Symbol)
    (l : LiveSections) : Type 0 where
  pub standard_is : IsSectionLive p.standard (inputs_of sensitive symbols) l.standard
  pub inconditional_is : IsSectionLive p.inconditional (inputs_of sensitive symbols) l.inconditional
  pub postblank_is : IsSectionLive p.postblank (inputs_of sensitive symbols) l.postblank
  pub preblank_is : IsSectionLive p.preblank (inputs_of sensitive symbols) l.preblank
