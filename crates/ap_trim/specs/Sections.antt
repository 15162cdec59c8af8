-- Of the inside: no public contract stands on this file.
-- What is kept of one section of an analyser.
use Rattle.std.specs.Prelude.{◌↔◌, List}
use Rattle.ap_fst.specs.Machines.{Machine}
use Rattle.ap_fst.specs.Sides.{right_word}
use Rattle.ap_fst.specs.Walks.{AcceptsLabels}
use Rattle.ap_fst.specs.declared.label.Label.{Label}
use Rattle.ap_trim.specs.Watching.{IsKeptBy}

-- it accepts exactly the labels of the section whose right word is kept
abbrev pub IsKeptOf : Machine → Machine → Machine → Type 0
IsKeptOf section bilingual made = (labels : List Label) → AcceptsLabels made labels ↔
    AcceptsLabels section labels × IsKeptBy bilingual (right_word labels)
