-- Of the inside: no public contract stands on this file.
use Rattle.ap_exec.specs.Parts.{Span}
use Rattle.ap_exec.specs.declared.clips.Range.{Range}

abbrev pub span : Range → Span
span r = record { start = r.start; count = r.count }
