-- Of the inside: no public contract stands on this file.
-- What the walk over a tree keeps.
use Rattle.ap_rules.specs.Faults.{Around}
use Rattle.ap_rules.specs.declared.faults.Around.{Around as Held}

abbrev pub around : Held → Around
around a = record {
  form = a.form;
  chunks = a.chunks;
  all = a.all.now;
  parent =
      a.parent.now;
  reach = a.reach;
}
