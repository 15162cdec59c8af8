use Rattle.std.proofs.Common.{ap, refl}
use Rattle.ap_live.specs.Fitting.{Input, pick_of}
use Rattle.ap_live.proofs.rows.spread_from.Goals as goal

pub spread_fitting-requires : goal.spread_fitting-requires
spread_fitting-requires c =
    let input : Input = record {
      symbol = c.in-Fitting.input.now;
      sensitive =
          c.in-Fitting.field-1;
    } in
    (input, ap pick_of c.in-Fitting.is, refl, c.requires input (ap pick_of c.in-Fitting.is))

pub spread_mark-requires : goal.spread_mark-requires
spread_mark-requires c =
    let input : Input = record {
      symbol = c.in-Fitting.input.now;
      sensitive =
          c.in-Fitting.field-1;
    } in
    (input, ap pick_of c.in-Fitting.is, refl, c.requires input (ap pick_of c.in-Fitting.is))
