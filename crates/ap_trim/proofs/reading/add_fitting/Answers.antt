use Rattle.std.proofs.Common.{ap}
use Rattle.std.specs.Option.{option_copied}
use Rattle.ap_trim.proofs.Adding.{adds_one_side, adds_two_sides}
use Rattle.ap_trim.proofs.reading.add_fitting.Goals as goal

pub returns-in-None : goal.returns-in-None
returns-in-None c = adds_one_side c.args.fst.now c.args.symbol.now c.args.state
    (option_copied c.args.other) c.args.targets.now.items c.add_by.new.targets.items c.requires
    (ap option_copied c.in-None.is) c.in_ok-add_by.ensures

pub returns-in_ok-add_by-in-Some : goal.returns-in_ok-add_by-in-Some
returns-in_ok-add_by-in-Some c = adds_two_sides c.args.fst.now c.args.symbol.now c.args.state
    (option_copied c.args.other) c.in-Some.small.now c.args.targets.now.items
    c.add_by.new.targets.items c.add_by-in-Some.new.targets.items c.requires
    (ap option_copied c.in-Some.is) c.in_ok-add_by.ensures c.in_ok-add_by-in-Some.ensures
