use Rattle.std.proofs.Common.{ap, Some}
use Rattle.std.specs.Option.{option_copied}
use Rattle.ap_live.specs.Fitting.{pick_of}
use Rattle.ap_live.specs.Spreads.{HasLeft, AnyPlace}
use Rattle.ap_live.proofs.Spreading.{spread_seen, spread_two}
use Rattle.ap_live.proofs.Others.{one_side, two_sides}
use Rattle.ap_live.proofs.rows.spread_fitting.Goals as goal

pub returns-in-None : goal.returns-in-None
returns-in-None c = λ is. spread_seen c.args.fst.now.edges (pick_of c.args.pick) c.args.from
    (HasLeft c.args.fst.now.edges (Some c.args.input.now)) AnyPlace c.args.states.now.items
    c.args.links.now.items
    c.spread_symbol.new.states.items c.spread_symbol.new.links.items
    (λ s j p u. one_side c.args.fst.now.edges (pick_of c.args.pick) c.requires.0 c.args.input.now
    (option_copied c.args.other) c.requires.1 c.requires.2 (ap option_copied c.in-None.is)
    c.requires.3 c.args.from s j p) (c.in_ok-spread_symbol.ensures is)

pub returns-in_ok-spread_symbol-in-Some : goal.returns-in_ok-spread_symbol-in-Some
returns-in_ok-spread_symbol-in-Some c = λ is.
    spread_two c.args.fst.now.edges (pick_of c.args.pick) c.args.from
    (HasLeft c.args.fst.now.edges (Some c.args.input.now))
    (HasLeft c.args.fst.now.edges (Some c.in-Some.symbol.now)) AnyPlace
    c.args.states.now.items c.args.links.now.items c.spread_symbol.new.states.items
    c.spread_symbol.new.links.items c.spread_symbol-in-Some.new.states.items
    c.spread_symbol-in-Some.new.links.items
    (λ s j p u. two_sides c.args.fst.now.edges (pick_of c.args.pick) c.requires.0 c.args.input.now
    c.in-Some.symbol.now (option_copied c.args.other) c.requires.1 c.requires.2
    (ap option_copied c.in-Some.is) c.requires.3 c.args.from s j p)
    (c.in_ok-spread_symbol.ensures is) (c.in_ok-spread_symbol-in-Some.ensures is)
