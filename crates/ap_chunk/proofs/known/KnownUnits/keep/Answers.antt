use Rattle.ap_chunk.specs.Known.{IsRowed}
use Rattle.ap_chunk.proofs.Keepings.{all_pushed}
use Rattle.ap_chunk.proofs.known.KnownUnits.keep.Goals as goal

pub returns-in_err-push : goal.returns-in_err-push
returns-in_err-push c = λ given is all. all_pushed (IsRowed given) c.push.result
    c.make_room.new.self.units.items c.push.new.self.items c.args.known c.push.ensures.items is
    (c.make_room.ensures given all)

pub returns : goal.returns
returns c = λ given is all. all_pushed (IsRowed given) c.push.result
    c.make_room.new.self.units.items c.push.new.self.items c.args.known c.push.ensures.items is
    (c.make_room.ensures given all)
