use Rattle.ap_chunk.proofs.Keepings.{kept_pushed}
use Rattle.ap_chunk.proofs.kept.KeptRows.add.Goals as goal

pub returns-in_err-push : goal.returns-in_err-push
returns-in_err-push c = λ given is all. kept_pushed c.push.result given
    c.make_room.new.self.rows.items c.push.new.self.items c.args.kept c.push.ensures.items is
    (c.make_room.ensures given all)

pub returns : goal.returns
returns c = λ given is all. kept_pushed c.push.result given c.make_room.new.self.rows.items
    c.push.new.self.items c.args.kept c.push.ensures.items is (c.make_room.ensures given all)
