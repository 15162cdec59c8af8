use Rattle.std.proofs.Common.{◌≡◌, suc, arith}
use Rattle.ap_compound.proofs.Steps.{words_from_is}
use Rattle.ap_compound.proofs.listing.words_from.Goals as goal

pub returns : goal.returns
returns c =
    let up : c.in-Some-checked_add.next ≡ suc c.in-Some.count =
    omega (arith, c.in-Some-checked_add.ensures) in
    words_from_is c.args.fewest c.in-Some.count c.in-Some-checked_add.next
    c.new-words.result.items c.push_ending.new.into.items c.push_goings.new.into.items
    c.sort_words.new.words.items c.from_vec.result c.args.place.now c.args.at c.args.total
    c.args.behind.now c.in-Some.is up c.new-words.ensures.items c.in_ok-push_ending.ensures
    c.in_ok-push_goings.ensures c.sort_words.ensures.members c.from_vec.ensures
