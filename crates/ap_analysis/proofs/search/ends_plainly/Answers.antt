use Rattle.std.proofs.Common.{◌≡◌, false}
use Rattle.std.proofs.lemmas.Bool.{not-true}
use Rattle.ap_analysis.proofs.Letters.{not_listed, plain_ending}
use Rattle.ap_analysis.proofs.search.ends_plainly.Goals as goal

pub returns : goal.returns
returns c = λ e sensitive b ending.
    let comma : c.is_alphabetic-2.result ≡ false = not-true c.is_alphabetic-2.result e in
    plain_ending c.args.compiled.now sensitive
    (not_listed c.args.compiled.now.alphabet 46 c.is_alphabetic.result c.is_alphabetic.ensures
    c.if-is_alphabetic.false)
    (not_listed c.args.compiled.now.alphabet 44 c.is_alphabetic-2.result c.is_alphabetic-2.ensures
    comma) b ending
