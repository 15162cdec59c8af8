use Rattle.std.proofs.Common.{◌≡◌, ap, sym, ◌∙◌, Ok, true}
use Rattle.ap_live.specs.Lexicon.{lexicon_of}
use Rattle.ap_analysis.specs.Licence.{surface}
use Rattle.ap_analysis.proofs.Alone.{alone_bytes, is_alone}
use Rattle.ap_analysis.proofs.writing.write_alone.Goals as goal

pub returns : goal.returns
returns c = λ ok sensitive live.
    let lexicon = lexicon_of c.args.compiled.now sensitive in
    let seen = surface c.args.reads.now c.args.count in
    let small : c.args.small ≡ true = cc in
    let made : c.render_only.result ≡ Ok true = c.in_ok-render_only.was ∙ ap Ok c.if-not-branch.false in
    let only = c.render_only.ensures made sensitive seen live in
    is_alone lexicon sensitive c.args.reads.now c.args.count c.extend-4.new.self only.0
    (sym (c.begins_alphabetic.ensures sensitive) ∙ c.if-begins_alphabetic.false)
    (sym (c.reads_otherwise.ensures sensitive seen live) ∙ c.if-reads_otherwise.false)
    (c.requires.seen.1.case small) only.1
    (alone_bytes c.args.text.now c.extend.new.self c.extend-2.new.self c.extend-3.new.self
    c.render_only.new.into c.extend-4.new.self _ seen only.0 c.requires.empty
    (c.requires.seen.1.bytes small) c.in_ok-extend.ensures.ok c.in_ok-extend-2.ensures.ok
    c.in_ok-extend-3.ensures.ok only.2 c.in_ok-extend-4.ensures.ok)
