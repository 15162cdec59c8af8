use Rattle.std.proofs.Common.{◌≡◌, ◌++◌, ◌∙◌, ◌∷◌, [], List, Option, ap, append-nil, subst, sym}
use Rattle.std.specs.Prelude.{OnOk}
use Rattle.std.specs.Option.{option_copied, option_to_list}
use Rattle.ap_symbol.specs.Words.{is_word_symbol}
use Rattle.ap_symbol.specs.declared.symbol.Symbol.{Symbol}
use Rattle.ap_live.specs.Heads.{written_by}
use Rattle.ap_live.specs.Outputs.{is_word_side}
use Rattle.ap_live.proofs.Spreading.{in_from_place}
use Rattle.ap_live.proofs.along.push_right.Goals as goal

pub push-requires : goal.push-requires
push-requires c =
    let at = sym c.edge_at.ensures ∙ ap option_copied c.in-Some.is in
    let side = c.requires c.in-Some.edge.now
    (in_from_place c.args.edges.now c.args.place c.in-Some.edge.now at) in
    ap is_word_symbol c.in_ok-copy-in-Some-right.ensures
    ∙ ap is_word_side (sym c.in-Some-right.is) ∙ side

pub returns-in-None : goal.returns-in-None
returns-in-None c =
    sym (ap (λ x. c.args.word.now ++ written_by x)
    (sym c.edge_at.ensures ∙ ap option_copied c.in-None.is) ∙ append-nil c.args.word.now)

pub returns-in-None-right : goal.returns-in-None-right
returns-in-None-right c =
    sym (ap (λ x. c.args.word.now ++ written_by x)
    (sym c.edge_at.ensures ∙ ap option_copied c.in-Some.is)
    ∙ ap (λ (x : Option Symbol). c.args.word.now ++ option_to_list x) c.in-None-right.is
    ∙ append-nil c.args.word.now)

pub returns-in_ok-copy-in-Some-right : goal.returns-in_ok-copy-in-Some-right
returns-in_ok-copy-in-Some-right c =
    subst (λ (x : List Symbol). OnOk c.push.result (c.push.new.self ≡ c.args.word.now ++ x))
    (ap (λ (x : Symbol). x ∷ []) c.in_ok-copy-in-Some-right.ensures
    ∙ ap (λ (x : Option Symbol). option_to_list x) (sym c.in-Some-right.is)
    ∙ ap written_by (sym (sym c.edge_at.ensures ∙ ap option_copied c.in-Some.is)))
    c.push.ensures.ok
