use Rattle.std.proofs.Common.{map, sym, ◌∙◌, ap, Some}
use Rattle.std.specs.Option.{option_map}
use Rattle.ap_dix.specs.Machines.{tokens_of}
use Rattle.ap_dix.specs.Plain.{plain}
use Rattle.ap_dix.proofs.ExprLaws.{no_pieces, no_tokens, no_choices, has_choices}
use Rattle.ap_dix.proofs.PlainLaws.{plain-Either}
use Rattle.ap_dix.proofs.expressions.read_expression.Goals as goal

pub returns-in_default : goal.returns-in_default
returns-in_default c = no_pieces c.args.text.now (sym c.in_ok-pieces.ensures
    ∙ ap (option_map (λ made. made.items)) c.in_default.is)

pub returns-in_default-2 : goal.returns-in_default-2
returns-in_default-2 c =
    no_tokens c.args.text.now c.in-Some.pieces.items
    (sym c.in_ok-pieces.ensures ∙ ap (option_map (λ made. made.items)) c.in-Some.is)
    (ap tokens_of (sym c.as_slice.ensures.value) ∙ sym c.in_ok-tokens.ensures
    ∙ ap (option_map (λ made. made.items)) c.in_default-2.is)

pub returns-in_default-3 : goal.returns-in_default-3
returns-in_default-3 c =
    no_choices c.args.text.now c.in-Some.pieces.items c.in-Some-2.tokens.items
    (sym c.in_ok-pieces.ensures ∙ ap (option_map (λ made. made.items)) c.in-Some.is)
    (ap tokens_of (sym c.as_slice.ensures.value) ∙ sym c.in_ok-tokens.ensures
    ∙ ap (option_map (λ made. made.items)) c.in-Some-2.is)
    (sym c.in_ok-choices.ensures ∙ ap (option_map (λ made. map plain made.items)) c.in_default-3.is)

pub returns : goal.returns
returns c =
    ap Some (c.from_tree.ensures ∙ plain-Either c.in-Some-3.choices)
    ∙ has_choices c.args.text.now c.in-Some.pieces.items c.in-Some-2.tokens.items
    (map plain c.in-Some-3.choices.items)
    (sym c.in_ok-pieces.ensures ∙ ap (option_map (λ made. made.items)) c.in-Some.is)
    (ap tokens_of (sym c.as_slice.ensures.value) ∙ sym c.in_ok-tokens.ensures
    ∙ ap (option_map (λ made. made.items)) c.in-Some-2.is)
    (sym c.in_ok-choices.ensures ∙ ap (option_map (λ made. map plain made.items)) c.in-Some-3.is)
