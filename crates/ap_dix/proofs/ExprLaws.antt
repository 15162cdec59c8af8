-- The expression that a text is, by its steps and by the grammar.
use Rattle.std.proofs.Common.{◌≡◌, ℕ, List, sym, ◌∙◌, ap, Some, None}
use Rattle.std.specs.Prelude.{◌↔◌}
use Rattle.ap_dix.specs.Forms.{Form, either, forms_of}
use Rattle.ap_dix.specs.Grammar.{SpellsExpr}
use Rattle.ap_dix.specs.Machines.{pieces_of, tokens_of, choices_of, expression, on_some}
use Rattle.ap_dix.specs.declared.pieces.Piece.{Piece}
use Rattle.ap_dix.specs.declared.tokens.Token.{Token}
use Rattle.ap_dix.proofs.Runs.{came_from, goes_on}
use Rattle.ap_dix.proofs.CutLaws.{pieces-sound, pieces-complete}
use Rattle.ap_dix.proofs.TokenLaws.{tokens-sound, tokens-complete}
use Rattle.ap_dix.proofs.StackLaws.{choices-sound, choices-complete}

some_same : {A : Type 0} (x y : A) → Some x ≡ Some y → x ≡ y
some_same x y e = cc

reads : (text : List ℕ) (e : Form) → SpellsExpr text e → expression text ≡ Some e
unfolding expression
reads text e s =
    let one = pieces-complete text s.pieces s.cut in
    let two = goes_on (pieces_of text) tokens_of s.pieces (Some s.tokens) one
    (tokens-complete s.pieces s.tokens s.told) in
    let three = goes_on (on_some (pieces_of text) tokens_of) choices_of s.tokens (Some s.choices)
    two (choices-complete s.tokens s.choices s.built) in
    goes_on (on_some (on_some (pieces_of text) tokens_of) choices_of)
    (λ choices. Some (either (forms_of choices))) s.choices (Some e) three (ap Some (sym s.is))

spells : (text : List ℕ) (e : Form) → expression text ≡ Some e → SpellsExpr text e
unfolding expression
spells text e h =
    let f = came_from (on_some (on_some (pieces_of text) tokens_of) choices_of)
    (λ choices. Some (either (forms_of choices))) e h in
    let g = came_from (on_some (pieces_of text) tokens_of) choices_of f.value f.was in
    let k = came_from (pieces_of text) tokens_of g.value g.was in
    record {
      pieces = k.value;
      tokens = g.value;
      choices = f.value;
      cut = pieces-sound text k.value k.was;
      told = tokens-sound k.value g.value k.gave;
      built = choices-sound g.value f.value g.gave;
      is = sym (some_same (either (forms_of f.value)) e f.gave);
    }

pub expression_exact : (text : List ℕ) (e : Form) → (expression text ≡ Some e) ↔ SpellsExpr text e
expression_exact text e = (spells text e, reads text e)

pub one_expression : (text : List ℕ) (e f : Form) → SpellsExpr text e → SpellsExpr text f → e ≡ f
one_expression text e f s t = some_same e f (sym (reads text e s) ∙ reads text f t)

-- what is read, part by part

pub no_pieces : (text : List ℕ) → pieces_of text ≡ None → None ≡ expression text
unfolding expression
no_pieces text p = sym (ap
    (λ z. on_some (on_some (on_some z tokens_of) choices_of)
    (λ all. Some (either (forms_of all)))) p)

pub no_tokens : (text : List ℕ) (pieces : List Piece) → pieces_of text ≡ Some pieces →
    tokens_of pieces ≡ None → None ≡ expression text
unfolding expression
no_tokens text pieces p t =
    sym (ap (λ z. on_some (on_some z choices_of) (λ all. Some (either (forms_of all))))
    (ap (λ z. on_some z tokens_of) p ∙ t))

pub no_choices : (text : List ℕ) (pieces : List Piece) (tokens : List Token) →
    pieces_of text ≡ Some pieces → tokens_of pieces ≡ Some tokens → choices_of tokens ≡ None →
    None ≡ expression text
unfolding expression
no_choices text pieces tokens p t c =
    sym (ap (λ z. on_some z (λ all. Some (either (forms_of all))))
    (ap (λ z. on_some (on_some z tokens_of) choices_of) p ∙ ap (λ z. on_some z choices_of) t ∙ c))

pub has_choices : (text : List ℕ) (pieces : List Piece) (tokens : List Token) (choices : List Form)
    → pieces_of text ≡ Some pieces → tokens_of pieces ≡ Some tokens →
    choices_of tokens ≡ Some choices → Some (either (forms_of choices)) ≡ expression text
unfolding expression
has_choices text pieces tokens choices p t c =
    sym (ap (λ z. on_some z (λ all. Some (either (forms_of all))))
    (ap (λ z. on_some (on_some z tokens_of) choices_of) p ∙ ap (λ z. on_some z choices_of) t ∙ c))
