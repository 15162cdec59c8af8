use Rattle.std.proofs.Common.{◌≡◌, List, [], ◌∷◌, ◌++◌, get_or, ap, refl, None}
use Rattle.ap_symbol.specs.Rendering.{rendering}
use Rattle.ap_dix.specs.declared.dictionary.EntryPart.{EntryPart}
use Rattle.ap_dix.specs.declared.dictionary.EntryPart.TheVariants.{Identity, Pair, Paradigm, Expression}
use Rattle.ap_expand.specs.Lines.{expression_bytes, Way}
use Rattle.ap_expand.specs.Search.{Opening, Follow, parts_trace, with_words, no_entries}

-- some parts and then others
pub parts_trace-append : (above : List Opening) (a b : List EntryPart) (follow : Follow) →
    parts_trace above (a ++ b) follow ≡ parts_trace above a (parts_trace above b follow)
parts_trace-append above [] b follow = refl
parts_trace-append above (Identity word ∷ a) b follow =
    ap {B = Follow} (λ (k : Follow) (way : Way). k
    (with_words way (rendering word) (rendering word))) (parts_trace-append above a b follow)
parts_trace-append above (Pair left right ∷ a) b follow =
    ap {B = Follow} (λ (k : Follow) (way : Way). k
    (with_words way (rendering left) (rendering right))) (parts_trace-append above a b follow)
parts_trace-append above (Expression e text ∷ a) b follow =
    ap {B = Follow} (λ (k : Follow) (way : Way). k
    (with_words way (expression_bytes text) (expression_bytes text)))
    (parts_trace-append above a b follow)
parts_trace-append above (Paradigm n ∷ a) b follow =
    ap {B = Follow} (λ (k : Follow) (way : Way). None ∷ get_or above n no_entries k way)
    (parts_trace-append above a b follow)
