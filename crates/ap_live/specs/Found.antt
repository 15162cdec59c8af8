use Rattle.std.specs.Prelude.{ℕ, ◌+◌, zero, suc, ◌==◌, Bool, true, false, ◌&&◌, ◌||◌, List, [], ◌∷◌, ◌++◌, map, Option, Some, None, if◌then◌else◌}
use Rattle.std.specs.List.{list_any, filter, flat_map}
use Rattle.std.specs.Option.{option_to_list}
use Rattle.std.specs.declared.cmp.Ordering.{Ordering}
use Rattle.std.specs.declared.cmp.Ordering.TheVariants.{Less, Equal, Greater}
use Rattle.ap_symbol.specs.Rendering.{word_cmp}
use Rattle.ap_symbol.specs.declared.symbol.Symbol.{Symbol}
use Rattle.ap_fst.specs.Machines.{Machine, edge_from}
use Rattle.ap_fst.specs.declared.label.Edge.{Edge}
use Rattle.ap_live.specs.Fitting.{Input, picks}

-- a word against the first of some words: before it, it itself, or somewhere in the rest
abbrev pub placed : Ordering → List Symbol → List Symbol → List (List Symbol) → List (List Symbol) →
    List (List Symbol)
placed Less word first words rest = word ∷ first ∷ words
placed Equal word first words rest = first ∷ words
placed Greater word first words rest = first ∷ rest

-- words in order, with one more in its place, unless it is there
abbrev pub with_word : List Symbol → List (List Symbol) → List (List Symbol)
with_word word [] = word ∷ []
with_word word (first ∷ words) =
    placed (word_cmp word first) word first words (with_word word words)

-- these words in order, each once
abbrev pub in_order : List (List Symbol) → List (List Symbol)
in_order [] = []
in_order (word ∷ words) = with_word word (in_order words)

-- the edges from a state that are picked
abbrev pub picked_from : List Edge → Option Input → ℕ → List Edge
picked_from edges pick s = filter (λ e. (s == edge_from e) && picks pick e) edges

-- the right sides of these edges, each followed by what is written from the state that it enters
abbrev pub through : (ℕ → List (List Symbol)) → List Edge → List (List Symbol)
through go edges = flat_map
    (λ e. map (λ word. option_to_list e.label.right ++ word) (go e.to)) edges

-- the empty word, where no input is left and the state is final
abbrev pub ended : List ℕ → ℕ → List Input → List (List Symbol)
ended finals s [] = if list_any (λ t. s == t) finals then [] ∷ [] else []
ended finals s (input ∷ inputs) = []

-- over the edges that fit the first input, and on with the others
abbrev pub taking : List Edge → (List Input → ℕ → List (List Symbol)) → ℕ → List Input →
    List (List Symbol)
taking edges go s [] = []
taking edges go s (input ∷ inputs) = through (go inputs) (picked_from edges (Some input) s)

-- what the paths of fewer edges than this number write from a state to a final one, where their
-- left sides fit the inputs
abbrev pub words_from : Machine → ℕ → List Input → ℕ → List (List Symbol)
words_from m zero inputs s = []
words_from m (suc n) inputs s =
    ended m.finals s inputs ++ (through (words_from m n inputs) (picked_from m.edges None s)
    ++ taking m.edges (words_from m n) s inputs)

-- So many edges are enough: without a cycle of edges with an empty left side fewer than all states
-- follow one another by such edges, before each input and after the last.
abbrev pub edges_enough : ℕ → List Input → ℕ
edges_enough states [] = states
edges_enough states (input ∷ inputs) = states + edges_enough states inputs

-- the outputs of these inputs, in the order of words, each once
abbrev pub outputs : Machine → List Input → List (List Symbol)
outputs m inputs = in_order (words_from m (edges_enough m.states inputs) inputs 0)

abbrev pub has_words : List (List Symbol) → Bool
has_words [] = false
has_words (word ∷ words) = true

-- The inputs have an output.
abbrev pub has_output : Machine → List Input → Bool
has_output m inputs = has_words (outputs m inputs)

-- an edge that fits the first input leads on with the others
abbrev pub takes_on : List Edge → (List Input → ℕ → Bool) → ℕ → List Input → Bool
takes_on edges go s [] = true
takes_on edges go s (input ∷ inputs) =
    list_any (λ e. go inputs e.to) (picked_from edges (Some input) s)

-- from a state all these inputs are taken by a path of fewer edges than this number
abbrev pub leads_on : List Edge → ℕ → List Input → ℕ → Bool
leads_on edges zero inputs s = false
leads_on edges (suc n) inputs s = takes_on edges (leads_on edges n) s inputs
    || list_any (λ e. leads_on edges n inputs e.to) (picked_from edges None s)

abbrev pub has_final : List ℕ → Bool
has_final [] = false
has_final (s ∷ finals) = true

-- In a trimmed transducer: the inputs fit a beginning of the left word of what it accepts. There
-- each state leads on to a final one, so a path that takes them is enough.
abbrev pub is_viable : Machine → List Input → Bool
is_viable m inputs = has_final m.finals && leads_on m.edges (edges_enough m.states inputs) inputs 0
