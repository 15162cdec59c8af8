-- The lexicon of a compiled dictionary: it is coherent, and it is that of what the sections accept.
use Rattle.std.specs.Prelude.{◌≡◌, Bool, true, false, ◌||◌, ◌&&◌, List, [], ◌∷◌, ◌++◌, length, take, refl, IsTrue, Option, Some, None}
use Rattle.std.proofs.Common.{ap, sym, ◌∙◌}
use Rattle.std.proofs.lemmas.Bool.{and_parts, and_from}
use Rattle.std.proofs.lemmas.List.{length-map}
use Rattle.ap_symbol.specs.Alphabet.{has_letter}
use Rattle.ap_symbol.specs.Fitting.{fits_lem, lists_fit}
use Rattle.ap_symbol.specs.Lists.{IsIn}
use Rattle.ap_symbol.specs.Words.{is_word_symbol}
use Rattle.ap_symbol.specs.declared.symbol.Symbol.{Symbol}
use Rattle.ap_symbol.specs.declared.symbol.Symbol.TheVariants as symbol
use Rattle.ap_fst.specs.Machines.{Machine}
use Rattle.ap_fst.specs.Sections.{Parts, IsSection, IsCompiled, section_of, is_plain_side}
use Rattle.ap_fst.specs.Sides.{left_word, right_word}
use Rattle.ap_fst.specs.declared.compiled.Kind2.{Kind2}
use Rattle.ap_fst.specs.declared.compiled.Kind2.TheVariants.{Standard, Inconditional, Postblank, Preblank}
use Rattle.ap_live.specs.Fitting.{Input, fits_inputs}
use Rattle.ap_live.specs.Found.{outputs, is_viable}
use Rattle.ap_live.specs.Outputs.{IsOutput, FitBeginning, WritesWords, is_word_side, is_proper_side}
use Rattle.ap_live.proofs.Finding.{OneRendering, found_is_output, found_sorted, outputs_found, viable_found}
use Rattle.ap_live.specs.Lexicon.{IsLexiconOf, IsCoherent, Spelled, inputs_of, viable_in, lexicon_of}
use Rattle.ap_live.specs.Relations.{AreSidesProper}

-- Fitting under one flag.

pub fits_same : (sensitive : Bool) (left symbols : List Symbol) →
    fits_inputs left (inputs_of sensitive symbols) ≡ lists_fit sensitive left symbols
fits_same sensitive [] [] = refl
fits_same sensitive [] (x ∷ symbols) = refl
fits_same sensitive (l ∷ left) [] = refl
fits_same sensitive (l ∷ left) (x ∷ symbols) =
    ap (λ b. fits_lem sensitive l x && b) (fits_same sensitive left symbols)

pub fit_shorter : (sensitive : Bool) (left symbols more : List Symbol) →
    lists_fit sensitive (take (length (symbols ++ more)) left) (symbols ++ more) ≡ true →
    lists_fit sensitive (take (length symbols) left) symbols ≡ true
fit_shorter sensitive left [] more h = refl
fit_shorter sensitive [] (x ∷ symbols) more h = cc
fit_shorter sensitive (l ∷ left) (x ∷ symbols) more h =
    let both = and_parts (fits_lem sensitive l x)
    (lists_fit sensitive (take (length (symbols ++ more)) left) (symbols ++ more)) h in
    and_from (fits_lem sensitive l x) (lists_fit sensitive (take (length symbols) left) symbols)
    both.0 (fit_shorter sensitive left symbols more both.1)

pub fit_beginning : (sensitive : Bool) (left symbols : List Symbol) →
    lists_fit sensitive left symbols ≡ true →
    lists_fit sensitive (take (length symbols) left) symbols ≡ true
fit_beginning sensitive [] [] h = refl
fit_beginning sensitive (l ∷ left) [] h = refl
fit_beginning sensitive [] (x ∷ symbols) h = cc
fit_beginning sensitive (l ∷ left) (x ∷ symbols) h =
    let both = and_parts (fits_lem sensitive l x) (lists_fit sensitive left symbols) h in
    and_from (fits_lem sensitive l x) (lists_fit sensitive (take (length symbols) left) symbols)
    both.0 (fit_beginning sensitive left symbols both.1)

-- One section.

-- a left word of a transducer, of which the symbols fit a beginning
record BeginsIn (sensitive : Bool) (m : Machine) (symbols : List Symbol) : Type 0 where
  left : List Symbol
  right : List Symbol
  related : Spelled m left right
  fit : IsTrue (lists_fit sensitive (take (length symbols) left) symbols)

beginning_fits : (sensitive : Bool) (left symbols : List Symbol) →
    fits_inputs (take (length (inputs_of sensitive symbols)) left) (inputs_of sensitive symbols)
    ≡ lists_fit sensitive (take (length symbols) left) symbols
beginning_fits sensitive left symbols =
    ap (λ n. fits_inputs (take n left) (inputs_of sensitive symbols))
    (length-map symbols (λ (x : Symbol). let input : Input =
    record { symbol = x; sensitive = sensitive } in input))
    ∙ fits_same sensitive (take (length symbols) left) symbols

begins_from : (sensitive : Bool) (m : Machine) (symbols : List Symbol) →
    FitBeginning m (inputs_of sensitive symbols) → BeginsIn sensitive m symbols
begins_from sensitive m symbols f = record {
  left = left_word f.labels;
  right = right_word f.labels;
  related = record { labels = f.labels; accepted = f.accepted; left_is = refl; right_is = refl };
  fit = sym (beginning_fits sensitive (left_word f.labels) symbols) ∙ f.fit;
}

begins_to : (sensitive : Bool) (m : Machine) (symbols : List Symbol) → BeginsIn sensitive m symbols
    → FitBeginning m (inputs_of sensitive symbols)
begins_to sensitive m symbols b = record {
  labels = b.related.labels;
  accepted = b.related.accepted;
  fit = ap (λ word. fits_inputs (take (length (inputs_of sensitive symbols)) word)
      (inputs_of sensitive symbols)) b.related.left_is
      ∙ beginning_fits sensitive b.left symbols ∙ b.fit;
}

begins_shorter : (sensitive : Bool) (m : Machine) (symbols more : List Symbol) →
    BeginsIn sensitive m (symbols ++ more) → BeginsIn sensitive m symbols
begins_shorter sensitive m symbols more b =
    record {
      left = b.left;
      right = b.right;
      related = b.related;
      fit =
          fit_shorter sensitive b.left symbols more b.fit;
    }

viable_begins : (sensitive : Bool) (m : Machine) (symbols : List Symbol) → IsSection m →
    is_viable m (inputs_of sensitive symbols) ≡ true → BeginsIn sensitive m symbols
viable_begins sensitive m symbols is t = let law =
    viable_found m (inputs_of sensitive symbols) is.sound is.cycles is.trimmed in
    begins_from sensitive m symbols (law.0 t)

begins_viable : (sensitive : Bool) (m : Machine) (symbols : List Symbol) → IsSection m →
    BeginsIn sensitive m symbols → is_viable m (inputs_of sensitive symbols) ≡ true
begins_viable sensitive m symbols is b = let law =
    viable_found m (inputs_of sensitive symbols) is.sound is.cycles is.trimmed in
    law.1 (begins_to sensitive m symbols b)

output_reads : (sensitive : Bool) (m : Machine) (symbols right : List Symbol) →
    IsOutput m (inputs_of sensitive symbols) right → (left : List Symbol) × Spelled m left right
    × IsTrue (lists_fit sensitive left symbols)
output_reads sensitive m symbols right o = (
  left_word o.labels,
  record {
    labels = o.labels;
    accepted = o.accepted;
    left_is =
        refl;
    right_is = sym o.is;
  },
  sym (fits_same sensitive (left_word o.labels) symbols) ∙ o.fit,
)

reads_output : (sensitive : Bool) (m : Machine) (symbols left right : List Symbol) →
    Spelled m left right → IsTrue (lists_fit sensitive left symbols) →
    IsOutput m (inputs_of sensitive symbols) right
reads_output sensitive m symbols left right s fit = record {
  labels = s.labels;
  accepted = s.accepted;
  fit = ap (λ word. fits_inputs word (inputs_of sensitive symbols)) s.left_is
      ∙ fits_same sensitive left symbols ∙ fit;
  is = sym s.right_is;
}

-- The four sections.

pub section_is : (p : Parts) (kind : Kind2) → IsCompiled p → IsSection (section_of p kind)
section_is p Standard compiled = compiled.standard_is
section_is p Inconditional compiled = compiled.inconditional_is
section_is p Postblank compiled = compiled.postblank_is
section_is p Preblank compiled = compiled.preblank_is

abbrev pick : Bool → Bool → Bool → Bool → Kind2 → Bool
pick a b c d Standard = a
pick a b c d Inconditional = b
pick a b c d Postblank = c
pick a b c d Preblank = d

any_of : (a b c d : Bool) (kind : Kind2) → pick a b c d kind ≡ true → (a || b || c || d) ≡ true
any_of true b c d kind h = refl
any_of false true c d kind h = refl
any_of false false true d kind h = refl
any_of false false false true kind h = refl
any_of false false false false Standard h = h
any_of false false false false Inconditional h = h
any_of false false false false Postblank h = h
any_of false false false false Preblank h = h

which : (a b c d : Bool) → (a || b || c || d) ≡ true → (kind : Kind2) × (pick a b c d kind ≡ true)
which true b c d h = (Standard, refl)
which false true c d h = (Inconditional, refl)
which false false true d h = (Postblank, refl)
which false false false true h = (Preblank, refl)
which false false false false h = absurd (cc)

picked : (p : Parts) (sensitive : Bool) (symbols : List Symbol) (kind : Kind2)
    → pick (is_viable p.standard (inputs_of sensitive symbols))
    (is_viable p.inconditional (inputs_of sensitive symbols))
    (is_viable p.postblank (inputs_of sensitive symbols))
    (is_viable p.preblank (inputs_of sensitive symbols)) kind
    ≡ is_viable (section_of p kind) (inputs_of sensitive symbols)
picked p sensitive symbols Standard = refl
picked p sensitive symbols Inconditional = refl
picked p sensitive symbols Postblank = refl
picked p sensitive symbols Preblank = refl

pub viable_of_kind : (p : Parts) (sensitive : Bool) (symbols : List Symbol) (kind : Kind2) →
    is_viable (section_of p kind) (inputs_of sensitive symbols) ≡ true →
    viable_in p sensitive symbols ≡ true
viable_of_kind p sensitive symbols kind t =
    any_of _ _ _ _ kind (picked p sensitive symbols kind ∙ t)

pub kind_of_viable : (p : Parts) (sensitive : Bool) (symbols : List Symbol) →
    viable_in p sensitive symbols ≡ true →
    (kind : Kind2) × (is_viable (section_of p kind) (inputs_of sensitive symbols) ≡ true)
kind_of_viable p sensitive symbols t = let k = which _ _ _ _ t in
    (k.0, sym (picked p sensitive symbols k.0) ∙ k.1)

viable_shorter : (p : Parts) (sensitive : Bool) (symbols more : List Symbol) → IsCompiled p →
    viable_in p sensitive (symbols ++ more) ≡ true → viable_in p sensitive symbols ≡ true
viable_shorter p sensitive symbols more compiled t =
    let k = kind_of_viable p sensitive (symbols ++ more) t in
    let is = section_is p k.0 compiled in
    viable_of_kind p sensitive symbols k.0
    (begins_viable sensitive (section_of p k.0) symbols is
    (begins_shorter sensitive (section_of p k.0) symbols more
    (viable_begins sensitive (section_of p k.0) (symbols ++ more) is k.1)))

read_viable : (p : Parts) (sensitive : Bool) (kind : Kind2) (symbols word : List Symbol) →
    IsCompiled p → IsIn word (outputs (section_of p kind) (inputs_of sensitive symbols)) →
    viable_in p sensitive symbols ≡ true
read_viable p sensitive kind symbols word compiled i =
    let r = output_reads sensitive (section_of p kind) symbols word
    (found_is_output (section_of p kind) (inputs_of sensitive symbols) word i) in
    viable_of_kind p sensitive symbols kind
    (begins_viable sensitive (section_of p kind) symbols (section_is p kind compiled)
    (record {
      left = r.0;
      right = word;
      related = r.1;
      fit =
          fit_beginning sensitive r.0 symbols r.2;
    }))

-- The lexicon of a compiled dictionary is coherent.
pub coherent : (p : Parts) (sensitive : Bool) → IsCompiled p → IsCoherent (lexicon_of p sensitive)
coherent p sensitive compiled = record {
  shorter = λ symbols more t. viable_shorter p sensitive symbols more compiled t;
  read = λ kind symbols word i. read_viable p sensitive kind symbols word compiled i;
}

-- It is that of the label strings that the sections accept.
pub lexicon_is : OneRendering → (p : Parts) (sensitive : Bool) → IsCompiled p → AreSidesProper p →
    IsLexiconOf (lexicon_of p sensitive) sensitive (has_letter p.alphabet)
    (λ kind. Spelled (section_of p kind))
lexicon_is law p sensitive compiled proper = record {
  alphabet = λ c. refl;
  exactly = λ kind symbols right.
      let m : Machine = section_of p kind in
      let is = section_is p kind compiled in
      let found = outputs_found law m (inputs_of sensitive symbols) right is.sound is.cycles
      (proper kind) in (
        (λ i. let r = output_reads sensitive m symbols right (found.0 i) in
            record { left = r.0; related = r.1; fit = r.2 }),
        (λ r. found.1 (reads_output sensitive m symbols r.left right r.related r.fit)),
      );
  order = λ kind symbols. found_sorted (section_of p kind) (inputs_of sensitive symbols);
  beginnings = λ symbols. (
    (λ t.
        let k = kind_of_viable p sensitive symbols t in
        let b = viable_begins sensitive (section_of p k.0) symbols
        (section_is p k.0 compiled) k.1 in
        record { kind = k.0; left = b.left; right = b.right; related = b.related; fit = b.fit }),
    (λ b. viable_of_kind p sensitive symbols b.kind
        (begins_viable sensitive (section_of p b.kind) symbols (section_is p b.kind compiled)
        (record { left = b.left; right = b.right; related = b.related; fit = b.fit }))),
  );
}

plain_word : (side : Option Symbol) → is_plain_side side ≡ true → is_word_side side ≡ true
plain_word None h = refl
plain_word (Some (symbol.Letter c)) h = h
plain_word (Some (symbol.Tag name)) h = refl
plain_word (Some symbol.Blank) h = refl
plain_word (Some symbol.Join) h = refl
plain_word (Some symbol.Queue) h = refl
plain_word (Some symbol.Alarm) h = refl
plain_word (Some symbol.Star) h = refl
plain_word (Some symbol.At) h = refl

-- a section has no white space on its right sides
pub section_writes : (p : Parts) (kind : Kind2) → IsCompiled p → WritesWords (section_of p kind)
section_writes p kind compiled e i =
    plain_word e.label.right
    (and_parts (is_plain_side e.label.left) (is_plain_side e.label.right)
    ((section_is p kind compiled).plain e i)).1

plain_proper : (side : Option Symbol) → is_plain_side side ≡ true → is_proper_side side ≡ true
plain_proper None h = refl
plain_proper (Some (symbol.Letter c)) h = and_from (is_word_symbol (symbol.Letter c)) true h refl
plain_proper (Some (symbol.Tag name)) h = h
plain_proper (Some symbol.Blank) h = refl
plain_proper (Some symbol.Join) h = refl
plain_proper (Some symbol.Queue) h = refl
plain_proper (Some symbol.Alarm) h = refl
plain_proper (Some symbol.Star) h = refl
plain_proper (Some symbol.At) h = refl

-- the right sides of a section are proper
pub sections_proper : (p : Parts) → IsCompiled p → AreSidesProper p
sections_proper p compiled kind e i =
    plain_proper e.label.right
    (and_parts (is_plain_side e.label.left) (is_plain_side e.label.right)
    ((section_is p kind compiled).plain e i)).1
