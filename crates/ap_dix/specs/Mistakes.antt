-- The faults of a dictionary's tree that aren't those of the notation, each by its sentence.
use Rattle.std.specs.Prelude.{◌≡◌, ◌⊎◌, ℕ, true, List, [], ◌∷◌, codes}
use Rattle.ap_markup.specs.Pieces.{Pair}
use Rattle.ap_markup.specs.Said.{name_of, is_named}
use Rattle.ap_markup.specs.Tree.{Tag, Parts, Done, Run, Element}
use Rattle.ap_dix.specs.Forms.{Form}
use Rattle.ap_dix.specs.Grammar.{SpellsExpr}
use Rattle.ap_dix.specs.Refusals.{kind_number}
use Rattle.ap_dix.specs.WordText.{texts}
use Rattle.ap_dix.specs.declared.refusal.DixKind.{DixKind}
use Rattle.ap_dix.specs.declared.refusal.DixKind.TheVariants.{DuplicateName, UndeclaredSymbol, UndefinedParadigm, BadRegex, Weighted, Unsupported}

-- an element of this kind with this name is among the parts, wherever it stands
abbrev pub HasNamed : List ℕ → List ℕ → Parts → Type 0
HasNamed kind name Done = ⊥
HasNamed kind name (Run text at more) = HasNamed kind name more
HasNamed kind name (Element tag kids more) =
    ((is_named kind tag ≡ true) × (name_of tag.attributes ≡ name))
    ⊎ (HasNamed kind name kids ⊎ HasNamed kind name more)

-- an attribute of this name is given
abbrev pub Gives : List ℕ → List Pair → Type 0
Gives name [] = ⊥
Gives name (a ∷ more) = (a.0 ≡ name) ⊎ Gives name more

-- an attribute of one of these names is given
abbrev pub GivesOne : List (List ℕ) → List Pair → Type 0
GivesOne [] given = ⊥
GivesOne (name ∷ more) given = Gives name given ⊎ GivesOne more given

-- the attributes of an entry that aren't read
abbrev pub unsupported_names : List (List ℕ)
unsupported_names = codes "alt" ∷ codes "v" ∷ codes "vl" ∷ codes "vr" ∷ codes "srl"
    ∷ codes "slr" ∷ []

-- The faults of one element, where these are the parts of the root, and these the parts that end
-- above it: a paradigm above has its name; no `sdef` of the file declares the symbol; no paradigm
-- above has the name; the text is no expression; a weight is given; it is an element or has an
-- attribute that isn't supported.
pub data IsMistake (root above : Parts) (tag : Tag) (kids : Parts) : DixKind → Type 0 where
  duplicate : {kind : DixKind} → is_named (codes "pardef") tag ≡ true →
      HasNamed (codes "pardef") (name_of tag.attributes) above → kind ≡ DuplicateName →
      IsMistake root above tag kids kind
  undeclared : {kind : DixKind} → is_named (codes "s") tag ≡ true →
      (HasNamed (codes "sdef") (name_of tag.attributes) root → ⊥) → kind ≡ UndeclaredSymbol →
      IsMistake root above tag kids kind
  undefined : {kind : DixKind} → is_named (codes "par") tag ≡ true →
      (HasNamed (codes "pardef") (name_of tag.attributes) above → ⊥) → kind ≡ UndefinedParadigm →
      IsMistake root above tag kids kind
  bad_regex : {kind : DixKind} → is_named (codes "re") tag ≡ true →
      ((e : Form) → SpellsExpr (texts kids) e → ⊥) → kind ≡ BadRegex →
      IsMistake root above tag kids kind
  weighted : {kind : DixKind} → Gives (codes "w") tag.attributes → kind ≡ Weighted →
      IsMistake root above tag kids kind
  ignored : {kind : DixKind} → is_named (codes "ig") tag ≡ true → kind ≡ Unsupported →
      IsMistake root above tag kids kind
  extended : {kind : DixKind} → is_named (codes "e") tag ≡ true →
      GivesOne unsupported_names tag.attributes → kind ≡ Unsupported →
      IsMistake root above tag kids kind

-- a fault's place and kind
abbrev pub Fault : Type 0
Fault = ℕ × DixKind

-- its place and the number of its kind
abbrev pub order_of : Fault → ℕ × ℕ
order_of f = (f.0, kind_number f.1)

-- a fault of this element, at its start tag
abbrev pub IsAtTag : Parts → Parts → Tag → Parts → Fault → Type 0
IsAtTag root above tag kids f = (kind : DixKind) × IsMistake root above tag kids kind
    × (f ≡ (tag.place, kind))

-- A fault in the parts, where these are the parts of the root, and these end above: of an element,
-- within it, or behind it, where it has ended too.
abbrev pub HasFault : Parts → Parts → Parts → Fault → Type 0
HasFault root above Done f = ⊥
HasFault root above (Run text at more) f = HasFault root above more f
HasFault root above (Element tag kids more) f = IsAtTag root above tag kids f
    ⊎ (HasFault root above kids f ⊎ HasFault root (Element tag kids above) more f)
