-- The word that the parts of `i`, `l`, `r` or `g` spell, in the format of Apertium's dictionaries.
use Rattle.std.specs.Prelude.{ℕ, List, [], ◌∷◌, ◌++◌, codes, ◌==◌, if◌then◌else◌}
use Rattle.std.specs.List.{flat_map}
use Rattle.std.specs.Str.{encode_utf8_all}
use Rattle.ap_symbol.specs.TagNames.{is_tag_name}
use Rattle.ap_symbol.specs.Words.{is_white}
use Rattle.ap_symbol.specs.declared.symbol.Symbol.{Symbol}
use Rattle.ap_symbol.specs.declared.symbol.Symbol.TheVariants.{Letter, Tag as tag_symbol, Blank, Join, Queue, Alarm}
use Rattle.ap_markup.specs.Tree.{Tag, Parts, Done, Run, Element}
use Rattle.ap_markup.specs.Said.{name_of, is_named}

-- a space is Blank, other white space is skipped, and every other character is a letter
abbrev pub letter : ℕ → List Symbol
letter c = if c == 32 then Blank ∷ [] else if is_white c then [] else Letter c ∷ []

abbrev pub letters : List ℕ → List Symbol
letters text = flat_map letter text

-- the tag of this name in UTF-8; a name that no tag has gives none
abbrev pub tag_named : List ℕ → List Symbol
tag_named name = if is_tag_name name then tag_symbol name ∷ [] else []

-- what an element other than `g` is
abbrev pub mark : Tag → List Symbol
mark tag =
    if is_named (codes "b") tag then Blank ∷ []
    else if is_named (codes "j") tag then Join ∷ []
    else if is_named (codes "a") tag then Alarm ∷ []
    else if is_named (codes "s") tag then tag_named (encode_utf8_all (name_of tag.attributes))
    else []

-- `g` is Queue followed by what it holds
abbrev pub element_symbols : Tag → List Symbol → List Symbol
element_symbols tag inner = if is_named (codes "g") tag then Queue ∷ inner else mark tag

unfoldable pub symbols : Parts → List Symbol
symbols Done = []
symbols (Run text at more) = letters text ++ symbols more
symbols (Element tag kids more) = element_symbols tag (symbols kids) ++ symbols more

-- the characters of the texts among the parts, one after another
unfoldable pub texts : Parts → List ℕ
texts Done = []
texts (Run text at more) = text ++ texts more
texts (Element tag kids more) = texts more
