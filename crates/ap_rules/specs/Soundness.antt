-- When rules are sound: each number that stands for a name is that of something they define, and no
-- element has a fault of its positions, tags, lengths or uses, or lacks what it must have.
use Rattle.std.specs.Prelude.{◌≡◌, ℕ, ◌<◌, ◌≤◌, Bool, true, false, ◌&&◌, List, [], ◌∷◌, ◌++◌, length, map, Option, Some, None, is_none, slice_get}
use Rattle.std.specs.Str.{encode_utf8_all}
use Rattle.ap_symbol.specs.declared.symbol.Symbol.{Symbol}
use Rattle.ap_symbol.specs.declared.symbol.Symbol.TheVariants.{Letter, Tag, Blank, Join, Queue, Alarm, Star, At}
use Rattle.ap_rules.specs.Faults.{is_transfer, is_length, reach_to, rule_reach}
use Rattle.ap_rules.specs.Pieces.{is_named_once}
use Rattle.ap_rules.specs.Plain.{PlainValue, PlainValues, clip, lit, lit_tag, var, get_case_from, case_of, concat, blank_value, no_values, then_value, PlainComparison, PlainMembership, PlainCondition, PlainConditions, all_of, one_of, negated, equal, begins_with, ends_with, contains_substring, is_in, begins_with_list, ends_with_list, no_conditions, then_condition, PlainChunkPiece, chunk_unit, chunk_units, chunk_blank, PlainChunk, PlainPiece, blank, unit, units, chunk, value_chunk, PlainStatement, PlainStatements, PlainWhens, choose, assign, append, out, modify_case, call_macro, no_statements, then_statement, no_whens, then_when, PlainMacro, PlainRule, PlainRules}
use Rattle.ap_rules.specs.Texts.{number_in}
use Rattle.ap_rules.specs.declared.faults.Reach.{Reach}
use Rattle.ap_rules.specs.declared.attribute.AttrItem.{AttrItem}
use Rattle.ap_rules.specs.declared.rules.CatItem.{CatItem}
use Rattle.ap_rules.specs.declared.rules.DefCat.{DefCat}
use Rattle.ap_rules.specs.declared.rules.DefaultPiece.{DefaultPiece}
use Rattle.ap_rules.specs.declared.rules.DefaultPiece.TheVariants as default
use Rattle.ap_rules.specs.declared.rules.Form.{Form}
use Rattle.ap_rules.specs.declared.rules.Form.TheVariants.{Transfer, Interchunk, Postchunk}
use Rattle.ap_rules.specs.declared.rules.PatternItem.{PatternItem}
use Rattle.ap_rules.specs.declared.statement.Place.{Place}
use Rattle.ap_rules.specs.declared.statement.Place.TheVariants as place
use Rattle.ap_rules.specs.declared.value.CaseOf.{CaseOf}
use Rattle.ap_rules.specs.declared.value.Clip.{Clip}
use Rattle.ap_rules.specs.declared.value.ClipPart.{ClipPart}
use Rattle.ap_rules.specs.declared.value.ClipPart.TheVariants.{Lem, Lemh, Lemq, Tags, Whole, Content, Attribute}

-- it holds of what is there, if something is
abbrev pub Opt : {A : Type 0} → (A → Type 0) → Option A → Type 0
Opt P None = Unit {0}
Opt P (Some x) = P x

-- it holds of each
abbrev pub Each : {A : Type 0} → (A → Type 0) → List A → Type 0
Each P [] = Unit {0}
Each P (x ∷ xs) = P x × Each P xs

-- there is something in the list
abbrev pub HasSome : {A : Type 0} → List A → Type 0
HasSome [] = ⊥
HasSome (x ∷ xs) = Unit {0}

-- What bounds the numbers in a tree: how many attributes, variables and lists there are, how many
-- units each macro is given that may be called, and the positions that there are; with the form of
-- the file and whether its outputs hold chunks.
pub record Bounds : Type 0 where
  pub form : Form
  pub chunks : Bool
  pub attributes : ℕ
  pub variables : ℕ
  pub lists : ℕ
  pub npars : List ℕ
  pub reach : Reach

abbrev pub IsWithin : ℕ → ℕ → ℕ → Type 0
IsWithin least most n = (least ≤ n) × (n ≤ most)

abbrev pub IsPosition : Bounds → ℕ → Type 0
IsPosition b n = IsWithin b.reach.least b.reach.most n

-- a part of tags: a tag, or a star where stars may stand
abbrev pub IsTag : Bool → Symbol → Type 0
IsTag stars (Tag name) = Unit {0}
IsTag stars Star = stars ≡ true
IsTag stars (Letter c) = ⊥
IsTag stars Blank = ⊥
IsTag stars Join = ⊥
IsTag stars Queue = ⊥
IsTag stars Alarm = ⊥
IsTag stars At = ⊥

-- the content of a chunk only where it may be read, and an attribute that is there
abbrev pub IsSoundPart : Bool → ℕ → ClipPart → Type 0
IsSoundPart content attributes Lem = Unit {0}
IsSoundPart content attributes Lemh = Unit {0}
IsSoundPart content attributes Lemq = Unit {0}
IsSoundPart content attributes Tags = Unit {0}
IsSoundPart content attributes Whole = Unit {0}
IsSoundPart content attributes Content = content ≡ true
IsSoundPart content attributes (Attribute n) = n < attributes

-- a link: one tag, whose name is a number from 1 to 99
abbrev pub IsLink : List Symbol → Type 0
IsLink word = (text : List ℕ) × (n : ℕ) × (number_in 1 99 (Some text) ≡ Some n)
    × (word ≡ Tag (encode_utf8_all text) ∷ [])

-- a clip that may read the content of a chunk where `content` says so, and then has no link
abbrev pub IsSoundClip : Bounds → Bool → Clip → Type 0
IsSoundClip b content c =
    IsPosition b c.pos × IsSoundPart (content && is_none c.link_to) b.attributes c.part
    × Opt IsLink c.link_to

abbrev pub IsSoundCase : Bounds → CaseOf → Type 0
IsSoundCase b c = IsPosition b c.pos × IsSoundPart false b.attributes c.part

-- the position of a blank
abbrev pub IsSoundBlank : Option ℕ → Type 0
IsSoundBlank pos = Opt (IsWithin 1 99) pos

abbrev mutual
  pub IsSoundValue : Bounds → Bool → PlainValue → Type 0
  IsSoundValue b content (clip c) = IsSoundClip b content c
  IsSoundValue b content (lit w) = Unit {0}
  IsSoundValue b content (lit_tag w) = Each (IsTag false) w
  IsSoundValue b content (var n) = n < b.variables
  IsSoundValue b content (get_case_from pos v) = IsPosition b pos × IsSoundValue b false v
  IsSoundValue b content (case_of c) = IsSoundCase b c
  IsSoundValue b content (concat vs) = AreSoundValues b vs
  IsSoundValue b content (blank_value pos) = IsSoundBlank pos

  pub AreSoundValues : Bounds → PlainValues → Type 0
  AreSoundValues b no_values = Unit {0}
  AreSoundValues b (then_value v vs) = IsSoundValue b false v × AreSoundValues b vs

abbrev pub AreSound : Bounds → List PlainValue → Type 0
AreSound b vs = Each (IsSoundValue b false) vs

abbrev pub IsSoundComparison : Bounds → PlainComparison → Type 0
IsSoundComparison b c = IsSoundValue b false c.first × IsSoundValue b false c.second

abbrev pub IsSoundMembership : Bounds → PlainMembership → Type 0
IsSoundMembership b m = IsSoundValue b false m.value × (m.list < b.lists)

-- there is a condition
abbrev pub HasCondition : PlainConditions → Type 0
HasCondition no_conditions = ⊥
HasCondition (then_condition c cs) = Unit {0}

abbrev mutual
  pub IsSoundCondition : Bounds → PlainCondition → Type 0
  IsSoundCondition b (all_of cs) = HasCondition cs × AreSoundConditions b cs
  IsSoundCondition b (one_of cs) = HasCondition cs × AreSoundConditions b cs
  IsSoundCondition b (negated c) = IsSoundCondition b c
  IsSoundCondition b (equal c) = IsSoundComparison b c
  IsSoundCondition b (begins_with c) = IsSoundComparison b c
  IsSoundCondition b (ends_with c) = IsSoundComparison b c
  IsSoundCondition b (contains_substring c) = IsSoundComparison b c
  IsSoundCondition b (is_in m) = IsSoundMembership b m
  IsSoundCondition b (begins_with_list m) = IsSoundMembership b m
  IsSoundCondition b (ends_with_list m) = IsSoundMembership b m

  pub AreSoundConditions : Bounds → PlainConditions → Type 0
  AreSoundConditions b no_conditions = Unit {0}
  AreSoundConditions b (then_condition c cs) = IsSoundCondition b c × AreSoundConditions b cs

abbrev pub IsSoundChunkPiece : Bounds → PlainChunkPiece → Type 0
IsSoundChunkPiece b (chunk_unit vs) = AreSound b vs
IsSoundChunkPiece b (chunk_units us) = Each (AreSound b) us
IsSoundChunkPiece b (chunk_blank pos) = IsSoundBlank pos

abbrev pub IsVariable : Bounds → ℕ → Type 0
IsVariable b n = n < b.variables

-- a chunk of transfer has one name
pub record IsSoundChunk (b : Bounds) (c : PlainChunk) : Type 0 where
  pub named : is_named_once c.name c.namefrom ≡ true
  pub namefrom : Opt (IsVariable b) c.namefrom
  pub case : Opt (IsVariable b) c.case
  pub tags : Each (AreSound b) c.tags
  pub pieces : Each (IsSoundChunkPiece b) c.pieces

-- an output holds chunks of the file's form where it has chunks, and units where it has none
abbrev pub IsSoundPiece : Bounds → PlainPiece → Type 0
IsSoundPiece b (blank pos) = IsSoundBlank pos
IsSoundPiece b (unit vs) = (b.chunks ≡ false) × AreSound b vs
IsSoundPiece b (units us) = (b.chunks ≡ false) × Each (AreSound b) us
IsSoundPiece b (chunk c) = (b.chunks ≡ true) × (is_transfer b.form ≡ true) × IsSoundChunk b c
IsSoundPiece b (value_chunk vs) = (b.chunks ≡ true) × (is_transfer b.form ≡ false)
    × Each (IsSoundValue b true) vs

abbrev pub IsSoundPlace : Bounds → Place → Type 0
IsSoundPlace b (place.Clip c) = IsSoundClip b false c
IsSoundPlace b (place.Var v) = v.n < b.variables

-- there is a choice
abbrev pub HasWhen : PlainWhens → Type 0
HasWhen no_whens = ⊥
HasWhen (then_when c ss ws) = Unit {0}

abbrev mutual
  pub IsSoundStatement : Bounds → PlainStatement → Type 0
  IsSoundStatement b (choose ws ss) = HasWhen ws × AreSoundWhens b ws × AreSoundStatements b ss
  IsSoundStatement b (assign p v) = IsSoundPlace b p × IsSoundValue b false v
  IsSoundStatement b (append n vs) = (n < b.variables) × HasSome vs × AreSound b vs
  IsSoundStatement b (out ps) = Each (IsSoundPiece b) ps
  IsSoundStatement b (modify_case p v) = IsSoundPlace b p × IsSoundValue b false v
  IsSoundStatement b (call_macro n params) = (slice_get b.npars n ≡ Some (length params))
      × Each (IsPosition b) params

  pub AreSoundStatements : Bounds → PlainStatements → Type 0
  AreSoundStatements b no_statements = Unit {0}
  AreSoundStatements b (then_statement s ss) = IsSoundStatement b s × AreSoundStatements b ss

  pub AreSoundWhens : Bounds → PlainWhens → Type 0
  AreSoundWhens b no_whens = Unit {0}
  AreSoundWhens b (then_when c ss ws) = IsSoundCondition b c × AreSoundStatements b ss
      × AreSoundWhens b ws

-- outputs hold chunks
abbrev pub have_chunks : Form → DefaultPiece → Bool
have_chunks Transfer default.Chunk = true
have_chunks Transfer default.Lu = false
have_chunks Interchunk d = true
have_chunks Postchunk d = false

-- the bounds of what stands in these rules, where these macros may be called
abbrev pub bounds_in : PlainRules → List ℕ → Reach → Bounds
bounds_in r npars reach = record {
  form = r.form;
  chunks = have_chunks r.form r.default;
  attributes = length r.attributes;
  variables = length r.variables;
  lists = length r.lists;
  npars = npars;
  reach = reach;
}

abbrev pub npar_in : PlainMacro → ℕ
npar_in m = m.npar

-- each macro calls those above it alone, of which these are given so many units
abbrev pub AreSoundMacros : PlainRules → List ℕ → List PlainMacro → Type 0
AreSoundMacros r npars [] = Unit {0}
AreSoundMacros r npars (m ∷ ms) =
    (m.npar ≤ 64) × Each (IsSoundStatement (bounds_in r npars (reach_to r.form m.npar)))
    m.statements × AreSoundMacros r (npars ++ m.npar ∷ []) ms

abbrev pub IsSoundPatternItem : ℕ → PatternItem → Type 0
IsSoundPatternItem categories item = item.n < categories

-- a rule has a pattern of a length that it may have, and may call each macro
pub record IsSoundRule (r : PlainRules) (rule : PlainRule) : Type 0 where
  pub fits : is_length r.form (length rule.pattern) ≡ true
  pub pattern : Each (IsSoundPatternItem (length r.categories)) rule.pattern
  pub action : Each (IsSoundStatement
      (bounds_in r (map npar_in r.macros) (rule_reach r.form (length rule.pattern)))) rule.action

abbrev pub IsSoundCatItem : CatItem → Type 0
IsSoundCatItem item = Each (IsTag true) item.tags

abbrev pub IsSoundCat : DefCat → Type 0
IsSoundCat c = Each IsSoundCatItem c.items

abbrev pub IsSoundAttrItem : AttrItem → Type 0
IsSoundAttrItem item = Each (IsTag false) item.tags

abbrev pub IsSoundAttr : List AttrItem → Type 0
IsSoundAttr items = Each IsSoundAttrItem items

-- Rules are sound.
pub record IsSound (r : PlainRules) : Type 0 where
  pub categories : Each IsSoundCat r.categories
  pub attributes : Each IsSoundAttr r.attributes
  pub macros : AreSoundMacros r [] r.macros
  pub rules : Each (IsSoundRule r) r.rules
