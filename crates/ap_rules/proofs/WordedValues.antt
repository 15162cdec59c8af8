-- The values, pieces and statements of a tree whose attributes hold characters have words of the
-- program.
use Rattle.std.proofs.Common.{ℕ, Bool, true, false, not, ◌&&◌, cond, List, [], ◌∷◌, length, Option, Some, None, codes, is_none}
use Rattle.std.specs.Prelude.{slice_get}
use Rattle.std.specs.Option.{option_map, option_to_list}
use Rattle.ap_markup.specs.NameLists.{number_of}
use Rattle.ap_markup.specs.Pieces.{Pair}
use Rattle.ap_markup.specs.Said.{value_of, name_of, is_named}
use Rattle.ap_markup.specs.Tree.{Tag}
use Rattle.ap_rules.specs.Children.{Children, nothing, element, within}
use Rattle.ap_rules.specs.Conditions.{conditions}
use Rattle.ap_rules.specs.Faults.{is_transfer, has_attribute}
use Rattle.ap_rules.specs.Pieces.{rows_named, chunk_piece, chunk_pieces, variable_given, word_given, is_named_once, chunk_of, any_chunk, piece, pieces}
use Rattle.ap_rules.specs.Plain.{PlainValue, clip, lit, lit_tag, var, case_of, concat, blank_value, values_of, PlainCondition, PlainChunkPiece, chunk_unit, chunk_units, chunk_blank, PlainChunk, PlainPiece, blank, unit, units, chunk, value_chunk, PlainStatement, out, PlainWhen, assign, modify_case, call_macro, statements_of, whens_of}
use Rattle.ap_rules.specs.Soundness.{Opt, Each}
use Rattle.ap_rules.specs.Statements.{place_of, placed, setting, params, is_given, call_of, appended, choice, simple_statement, statement, tested, when_of, statements, whens, otherwise}
use Rattle.ap_rules.specs.Texts.{number_in, word_of, tags_of, given_text}
use Rattle.ap_rules.specs.Values.{Scope, on_some, position_of, part_given, link_of, clip_of, case_given, recased, simple_value, value, values}
use Rattle.ap_rules.specs.Worded.{IsWorded, IsWordedValue, AreWordedValues, IsWordedUnit, IsWordedChunkPiece, IsWordedChunk, IsWordedPiece, IsWordedStatement, AreWordedStatements, AreWordedWhens}
use Rattle.ap_rules.specs.declared.statement.Place.{Place}
use Rattle.ap_rules.specs.declared.value.Clip.{Clip}
use Rattle.ap_rules.proofs.Sound.{opt_if, opt_map, opt_bind, each_opt, each_both, each_if}
use Rattle.ap_rules.proofs.TreeCharacters.{AreGiven, HoldGiven, within_given, value_given, text_given}
use Rattle.ap_rules.proofs.WordsMade.{AreCharacters, word_worded, tags_worded}

-- it holds of what comes, whatever it comes from
opt_from : {A B : Type 0} (Q : B → Type 0) (f : A → Option B) (o : Option A) →
    ((a : A) → Opt Q (f a)) → Opt Q (on_some o f)
opt_from Q f None h = tt
opt_from Q f (Some a) h = h a

opt_made : {A B : Type 0} (Q : B → Type 0) (f : A → B) (o : Option A) → ((a : A) → Q (f a)) →
    Opt Q (option_map f o)
opt_made Q f None h = tt
opt_made Q f (Some a) h = h a

-- values

pub given_worded : (name : List ℕ) (given : List Pair) → AreGiven given →
    IsWorded (word_of (given_text (value_of name given)))
given_worded name given g =
    let text = text_given (value_of name given) (value_given name given g) in
    word_worded (given_text (value_of name given)) text

link_worded : (o : Option (List ℕ)) → Opt AreCharacters o → Opt (Opt IsWorded) (link_of o)
link_worded None h = tt
link_worded (Some text) h =
    opt_if (Opt IsWorded) (is_none (number_in 1 99 (Some text))) None
    (option_map Some (tags_of false text)) tt
    (opt_map IsWorded (Opt IsWorded) Some (tags_of false text) (λ w k. k)
    (tags_worded false text h))

clip_worded : (s : Scope) (content : Bool) (given : List Pair) → AreGiven given →
    Opt (λ (c : Clip). Opt IsWorded c.link_to) (clip_of s content given)
clip_worded s content given g =
    let P = λ (c : Clip). Opt IsWorded c.link_to in
    let o = value_of (codes "link-to") given in
    opt_from P _ (position_of s given) (λ pos.
    opt_from P _ (part_given (content && not (has_attribute (codes "link-to") given)) s.names given)
    (λ part. opt_bind (Opt IsWorded) P _ (link_of o) (λ link h. h)
    (link_worded o (value_given (codes "link-to") given g))))

recased_worded : (o : Option ℕ) (inner : List PlainValue) → IsWordedUnit inner →
    Opt IsWordedValue (recased o inner)
recased_worded None inner h = tt
recased_worded (Some pos) [] h = tt
recased_worded (Some pos) (v ∷ []) h = h.0
recased_worded (Some pos) (v ∷ w ∷ vs) h = tt

row_worded : (vs : List PlainValue) → IsWordedUnit vs → AreWordedValues (values_of vs)
row_worded [] h = tt
row_worded (v ∷ vs) h = (h.0, row_worded vs h.1)

simple_worded : (s : Scope) (content : Bool) (tag : Tag) → AreGiven tag.attributes →
    Opt IsWordedValue (simple_value s content tag)
simple_worded s content tag g =
    let P = IsWordedValue in
    let given = tag.attributes in
    let text = given_text (value_of (codes "v") given) in
    let x1 : Option PlainValue = option_map clip (clip_of s content given) in
    let x2 : Option PlainValue = Some (lit (word_of text)) in
    let x3 : Option PlainValue = option_map lit_tag (tags_of false text) in
    let x4 : Option PlainValue = option_map var (number_of s.names.vars (name_of given)) in
    let x5 : Option PlainValue = option_map case_of (case_given s given) in
    let x6 : Option PlainValue =
    Some (blank_value (number_in 1 99 (value_of (codes "pos") given))) in
    let y6 = cond {A = Option PlainValue} (is_named (codes "b") tag) x6 None in
    let y5 = cond (is_named (codes "case-of") tag) x5 y6 in
    let y4 = cond (is_named (codes "var") tag) x4 y5 in
    let y3 = cond (is_named (codes "lit-tag") tag) x3 y4 in
    let y2 = cond (is_named (codes "lit") tag) x2 y3 in
    opt_if P (is_named (codes "clip") tag) x1 y2
    (opt_map (λ (c : Clip). Opt IsWorded c.link_to) P clip (clip_of s content given) (λ c h. h)
    (clip_worded s content given g))
    (opt_if P (is_named (codes "lit") tag) x2 y3 (given_worded (codes "v") given g)
    (opt_if P (is_named (codes "lit-tag") tag) x3 y4
    (opt_map IsWorded P lit_tag (tags_of false text) (λ w h. h)
    (tags_worded false text
    (text_given (value_of (codes "v") given) (value_given (codes "v") given g))))
    (opt_if P (is_named (codes "var") tag) x4 y5
    (opt_made P var (number_of s.names.vars (name_of given)) (λ k. tt))
    (opt_if P (is_named (codes "case-of") tag) x5 y6
    (opt_made P case_of (case_given s given) (λ c. tt))
    (opt_if P (is_named (codes "b") tag) x6 None tt tt)))))

value_worded : (s : Scope) (content : Bool) (tag : Tag) (inner : List PlainValue) →
    AreGiven tag.attributes → IsWordedUnit inner → Opt IsWordedValue (value s content tag inner)
value_worded s content tag inner g h =
    opt_if IsWordedValue (is_named (codes "get-case-from") tag)
    (recased (position_of s tag.attributes) inner)
    (cond (is_named (codes "concat") tag) (Some (concat (values_of inner)))
    (simple_value s content tag))
    (recased_worded (position_of s tag.attributes) inner h)
    (opt_if IsWordedValue (is_named (codes "concat") tag) (Some (concat (values_of inner)))
    (simple_value s content tag) (row_worded inner h) (simple_worded s content tag g))

values_worded : (s : Scope) (content : Bool) (own : Children) → HoldGiven own →
    IsWordedUnit (values s content own)
values_worded s content nothing g = tt
values_worded s content (element tag inner more) g =
    let o = value s content tag (values s false inner) in
    each_both IsWordedValue (option_to_list o) (values s content more)
    (each_opt IsWordedValue o (value_worded s content tag (values s false inner) g.0
    (values_worded s false inner g.1))) (values_worded s content more g.2)

-- pieces

rows_worded : (name : List ℕ) (s : Scope) (own : Children) → HoldGiven own →
    Each IsWordedUnit (rows_named name s own)
rows_worded name s nothing g = tt
rows_worded name s (element tag inner more) g =
    each_if IsWordedUnit (is_named name tag) (values s false inner ∷ rows_named name s more)
    (rows_named name s more) (values_worded s false inner g.1, rows_worded name s more g.2)
    (rows_worded name s more g.2)

chunk_piece_worded : (s : Scope) (tag : Tag) (own : Children) → HoldGiven own →
    Opt IsWordedChunkPiece (chunk_piece s tag own)
chunk_piece_worded s tag own g =
    by (is_named (codes "lu") tag) (is_named (codes "mlu") tag) (is_named (codes "b") tag)
  where
    by : (x y z : Bool) → Opt IsWordedChunkPiece
        (cond {A = Option PlainChunkPiece} x (Some (chunk_unit (values s false own)))
        (cond y (Some (chunk_units (rows_named (codes "lu") s own)))
        (cond z (Some (chunk_blank (number_in 1 99 (value_of (codes "pos") tag.attributes))))
        None)))
    by true y z = values_worded s false own g
    by false true z = rows_worded (codes "lu") s own g
    by false false true = tt
    by false false false = tt

chunk_pieces_worded : (s : Scope) (own : Children) → HoldGiven own →
    Each IsWordedChunkPiece (chunk_pieces s own)
chunk_pieces_worded s nothing g = tt
chunk_pieces_worded s (element tag inner more) g =
    let P = IsWordedChunkPiece in
    each_both P (option_to_list (chunk_piece s tag inner)) (chunk_pieces s more)
    (each_opt P (chunk_piece s tag inner) (chunk_piece_worded s tag inner g.1))
    (chunk_pieces_worded s more g.2)

name_worded : (o : Option (List ℕ)) → Opt AreCharacters o → Opt IsWorded (word_given o)
name_worded None h = tt
name_worded (Some text) h = word_worded text h

chunk_worded : (s : Scope) (given : List Pair) (own : Children) → AreGiven given → HoldGiven own →
    Opt IsWordedChunk (chunk_of s given own)
chunk_worded s given own g h =
    opt_from IsWordedChunk _ (variable_given s.names.vars (value_of (codes "namefrom") given))
    (λ namefrom. opt_from IsWordedChunk _
    (variable_given s.names.vars (value_of (codes "case") given))
    (λ case. by namefrom case
    (is_named_once (word_given (value_of (codes "name") given)) namefrom)))
  where
    made : Option ℕ → Option ℕ → PlainChunk
    made namefrom case = record {
      name = word_given (value_of (codes "name") given);
      namefrom = namefrom;
      case = case;
      tags = rows_named (codes "tag") s (within (codes "tags") own);
      pieces = chunk_pieces s own;
    }

    by : (namefrom case : Option ℕ) (t : Bool) → Opt IsWordedChunk
        (cond {A = Option PlainChunk} t (Some (made namefrom case)) None)
    by namefrom case true = record {
      name = name_worded (value_of (codes "name") given) (value_given (codes "name") given g);
      tags = rows_worded (codes "tag") s (within (codes "tags") own)
          (within_given (codes "tags") own h);
      pieces = chunk_pieces_worded s own h;
    }
    by namefrom case false = tt

any_chunk_worded : (s : Scope) (tag : Tag) (own : Children) → AreGiven tag.attributes →
    HoldGiven own → Opt IsWordedPiece (any_chunk s tag own)
any_chunk_worded s tag own g h =
    opt_if IsWordedPiece (is_transfer s.form) (option_map chunk (chunk_of s tag.attributes own))
    (Some (value_chunk (values s true own)))
    (opt_map IsWordedChunk IsWordedPiece chunk (chunk_of s tag.attributes own) (λ c k. k)
    (chunk_worded s tag.attributes own g h)) (values_worded s true own h)

piece_worded : (s : Scope) (tag : Tag) (own : Children) → AreGiven tag.attributes → HoldGiven own →
    Opt IsWordedPiece (piece s tag own)
piece_worded s tag own g h =
    by (is_named (codes "b") tag) (is_named (codes "chunk") tag) (is_named (codes "lu") tag)
    (is_named (codes "mlu") tag) s.chunks
  where
    by : (w x y z t : Bool) → Opt IsWordedPiece
        (cond {A = Option PlainPiece} w
        (Some (blank (number_in 1 99 (value_of (codes "pos") tag.attributes))))
        (cond x (cond t (any_chunk s tag own) None)
        (cond y (cond t None (Some (unit (values s false own))))
        (cond z (cond t None (Some (units (rows_named (codes "lu") s own)))) None))))
    by true x y z t = tt
    by false true y z true = any_chunk_worded s tag own g h
    by false true y z false = tt
    by false false true z true = tt
    by false false true z false = values_worded s false own h
    by false false false true true = tt
    by false false false true false = rows_worded (codes "lu") s own h
    by false false false false t = tt

pieces_worded : (s : Scope) (own : Children) → HoldGiven own → Each IsWordedPiece (pieces s own)
pieces_worded s nothing g = tt
pieces_worded s (element tag inner more) g =
    each_both IsWordedPiece (option_to_list (piece s tag inner)) (pieces s more)
    (each_opt IsWordedPiece (piece s tag inner) (piece_worded s tag inner g.0 g.1))
    (pieces_worded s more g.2)

-- statements

abbrev IsWordedSetting : Place × PlainValue → Type 0
IsWordedSetting p = IsWordedValue p.1

placed_worded : (o : Option Place) (v : PlainValue) → IsWordedValue v →
    Opt IsWordedSetting (placed o v)
placed_worded None v h = tt
placed_worded (Some p) v h = h

setting_worded : (vs : List PlainValue) → IsWordedUnit vs → Opt IsWordedSetting (setting vs)
setting_worded [] h = tt
setting_worded (p ∷ []) h = tt
setting_worded (p ∷ v ∷ []) h = placed_worded (place_of p) v h.1.0
setting_worded (p ∷ v ∷ w ∷ more) h = tt

call_worded : (s : Scope) (o : Option ℕ) (positions : List ℕ) →
    Opt IsWordedStatement (call_of s o positions)
call_worded s None positions = tt
call_worded s (Some k) positions =
    opt_if IsWordedStatement (is_given (slice_get s.names.npars k) (length positions))
    (Some (call_macro k positions)) None tt tt

appended_worded : (o : Option ℕ) (vs : List PlainValue) → IsWordedUnit vs →
    Opt IsWordedStatement (appended o vs)
appended_worded None vs h = tt
appended_worded (Some m) [] h = tt
appended_worded (Some m) (v ∷ vs) h = h

simple_statement_worded : (s : Scope) (tag : Tag) (own : Children) → HoldGiven own →
    Opt IsWordedStatement (simple_statement s tag own)
simple_statement_worded s tag own g =
    let P = IsWordedStatement in
    let vs = values s false own in
    let worded = values_worded s false own g in
    let x1 : Option PlainStatement = option_map (λ p. assign p.0 p.1) (setting vs) in
    let x2 = appended (number_of s.names.vars (name_of tag.attributes)) vs in
    let x3 : Option PlainStatement = Some (out (pieces s own)) in
    let x4 : Option PlainStatement = option_map (λ p. modify_case p.0 p.1) (setting vs) in
    let x5 = call_of s (number_of s.names.macros (name_of tag.attributes)) (params s own) in
    let y5 = cond {A = Option PlainStatement} (is_named (codes "call-macro") tag) x5 None in
    let y4 = cond (is_named (codes "modify-case") tag) x4 y5 in
    let y3 = cond (is_named (codes "out") tag) x3 y4 in
    let y2 = cond (is_named (codes "append") tag) x2 y3 in
    opt_if P (is_named (codes "let") tag) x1 y2
    (opt_map IsWordedSetting P (λ p. assign p.0 p.1) (setting vs) (λ p h. h)
    (setting_worded vs worded))
    (opt_if P (is_named (codes "append") tag) x2 y3
    (appended_worded (number_of s.names.vars (name_of tag.attributes)) vs worded)
    (opt_if P (is_named (codes "out") tag) x3 y4 (pieces_worded s own g)
    (opt_if P (is_named (codes "modify-case") tag) x4 y5
    (opt_map IsWordedSetting P (λ p. modify_case p.0 p.1) (setting vs) (λ p h. h)
    (setting_worded vs worded))
    (opt_if P (is_named (codes "call-macro") tag) x5 None
    (call_worded s (number_of s.names.macros (name_of tag.attributes)) (params s own)) tt))))

abbrev IsWordedWhen : PlainWhen → Type 0
IsWordedWhen w = Each IsWordedStatement w.1

pub statements_row : (ss : List PlainStatement) → Each IsWordedStatement ss →
    AreWordedStatements (statements_of ss)
statements_row [] h = tt
statements_row (s ∷ ss) h = (h.0, statements_row ss h.1)

whens_row : (ws : List PlainWhen) → Each IsWordedWhen ws → AreWordedWhens (whens_of ws)
whens_row [] h = tt
whens_row (w ∷ ws) h = (statements_row w.1 h.0, whens_row ws h.1)

choice_worded : (ws : List PlainWhen) (last : List PlainStatement) → Each IsWordedWhen ws →
    Each IsWordedStatement last → Opt IsWordedStatement (choice ws last)
choice_worded [] last h k = tt
choice_worded (w ∷ ws) last h k = (whens_row (w ∷ ws) h, statements_row last k)

statement_worded : (s : Scope) (tag : Tag) (own : Children) (ws : List PlainWhen)
    (last : List PlainStatement) → HoldGiven own → Each IsWordedWhen ws →
    Each IsWordedStatement last → Opt IsWordedStatement (statement s tag own ws last)
statement_worded s tag own ws last g h k =
    opt_if IsWordedStatement (is_named (codes "choose") tag) (choice ws last)
    (simple_statement s tag own) (choice_worded ws last h k) (simple_statement_worded s tag own g)

tested_worded : (cs : List PlainCondition) (done : List PlainStatement) →
    Each IsWordedStatement done → Opt IsWordedWhen (tested cs done)
tested_worded [] done k = tt
tested_worded (c ∷ []) done k = k
tested_worded (c ∷ d ∷ more) done k = tt

when_worded : (s : Scope) (tag : Tag) (own : Children) (done : List PlainStatement) →
    Each IsWordedStatement done → Opt IsWordedWhen (when_of s tag own done)
when_worded s tag own done k =
    opt_if IsWordedWhen (is_named (codes "when") tag)
    (tested (conditions s (within (codes "test") own)) done) None
    (tested_worded (conditions s (within (codes "test") own)) done k) tt

mutual
  pub statements_worded : (s : Scope) (own : Children) → HoldGiven own →
      Each IsWordedStatement (statements s own)
  statements_worded s nothing g = tt
  statements_worded s (element tag inner more) g =
      let o = statement s tag inner (whens s inner) (otherwise s inner) in
      each_both IsWordedStatement (option_to_list o) (statements s more)
      (each_opt IsWordedStatement o
      (statement_worded s tag inner (whens s inner) (otherwise s inner) g.1
      (whens_worded s inner g.1) (otherwise_worded s inner g.1))) (statements_worded s more g.2)

  whens_worded : (s : Scope) (own : Children) → HoldGiven own → Each IsWordedWhen (whens s own)
  whens_worded s nothing g = tt
  whens_worded s (element tag inner more) g =
      let o = when_of s tag inner (statements s inner) in
      each_both IsWordedWhen (option_to_list o) (whens s more)
      (each_opt IsWordedWhen o (when_worded s tag inner (statements s inner)
      (statements_worded s inner g.1))) (whens_worded s more g.2)

  otherwise_worded : (s : Scope) (own : Children) → HoldGiven own →
      Each IsWordedStatement (otherwise s own)
  otherwise_worded s nothing g = tt
  otherwise_worded s (element tag inner more) g =
      each_if IsWordedStatement (is_named (codes "otherwise") tag) (statements s inner)
      (otherwise s more) (statements_worded s inner g.1) (otherwise_worded s more g.2)
