-- An element that is a piece by the table is read as this piece.
use Rattle.std.proofs.Common.{◌≡◌, ◌⊎◌, inl, inr, ℕ, Bool, true, false, cond, List, [], ◌∷◌, ◌++◌, refl, sym, ap, ◌∙◌, subst, Option, Some, None, codes}
use Rattle.std.specs.Option.{option_map, option_to_list}
use Rattle.ap_markup.specs.NameLists.{number_of}
use Rattle.ap_markup.specs.Pieces.{Pair}
use Rattle.ap_markup.specs.Said.{value_of, is_named}
use Rattle.ap_markup.specs.Tree.{Tag}
use Rattle.ap_rules.specs.Children.{Children, nothing, element, within}
use Rattle.ap_rules.specs.Faults.{is_transfer}
use Rattle.ap_rules.specs.PieceRows.{AreRows, IsChunkPiece, AreChunkPieces, AreTagsAndPieces, IsVariableNamed, IsChunk, IsPiece, ArePieces}
use Rattle.ap_rules.specs.Pieces.{rows_named, chunk_piece, chunk_pieces, variable_given, word_given, is_named_once, chunk_of, any_chunk, piece, pieces}
use Rattle.ap_rules.specs.Plain.{PlainValue, values_of, PlainChunkPiece, chunk_unit, chunk_units, chunk_blank, PlainChunk, PlainPiece, blank, unit, units, chunk, value_chunk}
use Rattle.ap_rules.specs.Texts.{number_in}
use Rattle.ap_rules.specs.ValueRows.{IsNamed, IsBlankAt, AreValues}
use Rattle.ap_rules.specs.Values.{Scope, on_some, values}
use Rattle.ap_rules.proofs.ValuesRead.{by_name, one_more, blank_read, list_read}

-- a row more, where the element has the name
pub row_more : {A : Type 0} (b : Bool) (x y : A) (xs ys zs : List A) → b ≡ true → x ≡ y → xs ≡ ys →
    cond b (x ∷ xs) zs ≡ y ∷ ys
row_more b x y xs ys zs is e h = rw (is, e, h) refl

lu_named : (tag : Tag) → IsNamed (codes "lu") tag → is_named (codes "lu") tag ≡ true
lu_named tag name = by_name (λ t. is_named (codes "lu") t ≡ true) tag (codes "lu") name refl

tag_named : (tag : Tag) → IsNamed (codes "tag") tag → is_named (codes "tag") tag ≡ true
tag_named tag name = by_name (λ t. is_named (codes "tag") t ≡ true) tag (codes "tag") name refl

rows_read : (name : List ℕ) (s : Scope) (own : Children) (rows : List (List PlainValue)) →
    ((tag : Tag) → IsNamed name tag → is_named name tag ≡ true) → AreRows name s own rows →
    rows_named name s own ≡ rows
rows_read name s nothing [] same are = refl
rows_read name s nothing (row ∷ rows) same are = absurd are
rows_read name s (element tag own more) [] same are = absurd are
rows_read name s (element tag own more) (row ∷ rows) same (is, values_are, rest) =
    row_more (is_named name tag) (values s false own) row (rows_named name s more) rows
    (rows_named name s more) (same tag is) (list_read s false own row values_are)
    (rows_read name s more rows same rest)

abbrev ReadPiece : Scope → Children → PlainChunkPiece → Tag → Type 0
ReadPiece s own p t = chunk_piece s t own ≡ Some p

chunk_piece_read : (s : Scope) (tag : Tag) (own : Children) (p : PlainChunkPiece) →
    IsChunkPiece s tag own p → chunk_piece s tag own ≡ Some p
chunk_piece_read s tag own (chunk_unit vs) (name, are) =
    by_name (ReadPiece s own (chunk_unit vs)) tag (codes "lu") name
    (ap (λ (z : List PlainValue). Some (chunk_unit z)) (list_read s false own vs are))
chunk_piece_read s tag own (chunk_units us) (name, are) =
    by_name (ReadPiece s own (chunk_units us)) tag (codes "mlu") name
    (ap (λ (z : List (List PlainValue)). Some (chunk_units z))
    (rows_read (codes "lu") s own us lu_named are))
chunk_piece_read s tag own (chunk_blank pos) (name, is) =
    by_name (ReadPiece s own (chunk_blank pos)) tag (codes "b") name
    (ap (λ (z : Option ℕ). Some (chunk_blank z)) (blank_read tag.attributes pos is))

chunk_pieces_read : (s : Scope) (own : Children) (ps : List PlainChunkPiece) →
    AreChunkPieces s own ps → chunk_pieces s own ≡ ps
chunk_pieces_read s nothing [] are = refl
chunk_pieces_read s nothing (p ∷ ps) are = absurd are
chunk_pieces_read s (element tag own more) [] are = absurd are
chunk_pieces_read s (element tag own more) (p ∷ ps) (first, rest) =
    one_more (chunk_piece s tag own) p (chunk_pieces s more) ps (chunk_piece_read s tag own p first)
    (chunk_pieces_read s more ps rest)

-- a piece of a chunk isn't its tags
no_tags : (s : Scope) (tag : Tag) (own : Children) (p : PlainChunkPiece) →
    IsChunkPiece s tag own p → is_named (codes "tags") tag ≡ false
no_tags s tag own (chunk_unit vs) (name, are) =
    by_name (λ t. is_named (codes "tags") t ≡ false) tag (codes "lu") name refl
no_tags s tag own (chunk_units us) (name, are) =
    by_name (λ t. is_named (codes "tags") t ≡ false) tag (codes "mlu") name refl
no_tags s tag own (chunk_blank pos) (name, is) =
    by_name (λ t. is_named (codes "tags") t ≡ false) tag (codes "b") name refl

tags_nowhere : (s : Scope) (own : Children) (ps : List PlainChunkPiece) → AreChunkPieces s own ps →
    within (codes "tags") own ≡ nothing
tags_nowhere s nothing ps are = refl
tags_nowhere s (element tag own more) [] are = absurd are
tags_nowhere s (element tag own more) (p ∷ ps) (first, rest) =
    ap (λ (b : Bool). cond b own (within (codes "tags") more)) (no_tags s tag own p first)
    ∙ tags_nowhere s more ps rest

tags_read : (s : Scope) (own : Children) (tags : List (List PlainValue))
    (ps : List PlainChunkPiece) → AreTagsAndPieces s own tags ps →
    rows_named (codes "tag") s (within (codes "tags") own) ≡ tags
tags_read s nothing tags ps (e, h) = sym e
tags_read s (element tag own more) tags ps (inl (name, are, rest)) =
    by_name (λ t. rows_named (codes "tag") s (within (codes "tags") (element t own more)) ≡ tags)
    tag (codes "tags") name (rows_read (codes "tag") s own tags tag_named are)
tags_read s (element tag own more) tags ps (inr (e, are)) =
    ap (rows_named (codes "tag") s) (tags_nowhere s (element tag own more) ps are) ∙ sym e

inside_read : (s : Scope) (own : Children) (tags : List (List PlainValue))
    (ps : List PlainChunkPiece) → AreTagsAndPieces s own tags ps → chunk_pieces s own ≡ ps
inside_read s nothing tags ps (e, h) = sym h
inside_read s (element tag own more) tags ps (inl (name, are, rest)) =
    by_name (λ t. chunk_pieces s (element t own more) ≡ ps) tag (codes "tags") name
    (chunk_pieces_read s more ps rest)
inside_read s (element tag own more) tags ps (inr (e, are)) =
    chunk_pieces_read s (element tag own more) ps are

variable_read : (vars : List (List ℕ)) (given : Option (List ℕ)) (n : Option ℕ) →
    IsVariableNamed vars given n → variable_given vars given ≡ Some n
variable_read vars given None e = rw e refl
variable_read vars given (Some n) (name, e, number) =
    rw e (ap (option_map {U = Option ℕ} Some) number)

some_on : {A B : Type 0} (o : Option A) (a : A) (f : A → Option B) (b : B) → o ≡ Some a →
    f a ≡ Some b → on_some o f ≡ Some b
some_on o a f b e h = rw e h

chunk_read : (s : Scope) (given : List Pair) (own : Children) (c : PlainChunk) →
    IsChunk s given own c → chunk_of s given own ≡ Some c
chunk_read s given own c is =
    some_on (variable_given s.names.vars (value_of (codes "namefrom") given)) c.namefrom _ c
    (variable_read s.names.vars (value_of (codes "namefrom") given) c.namefrom is.namefrom)
    (some_on (variable_given s.names.vars (value_of (codes "case") given)) c.case _ c
    (variable_read s.names.vars (value_of (codes "case") given) c.case is.case)
    (last (word_given (value_of (codes "name") given)) (sym is.name)
    (rows_named (codes "tag") s (within (codes "tags") own))
    (tags_read s own c.tags c.pieces is.parts) (chunk_pieces s own)
    (inside_read s own c.tags c.pieces is.parts)))
  where
    last : (name : _) → name ≡ c.name → (tags : List (List PlainValue)) → tags ≡ c.tags →
        (ps : List PlainChunkPiece) → ps ≡ c.pieces →
        cond {A = Option PlainChunk} (is_named_once name c.namefrom)
        (Some (record {
          name = name;
          namefrom = c.namefrom;
          case = c.case;
          tags = tags;
          pieces = ps;
        })) None ≡ Some c
    last name e tags f ps g = rw (e, f, g) (rw is.named refl)

abbrev ReadAs : Scope → Children → PlainPiece → Tag → Type 0
ReadAs s own p t = piece s t own ≡ Some p

piece_read : (s : Scope) (tag : Tag) (own : Children) (p : PlainPiece) → IsPiece s tag own p →
    piece s tag own ≡ Some p
piece_read s tag own (blank pos) (name, is) =
    by_name (ReadAs s own (blank pos)) tag (codes "b") name
    (ap (λ (z : Option ℕ). Some (blank z)) (blank_read tag.attributes pos is))
piece_read s tag own (unit vs) (name, chunks, are) =
    by_name (ReadAs s own (unit vs)) tag (codes "lu") name
    (ap (λ (b : Bool). cond {A = Option PlainPiece} b None (Some (unit (values s false own)))) chunks
    ∙ ap (λ (z : List PlainValue). Some (unit z)) (list_read s false own vs are))
piece_read s tag own (units us) (name, chunks, are) =
    by_name (ReadAs s own (units us)) tag (codes "mlu") name
    (ap (λ (b : Bool). cond {A = Option PlainPiece} b None
    (Some (units (rows_named (codes "lu") s own)))) chunks
    ∙ ap (λ (z : List (List PlainValue)). Some (units z))
    (rows_read (codes "lu") s own us lu_named are))
piece_read s tag own (chunk c) (name, chunks, form, is) =
    by_name (ReadAs s own (chunk c)) tag (codes "chunk") name
    (ap (λ (b : Bool). cond {A = Option PlainPiece} b
    (any_chunk s (record {
      name = codes "chunk";
      attributes = tag.attributes;
      place = tag.place;
      line = tag.line;
    }) own) None) chunks
    ∙ ap (λ (b : Bool). cond {A = Option PlainPiece} b
    (option_map chunk (chunk_of s tag.attributes own))
    (Some (value_chunk (values s true own)))) form
    ∙ ap (option_map chunk) (chunk_read s tag.attributes own c is))
piece_read s tag own (value_chunk vs) (name, chunks, form, are) =
    by_name (ReadAs s own (value_chunk vs)) tag (codes "chunk") name
    (ap (λ (b : Bool). cond {A = Option PlainPiece} b
    (any_chunk s (record {
      name = codes "chunk";
      attributes = tag.attributes;
      place = tag.place;
      line = tag.line;
    }) own) None) chunks
    ∙ ap (λ (b : Bool). cond {A = Option PlainPiece} b
    (option_map chunk (chunk_of s tag.attributes own))
    (Some (value_chunk (values s true own)))) form
    ∙ ap (λ (z : List PlainValue). Some (value_chunk z)) (list_read s true own vs are))

pub pieces_read : (s : Scope) (own : Children) (ps : List PlainPiece) → ArePieces s own ps →
    pieces s own ≡ ps
pieces_read s nothing [] are = refl
pieces_read s nothing (p ∷ ps) are = absurd are
pieces_read s (element tag own more) [] are = absurd are
pieces_read s (element tag own more) (p ∷ ps) (first, rest) =
    one_more (piece s tag own) p (pieces s more) ps (piece_read s tag own p first)
    (pieces_read s more ps rest)
