-- Elements that are to be pieces of an output, in a tree without fault, are pieces by the table.
use Rattle.std.proofs.Common.{◌≡◌, inl, inr, ℕ, ◌+◌, Bool, true, false, ◌&&◌, ◌||◌, cond, List, [], ◌∷◌, refl, sym, ap, ◌∙◌, subst, Option, Some, None, is_some, codes}
use Rattle.std.specs.Str.{bytes_eq}
use Rattle.std.proofs.lemmas.Slice.Eq.{bytes_eq-Decides}
use Rattle.ap_markup.specs.Faults.{has_one}
use Rattle.ap_markup.specs.Names.{is_among}
use Rattle.ap_markup.specs.Pieces.{Pair}
use Rattle.ap_markup.specs.Rules.{values as value_names}
use Rattle.ap_markup.specs.Said.{value_of}
use Rattle.ap_markup.specs.Table.{Content, Line, line_in}
use Rattle.ap_markup.specs.TableRows.{any_of, at_most_one, free, element as line_of}
use Rattle.ap_markup.specs.Tree.{Tag}
use Rattle.ap_rules.specs.Children.{Children, nothing, element}
use Rattle.ap_rules.specs.Defining.{defined_after, defined_in}
use Rattle.ap_rules.specs.Faults.{is_transfer, has_attribute, is_no_variable}
use Rattle.ap_rules.specs.PieceRows.{AreRows, IsChunkPiece, AreChunkPieces, AreTagsAndPieces, IsVariableNamed, IsPiece, ArePieces}
use Rattle.ap_rules.specs.Pieces.{word_given, is_named_once}
use Rattle.ap_rules.specs.Plain.{PlainValue, values_of, PlainChunkPiece, chunk_unit, chunk_units, chunk_blank, PlainPiece, blank, unit, units, chunk, value_chunk}
use Rattle.ap_rules.specs.ValueRows.{AreValues}
use Rattle.ap_rules.specs.Values.{Scope}
use Rattle.ap_rules.specs.declared.defined.Defined.{Defined}
use Rattle.ap_rules.specs.declared.rules.Form.{Form}
use Rattle.ap_rules.specs.declared.rules.Form.TheVariants.{Transfer, Interchunk, Postchunk}
use Rattle.ap_rules.proofs.Faultless.{rows_of, Regular, Clean, Stands, not_false, false_true, true_false, neither, both}
use Rattle.ap_rules.proofs.Placing.{among_each, step, in_last, past, behind_one, as_row}
use Rattle.ap_rules.proofs.ValuesRead.{tag_as}
use Rattle.ap_rules.proofs.ValuesStand.{outside, Numbers, numbered, blank_stands, values_stand}

-- attributes of which one has to be there

same_bytes : (name : List ℕ) → bytes_eq name name ≡ true
same_bytes name = (bytes_eq-Decides name name).1 refl

pub one_given : (names : List (List ℕ)) (given : List Pair) → has_one names given ≡ true →
    (name : List ℕ) × (is_among name names ≡ true) × (has_attribute name given ≡ true)
one_given names [] h = false_true h
one_given names (p ∷ more) h = by (is_among p.0 names) refl h (λ k. one_given names more k)
  where
    past_one : (name : List ℕ) → has_attribute name more ≡ true → has_attribute name (p ∷ more) ≡
        true
    past_one name k = other (bytes_eq name p.0)
      where
        other : (b : Bool) → is_some (cond b (Some p.1) (value_of name more)) ≡ true
        other true = refl
        other false = k

    by : (b : Bool) → is_among p.0 names ≡ b → (b || has_one names more) ≡ true →
        (has_one names more ≡ true →
        (name : List ℕ) × (is_among name names ≡ true) × (has_attribute name more ≡ true)) →
        (name : List ℕ) × (is_among name names ≡ true) × (has_attribute name (p ∷ more) ≡ true)
    by true e k later = (
      p.0,
      e,
      ap (λ (b : Bool). is_some (cond b (Some p.1) (value_of p.0 more))) (same_bytes p.0),
    )
    by false e k later = let x = later k in (x.0, x.1, past_one x.0 x.2)

-- rows of values, each within an element of one name
abbrev RowOf : Scope → Defined → List ℕ → Type 0
RowOf s all name = (above : Defined) (parent : List ℕ) (tag : Tag) (own : Children) →
    Stands (outside s all parent) above (tag_as name tag) own →
    (vs : List PlainValue) × AreValues s false own (values_of vs)

lu_row : (s : Scope) (all : Defined) → Numbers all s.names → RowOf s all (codes "lu")
lu_row s all same above parent tag own z =
    let r = as_row (outside s all parent) above (tag_as (codes "lu") tag) own _ refl z in
    values_stand s all above false (codes "lu") own same (λ e k. false_true k) 0 None 0 r.1

tag_row : (s : Scope) (all : Defined) → Numbers all s.names → RowOf s all (codes "tag")
tag_row s all same above parent tag own z =
    let r = as_row (outside s all parent) above (tag_as (codes "tag") tag) own _ refl z in
    values_stand s all above false (codes "tag") own same (λ e k. false_true k) 0 None 0 r.1

rows_stand : (name : List ℕ) (s : Scope) (all above : Defined) (parent : List ℕ) (own : Children)
    (used : ℕ) → RowOf s all name →
    Clean (outside s all parent) above (any_of (name ∷ []) ∷ [], used) own →
    (rows : List (List PlainValue)) × AreRows name s own rows
rows_stand name s all above parent nothing used row c = ([], tt)
rows_stand name s all above parent (element tag own more) used row (here, (n, is, later)) =
    let y = in_last tag.name (any_of (name ∷ [])) used n is in
    let one = among_each (λ word. Stands (outside s all parent) above (tag_as word tag) own →
    (vs : List PlainValue) × ((word ≡ name) × AreValues s false own (values_of vs))) (name ∷ [])
    tag.name (λ z. (let vs = row above parent tag own z in (vs.0, (refl, vs.1))), tt) y.0 here in
    let rest = rows_stand name s all (defined_after tag (defined_in above own)) parent more
    (used + 1) row
    (behind_one (outside s all parent) above (any_of (name ∷ []) ∷ [], used + 1) own more tag n y.2
    later) in
    (one.0 ∷ rest.0, (one.1.0, one.1.1, rest.1))

-- pieces of a chunk of transfer
abbrev chunk_names : List (List ℕ)
chunk_names = codes "lu" ∷ codes "mlu" ∷ codes "b" ∷ []

chunk_piece_stands : (s : Scope) (all above : Defined) (parent : List ℕ) (tag : Tag)
    (own : Children) → Numbers all s.names → is_among tag.name chunk_names ≡ true →
    Stands (outside s all parent) above tag own →
    (p : PlainChunkPiece) × IsChunkPiece s tag own p
chunk_piece_stands s all above parent tag own same h x =
    let a = outside s all parent in
    among_each (λ name. Stands a above (tag_as name tag) own →
    (p : PlainChunkPiece) × IsChunkPiece s (tag_as name tag) own p) chunk_names tag.name (
      λ z. (let vs = lu_row s all same above parent tag own z in (chunk_unit vs.0, (refl, vs.1))),
      (
        λ z. (let r = as_row a above (tag_as (codes "mlu") tag) own _ refl z in
            let us = rows_stand (codes "lu") s all above (codes "mlu") own 0 (lu_row s all same)
            r.1 in
            (chunk_units us.0, (refl, us.1))),
        (
          λ z. (let pos = blank_stands tag.attributes
              (neither _ _ (neither _ _ (neither _ _ z.1.right.numbered).0).0).0 in
              (chunk_blank pos.0, (refl, pos.1))),
          tt,
        ),
      ),
    ) h x

chunk_pieces_stand : (s : Scope) (all above : Defined) (parent : List ℕ) (own : Children)
    (used : ℕ) → Numbers all s.names →
    Clean (outside s all parent) above (any_of chunk_names ∷ [], used) own →
    (ps : List PlainChunkPiece) × AreChunkPieces s own ps
chunk_pieces_stand s all above parent nothing used same c = ([], tt)
chunk_pieces_stand s all above parent (element tag own more) used same (here, (n, is, later)) =
    let y = in_last tag.name (any_of chunk_names) used n is in
    let p = chunk_piece_stands s all above parent tag own same y.0 here in
    let ps = chunk_pieces_stand s all (defined_after tag (defined_in above own)) parent more
    (used + 1) same (behind_one (outside s all parent) above (any_of chunk_names ∷ [], used + 1) own
    more tag n y.2 later) in
    (p.0 ∷ ps.0, (p.1, ps.1))

-- its tags, and then its pieces
abbrev tags_group : Content
tags_group = at_most_one (codes "tags" ∷ [])

abbrev Parts : Scope → Children → Type 0
Parts s own = (tags : List (List PlainValue)) × ((pieces : List PlainChunkPiece)
    × AreTagsAndPieces s own tags pieces)

parts_stand : (s : Scope) (all above : Defined) (parent : List ℕ) (own : Children) →
    Numbers all s.names →
    Clean (outside s all parent) above (tags_group ∷ any_of chunk_names ∷ [], 0) own → Parts s own
parts_stand s all above parent nothing same c = ([], ([], (refl, refl)))
parts_stand s all above parent (element tag own more) same (here, (n, is, later)) =
    let a = outside s all parent in
    elim (step tag.name tags_group (any_of chunk_names ∷ []) 0 n is) [
      | inl y ↦ begun y.0 (past a (defined_after tag (defined_in above own)) tags_group
          (any_of chunk_names ∷ []) 1 more refl
          (behind_one a above (tags_group ∷ any_of chunk_names ∷ [], 1) own more tag n y.2 later))
      | inr y ↦
          (let ps = chunk_pieces_stand s all above parent (element tag own more) 0 same
          (here, (n, y.1, later)) in ([], (ps.0, inr (refl, ps.1))))
    ]
  where
    begun : is_among tag.name (codes "tags" ∷ []) ≡ true →
        Clean (outside s all parent) (defined_after tag (defined_in above own))
        (any_of chunk_names ∷ [], 0) more → Parts s (element tag own more)
    begun h c =
        let ps = chunk_pieces_stand s all (defined_after tag (defined_in above own)) parent more 0
        same c in
        let rows = among_each (λ word. Stands (outside s all parent) above (tag_as word tag) own →
        (tags : List (List PlainValue)) × ((word ≡ codes "tags") × AreRows (codes "tag") s own
        tags))
        (codes "tags" ∷ []) tag.name (
          λ z. (let r = as_row (outside s all parent) above (tag_as (codes "tags") tag) own _ refl z
              in let ts = rows_stand (codes "tag") s all above (codes "tags") own 0 (tag_row s
              all same)
              r.1 in (ts.0, (refl, ts.1))),
          tt,
        ) h here in
        (rows.0, (ps.0, inl (rows.1.0, rows.1.1, ps.1)))

-- chunks

variable_stands : (all names : Defined) (given : Option (List ℕ)) → all.vars ≡ names.vars →
    is_no_variable all given ≡ false → (n : Option ℕ) × IsVariableNamed names.vars given n
variable_stands all names None same h = (None, refl)
variable_stands all names (Some name) same h =
    let n = numbered all.vars names.vars name same h in (Some n.0, (name, refl, n.1))

once : (vars : List (List ℕ)) (name from : Option (List ℕ)) (n : Option ℕ) →
    IsVariableNamed vars from n → (is_some name || is_some from) ≡ true →
    (is_some name && is_some from) ≡ false → is_named_once (word_given name) n ≡ true
once vars None from None is some few =
    false_true (sym (ap (λ (o : Option (List ℕ)). false || is_some o) is) ∙ some)
once vars None from (Some n) is some few = refl
once vars (Some word) from None is some few = refl
once vars (Some word) from (Some n) (name, is, number) some few =
    true_false (sym (ap (λ (o : Option (List ℕ)). is_some o) is) ∙ few)

-- the row of a chunk, by the form
abbrev chunk_line : Form → Line
chunk_line Transfer = line_of (codes "chunk") (free (codes "name") ∷ free (codes "namefrom")
    ∷ free (codes "case") ∷ []) ((codes "name" ∷ codes "namefrom" ∷ []) ∷ [])
    (tags_group ∷ any_of chunk_names ∷ [])
chunk_line _ = line_of (codes "chunk") [] [] (any_of value_names ∷ [])

chunk_row : (form : Form) → line_in (codes "chunk") (rows_of form) ≡ Some (chunk_line form)
chunk_row Transfer = refl
chunk_row Interchunk = refl
chunk_row Postchunk = refl

two_names : (t n f : Bool) → (t && true && n && f) ≡ false → t ≡ true → (n && f) ≡ false
two_names true n f h e = h
two_names false n f h e = false_true e

either : (a b : Bool) → b ≡ true → (a || b) ≡ true
either true b e = refl
either false b e = e

chunk_stands : (s : Scope) (all above : Defined) (tag : Tag) (own : Children) →
    Numbers all s.names → Stands (outside s all (codes "out")) above (tag_as (codes "chunk") tag)
    own
    → (p : PlainPiece) × IsPiece s (tag_as (codes "chunk") tag) own p
chunk_stands s all above tag own same z =
    by s.form refl (as_row (outside s all (codes "out")) above (tag_as (codes "chunk") tag) own
    (chunk_line s.form) (chunk_row s.form) z)
  where
    given : List Pair
    given = tag.attributes

    chunks : s.chunks ≡ true
    chunks = not_false s.chunks
        (neither _ _ (neither _ _ (neither _ _ (neither _ _ z.1.right.used).0).0).0).0

    Known : Form → Type 0
    Known form = Regular (outside s all (codes "out")) above (tag_as (codes "chunk") tag) own
        (chunk_line form) × Clean (outside s all (codes "chunk")) above
        ((chunk_line form).groups, 0) own

    of_values : (form : Form) → is_transfer form ≡ false → s.form ≡ form →
        Clean (outside s all (codes "chunk")) above (any_of value_names ∷ [], 0) own →
        (p : PlainPiece) × IsPiece s (tag_as (codes "chunk") tag) own p
    of_values form other e c =
        let vs = values_stand s all above true (codes "chunk") own same (λ x y. refl) 0 None 0 c in
        (value_chunk vs.0, (refl, chunks, ap is_transfer e ∙ other, vs.1))

    by : (form : Form) → s.form ≡ form → Known s.form →
        (p : PlainPiece) × IsPiece s (tag_as (codes "chunk") tag) own p
    by Transfer e k =
        let r = subst Known e k in
        let none = neither (is_no_variable all (value_of (codes "namefrom") given))
        (is_no_variable all (value_of (codes "case") given)) r.0.right.defined in
        let from = variable_stands all s.names (value_of (codes "namefrom") given) same.vars none.0
        in
        let cased = variable_stands all s.names (value_of (codes "case") given) same.vars none.1 in
        let parts = parts_stand s all above (codes "chunk") own same r.1 in
        let named = one_given (codes "name" ∷ codes "namefrom" ∷ []) given
        (both _ _ r.0.needs).0 in
        let some : (has_attribute (codes "name") given || has_attribute (codes "namefrom") given)
        ≡ true = among_each (λ name. has_attribute name given ≡ true →
        (has_attribute (codes "name") given || has_attribute (codes "namefrom") given) ≡ true)
        (codes "name" ∷ codes "namefrom" ∷ []) named.0 (
          λ h. ap (λ (b : Bool). b || has_attribute (codes "namefrom") given) h,
          (
            λ h. either (has_attribute (codes "name") given) (has_attribute (codes "namefrom")
                given) h,
            tt,
          ),
        ) named.1 named.2 in
        let few = two_names (is_transfer s.form) (has_attribute (codes "name") given)
        (has_attribute (codes "namefrom") given) (neither _ _ r.0.right.used).1
        (ap is_transfer e) in (
          chunk (record {
            name = word_given (value_of (codes "name") given);
            namefrom = from.0;
            case = cased.0;
            tags = parts.0;
            pieces = parts.1.0;
          }),
          (
            refl,
            chunks,
            ap is_transfer e,
            record {
              named = once s.names.vars (value_of (codes "name") given)
                  (value_of (codes "namefrom") given) from.0 from.1 some few;
              name = refl;
              namefrom = from.1;
              case = cased.1;
              parts = parts.1.1;
            },
          ),
        )
    by Interchunk e k = of_values Interchunk refl e (subst Known e k).1
    by Postchunk e k = of_values Postchunk refl e (subst Known e k).1

-- pieces of an output
abbrev pub piece_names : List (List ℕ)
piece_names = codes "b" ∷ codes "lu" ∷ codes "mlu" ∷ codes "chunk" ∷ []

piece_stands : (s : Scope) (all above : Defined) (tag : Tag) (own : Children) →
    Numbers all s.names → is_among tag.name piece_names ≡ true →
    Stands (outside s all (codes "out")) above tag own → (p : PlainPiece) × IsPiece s tag own p
piece_stands s all above tag own same h x =
    let a = outside s all (codes "out") in
    among_each (λ name. Stands a above (tag_as name tag) own →
    (p : PlainPiece) × IsPiece s (tag_as name tag) own p) piece_names tag.name (
      λ z. (let pos = blank_stands tag.attributes
          (neither _ _ (neither _ _ (neither _ _ z.1.right.numbered).0).0).0 in
          (blank pos.0, (refl, pos.1))),
      (
        λ z. (let vs = lu_row s all same above (codes "out") tag own z in
            let chunks = (neither _ _ (neither _ _ (neither _ _ z.1.right.used).0).0).0 in
            (unit vs.0, (refl, chunks, vs.1))),
        (
          λ z. (let r = as_row a above (tag_as (codes "mlu") tag) own _ refl z in
              let us = rows_stand (codes "lu") s all above (codes "mlu") own 0 (lu_row s all
              same) r.1 in
              (units us.0, (refl, (neither _ _ (neither _ _ z.1.right.used).0).0, us.1))),
          (λ z. chunk_stands s all above tag own same z, tt),
        ),
      ),
    ) h x

pub pieces_stand : (s : Scope) (all above : Defined) (own : Children) (used : ℕ) →
    Numbers all s.names → Clean (outside s all (codes "out")) above
    (any_of piece_names ∷ [], used) own → (ps : List PlainPiece) × ArePieces s own ps
pieces_stand s all above nothing used same c = ([], tt)
pieces_stand s all above (element tag own more) used same (here, (n, is, later)) =
    let y = in_last tag.name (any_of piece_names) used n is in
    let p = piece_stands s all above tag own same y.0 here in
    let ps = pieces_stand s all (defined_after tag (defined_in above own)) more (used + 1) same
    (behind_one (outside s all (codes "out")) above (any_of piece_names ∷ [], used + 1) own more tag
    n y.2 later) in
    (p.0 ∷ ps.0, (p.1, ps.1))
