-- The fields and lines that are written are read again.
use Rattle.std.proofs.Common.{◌≡◌, ℕ, suc, ◌+◌, ◌^◌, ◌<◌, Bool, true, false, not, ◌||◌, ◌&&◌, List, [], ◌∷◌, ◌++◌, length, take, drop, refl, ◌∙◌, ap, arith, append_assoc, Option, Some, None, cond}
use Rattle.std.specs.Prelude.{◌==◌, decimal, codes}
use Rattle.std.specs.List.{prefix_len, list_any}
use Rattle.std.proofs.lemmas.Bool.{and_parts}
use Rattle.std.proofs.Math.Seq.{take-append_seam, drop-append_seam}
use Rattle.ap_symbol.specs.TagNames.{is_tag_name, is_reserved_lem}
use Rattle.ap_symbol.specs.Words.{is_white}
use Rattle.ap_symbol.specs.declared.symbol.Symbol.{Symbol}
use Rattle.ap_symbol.specs.declared.symbol.Symbol.TheVariants.{Letter, Tag, Blank, Join, Queue, Alarm, Star, At}
use Rattle.ap_fst.specs.Sections.{is_plain_side, is_plain_label}
use Rattle.ap_fst.specs.Sides.{has_side}
use Rattle.ap_fst.specs.declared.compiled.Kind2.{Kind2}
use Rattle.ap_fst.specs.declared.label.Edge.{Edge}
use Rattle.ap_fst.specs.declared.label.Label.{Label}
use Rattle.ap_binary.specs.Held.{is_held_side, is_held_label, is_held_edge}
use Rattle.ap_binary.specs.Pieces.{word_at, letter_at, is_character, is_utf8, is_name_byte, tag_of, tag_at, side_at, label_of, label_at, number_then, edge_at, final_at, kind_at, head_at}
use Rattle.ap_binary.specs.Text.{side_text, then_space, then_end, edge_text, final_text, section_name, head_of}
use Rattle.ap_binary.proofs.Bools.{not_true}
use Rattle.ap_binary.proofs.Numerals.{then_back, byte_back, word_back, character_back, prefix_all}

pub spaced : (field rest : List ℕ) → then_space field ++ rest ≡ field ++ 32 ∷ rest
spaced field rest = append_assoc field (codes " ") rest

pub ended : (field rest : List ℕ) → then_end field ++ rest ≡ field ++ 10 ∷ rest
ended field rest = append_assoc field (codes "\n") rest

pub field_back : (n : ℕ) (rest : List ℕ) → n < 2 ^ 64 →
    number_then 32 (then_space (decimal n) ++ rest) ≡ Some (Some n, rest)
field_back n rest small = ap (number_then 32) (spaced (decimal n) rest)
    ∙ then_back n 32 rest small refl

pub last_back : (n : ℕ) (rest : List ℕ) → n < 2 ^ 64 → number_then 10 (then_end (decimal n) ++ rest)
    ≡ Some (Some n, rest)
last_back n rest small = ap (number_then 10) (ended (decimal n) rest)
    ∙ then_back n 10 rest small refl

-- ---- sides

reserved_step : (b c : Bool) (m n : ℕ) → (b || c) ≡ false → (c ≡ false → m ≡ n) →
    cond (not b) (1 + m) 0 ≡ suc n
reserved_step true c m n h f = cc
reserved_step false c m n h f = let e : m ≡ n = f h in omega arith

none_reserved : (name : List ℕ) → list_any is_reserved_lem name ≡ false →
    prefix_len is_name_byte name ≡ length name
none_reserved [] h = refl
none_reserved (b ∷ name) h =
    reserved_step (is_reserved_lem b) (list_any is_reserved_lem name) (prefix_len is_name_byte name)
    (length name) h (none_reserved name)

name_prefix : (name : List ℕ) → is_tag_name name ≡ true → prefix_len is_name_byte name ≡ length name
name_prefix name h =
    let s : (not (length name == 0) ≡ true) × (not (list_any is_reserved_lem name) ≡ true) =
    and_parts (not (length name == 0)) (not (list_any is_reserved_lem name)) h in
    none_reserved name (not_true (list_any is_reserved_lem name) s.1)

tag_back : (name rest : List ℕ) → (is_utf8 name && is_tag_name name) ≡ true →
    tag_at (name ++ 32 ∷ rest) ≡ Some (Some (Tag name), 32 ∷ rest)
unfolding tag_at
tag_back name rest held =
    let s : (is_utf8 name ≡ true) × (is_tag_name name ≡ true) =
    and_parts (is_utf8 name) (is_tag_name name) held in
    let k : prefix_len is_name_byte (name ++ 32 ∷ rest) ≡ length name =
    prefix_all is_name_byte name 32 rest (name_prefix name s.1) refl in
    let t : take (prefix_len is_name_byte (name ++ 32 ∷ rest)) (name ++ 32 ∷ rest) ≡ name =
    ap (λ (i : ℕ). take i (name ++ 32 ∷ rest)) k ∙ take-append_seam name (32 ∷ rest) in
    let d : drop (prefix_len is_name_byte (name ++ 32 ∷ rest)) (name ++ 32 ∷ rest) ≡ 32 ∷ rest =
    ap (λ (i : ℕ). drop i (name ++ 32 ∷ rest)) k ∙ drop-append_seam name (32 ∷ rest) in
    let read : tag_of name ≡ Some (Tag name) = rw held refl in
    rw (t, d, read) refl

letter_back : (c : ℕ) (rest : List ℕ) → is_character c ≡ true → is_white c ≡ false →
    letter_at (decimal c ++ 32 ∷ rest) ≡ Some (Some (Letter c), 32 ∷ rest)
unfolding letter_at
letter_back c rest char plain = rw (character_back c 32 rest char plain refl) refl

side_back : (s : Option Symbol) (rest : List ℕ) → is_held_side s ≡ true → is_plain_side s ≡ true →
    side_at (side_text s ++ 32 ∷ rest) ≡ Some (s, 32 ∷ rest)
unfolding side_at
side_back None rest held plain = refl
side_back (Some (Letter c)) rest held plain = letter_back c rest held (not_true (is_white c) plain)
side_back (Some (Tag name)) rest held plain = tag_back name rest held
side_back (Some Blank) rest held plain = refl
side_back (Some Join) rest held plain = refl
side_back (Some Queue) rest held plain = refl
side_back (Some Alarm) rest held plain = refl
side_back (Some Star) rest held plain = cc
side_back (Some At) rest held plain = cc

-- ---- edges and final states

label_parts : (bytes after rest : List ℕ) (l : Label) → side_at bytes ≡ Some (l.left, 32 ∷ after) →
    side_at after ≡ Some (l.right, rest) → has_side l ≡ true → label_at bytes ≡ Some (l, rest)
unfolding label_at
label_parts bytes after rest l p q h = let made : label_of l.left l.right ≡ Some l = rw h refl in
    rw (p, byte_back 32 after, q, made) refl

pub label_back : (l : Label) (rest : List ℕ) → is_held_label l ≡ true → is_plain_label l ≡ true →
    has_side l ≡ true → label_at (then_space (side_text l.left)
    ++ (then_space (side_text l.right) ++ rest)) ≡ Some (l, 32 ∷ rest)
label_back l rest held plain sided =
    let h : (is_held_side l.left ≡ true) × (is_held_side l.right ≡ true) =
    and_parts (is_held_side l.left) (is_held_side l.right) held in
    let p : (is_plain_side l.left ≡ true) × (is_plain_side l.right ≡ true) =
    and_parts (is_plain_side l.left) (is_plain_side l.right) plain in
    let after : List ℕ = then_space (side_text l.right) ++ rest in
    let first : side_at (then_space (side_text l.left) ++ after) ≡ Some (l.left, 32 ∷ after) =
    ap side_at (spaced (side_text l.left) after) ∙ side_back l.left after h.0 p.0 in
    let second : side_at after ≡ Some (l.right, 32 ∷ rest) =
    ap side_at (spaced (side_text l.right) rest) ∙ side_back l.right rest h.1 p.1 in
    label_parts (then_space (side_text l.left) ++ after) after (32 ∷ rest) l first second sided

edge_parts : (bytes after after2 rest : List ℕ) (e : Edge) →
    number_then 32 bytes ≡ Some (Some e.from, after) → label_at after ≡ Some (e.label, 32 ∷ after2)
    → number_then 10 after2 ≡ Some (Some e.to, rest) → edge_at bytes ≡ Some (e, rest)
unfolding edge_at
edge_parts bytes after after2 rest e p q r = rw (p, q, byte_back 32 after2, r) refl

pub four : (a b c d r : List ℕ) → (a ++ ((b ++ c) ++ d)) ++ r ≡ a ++ (b ++ (c ++ (d ++ r)))
four a b c d r = append_assoc a ((b ++ c) ++ d) r
    ∙ ap (λ z. a ++ z) (append_assoc (b ++ c) d r ∙ append_assoc b c (d ++ r))

pub record IsWritable (e : Edge) : Type 0 where
  pub held : is_held_edge e ≡ true
  pub plain : is_plain_label e.label ≡ true
  pub sided : has_side e.label ≡ true
  pub from : e.from < 2 ^ 64
  pub to : e.to < 2 ^ 64

pub edge_back : (e : Edge) (rest : List ℕ) → IsWritable e → edge_at (edge_text e ++ rest)
    ≡ Some (e, rest)
edge_back e rest w =
    let left : List ℕ = then_space (side_text e.label.left) in
    let right : List ℕ = then_space (side_text e.label.right) in
    let last : List ℕ = then_end (decimal e.to) in
    ap edge_at (four (then_space (decimal e.from)) left right last rest)
    ∙ edge_parts (then_space (decimal e.from) ++ (left ++ (right ++ (last ++ rest))))
    (left ++ (right ++ (last ++ rest))) (last ++ rest) rest e
    (field_back e.from (left ++ (right ++ (last ++ rest))) w.from)
    (label_back e.label (last ++ rest) w.held w.plain w.sided) (last_back e.to rest w.to)

pub final_back : (s : ℕ) (rest : List ℕ) → s < 2 ^ 64 → final_at (final_text s ++ rest)
    ≡ Some (s, rest)
unfolding final_at
final_back s rest small = rw (last_back s rest small) refl

-- ---- the first line of a section

pub kind_back : (kind : Kind2) (rest : List ℕ) →
    kind_at kind ((codes "section " ++ then_space (section_name kind)) ++ rest) ≡ Some rest
unfolding kind_at
kind_back kind rest =
    let e : (codes "section " ++ then_space (section_name kind)) ++ rest ≡ codes "section "
    ++ (section_name kind ++ 32 ∷ rest) =
    append_assoc (codes "section ") (then_space (section_name kind)) rest
    ∙ ap (λ z. codes "section " ++ z) (spaced (section_name kind) rest) in
    let first : word_at (codes "section ") ((codes "section " ++ then_space (section_name kind))
    ++ rest) ≡ Some (section_name kind ++ 32 ∷ rest) = ap (word_at (codes "section ")) e
    ∙ word_back (codes "section ") (section_name kind ++ 32 ∷ rest) in
    rw (first, word_back (section_name kind) (32 ∷ rest)) (byte_back 32 rest)

pub head_parts : (kind : Kind2) (bytes a b c rest : List ℕ) (states edges finals : ℕ) →
    kind_at kind bytes ≡ Some a → number_then 32 a ≡ Some (Some states, b) →
    number_then 32 b ≡ Some (Some edges, c) → number_then 10 c ≡ Some (Some finals, rest)
    → head_at kind bytes ≡ Some
    (record { states = Some states; edges = Some edges; finals = Some finals }, rest)
unfolding head_at
head_parts kind bytes a b c rest states edges finals p q r s = rw (p, q, r, s) refl

pub head_back : (kind : Kind2) (states edges finals : ℕ) (rest : List ℕ) → states < 2 ^ 64 →
    edges < 2 ^ 64 → finals < 2 ^ 64 → head_at kind (head_of kind states edges finals ++ rest)
    ≡ Some (record { states = Some states; edges = Some edges; finals = Some finals }, rest)
head_back kind states edges finals rest few fewer fewest =
    let k : List ℕ = codes "section " ++ then_space (section_name kind) in
    let a : List ℕ = then_space (decimal states) in
    let b : List ℕ = then_space (decimal edges) in
    let c : List ℕ = then_end (decimal finals) in
    let e : (k ++ (a ++ (b ++ c))) ++ rest ≡ k ++ (a ++ (b ++ (c ++ rest))) =
    append_assoc k (a ++ (b ++ c)) rest
    ∙ ap (λ z. k ++ z) (append_assoc a (b ++ c) rest
    ∙ ap (λ z. a ++ z) (append_assoc b c rest)) in
    ap (head_at kind) e
    ∙ head_parts kind (k ++ (a ++ (b ++ (c ++ rest)))) (a ++ (b ++ (c ++ rest))) (b ++ (c ++ rest))
    (c ++ rest) rest states edges finals
    (kind_back kind (a ++ (b ++ (c ++ rest)))) (field_back states (b ++ (c ++ rest)) few)
    (field_back edges (c ++ rest) fewer) (last_back finals rest fewest)
