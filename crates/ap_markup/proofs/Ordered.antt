-- The starts of the elements of a text stand in the order of its tree.
use Rattle.std.proofs.Common.{◌≡◌, ℕ, ◌+◌, ◌-◌, ◌<◌, ◌≤◌, Bool, true, false, cond, ◌==◌, List, [], ◌∷◌, ◌++◌, length, refl, sym, ap, ◌∙◌, append_assoc, arith, length-append, subst}
use Rattle.ap_markup.specs.Decoding.{text_of}
use Rattle.ap_markup.specs.Deep.{pruned}
use Rattle.ap_markup.specs.Pieces.{Pair, Shape, DoctypeLine, Comment, Start, End, Reference, Text}
use Rattle.ap_markup.specs.Spelling.{line_at}
use Rattle.ap_markup.specs.Tree.{Tag, Parts, Done, Run, Element}
use Rattle.ap_markup.specs.Documents.{Placed, tag_in, SpellsElement, SpellsParts, alone, around, nothing, comment, reference, run, element}
use Rattle.ap_markup.specs.Forms.{AreCut, SpellsText}
use Rattle.ap_markup.proofs.Cutting.{piece_long, body_within}

-- The elements and texts start in this order, none before the first place and none behind the last;
-- and each element has the line of its place.
abbrev pub InOrder : List ℕ → ℕ → Parts → ℕ → Type 0
InOrder text lo Done hi = lo ≤ hi
InOrder text lo (Run chars at more) hi = (lo ≤ at) × InOrder text at more hi
InOrder text lo (Element tag kids more) hi = (mid : ℕ) × (lo ≤ tag.place)
    × (tag.line ≡ line_at text tag.place) × InOrder text (tag.place + 1) kids mid
    × InOrder text mid more hi

pub order_from : (text : List ℕ) (parts : Parts) (lo from hi : ℕ) → lo ≤ from →
    InOrder text from parts hi → InOrder text lo parts hi
order_from text Done lo from hi le h = omega (arith, le, h)
order_from text (Run chars at more) lo from hi le h = (omega (arith, le, h.0), h.1)
order_from text (Element tag kids more) lo from hi le h =
    (h.0, omega (arith, le, h.1), h.2, h.3, h.4)

pub order_to : (text : List ℕ) (parts : Parts) (lo to hi : ℕ) → to ≤ hi → InOrder text lo parts to →
    InOrder text lo parts hi
order_to text Done lo to hi le h = omega (arith, le, h)
order_to text (Run chars at more) lo to hi le h = (h.0, order_to text more at to hi le h.1)
order_to text (Element tag kids more) lo to hi le h =
    (h.0, h.1, h.2, h.3, order_to text more h.0 to hi le h.4)

pub order_within : (text : List ℕ) (parts : Parts) (lo hi : ℕ) → InOrder text lo parts hi → lo ≤ hi
order_within text Done lo hi h = h
order_within text (Run chars at more) lo hi h = omega (arith, h.0, order_within text more at hi h.1)
order_within text (Element tag kids more) lo hi h =
    omega (
      arith,
      h.1,
      order_within text kids (tag.place + 1) h.0 h.3,
      order_within text more h.0 hi h.4,
    )

-- the bytes from this place to the end of the text are cut into these pieces
abbrev pub CutFrom : ℕ → ℕ → List ℕ → List Placed → List ℕ → Type 0
CutFrom total at bytes ps back = AreCut at bytes ps back × (at + length bytes ≡ total)

-- what is left is cut from here on
abbrev pub CutOn : ℕ → List Placed → List ℕ → ℕ → Type 0
CutOn total ps back at = (rest : List ℕ) × CutFrom total at rest ps back

step : (total at : ℕ) (bytes back : List ℕ) (p : Placed) (ps : List Placed) →
    CutFrom total at bytes (p ∷ ps) back → (next : ℕ) × (p.0 ≡ at) × (at < next)
    × CutOn total ps back next
step total at bytes back p ps ((own, rest, is, place, piece, ends, others), sum) = (
  at + length own,
  place,
  omega (arith, piece_long own p.1 piece),
  (rest, (others, omega (arith, sum, ap length is, length-append own rest))),
)

cut_same : (total at : ℕ) (bytes back : List ℕ) (ps qs : List Placed) → ps ≡ qs →
    CutFrom total at bytes ps back → CutFrom total at bytes qs back
cut_same total at bytes back ps qs e h =
    subst (λ (z : List Placed). CutFrom total at bytes z back) e h

grouped : (p q : Placed) (inner x : List Placed) → (p ∷ inner ++ q ∷ []) ++ x ≡ p ∷ (inner ++ q ∷ x)
grouped p q inner x = simp append_assoc refl

abbrev OrderedTo : List ℕ → ℕ → Parts → List Placed → List ℕ → ℕ → Type 0
OrderedTo text total parts x back at = (mid : ℕ) × InOrder text at parts mid
    × CutOn total x back mid

abbrev OneOrdered : List ℕ → ℕ → Tag → Parts → List Placed → List ℕ → ℕ → Type 0
OneOrdered text total tag kids x back at = (mid : ℕ) × (at ≤ tag.place)
    × (tag.line ≡ line_at text tag.place) × InOrder text (tag.place + 1) kids mid
    × CutOn total x back mid

mutual
  element_order : (text : List ℕ) (ps : List Placed) (tag : Tag) (kids : Parts) →
      SpellsElement text ps tag kids →
      (x : List Placed) (back : List ℕ) (total at : ℕ) (bytes : List ℕ) →
      CutFrom total at bytes (ps ++ x) back → OneOrdered text total tag kids x back at
  element_order text ps tag kids (alone place name given is said none) x back total at bytes h =
      let s = step total at bytes back (place, Start name given true) x
      (cut_same total at bytes back (ps ++ x) ((place, Start name given true) ∷ x)
      (ap (λ (z : List Placed). z ++ x) is) h) in
      let here : tag.place ≡ at = ap (λ (t : Tag). t.place) said ∙ s.1 in
      let line_is : tag.line ≡ line_at text tag.place = ap (λ (t : Tag). t.line) said
      ∙ ap (line_at text) (sym (ap (λ (t : Tag). t.place) said)) in
      let bound : tag.place + 1 ≤ s.0 = omega (arith, here, s.2) in (
        s.0,
        omega (arith, here),
        line_is,
        subst (λ (k : Parts). InOrder text (tag.place + 1) k s.0) (sym none) bound,
        s.3,
      )
  element_order text ps tag kids (around {inner = inner} place to name given within is said) x back
      total at bytes h =
      let s = step total at bytes back (place, Start name given false) (inner ++ (to, End name) ∷ x)
      (cut_same total at bytes back (ps ++ x) ((place, Start name given false)
      ∷ (inner ++ (to, End name) ∷ x)) (ap (λ (z : List Placed). z ++ x) is
      ∙ grouped (place, Start name given false) (to, End name) inner x) h) in
      let here : tag.place ≡ at = ap (λ (t : Tag). t.place) said ∙ s.1 in
      let line_is : tag.line ≡ line_at text tag.place = ap (λ (t : Tag). t.line) said
      ∙ ap (line_at text) (sym (ap (λ (t : Tag). t.place) said)) in
      let k = parts_order text inner kids within ((to, End name) ∷ x) back total s.0 s.3.0 s.3.1 in
      let e = step total k.0 k.2.0 back (to, End name) x k.2.1 in (
        e.0,
        omega (arith, here),
        line_is,
        order_to text kids (tag.place + 1) k.0 e.0 (omega (arith, e.2))
            (order_from text kids (tag.place + 1) s.0 k.0 (omega (arith, here, s.2)) k.1),
        e.3,
      )

  parts_order : (text : List ℕ) (ps : List Placed) (parts : Parts) → SpellsParts text ps parts →
      (x : List Placed) (back : List ℕ) (total at : ℕ) (bytes : List ℕ) →
      CutFrom total at bytes (ps ++ x) back → OrderedTo text total parts x back at
  parts_order text ps parts (nothing is none) x back total at bytes h =
      let now = cut_same total at bytes back (ps ++ x) x (ap (λ (z : List Placed). z ++ x) is) h in
      let bound : at ≤ at = omega arith in
      (at, subst (λ (k : Parts). InOrder text at k at) (sym none) bound, (bytes, now))
  parts_order text ps parts (comment {more = more} place k is) x back total at bytes h =
      let s = step total at bytes back (place, Comment) (more ++ x)
      (cut_same total at bytes back (ps ++ x) ((place, Comment) ∷ (more ++ x))
      (ap (λ (z : List Placed). z ++ x) is) h) in
      let r = parts_order text more parts k x back total s.0 s.3.0 s.3.1 in
      (r.0, order_from text parts at s.0 r.0 (omega (arith, s.2)) r.1, r.2)
  parts_order text ps parts (reference {more = more} {rest = rest} place c k is said) x back
      total at bytes h =
      let s = step total at bytes back (place, Reference c) (more ++ x)
      (cut_same total at bytes back (ps ++ x) ((place, Reference c) ∷ (more ++ x))
      (ap (λ (z : List Placed). z ++ x) is) h) in
      let r = parts_order text more rest k x back total s.0 s.3.0 s.3.1 in (
        r.0,
        subst (λ (z : Parts). InOrder text at z r.0) (sym said) (
          omega (arith, s.1),
          order_from text rest place s.0 r.0
              (omega (arith, s.1, s.2)) r.1,
        ),
        r.2,
      )
  parts_order text ps parts (run {more = more} {rest = rest} place own k is said) x back
      total at bytes h =
      let s = step total at bytes back (place, Text own) (more ++ x)
      (cut_same total at bytes back (ps ++ x) ((place, Text own) ∷ (more ++ x))
      (ap (λ (z : List Placed). z ++ x) is) h) in
      let r = parts_order text more rest k x back total s.0 s.3.0 s.3.1 in (
        r.0,
        subst (λ (z : Parts). InOrder text at z r.0) (sym said) (
          omega (arith, s.1),
          order_from text rest place s.0 r.0
              (omega (arith, s.1, s.2)) r.1,
        ),
        r.2,
      )
  parts_order text ps parts
      (element {own = own} {more = more} {kids = kids} {rest = rest} {tag = tag} e k is said) x back
      total at bytes h =
      let o = element_order text own tag kids e (more ++ x) back total at bytes
      (cut_same total at bytes back (ps ++ x) (own ++ (more ++ x))
      (ap (λ (z : List Placed). z ++ x) is ∙ append_assoc own more x) h) in
      let r = parts_order text more rest k x back total o.0 o.4.0 o.4.1 in
      (r.0, subst (λ (z : Parts). InOrder text at z r.0) (sym said) (o.0, o.1, o.2, o.3, r.1), r.2)

-- what stands in front
skip : (qs x : List Placed) (back : List ℕ) (total at : ℕ) (bytes : List ℕ) →
    CutFrom total at bytes (qs ++ x) back → (next : ℕ) × (at ≤ next) × CutOn total x back next
skip [] x back total at bytes h = (at, omega arith, (bytes, h))
skip (q ∷ qs) x back total at bytes h =
    let s = step total at bytes back q (qs ++ x) h in
    let r = skip qs x back total s.0 s.3.0 s.3.1 in
    (r.0, omega (arith, s.2, r.1), r.2)

-- the tree of a text
pub text_order : (text : List ℕ) (root : Parts) → SpellsText text root →
    InOrder text 0 root (length text)
text_order text root s =
    let d = s.spelled in
    let total = length text in
    let at = total - length s.body in
    let h : CutFrom total at s.body (d.before ++ (d.own ++ d.after)) [] =
    cut_same total at s.body [] s.pieces (d.before ++ (d.own ++ d.after))
    (d.is ∙ append_assoc d.before d.own d.after)
    (s.cut, omega (arith, body_within text s.body s.begun)) in
    let k = skip d.before (d.own ++ d.after) [] total at s.body h in
    let e = element_order text d.own d.tag d.kids d.spelled d.after [] total k.0 k.2.0 k.2.1 in
    let last : e.0 ≤ total = omega (arith, e.4.1.1) in
    subst (λ (z : Parts). InOrder text 0 z total) (sym d.root_is) (e.0, omega arith, e.2, e.3, last)

-- what is left of a tree stands in the same order
pub pruned_order : (text : List ℕ) (room : ℕ) (parts : Parts) (lo hi : ℕ) → InOrder text lo parts hi
    → InOrder text lo (pruned room parts) hi
unfolding pruned
pruned_order text room Done lo hi h = h
pruned_order text room (Run chars at more) lo hi h = (h.0, pruned_order text room more at hi h.1)
pruned_order text room (Element tag kids more) lo hi h =
    by (room == 0) (pruned_order text (room - 1) kids (tag.place + 1) h.0 h.3)
    (pruned_order text room more h.0 hi h.4)
  where
    by : (t : Bool) → InOrder text (tag.place + 1) (pruned (room - 1) kids) h.0 →
        InOrder text h.0 (pruned room more) hi →
        InOrder text lo (cond t (pruned room more)
        (Element tag (pruned (room - 1) kids) (pruned room more))) hi
    by true inner later = order_from text (pruned room more) lo h.0 hi
        (omega (arith, h.1, order_within text kids (tag.place + 1) h.0 h.3)) later
    by false inner later = (h.0, h.1, h.2, inner, later)
