-- A dictionary without the pairs of left parts, where the tag of right parts is left out.
use Rattle.std.proofs.Common.{◌≡◌, inl, inr, ℕ, ◌<◌, ◌≤◌, zero, suc, Bool, true, false, List, [], ◌∷◌, ◌++◌, length, Option, Some, None, refl, sym, ap, subst, ◌∙◌, append_assoc, arith}
use Rattle.std.specs.Prelude.{◌↔◌, IsTrue, not, ◌||◌, ◌&&◌, if◌then◌else◌, option_to_list}
use Rattle.std.specs.List.{filter, flat_map}
use Rattle.std.specs.Option.{is_some}
use Rattle.std.specs.declared.cmp.Ordering.{Ordering}
use Rattle.std.proofs.lemmas.Bool.{cases_eq, cases_Bool, cond-true, cond-false, true≢false}
use Rattle.std.proofs.lemmas.List.{length-append}
use Rattle.std.proofs.lemmas.List.Elements.{filter-append}
use Rattle.ap_symbol.specs.declared.symbol.Symbol.{Symbol}
use Rattle.ap_fst.specs.Lists.{IsIn, Ascends}
use Rattle.ap_fst.specs.Machines.{Machine, IsMachine}
use Rattle.ap_fst.specs.Order.{edge_cmp}
use Rattle.ap_fst.specs.Sections.{Parts, is_plain_side, is_plain_label, IsSection, section_of}
use Rattle.ap_fst.specs.Paths.{Accepts}
use Rattle.ap_fst.specs.Sides.{has_side, left_word, right_word}
use Rattle.ap_fst.specs.Silence.{HasBoundedRuns, IsSilentRun}
use Rattle.ap_fst.specs.Sketches.{Sketch}
use Rattle.ap_fst.specs.Trimming.{IsTrimmed, IsReached, IsFinishing}
use Rattle.ap_fst.specs.Walks.{Walk, ends, goes, AcceptsLabels}
use Rattle.ap_fst.specs.Without.{is_that_tag, side_without, label_without, left_of_label, labels_without, IsLeftOf}
use Rattle.ap_fst.specs.declared.compiled.Kind2.{Kind2}
use Rattle.ap_fst.specs.declared.compiled.Kind2.TheVariants.{Standard, Inconditional, Postblank, Preblank}
use Rattle.ap_fst.specs.declared.label.Edge.{Edge}
use Rattle.ap_fst.specs.declared.label.Label.{Label}
use Rattle.ap_fst.proofs.CycleLaws.{empty_cycle_runs}
use Rattle.ap_fst.proofs.Listing.{in_back, in_from_place, placed_in, IsPlaced, in_filter, filter_in, IsKept}
use Rattle.ap_fst.proofs.WalkLaws.{walk_then}
use Rattle.ap_live.specs.Lexicon.{Spelled}
use Rattle.ap_compound.specs.Plain.{IsPlain, is_left_side, stays_alone, alone, IsPlainSection}
use Rattle.ap_compound.specs.Tags.{left_tag, right_tag, holds, without}
use Rattle.ap_compound.proofs.Splitting.{IsFlat, flat_in}

-- ---- without the tag of left parts

not_true : (b : Bool) → not b ≡ true → b ≡ false
not_true true h = cc
not_true false h = refl

false_not : (b : Bool) → b ≡ false → not b ≡ true
false_not true h = cc
false_not false h = refl

neither : (a b : Bool) → a ≡ false → b ≡ false → (a || b) ≡ false
neither true b e f = cc
neither false b e f = f

first_false : (a b : Bool) → (a || b) ≡ false → a ≡ false
first_false true b e = cc
first_false false b e = refl

second_false : (a b : Bool) → (a || b) ≡ false → b ≡ false
second_false true b e = cc
second_false false b e = e

holds_side : (side : Option Symbol) (word : List Symbol) →
    holds left_tag (option_to_list side ++ word) ≡ (is_left_side side || holds left_tag word)
holds_side None word = refl
holds_side (Some symbol) word = refl

-- a walk over edges that don't write the tag
record WalksAlone (edges : List Edge) (s : ℕ) (labels : List Label) (t : ℕ) : Type 0 where
  pub walk : Walk edges s labels t
  pub free : holds left_tag (right_word labels) ≡ false

to_whole : (edges : List Edge) (s t : ℕ) (labels : List Label) →
    Walk (filter stays_alone edges) s labels t → WalksAlone edges s labels t
to_whole edges s t labels (ends e) = record { walk = ends e; free = refl }
to_whole edges s t labels (goes {labels = rest} j e at from whole walk) =
    let k : IsKept stays_alone e edges =
    filter_in stays_alone e edges (in_from_place (filter stays_alone edges) j e at) in
    let p : IsPlaced e edges = placed_in e edges k.listed in
    let r : WalksAlone edges e.to rest t = to_whole edges e.to t rest walk in
    record {
      walk = goes p.place e p.at from whole r.walk;
      free = ap (λ (z : List Label). holds left_tag (right_word z)) whole
          ∙ holds_side e.label.right (right_word rest)
          ∙ neither (is_left_side e.label.right) (holds left_tag (right_word rest))
          (not_true (is_left_side e.label.right) k.passes) r.free;
    }

from_whole : (edges : List Edge) (s t : ℕ) (labels : List Label) → Walk edges s labels t →
    holds left_tag (right_word labels) ≡ false → Walk (filter stays_alone edges) s labels t
from_whole edges s t labels (ends e) free = ends e
from_whole edges s t labels (goes {labels = rest} j e at from whole walk) free =
    let both : (is_left_side e.label.right || holds left_tag (right_word rest)) ≡ false =
    sym (holds_side e.label.right (right_word rest))
    ∙ ap (λ (z : List Label). holds left_tag (right_word z)) (sym whole) ∙ free in
    let own : stays_alone e ≡ true = false_not (is_left_side e.label.right)
    (first_false (is_left_side e.label.right) (holds left_tag (right_word rest)) both) in
    let p : IsPlaced e (filter stays_alone edges) = placed_in e (filter stays_alone edges)
    (in_filter stays_alone e edges (in_from_place edges j e at) own) in
    goes p.place e p.at from whole (from_whole edges e.to t rest walk
    (second_false (is_left_side e.label.right) (holds left_tag (right_word rest)) both))

-- ---- the words of what is left of label strings

module _ (tag : List ℕ) where
  left_one : (left right : Option Symbol) → left_word (option_to_list
      (if (is_some left || is_some right) then Some (record { left = left; right = right })
      else None)) ≡ option_to_list left
  left_one None None = refl
  left_one None (Some y) = refl
  left_one (Some x) None = refl
  left_one (Some x) (Some y) = refl

  right_one : (left right : Option Symbol) → right_word (option_to_list
      (if (is_some left || is_some right) then Some (record { left = left; right = right })
      else None)) ≡ option_to_list right
  right_one None None = refl
  right_one None (Some y) = refl
  right_one (Some x) None = refl
  right_one (Some x) (Some y) = refl

  side_by : (b : Bool) (symbol : Symbol) → option_to_list (if b then None else Some symbol)
      ≡ (if not b then symbol ∷ [] else [])
  side_by true symbol = refl
  side_by false symbol = refl

  side_left : (side : Option Symbol) →
      option_to_list (side_without tag side) ≡ without tag (option_to_list side)
  side_left None = refl
  side_left (Some symbol) = side_by (is_that_tag tag symbol) symbol

  words_append : (f : Label → Option Symbol) (xs ys : List Label) →
      flat_map (λ l. option_to_list (f l)) (xs ++ ys)
      ≡ flat_map (λ l. option_to_list (f l)) xs ++ flat_map (λ l. option_to_list (f l)) ys
  words_append f [] ys = refl
  words_append f (x ∷ xs) ys = ap (λ z. option_to_list (f x) ++ z) (words_append f xs ys)
      ∙ sym (append_assoc (option_to_list (f x)) (flat_map (λ l. option_to_list (f l)) xs)
      (flat_map (λ l. option_to_list (f l)) ys))

  pub left_word_left : (labels : List Label) → left_word (labels_without tag labels)
      ≡ left_word labels
  left_word_left [] = refl
  left_word_left (l ∷ labels) =
      words_append (λ l. l.left) (option_to_list (left_of_label tag l))
      (labels_without tag labels)
      ∙ ap (λ z. z ++ left_word (labels_without tag labels))
      (left_one l.left (side_without tag l.right))
      ∙ ap (λ z. option_to_list l.left ++ z) (left_word_left labels)

  pub right_word_left : (labels : List Label) → right_word (labels_without tag labels)
      ≡ without tag (right_word labels)
  right_word_left [] = refl
  right_word_left (l ∷ labels) =
      words_append (λ l. l.right) (option_to_list (left_of_label tag l))
      (labels_without tag labels)
      ∙ ap (λ z. z ++ right_word (labels_without tag labels))
      (right_one l.left (side_without tag l.right) ∙ side_left l.right)
      ∙ ap (λ z. without tag (option_to_list l.right) ++ z) (right_word_left labels)
      ∙ sym (filter-append (λ symbol. not (is_that_tag tag symbol)) (option_to_list l.right)
      (right_word labels))

  -- ---- runs

  record IsCut (whole front back : List Label) : Type 0 where
    pub first : List Label
    pub second : List Label
    pub whole_is : whole ≡ first ++ second
    pub front_is : labels_without tag first ≡ front
    pub back_is : labels_without tag second ≡ back

  none_append : (xs ys : List Label) → [] ≡ xs ++ ys → (xs ≡ []) × (ys ≡ [])
  none_append [] ys e = (refl, sym e)
  none_append (x ∷ xs) ys e = absurd (cc)

  cut_one : (l : Label) (whole front back : List Label) → (o : Option Label) →
      left_of_label tag l ≡ o → option_to_list o ++ labels_without tag whole ≡ front ++ back →
      ((front : List Label) → labels_without tag whole ≡ front ++ back → IsCut whole front back) →
      IsCut (l ∷ whole) front back
  cut_one l whole front back None is e go =
      let c : IsCut whole front back = go front e in
      record {
        first = l ∷ c.first;
        second = c.second;
        whole_is = ap (λ z. l ∷ z) c.whole_is;
        front_is = ap (λ (z : Option Label). option_to_list z ++ labels_without tag c.first) is
            ∙ c.front_is;
        back_is = c.back_is;
      }
  cut_one l whole [] back (Some x) is e go = record {
    first = [];
    second = l ∷ whole;
    whole_is = refl;
    front_is = refl;
    back_is = ap (λ (z : Option Label). option_to_list z ++ labels_without tag whole) is ∙ e;
  }
  cut_one l whole (y ∷ front) back (Some x) is e go =
      let same : x ≡ y = cc in
      let rest : labels_without tag whole ≡ front ++ back = cc in
      let c : IsCut whole front back = go front rest in
      record {
        first = l ∷ c.first;
        second = c.second;
        whole_is = ap (λ z. l ∷ z) c.whole_is;
        front_is = ap (λ (z : Option Label). option_to_list z ++ labels_without tag c.first) is
            ∙ ap (λ (z : Label). z ∷ labels_without tag c.first) same
            ∙ ap (λ (z : List Label). y ∷ z) c.front_is;
        back_is = c.back_is;
      }

  cut : (whole front back : List Label) → labels_without tag whole ≡ front ++ back →
      IsCut whole front back
  cut [] front back e = let n = none_append front back e in record {
    first = [];
    second = [];
    whole_is = refl;
    front_is = sym n.0;
    back_is = sym n.1;
  }
  cut (l ∷ whole) front back e =
      cut_one l whole front back (left_of_label tag l) refl e (λ front f. cut whole front back f)

  one_at_most : (o : Option Label) → length (option_to_list o) ≤ 1
  one_at_most None = omega arith
  one_at_most (Some x) = omega arith

  no_longer : (labels : List Label) → length (labels_without tag labels) ≤ length labels
  no_longer [] = omega arith
  no_longer (l ∷ labels) = omega (
    arith,
    length-append (option_to_list (left_of_label tag l))
        (labels_without tag labels),
    one_at_most (left_of_label tag l),
    no_longer labels,
  )

  -- a run in what is left comes from one that is no shorter
  record ComesFromRun (whole middle : List Label) : Type 0 where
    pub run : List Label
    pub silent : IsSilentRun whole run
    pub longer : length middle ≤ length run

  run_from : (whole middle : List Label) → IsSilentRun (labels_without tag whole) middle →
      ComesFromRun whole middle
  run_from whole middle r =
      let one : IsCut whole r.front (middle ++ r.back) = cut whole r.front (middle ++ r.back) r.whole
      in
      let two : IsCut one.second middle r.back = cut one.second middle r.back one.back_is in
      record {
        run = two.first;
        silent = record {
          front = one.first;
          back = two.second;
          whole = one.whole_is ∙ ap (λ (z : List Label). one.first ++ z) two.whole_is;
          silent = sym (left_word_left two.first) ∙ ap left_word two.front_is ∙ r.silent;
        };
        longer = omega (arith, no_longer two.first, ap length two.front_is);
      }

  -- ---- plain labels

  side_plain : (b : Bool) (symbol : Symbol) → IsTrue (is_plain_side (Some symbol)) →
      IsTrue (is_plain_side (if b then None else Some symbol))
  side_plain true symbol h = refl
  side_plain false symbol h = h

  right_plain : (side : Option Symbol) → IsTrue (is_plain_side side) →
      IsTrue (is_plain_side (side_without tag side))
  right_plain None h = h
  right_plain (Some symbol) h = side_plain (is_that_tag tag symbol) symbol h

  both_plain : (a b c : Bool) → IsTrue (a && b) → (IsTrue b → IsTrue c) → IsTrue (a && c)
  both_plain true b c h go = go h
  both_plain false b c h go = h

  label_plain : (l : Label) → IsTrue (is_plain_label l) →
      IsTrue (is_plain_label (label_without tag l))
  label_plain l h = both_plain (is_plain_side l.left) (is_plain_side l.right)
      (is_plain_side (side_without tag l.right)) h (right_plain l.right)

  left_plain : (b : Bool) (x l : Label) → IsTrue (is_plain_label x) →
      IsIn l (option_to_list (if b then Some x else None)) → IsTrue (is_plain_label l)
  left_plain true x l h (inl e) = subst (λ (z : Label). IsTrue (is_plain_label z)) (sym e) h
  left_plain true x l h (inr i) = absurd i
  left_plain false x l h i = absurd i

  labels_plain : (labels : List Label) → ((l : Label) → IsIn l labels → IsTrue (is_plain_label l)) →
      (l : Label) → IsIn l (labels_without tag labels) → IsTrue (is_plain_label l)
  labels_plain labels h l i =
      let f : IsFlat (λ l. option_to_list (left_of_label tag l)) l labels =
      flat_in (λ l. option_to_list (left_of_label tag l)) l labels i in
      left_plain (has_side (label_without tag f.source)) (label_without tag f.source) l
      (label_plain f.source (h f.source f.listed)) f.there

-- each label of a walk is that of an edge
walk_plain : (m : Machine) → IsSection m → (s t : ℕ) (w : List Label) → Walk m.edges s w t →
    (l : Label) → IsIn l w → IsTrue (is_plain_label l)
walk_plain m sec s t w (ends e) l i = absurd i
walk_plain m sec s t w (goes {labels = labels} j e at from whole rest) l i =
    let k : IsIn l (e.label ∷ labels) = subst (λ (z : List Label). IsIn l z) whole i in
    elim k [
      | inl q ↦ subst (λ (z : Label). IsTrue (is_plain_label z)) (sym q)
          (sec.plain e (in_from_place m.edges j e at))
      | inr r ↦ walk_plain m sec e.to t labels rest l r
    ]

-- ---- sections

module _ (section made : Machine) (plain : IsPlainSection section made) where
  -- what is accepted comes from what the section accepts
  record ComesFrom (labels : List Label) : Type 0 where
    pub whole : List Label
    pub accepted : AcceptsLabels section whole
    pub free : holds left_tag (right_word whole) ≡ false
    pub left_is : labels ≡ labels_without right_tag whole

  comes_from : (labels : List Label) → AcceptsLabels made labels → ComesFrom labels
  comes_from labels a =
      let l : IsLeftOf (alone section) right_tag labels = (plain labels).0 a in
      let w : WalksAlone section.edges 0 l.whole l.accepted.last =
      to_whole section.edges 0 l.accepted.last l.whole l.accepted.walk in
      record {
        whole = l.whole;
        accepted = record { last = l.accepted.last; final = l.accepted.final; walk = w.walk };
        free = w.free;
        left_is = l.left_is;
      }

  comes_to : (labels : List Label) → ComesFrom labels → AcceptsLabels made labels
  comes_to labels c = (plain labels).1 (record {
    whole = c.whole;
    accepted = record {
      last = c.accepted.last;
      final = c.accepted.final;
      walk = from_whole section.edges 0 c.accepted.last c.whole c.accepted.walk c.free;
    };
    left_is = c.left_is;
  })

  -- the pair of words comes from one of the section
  pub record IsPlainPair (left right : List Symbol) : Type 0 where
    pub whole : List Symbol
    pub related : Spelled section left whole
    pub free : holds left_tag whole ≡ false
    pub right_is : right ≡ without right_tag whole

  pub pair_is : (left right : List Symbol) → Spelled made left right → IsPlainPair left right
  pair_is left right s =
      let c : ComesFrom s.labels = comes_from s.labels s.accepted in
      record {
        whole = right_word c.whole;
        related = record {
          labels = c.whole;
          accepted = c.accepted;
          left_is = sym (left_word_left right_tag c.whole) ∙ ap left_word (sym c.left_is) ∙ s.left_is;
          right_is = refl;
        };
        free = c.free;
        right_is = sym s.right_is ∙ ap right_word c.left_is ∙ right_word_left right_tag c.whole;
      }

  pub pair_of : (left right : List Symbol) → IsPlainPair left right → Spelled made left right
  pair_of left right p =
      let r : Spelled section left p.whole = p.related in
      record {
        labels = labels_without right_tag r.labels;
        accepted = comes_to (labels_without right_tag r.labels) (record {
          whole = r.labels;
          accepted = r.accepted;
          free = ap (holds left_tag) r.right_is ∙ p.free;
          left_is = refl;
        });
        left_is = left_word_left right_tag r.labels ∙ r.left_is;
        right_is = right_word_left right_tag r.labels ∙ ap (without right_tag) r.right_is
            ∙ sym p.right_is;
      }

  module _ (sec : IsSection section) (sound : IsMachine made) (trimmed : IsTrimmed made) where
    accepted_plain : (w : List Label) → AcceptsLabels made w → (l : Label) → IsIn l w →
        IsTrue (is_plain_label l)
    accepted_plain w a l i =
        let c : ComesFrom w = comes_from w a in
        labels_plain right_tag c.whole
        (λ l i. walk_plain section sec 0 c.accepted.last c.whole c.accepted.walk l i) l
        (subst (λ (z : List Label). IsIn l z) c.left_is i)

    reached : (s : ℕ) → s < made.states → IsReached made s
    reached zero lt = record { labels = []; walk = ends refl }
    reached (suc s) lt = trimmed.reached (suc s) (omega arith) lt

    -- an edge before an accepting walk
    edge_before : (e : Edge) (back : List Label) (last : ℕ) → IsIn e made.edges →
        IsIn last made.finals → Walk made.edges e.to back last → IsTrue (is_plain_label e.label)
    edge_before e back last listed final walk =
        let p : IsPlaced e made.edges = placed_in e made.edges listed in
        let r : IsReached made e.from = reached e.from ((sound.each e listed).from_in) in
        let step : Walk made.edges e.from (e.label ∷ back) last =
        goes p.place e p.at refl refl walk in
        accepted_plain (r.labels ++ e.label ∷ back) (record {
          last = last;
          final = final;
          walk = walk_then made.edges 0 e.from last r.labels
              (e.label ∷ back) r.walk step;
        }) e.label
        (in_back e.label r.labels (e.label ∷ back) (inl refl))

    none_in : (e : Edge) (edges : List Edge) → edges ≡ [] → IsIn e edges → ⊥
    none_in e edges q h = elim (subst (λ (xs : List Edge). IsIn e xs) q h) [ ]

    plain_edge : (e : Edge) → IsIn e made.edges → IsTrue (is_plain_label e.label)
    plain_edge e listed = elim (cases_eq e.to 0) [
      | inl z ↦ elim (cases_Bool (is_plain_label e.label)) [
        | inl t ↦ t
        | inr f ↦ absurd (none_in e made.edges ((trimmed.nothing (λ w a.
            true≢false (sym (edge_before e w a.last listed a.final
            (subst (λ (s : ℕ). Walk made.edges s w a.last) (sym z) a.walk)) ∙ f))).1) listed)
      ]
      | inr d ↦ let f : IsFinishing made e.to = trimmed.finishing e.to (omega (arith, d))
          ((sound.each e listed).to_in) in edge_before e f.labels f.last listed f.final
          f.walk
    ]

    bounded : HasBoundedRuns made
    bounded =
        let h : HasBoundedRuns section =
        (empty_cycle_runs section sec.sound sec.trimmed).0 sec.cycles in
        record {
          bound = h.bound;
          short = λ labels middle a r.
              let c : ComesFrom labels = comes_from labels a in
              let f : ComesFromRun right_tag c.whole middle = run_from right_tag c.whole middle
              (subst (λ (z : List Label). IsSilentRun z middle) c.left_is r) in
              let low : length f.run ≤ h.bound = h.short c.whole f.run c.accepted f.silent in
              let le : length middle ≤ length f.run = f.longer in
              omega arith;
        }

    pub section_plain : IsSection made
    section_plain = record {
      sound = sound;
      trimmed = trimmed;
      cycles = (empty_cycle_runs made sound trimmed).1 bounded;
      sides = λ e.
          let c : ComesFrom e.labels = comes_from e.labels e.accepted in
          sec.sides (record {
            labels = c.whole;
            accepted = c.accepted;
            empty = sym (left_word_left right_tag c.whole) ∙ ap left_word (sym c.left_is) ∙ e.empty;
          });
      plain = plain_edge;
    }

-- ---- the transducer without the edges that write the tag

ascends_filter : {X : Type 0} (cmp : X → X → Ordering) (p : X → Bool) (xs : List X) →
    Ascends cmp xs → Ascends cmp (filter p xs)
ascends_filter cmp p [] a = tt
ascends_filter {X} cmp p (x ∷ xs) a = elim (cases_Bool (p x)) [
  | inl t ↦ subst (λ (z : List X). Ascends cmp z) (sym (cond-true (p x) (x ∷ filter p xs)
      (filter p xs) t)) (λ y i. a.0 y (filter_in p y xs i).listed, ascends_filter cmp p xs a.1)
  | inr f ↦ subst (λ (z : List X). Ascends cmp z) (sym (cond-false (p x) (x ∷ filter p xs)
      (filter p xs) f)) (ascends_filter cmp p xs a.1)
]

pub alone_is_machine : (m : Machine) (states : ℕ) (edges : List Edge) (finals : List ℕ) →
    IsMachine m → states ≡ m.states → edges ≡ filter stays_alone m.edges → finals ≡ m.finals →
    IsMachine (record { states = states; edges = edges; finals = finals })
alone_is_machine m states edges finals sound s e f =
    subst (λ (z : ℕ). IsMachine (record { states = z; edges = edges; finals = finals })) (sym s)
    (subst (λ (z : List Edge). IsMachine (record { states = m.states; edges = z; finals = finals }))
    (sym e)
    (subst (λ (z : List ℕ). IsMachine (record {
      states = m.states;
      edges = filter stays_alone m.edges;
      finals = z;
    })) (sym f)
    (record {
      some = sound.some;
      edges_ascend = ascends_filter edge_cmp stays_alone m.edges sound.edges_ascend;
      finals_ascend = sound.finals_ascend;
      each = λ x i. sound.each x (filter_in stays_alone x m.edges i).listed;
      finals_in = sound.finals_in;
    })))

-- ---- dictionaries

-- a kind of sections, under the names of the definition
pub kind_plain : (p : Parts) (kind : Kind2) (section made : Machine) → section ≡ section_of p kind →
    IsPlainSection section made → (left right : List Symbol) →
    Spelled made left right ↔ IsPlain p kind left right
kind_plain p kind section made e plain left right = (
  λ s. let r : IsPlainPair section made plain left right = pair_is section made plain left right s in
      record {
        whole = r.whole;
        related = subst (λ (z : Machine). Spelled z left r.whole) e r.related;
        alone = r.free;
        right_is = r.right_is;
      },
  λ h. pair_of section made plain left right (record {
    whole = h.whole;
    related = subst (λ (z : Machine). Spelled z left h.whole) (sym e) h.related;
    free = h.alone;
    right_is = h.right_is;
  }),
)

pub all_kinds : (P : Kind2 → Type 0) → P Standard → P Inconditional → P Postblank → P Preblank →
    (kind : Kind2) → P kind
all_kinds P a b c d Standard = a
all_kinds P a b c d Inconditional = b
all_kinds P a b c d Postblank = c
all_kinds P a b c d Preblank = d

-- step by step: without the edges, without the tag, without empty moves, and trimmed
pub plain_by : (section fst : Machine) (tag : List ℕ) (draft : Sketch) (loose made : Machine) →
    fst ≡ alone section → tag ≡ right_tag →
    ((labels : List Label) → Accepts draft labels ↔ IsLeftOf fst tag labels) →
    ((labels : List Label) → AcceptsLabels loose labels ↔ Accepts draft labels) →
    ((labels : List Label) → AcceptsLabels made labels ↔ AcceptsLabels loose labels) →
    IsPlainSection section made
plain_by section fst tag draft loose made e t left whole same labels =
    subst (λ (z : Machine). AcceptsLabels made labels ↔ IsLeftOf z right_tag labels) e
    (subst (λ (z : List ℕ). AcceptsLabels made labels ↔ IsLeftOf fst z labels) t (
      λ a. (left labels).0 ((whole labels).0 ((same labels).0 a)),
      λ l. (same labels).1 ((whole labels).1 ((left labels).1 l)),
    ))
