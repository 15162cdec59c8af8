use Rattle.std.proofs.Common.{◌≡◌, inl, inr, ℕ, ◌+◌, ◌<◌, List, [], ◌∷◌, ◌++◌, refl, sym, ◌∙◌, ap, subst, append_assoc, arith, Some, None}
use Rattle.std.specs.Prelude.{◌↔◌, IsTrue}
use Rattle.std.specs.Option.{option_to_list}
use Rattle.ap_fst.specs.Lists.{IsIn}
use Rattle.ap_fst.specs.Sketches.{Sketch, IsWithin, IsSketch}
use Rattle.ap_fst.specs.Paths.{Path, here, on, IsOptional, IsMoreThanNone, Repeats, done, more}
use Rattle.ap_fst.specs.declared.draft.Move.{Move}
use Rattle.ap_fst.specs.declared.label.Label.{Label}
use Rattle.ap_fst.specs.Sides.{has_side}
use Rattle.ap_fst.proofs.Listing.{in_front, in_back, in_either}
use Rattle.ap_fst.proofs.Gluing.{path_in_more, path_then, one_of}

abbrev pub quiet : ℕ → ℕ → Move
quiet s t = record { from = s; label = None; to = t }

-- the four moves of a star: in, again, out, and past
abbrev pub star_moves : Sketch → List Move
star_moves a = quiet a.states a.start ∷ quiet a.finish a.start ∷ quiet a.finish (a.states + 1)
    ∷ quiet a.states (a.states + 1) ∷ []

abbrev pub all_moves : Sketch → List Move
all_moves a = a.moves ++ star_moves a

-- which of the four
data IsStarMove (a : Sketch) (m : Move) : Type 0 where
  enters : m ≡ quiet a.states a.start → IsStarMove a m
  again : m ≡ quiet a.finish a.start → IsStarMove a m
  leaves : m ≡ quiet a.finish (a.states + 1) → IsStarMove a m
  past : m ≡ quiet a.states (a.states + 1) → IsStarMove a m

which : (a : Sketch) (m : Move) → IsIn m (star_moves a) → IsStarMove a m
which a m (inl e) = enters e
which a m (inr (inl e)) = again e
which a m (inr (inr (inl e))) = leaves e
which a m (inr (inr (inr (inl e)))) = past e
which a m (inr (inr (inr (inr h)))) = elim h [ ]

-- what an empty move adds
none_of : (m : Move) (s t : ℕ) (w labels : List Label) → m ≡ quiet s t → w ≡ option_to_list m.label
    ++ labels → w ≡ labels
none_of m s t w labels e h = h ∙ ap (λ (z : Move). option_to_list z.label ++ labels) e

not_from : (a : Sketch) (m : Move) (s : ℕ) → IsSketch a → s ≡ a.states + 1 → s ≡ m.from →
    IsStarMove a m → ⊥
not_from a m s ok z q (enters e) = let f : m.from ≡ a.states = ap (λ (x : Move). x.from) e in
    absurd (omega arith)
not_from a m s ok z q (again e) = let f : m.from ≡ a.finish = ap (λ (x : Move). x.from) e in
    let g : a.finish < a.states = ok.finish_in in absurd (omega arith)
not_from a m s ok z q (leaves e) = let f : m.from ≡ a.finish = ap (λ (x : Move). x.from) e in
    let g : a.finish < a.states = ok.finish_in in absurd (omega arith)
not_from a m s ok z q (past e) = let f : m.from ≡ a.states = ap (λ (x : Move). x.from) e in
    absurd (omega arith)

-- no move leaves the new end
at_end : (a : Sketch) (s t : ℕ) (w : List Label) → IsSketch a → s ≡ a.states + 1 →
    Path (all_moves a) s w t → w ≡ []
at_end a s t w ok z (here e) = refl
at_end a s t w ok z (on m listed q whole rest) =
    elim (in_either m a.moves (star_moves a) listed) [
      | inl k ↦ let h : m.from < a.states = (ok.each m k).from_in in absurd (omega arith)
      | inr k ↦ absurd (not_from a m s ok z q (which a m k))
    ]

-- to the draft's end, and then any number of its strings
record IsRound (a : Sketch) (s : ℕ) (w : List Label) : Type 0 where
  front : List Label
  back : List Label
  whole : w ≡ front ++ back
  first : Path a.moves s front a.finish
  repeats : Repeats a back

round : (a : Sketch) (s t : ℕ) (w : List Label) → IsSketch a → t ≡ a.states + 1 → s < a.states →
    Path (all_moves a) s w t → IsRound a s w
round a s t w ok z lt (here e) = absurd (omega arith)
round a s t w ok z lt (on {labels = labels} m listed q whole rest) =
    elim (in_either m a.moves (star_moves a) listed) [
      | inl k ↦
          let r : IsRound a m.to labels = round a m.to t labels ok z (ok.each m k).to_in rest in
          record {
            front = option_to_list m.label ++ r.front;
            back = r.back;
            whole = whole ∙ ap (λ x. option_to_list m.label ++ x) r.whole
                ∙ sym (append_assoc (option_to_list m.label) r.front r.back);
            first = on m k q refl r.first;
            repeats = r.repeats;
          }
      | inr k ↦ elim (which a m k) [
        | enters e ↦ let f : m.from ≡ a.states = ap (λ (x : Move). x.from) e in absurd (omega arith)
        | past e ↦ let f : m.from ≡ a.states = ap (λ (x : Move). x.from) e in absurd (omega arith)
        | again e ↦
            let to : m.to ≡ a.start = ap (λ (x : Move). x.to) e in
            let lt' : m.to < a.states = subst (λ (x : ℕ). x < a.states) (sym to) ok.start_in in
            let r : IsRound a m.to labels = round a m.to t labels ok z lt' rest in
            record {
              front = [];
              back = w;
              whole = refl;
              first = here (q ∙ ap (λ (x : Move). x.from) e);
              repeats = more r.front r.back (none_of m a.finish a.start w labels e whole ∙ r.whole)
                  (subst (λ (x : ℕ). Path a.moves x r.front a.finish) to r.first) r.repeats;
            }
        | leaves e ↦
            let to : m.to ≡ a.states + 1 = ap (λ (x : Move). x.to) e in
            let over : w ≡ [] = none_of m a.finish (a.states + 1) w labels e whole
            ∙ at_end a m.to t labels ok to rest in
            record {
              front = [];
              back = w;
              whole = refl;
              first =
                  here (q ∙ ap (λ (x : Move). x.from) e);
              repeats =
                  subst (λ (x : List Label). Repeats a x) (sym over) done;
            }
      ]
    ]

pub repeats_from_path : (a : Sketch) (s t : ℕ) (w : List Label) → IsSketch a → s ≡ a.states →
    t ≡ a.states + 1 → Path (all_moves a) s w t → Repeats a w
repeats_from_path a s t w ok y z (here e) = absurd (omega arith)
repeats_from_path a s t w ok y z (on {labels = labels} m listed q whole rest) =
    elim (in_either m a.moves (star_moves a) listed) [
      | inl k ↦ let h : m.from < a.states = (ok.each m k).from_in in absurd (omega arith)
      | inr k ↦ elim (which a m k) [
        | enters e ↦
            let to : m.to ≡ a.start = ap (λ (x : Move). x.to) e in
            let r : IsRound a m.to labels =
            round a m.to t labels ok z
            (subst (λ (x : ℕ). x < a.states) (sym to) ok.start_in) rest in
            more r.front r.back (none_of m a.states a.start w labels e whole ∙ r.whole)
            (subst (λ (x : ℕ). Path a.moves x r.front a.finish) to r.first) r.repeats
        | past e ↦
            let to : m.to ≡ a.states + 1 = ap (λ (x : Move). x.to) e in
            let over : w ≡ [] = none_of m a.states (a.states + 1) w labels e whole
            ∙ at_end a m.to t labels ok to rest in
            subst (λ (x : List Label). Repeats a x) (sym over) done
        | again e ↦ let f : m.from ≡ a.finish = ap (λ (x : Move). x.from) e in
            let g : a.finish < a.states = ok.finish_in in absurd (omega arith)
        | leaves e ↦ let f : m.from ≡ a.finish = ap (λ (x : Move). x.from) e in
            let g : a.finish < a.states = ok.finish_in in absurd (omega arith)
      ]
    ]

star_in : (a : Sketch) (m : Move) → IsIn m (star_moves a) → IsIn m (all_moves a)
star_in a m h = in_back m a.moves (star_moves a) h

-- from the draft's end on
onwards : (a : Sketch) (w : List Label) → Repeats a w → Path (all_moves a) a.finish w (a.states + 1)
onwards a w done = on (quiet a.finish (a.states + 1))
    (star_in a (quiet a.finish (a.states + 1)) (inr (inr (inl refl)))) refl refl (here refl)
onwards a w (more front back whole first rest) =
    on (quiet a.finish a.start) (star_in a (quiet a.finish a.start) (inr (inl refl))) refl whole
    (path_then (all_moves a) a.start a.finish (a.states + 1) front back
    (path_in_more a.moves (all_moves a) a.start a.finish front
    (λ m k. in_front m a.moves (star_moves a) k) first) (onwards a back rest))

pub path_from_repeats : (a : Sketch) (w : List Label) → Repeats a w →
    Path (all_moves a) a.states w (a.states + 1)
path_from_repeats a w done =
    on (quiet a.states (a.states + 1))
    (star_in a (quiet a.states (a.states + 1)) (inr (inr (inr (inl refl))))) refl refl (here refl)
path_from_repeats a w (more front back whole first rest) =
    on (quiet a.states a.start) (star_in a (quiet a.states a.start) (inl refl)) refl whole
    (path_then (all_moves a) a.start a.finish (a.states + 1) front back
    (path_in_more a.moves (all_moves a) a.start a.finish front
    (λ m k. in_front m a.moves (star_moves a) k) first) (onwards a back rest))

star_within : (a : Sketch) (m : Move) → IsSketch a → IsStarMove a m →
    IsWithin (a.states + 2) a.states (a.states + 1) m
star_within a m ok (enters e) = let g : a.start < a.states = ok.start_in in
    let f : m.from ≡ a.states = ap (λ (x : Move). x.from) e in let h : m.to ≡ a.start =
    ap (λ (x : Move). x.to) e in
    record {
      from_in = omega arith;
      to_in = omega arith;
      leaves = λ q. absurd (omega arith);
      enters = λ q. absurd (omega arith);
    }
star_within a m ok (again e) = let g : a.start < a.states = ok.start_in in
    let k : a.finish < a.states = ok.finish_in in let f : m.from ≡ a.finish =
    ap (λ (x : Move). x.from) e in let h : m.to ≡ a.start = ap (λ (x : Move). x.to) e in
    record {
      from_in = omega arith;
      to_in = omega arith;
      leaves = λ q. absurd (omega arith);
      enters = λ q. absurd (omega arith);
    }
star_within a m ok (leaves e) = let k : a.finish < a.states = ok.finish_in in
    let f : m.from ≡ a.finish = ap (λ (x : Move). x.from) e in let h : m.to ≡ a.states + 1 =
    ap (λ (x : Move). x.to) e in
    record {
      from_in = omega arith;
      to_in = omega arith;
      leaves = λ q. absurd (omega arith);
      enters = λ q. absurd (omega arith);
    }
star_within a m ok (past e) = let f : m.from ≡ a.states = ap (λ (x : Move). x.from) e in
    let h : m.to ≡ a.states + 1 = ap (λ (x : Move). x.to) e in
    record {
      from_in = omega arith;
      to_in = omega arith;
      leaves = λ q. absurd (omega arith);
      enters = λ q. absurd (omega arith);
    }

star_each : (a : Sketch) (m : Move) → IsSketch a → IsIn m (all_moves a) →
    IsWithin (a.states + 2) a.states (a.states + 1) m
star_each a m ok i =
    elim (in_either m a.moves (star_moves a) i) [
      | inl k ↦ let w : IsWithin a.states a.start a.finish m = ok.each m k in
          let x : m.from < a.states = w.from_in in let y : m.to < a.states = w.to_in in
          record {
            from_in = omega arith;
            to_in = omega arith;
            leaves = λ q. absurd (omega arith);
            enters = λ q. absurd (omega arith);
          }
      | inr k ↦ star_within a m ok (which a m k)
    ]

quiet_sided : (m : Move) (s t : ℕ) (l : Label) → m ≡ quiet s t → m.label ≡ Some l →
    IsTrue (has_side l)
quiet_sided m s t l e b = let f : m.label ≡ None = ap (λ (x : Move). x.label) e in let none : ⊥ = cc
    in absurd none

star_move_sided : (a : Sketch) (m : Move) (l : Label) → IsStarMove a m → m.label ≡ Some l →
    IsTrue (has_side l)
star_move_sided a m l (enters e) b = quiet_sided m a.states a.start l e b
star_move_sided a m l (again e) b = quiet_sided m a.finish a.start l e b
star_move_sided a m l (leaves e) b = quiet_sided m a.finish (a.states + 1) l e b
star_move_sided a m l (past e) b = quiet_sided m a.states (a.states + 1) l e b

star_sided : (a : Sketch) (m : Move) (l : Label) → IsSketch a → IsIn m (all_moves a) →
    m.label ≡ Some l → IsTrue (has_side l)
star_sided a m l ok i b =
    elim (in_either m a.moves (star_moves a) i) [
      | inl k ↦ ok.sided m l k b
      | inr k ↦ star_move_sided a m l (which a m k) b
    ]

pub star_is_sketch : (a : Sketch) (moves : List Move) → IsSketch a → moves ≡ all_moves a →
    IsSketch (record {
      states = a.states + 2;
      start = a.states;
      finish =
          a.states + 1;
      moves = moves;
    })
star_is_sketch a moves ok e = record {
  start_in = omega arith;
  finish_in = omega arith;
  apart = λ q. absurd (omega arith);
  each = λ m i. star_each a m ok (subst (λ (z : List Move). IsIn m z) e i);
  sided = λ m l i b. star_sided a m l ok (subst (λ (z : List Move). IsIn m z) e i) b;
}

pub star_law : (a x : Sketch) (moves : List Move) → IsSketch a → moves ≡ all_moves a → a ≡ x →
    (w : List Label) → Path moves a.states w (a.states + 1) ↔ Repeats x w
star_law a x moves ok e f w =
    let P : Sketch → Type 0 = λ v. Path moves a.states w (a.states + 1) ↔ Repeats v w in
    let Q : List Move → Type 0 = λ v. Path v a.states w (a.states + 1) ↔ Repeats a w in
    subst P f (subst Q (sym e) (
      repeats_from_path a a.states (a.states + 1) w ok refl refl,
      path_from_repeats a w,
    ))

pub four_pushed : (a : Sketch) (m0 m1 m2 m3 m4 : List Move) → m0 ≡ a.moves →
    m1 ≡ m0 ++ quiet a.states a.start ∷ [] → m2 ≡ m1 ++ quiet a.finish a.start ∷ [] →
    m3 ≡ m2 ++ quiet a.finish (a.states + 1) ∷ [] → m4 ≡ m3 ++ quiet a.states (a.states + 1) ∷ [] →
    m4 ≡ all_moves a
four_pushed a m0 m1 m2 m3 m4 e0 e1 e2 e3 e4 =
    let one : m1 ≡ a.moves ++ quiet a.states a.start ∷ [] =
    e1 ∙ ap (λ z. z ++ quiet a.states a.start ∷ []) e0 in
    let two : m2 ≡ a.moves ++ (quiet a.states a.start ∷ quiet a.finish a.start ∷ []) =
    e2 ∙ ap (λ z. z ++ quiet a.finish a.start ∷ []) one
    ∙ append_assoc a.moves (quiet a.states a.start ∷ []) (quiet a.finish a.start ∷ []) in
    let three : m3 ≡ a.moves
    ++ (quiet a.states a.start ∷ quiet a.finish a.start ∷ quiet a.finish (a.states + 1) ∷ []) =
    e3 ∙ ap (λ z. z ++ quiet a.finish (a.states + 1) ∷ []) two
    ∙ append_assoc a.moves (quiet a.states a.start ∷ quiet a.finish a.start ∷ [])
    (quiet a.finish (a.states + 1) ∷ []) in
    e4 ∙ ap (λ z. z ++ quiet a.states (a.states + 1) ∷ []) three
    ∙ append_assoc a.moves (quiet a.states a.start ∷ quiet a.finish a.start
    ∷ quiet a.finish (a.states + 1) ∷ []) (quiet a.states (a.states + 1) ∷ [])

-- the move past a draft
abbrev pub past_moves : Sketch → List Move
past_moves a = quiet a.start a.finish ∷ []

only_past : (a : Sketch) (m : Move) → IsIn m (past_moves a) → m ≡ quiet a.start a.finish
only_past a m (inl e) = e
only_past a m (inr h) = elim h [ ]

past_each : (a : Sketch) (m : Move) → IsSketch a → m ≡ quiet a.start a.finish →
    IsWithin a.states a.start a.finish m
past_each a m ok e =
    let P : Move → Type 0 = λ x. IsWithin a.states a.start a.finish x in
    let q : IsWithin a.states a.start a.finish (quiet a.start a.finish) =
    record {
      from_in = ok.start_in;
      to_in = ok.finish_in;
      leaves = ok.apart;
      enters =
          λ h. ok.apart (sym h);
    } in
    subst P (sym e) q

pub opt_is_sketch : (a : Sketch) (moves : List Move) → IsSketch a → moves ≡ a.moves ++ past_moves a
    → IsSketch (record { states = a.states; start = a.start; finish = a.finish; moves = moves })
opt_is_sketch a moves ok e = record {
  start_in = ok.start_in;
  finish_in = ok.finish_in;
  apart = ok.apart;
  each = λ m i. elim (in_either m a.moves (past_moves a) (subst (λ (z : List Move). IsIn m z) e i))
      [ inl k ↦ ok.each m k | inr k ↦ past_each a m ok (only_past a m k) ];
  sided = λ m l i b. elim (in_either m a.moves (past_moves a)
      (subst (λ (z : List Move). IsIn m z) e i)) [
        | inl k ↦ ok.sided m l k b
        | inr k ↦
            quiet_sided m a.start a.finish l (only_past a m k) b
      ];
}

past_ends : (a : Sketch) (s : ℕ) (w : List Label) → IsSketch a → s ≡ a.finish →
    Path (past_moves a) s w a.finish → w ≡ []
past_ends a s w ok z (here e) = refl
past_ends a s w ok z (on m listed q whole rest) =
    let f : m.from ≡ a.start = ap (λ (x : Move). x.from) (only_past a m listed) in
    absurd (ok.apart (sym f ∙ sym q ∙ z))

past_empty : (a : Sketch) (w : List Label) → IsSketch a →
    Path (past_moves a) a.start w a.finish → w ≡ []
past_empty a w ok (here e) = refl
past_empty a w ok (on {labels = labels} m listed q whole rest) =
    let e : m ≡ quiet a.start a.finish = only_past a m listed in
    none_of m a.start a.finish w labels e whole
    ∙ past_ends a m.to labels ok (ap (λ (x : Move). x.to) e) rest

opt_from_path : (a : Sketch) (w : List Label) → IsSketch a →
    Path (a.moves ++ past_moves a) a.start w a.finish → IsOptional a w
opt_from_path a w ok p =
    elim (one_of a.states a.start a.finish a.moves (past_moves a) w ok.each
    (λ m i. inr (ap (λ (x : Move). x.to) (only_past a m i)))
    (λ m i. inr (ap (λ (x : Move). x.from) (only_past a m i))) p) [
      | inl k ↦ inr k
      | inr k ↦ inl (past_empty a w ok k)
    ]

path_from_opt : (a : Sketch) (w : List Label) → IsOptional a w →
    Path (a.moves ++ past_moves a) a.start w a.finish
path_from_opt a w (inl e) =
    let P : List Label → Type 0 = λ x. Path (a.moves ++ past_moves a) a.start x a.finish in
    subst P (sym e) (on (quiet a.start a.finish)
    (in_back (quiet a.start a.finish) a.moves (past_moves a) (inl refl)) refl refl (here refl))
path_from_opt a w (inr p) =
    path_in_more a.moves (a.moves ++ past_moves a) a.start a.finish w
    (λ m k. in_front m a.moves (past_moves a) k) p

pub opt_law : (a x : Sketch) (moves : List Move) → IsSketch a → moves ≡ a.moves ++ past_moves a →
    a ≡ x → (w : List Label) → Path moves a.start w a.finish ↔ IsOptional x w
opt_law a x moves ok e f w =
    let P : Sketch → Type 0 = λ v. Path moves a.start w a.finish ↔ IsOptional v w in
    let Q : List Move → Type 0 = λ v. Path v a.start w a.finish ↔ IsOptional a w in
    subst P f (subst Q (sym e) (opt_from_path a w ok, path_from_opt a w))

-- the three moves of a plus: in, again and out
abbrev pub plus_moves : Sketch → List Move
plus_moves a = quiet a.states a.start ∷ quiet a.finish a.start ∷ quiet a.finish (a.states + 1) ∷ []

abbrev pub more_moves : Sketch → List Move
more_moves a = a.moves ++ plus_moves a

plus_in_star : (a : Sketch) (m : Move) → IsIn m (plus_moves a) → IsIn m (star_moves a)
plus_in_star a m (inl e) = inl e
plus_in_star a m (inr (inl e)) = inr (inl e)
plus_in_star a m (inr (inr (inl e))) = inr (inr (inl e))
plus_in_star a m (inr (inr (inr h))) = elim h [ ]

more_in_all : (a : Sketch) (m : Move) → IsIn m (more_moves a) → IsIn m (all_moves a)
more_in_all a m i = elim (in_either m a.moves (plus_moves a) i) [
  | inl k ↦ in_front m a.moves (star_moves a) k
  | inr k ↦ in_back m a.moves (star_moves a) (plus_in_star a m k)
]

not_past : (a : Sketch) (m : Move) → IsSketch a → IsIn m (plus_moves a) → a.states ≡ m.from →
    m ≡ quiet a.states a.start
not_past a m ok (inl e) q = e
not_past a m ok (inr (inl e)) q = let f : m.from ≡ a.finish = ap (λ (x : Move). x.from) e in
    let g : a.finish < a.states = ok.finish_in in absurd (omega arith)
not_past a m ok (inr (inr (inl e))) q = let f : m.from ≡ a.finish = ap (λ (x : Move). x.from) e in
    let g : a.finish < a.states = ok.finish_in in absurd (omega arith)
not_past a m ok (inr (inr (inr h))) q = elim h [ ]

more_from_path : (a : Sketch) (s t : ℕ) (w : List Label) → IsSketch a → s ≡ a.states →
    t ≡ a.states + 1 → Path (more_moves a) s w t → IsMoreThanNone a w
more_from_path a s t w ok y z (here e) = absurd (omega arith)
more_from_path a s t w ok y z (on {labels = labels} m listed q whole rest) =
    elim (in_either m a.moves (plus_moves a) listed) [
      | inl k ↦ let h : m.from < a.states = (ok.each m k).from_in in absurd (omega arith)
      | inr k ↦
          let e : m ≡ quiet a.states a.start = not_past a m ok k (sym y ∙ q) in
          let to : m.to ≡ a.start = ap (λ (x : Move). x.to) e in
          let r : IsRound a m.to labels =
          round a m.to t labels ok z (subst (λ (x : ℕ). x < a.states) (sym to) ok.start_in)
          (path_in_more (more_moves a) (all_moves a) m.to t labels (more_in_all a) rest) in
          record {
            front = r.front;
            back = r.back;
            whole = none_of m a.states a.start w labels e whole ∙ r.whole;
            first = subst (λ (x : ℕ). Path a.moves x r.front a.finish) to r.first;
            repeats = r.repeats;
          }
    ]

plus_on : (a : Sketch) (m : Move) → IsIn m (plus_moves a) → IsIn m (more_moves a)
plus_on a m h = in_back m a.moves (plus_moves a) h

-- from the draft's end on
more_onwards : (a : Sketch) (w : List Label) → Repeats a w →
    Path (more_moves a) a.finish w (a.states + 1)
more_onwards a w done = on (quiet a.finish (a.states + 1))
    (plus_on a (quiet a.finish (a.states + 1)) (inr (inr (inl refl)))) refl refl (here refl)
more_onwards a w (more front back whole first rest) =
    on (quiet a.finish a.start) (plus_on a (quiet a.finish a.start) (inr (inl refl))) refl whole
    (path_then (more_moves a) a.start a.finish (a.states + 1) front back
    (path_in_more a.moves (more_moves a) a.start a.finish front
    (λ m k. in_front m a.moves (plus_moves a) k) first) (more_onwards a back rest))

path_from_more : (a : Sketch) (w : List Label) → IsMoreThanNone a w →
    Path (more_moves a) a.states w (a.states + 1)
path_from_more a w h =
    on (quiet a.states a.start) (plus_on a (quiet a.states a.start) (inl refl)) refl h.whole
    (path_then (more_moves a) a.start a.finish (a.states + 1) h.front h.back
    (path_in_more a.moves (more_moves a) a.start a.finish h.front
    (λ m k. in_front m a.moves (plus_moves a) k) h.first) (more_onwards a h.back h.repeats))

pub plus_is_sketch : (a : Sketch) (moves : List Move) → IsSketch a → moves ≡ more_moves a →
    IsSketch (record {
      states = a.states + 2;
      start = a.states;
      finish =
          a.states + 1;
      moves = moves;
    })
plus_is_sketch a moves ok e = record {
  start_in = omega arith;
  finish_in = omega arith;
  apart = λ q. absurd (omega arith);
  each = λ m i. star_each a m ok (more_in_all a m (subst (λ (z : List Move). IsIn m z) e i));
  sided = λ m l i b. star_sided a m l ok
      (more_in_all a m (subst (λ (z : List Move). IsIn m z) e i)) b;
}

pub plus_law : (a x : Sketch) (moves : List Move) → IsSketch a → moves ≡ more_moves a → a ≡ x →
    (w : List Label) → Path moves a.states w (a.states + 1) ↔ IsMoreThanNone x w
plus_law a x moves ok e f w =
    let P : Sketch → Type 0 = λ v. Path moves a.states w (a.states + 1) ↔ IsMoreThanNone v w in
    let Q : List Move → Type 0 = λ v. Path v a.states w (a.states + 1) ↔ IsMoreThanNone a w in
    subst P f (subst Q (sym e) (
      more_from_path a a.states (a.states + 1) w ok refl refl,
      path_from_more a w,
    ))

pub three_pushed : (a : Sketch) (m0 m1 m2 m3 : List Move) → m0 ≡ a.moves →
    m1 ≡ m0 ++ quiet a.states a.start ∷ [] → m2 ≡ m1 ++ quiet a.finish a.start ∷ [] →
    m3 ≡ m2 ++ quiet a.finish (a.states + 1) ∷ [] → m3 ≡ more_moves a
three_pushed a m0 m1 m2 m3 e0 e1 e2 e3 =
    let one : m1 ≡ a.moves ++ quiet a.states a.start ∷ [] =
    e1 ∙ ap (λ z. z ++ quiet a.states a.start ∷ []) e0 in
    let two : m2 ≡ a.moves ++ (quiet a.states a.start ∷ quiet a.finish a.start ∷ []) =
    e2 ∙ ap (λ z. z ++ quiet a.finish a.start ∷ []) one
    ∙ append_assoc a.moves (quiet a.states a.start ∷ []) (quiet a.finish a.start ∷ []) in
    e3 ∙ ap (λ z. z ++ quiet a.finish (a.states + 1) ∷ []) two
    ∙ append_assoc a.moves (quiet a.states a.start ∷ quiet a.finish a.start ∷ [])
    (quiet a.finish (a.states + 1) ∷ [])
