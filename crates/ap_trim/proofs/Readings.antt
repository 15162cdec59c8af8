-- What a transducer reads, one symbol after another.
use Rattle.std.proofs.Common.{◌≡◌, inl, inr, ◌⊎◌, ℕ, true, false, List, [], ◌∷◌, ◌++◌, refl, sym, ◌∙◌, ap, subst, append_assoc, append-nil, Option, Some, None}
use Rattle.std.specs.Prelude.{◌↔◌, slice_get}
use Rattle.std.specs.Option.{option_to_list}
use Rattle.std.proofs.lemmas.Bool.{and_parts, and_from}
use Rattle.ap_symbol.specs.Fitting.{fits_lem, lists_fit}
use Rattle.ap_symbol.specs.declared.symbol.Symbol.{Symbol}
use Rattle.ap_fst.specs.Lists.{IsIn}
use Rattle.ap_fst.specs.Machines.{Machine}
use Rattle.ap_fst.specs.Sides.{left_word}
use Rattle.ap_fst.specs.Walks.{Walk, ends, goes}
use Rattle.ap_fst.specs.declared.label.Label.{Label}
use Rattle.ap_fst.specs.declared.label.Edge.{Edge}
use Rattle.ap_fst.proofs.Listing.{in_from_place}
use Rattle.ap_fst.proofs.SilenceLaws.{left_word_then}
use Rattle.ap_fst.proofs.WalkLaws.{walk_edge}
use Rattle.ap_det.specs.Subsets.{HoldsFinal}
use Rattle.ap_trim.specs.Reading.{Reads, ReadsWhole, AreRead, LeavesBy, FitsFrom, FitsTo, Quietly, given, onward}

fit_snoc : (left word : List Symbol) (y x : Symbol) → lists_fit false left word ≡ true →
    fits_lem false y x ≡ true → lists_fit false (left ++ y ∷ []) (word ++ x ∷ []) ≡ true
fit_snoc [] [] y x h f = and_from (fits_lem false y x) true f refl
fit_snoc [] (z ∷ word) y x h f = cc
fit_snoc (l ∷ left) [] y x h f = cc
fit_snoc (l ∷ left) (z ∷ word) y x h f =
    let both = and_parts (fits_lem false l z) (lists_fit false left word) h in
    and_from (fits_lem false l z) (lists_fit false (left ++ y ∷ []) (word ++ x ∷ [])) both.0
    (fit_snoc left word y x both.1 f)

side_cases : (o : Option Symbol) → (o ≡ None) ⊎ ((y : Symbol) × (o ≡ Some y))
side_cases None = inl refl
side_cases (Some y) = inr (y, refl)

quiet_first : (o : Option Symbol) (left : List Symbol) →
    lists_fit false (option_to_list o ++ left) [] ≡ true → (o ≡ None) ×
    (lists_fit false left [] ≡ true)
quiet_first None left h = (refl, h)
quiet_first (Some x) left h = cc

module _ (m : Machine) where
  walk_on : (labels : List Label) (s t : ℕ) (left : Option Symbol) (l : LeavesBy m s left t) →
      Walk m.edges 0 labels s → Walk m.edges 0 (labels ++ l.edge.label ∷ []) t
  walk_on labels s t left l w =
      subst (λ (z : ℕ). Walk m.edges 0 (labels ++ l.edge.label ∷ []) z) (sym l.to_is)
      (walk_edge m.edges 0 labels l.edge l.listed (subst (λ (z : ℕ). Walk m.edges 0 labels z)
      (sym l.from_is) w))

  word_on : (labels : List Label) (s t : ℕ) (left : Option Symbol) (l : LeavesBy m s left t) →
      left_word (labels ++ l.edge.label ∷ []) ≡ left_word labels ++ option_to_list left
  word_on labels s t left l =
      left_word_then labels (l.edge.label ∷ []) ∙ ap (λ (o : Option Symbol). left_word labels ++
      (option_to_list o ++ [])) l.left_is
      ∙ ap (λ (z : List Symbol). left_word labels ++ z) (append-nil (option_to_list left))

  reads_fit : (word : List Symbol) (x : Symbol) (s t : ℕ) → FitsFrom m x s t → Reads m word s →
      Reads m (word ++ x ∷ []) t
  reads_fit word x s t f r = record {
    labels = r.labels ++ f.leaves.edge.label ∷ [];
    walk = walk_on r.labels s t (Some f.side) f.leaves r.walk;
    fit = subst (λ (z : List Symbol). lists_fit false z (word ++ x ∷ []) ≡ true)
        (sym (word_on r.labels s t (Some f.side) f.leaves))
        (fit_snoc (left_word r.labels) word f.side x r.fit f.fit);
  }

  reads_quiet : (word : List Symbol) (s t : ℕ) → LeavesBy m s None t → Reads m word s →
      Reads m word t
  reads_quiet word s t l r = record {
    labels = r.labels ++ l.edge.label ∷ [];
    walk = walk_on r.labels s t None l r.walk;
    fit = subst (λ (z : List Symbol). lists_fit false z word ≡ true)
        (sym (word_on r.labels s t None l ∙ append-nil (left_word r.labels))) r.fit;
  }

  quietly_reads : (set : List ℕ) (word : List Symbol) → ((s : ℕ) → IsIn s set → Reads m word s) →
      (t : ℕ) → Quietly m set t → Reads m word t
  quietly_reads set word h t (given i) = h t i
  quietly_reads set word h t (onward before q l) = reads_quiet word before t l
      (quietly_reads set word h before q)

  leaves : (s j : ℕ) (e : Edge) (left : Option Symbol) → slice_get m.edges j ≡ Some e → s ≡ e.from →
      e.label.left ≡ left → LeavesBy m s left e.to
  leaves s j e left at from is = record {
    edge = e;
    listed = in_from_place m.edges j e at;
    from_is =
        sym from;
    left_is = is;
    to_is = refl;
  }

  -- what a walk without symbols reaches
  after : (set : List ℕ) (s t : ℕ) (w : List Label) → Quietly m set s → Walk m.edges s w t →
      lists_fit false (left_word w) [] ≡ true → Quietly m set t
  after set s t w q (ends e) h = subst (λ (z : ℕ). Quietly m set z) e q
  after set s t w q (goes {labels = labels} j e at from whole rest) h =
      let none = quiet_first e.label.left (left_word labels)
      (subst (λ (z : List Label). lists_fit false (left_word z) [] ≡ true) whole h) in
      after set e.to t labels (onward s q (leaves s j e None at from none.0)) rest none.1

  empty_read : Reads m [] 0
  empty_read = record { labels = []; walk = ends refl; fit = refl }

  start_read : (s : ℕ) → IsIn s (0 ∷ []) → Reads m [] s
  start_read s (inl e) = subst (λ (z : ℕ). Reads m [] z) (sym e) empty_read
  start_read s (inr none) = elim none [ ]

  pub reads_start : (out : List ℕ) → ((s : ℕ) → IsIn s out ↔ Quietly m (0 ∷ []) s) →
      AreRead m [] out
  reads_start out h = λ t. (
    λ i. quietly_reads (0 ∷ []) [] start_read t ((h t).0 i),
    λ r. (h t).1 (after (0 ∷ []) 0 t r.labels (given (inl refl)) r.walk r.fit),
  )

  module _ (word : List Symbol) (x : Symbol) (set seeds : List ℕ) (read : AreRead m word set)
      (targets : (t : ℕ) → IsIn t seeds ↔ FitsTo m set x t) where
    -- a walk that has read the word so far comes through the seeds
    until : (s t : ℕ) (w : List Label) (done rest : List Symbol) → word ≡ done ++ rest →
        Reads m done s → Walk m.edges s w t → lists_fit false (left_word w) (rest ++ x ∷ []) ≡
        true → Quietly m seeds t
    until s t w done [] e r (ends q) h = cc
    until s t w done (z ∷ rest) e r (ends q) h = cc
    until s t w done [] e r (goes {labels = labels} j d at from whole walk) h =
        let here : lists_fit false (option_to_list d.label.left ++ left_word labels) (x ∷ []) ≡
        true = subst (λ (z : List Label). lists_fit false (left_word z) (x ∷ []) ≡ true) whole h
        in
        elim (side_cases d.label.left) [
          | inl f ↦ until d.to t labels done [] e (reads_quiet done s d.to
              (leaves s j d None at from f) r) walk
              (subst (λ (o : Option Symbol). lists_fit false (option_to_list o ++ left_word labels)
              (x ∷ []) ≡ true) f here)
          | inr (y, f) ↦
              let both = and_parts (fits_lem false y x) (lists_fit false (left_word labels) [])
              (subst (λ (o : Option Symbol). lists_fit false
              (option_to_list o ++ left_word labels) (x ∷ []) ≡ true) f here) in
              let own : Reads m word s = subst (λ (z : List Symbol). Reads m z s)
              (sym (e ∙ append-nil done)) r in
              after seeds d.to t labels (given ((targets d.to).1 (record {
                state = s;
                listed = (read s).1 own;
                fits = record { side = y; fit = both.0; leaves = leaves s j d (Some y) at from f };
              }))) walk both.1
        ]
    until s t w done (z ∷ rest) e r (goes {labels = labels} j d at from whole walk) h =
        let here : lists_fit false (option_to_list d.label.left ++ left_word labels)
        (z ∷ (rest ++ x ∷ [])) ≡ true =
        subst (λ (v : List Label). lists_fit false (left_word v) (z ∷ (rest ++ x ∷ [])) ≡ true)
        whole h in
        elim (side_cases d.label.left) [
          | inl f ↦ until d.to t labels done (z ∷ rest) e
              (reads_quiet done s d.to (leaves s j d None at from f) r) walk
              (subst (λ (o : Option Symbol). lists_fit false (option_to_list o ++ left_word labels)
              (z ∷ (rest ++ x ∷ [])) ≡ true) f here)
          | inr (y, f) ↦
              let both = and_parts (fits_lem false y z)
              (lists_fit false (left_word labels) (rest ++ x ∷ []))
              (subst (λ (o : Option Symbol). lists_fit false (option_to_list o ++ left_word labels)
              (z ∷ (rest ++ x ∷ [])) ≡ true) f here) in
              until d.to t labels (done ++ z ∷ []) rest (e ∙ sym (append_assoc done (z ∷ []) rest))
              (reads_fit done z s d.to (record {
                side = y;
                fit = both.0;
                leaves =
                    leaves s j d (Some y) at from f;
              }) r) walk both.1
        ]

    pub reads_next : (out : List ℕ) → ((s : ℕ) → IsIn s out ↔ Quietly m seeds s) →
        AreRead m (word ++ x ∷ []) out
    reads_next out h = λ t. (
      λ i. quietly_reads seeds (word ++ x ∷ []) (λ s k. let f : FitsTo m set x s =
          (targets s).0 k in reads_fit word x f.state s f.fits ((read f.state).0 f.listed)) t
          ((h t).0 i),
      λ r. (h t).1 (until 0 t r.labels [] word refl empty_read r.walk r.fit),
    )

  -- where one of them is final the word is read whole
  pub whole_read : (word : List Symbol) (set : List ℕ) → AreRead m word set → HoldsFinal m set ↔
      ReadsWhole m word
  whole_read word set read = (
    λ h. let r : Reads m word h.state = (read h.state).0 h.listed in
        record {
          labels = r.labels;
          accepted = record {
            last = h.state;
            final = h.final;
            walk =
                r.walk;
          };
          fit = r.fit;
        },
    λ w. record {
      state = w.accepted.last;
      listed = (read w.accepted.last).1
          (record { labels = w.labels; walk = w.accepted.walk; fit = w.fit });
      final =
          w.accepted.final;
    },
  )
