-- What a search knows of the held items where one more is held behind them.
use Rattle.std.specs.Prelude.{◌≡◌, ℕ, zero, suc, false, ◌+◌, ◌≤◌, List, [], ◌∷◌, ◌++◌, drop, length, Option, Some, None, Result, Ok, Err, OnOk, OnErr}
use Rattle.std.specs.List.{AllByRecursion}
use Rattle.std.proofs.Common.{arith, refl, ap, sym, ◌∙◌, subst, append_assoc}
use Rattle.ap_stream.specs.declared.item.Read.{Read}
use Rattle.ap_stream.proofs.StepLaws.{all_pushed}
use Rattle.ap_rules.specs.declared.rules.Rules.{Rules}
use Rattle.ap_chunk.specs.Parts.{Part, units_in, taken_by, together, part_of, parts_of}
use Rattle.ap_chunk.specs.Searching.{IsTaken, IsWalk, IsKnown}
use Rattle.ap_chunk.specs.declared.choice.Choice.{Choice}
use Rattle.ap_chunk.specs.declared.search.Search.{Search}
use Rattle.ap_chunk.specs.declared.search.Walk.{Walk}

drop_front : (n : ℕ) (parts : List Part) (p : Part) (xs : List Part) → n ≤ length parts →
    drop n (parts ++ p ∷ []) ++ xs ≡ drop n parts ++ (p ∷ xs)
drop_front zero parts p xs le = append_assoc parts (p ∷ []) xs
drop_front (suc n) [] p xs le = absurd (omega (arith, le))
drop_front (suc n) (q ∷ parts) p xs le = drop_front n parts p xs (omega (arith, le))

longer_by : (parts : List Part) (p : Part) → length parts ≤ length (parts ++ p ∷ [])
longer_by [] p = omega arith
longer_by (q ∷ parts) p = omega (arith, longer_by parts p)

taken_grown : (best : Option Choice) (taken : ℕ) (parts : List Part) (p : Part) →
    IsTaken best taken parts → IsTaken best taken (parts ++ p ∷ [])
taken_grown None taken parts p t = tt
taken_grown (Some c) taken parts p t =
    λ xs. ap (taken_by c.size) (append_assoc parts (p ∷ []) xs) ∙ t (p ∷ xs)

walk_grown : (parts : List Part) (p : Part) (walk : Walk) → IsWalk parts walk →
    IsWalk (parts ++ p ∷ []) walk
walk_grown parts p walk w = record {
  units = w.units;
  stands = w.stands;
  few = w.few;
  within = omega (arith, w.within, longer_by parts p);
  best_is = w.best_is;
  units_on = λ xs. ap (units_in false) (append_assoc parts (p ∷ []) xs) ∙ w.units_on (p ∷ xs)
      ∙ ap (λ q. w.units ++ units_in walk.after q) (sym (drop_front walk.seen parts p xs w.within));
  span_on = λ xs.
      ap (together walk.choosing.patterns [] false) (append_assoc parts (p ∷ []) xs)
      ∙ w.span_on (p ∷ xs)
      ∙ ap (λ q. walk.seen + together walk.choosing.patterns w.units walk.after q)
      (sym (drop_front walk.seen parts p xs w.within));
  taken_on = λ n xs.
      ap (taken_by (length w.units + suc n)) (append_assoc parts (p ∷ []) xs)
      ∙ w.taken_on n (p ∷ xs)
      ∙ ap (λ q. walk.seen + taken_by (suc n) q) (sym (drop_front walk.seen parts p xs w.within));
  taken_is = taken_grown walk.best walk.taken parts p w.taken_is;
  taken_within = w.taken_within;
}

parts_grown : (rules : Rules) (reads : List Read) (read : Read) →
    parts_of rules (reads ++ read ∷ []) ≡ parts_of rules reads ++ part_of rules read.item ∷ []
parts_grown rules [] read = refl
parts_grown rules (r ∷ reads) read =
    ap (λ q. part_of rules r.item ∷ q) (parts_grown rules reads read)

known_grown : (rules : Rules) (reads : List Read) (read : Read) (search : Search) →
    IsKnown rules reads search → IsKnown rules (reads ++ read ∷ []) search
known_grown rules reads read search k = record {
  patterns = k.patterns;
  walk = λ e. subst (λ (q : List Part). IsWalk q search.walk) (sym (parts_grown rules reads read))
      (walk_grown (parts_of rules reads) (part_of rules read.item) search.walk (k.walk e));
}

-- with one item more, or with none for want of memory, the items are as they must be
pub held_on : {T E : Type 0} (r : Result T E) (P : Read → Type 0) (rules : Rules)
    (items new : List Read) (read : Read) (search : Search) → AllByRecursion P items → P read →
    IsKnown rules items search → OnOk r (new ≡ items ++ read ∷ []) → OnErr r (new ≡ items) →
    AllByRecursion P new × IsKnown rules new search
held_on (Ok x) P rules items new read search all is known ok err = (
  subst (λ (q : List Read). AllByRecursion P q) (sym ok) (all_pushed P items read all is),
  subst (λ (q : List Read). IsKnown rules q search) (sym ok)
      (known_grown rules items read search known),
)
held_on (Err x) P rules items new read search all is known ok err = (
  subst (λ (q : List Read). AllByRecursion P q) (sym err) all,
  subst (λ (q : List Read). IsKnown rules q search) (sym err) known,
)
