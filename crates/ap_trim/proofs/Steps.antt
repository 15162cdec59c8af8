-- Steps from a watch to the next one.
use Rattle.std.proofs.Common.{◌≡◌, ℕ, true, false, List, [], ◌∷◌, ◌++◌, refl, sym, ◌∙◌, ap, subst, Option, Some, None}
use Rattle.std.specs.Prelude.{◌↔◌, slice_get, option_map}
use Rattle.std.proofs.lemmas.Option.{same_Some, none-some}
use Rattle.ap_symbol.specs.Kinds.{is_tag, is_joint}
use Rattle.ap_symbol.specs.declared.symbol.Symbol.{Symbol}
use Rattle.ap_fst.specs.Lists.{IsIn}
use Rattle.ap_fst.specs.Machines.{Machine}
use Rattle.ap_det.specs.Numbered.{IsNumbered}
use Rattle.ap_det.specs.Subsets.{HoldsFinal}
use Rattle.ap_trim.specs.Numbers.{Keeps}
use Rattle.ap_trim.specs.Products.{GoesOn}
use Rattle.ap_trim.specs.Reading.{AreRead, FitsTo, Quietly}
use Rattle.ap_trim.specs.Stepping.{BeginsWith, StepsTo, GoesBehind}
use Rattle.ap_trim.specs.Watching.{kept, lemma, tags}
use Rattle.ap_trim.specs.declared.watch.Watch.{Watch}
use Rattle.ap_trim.specs.declared.watch.Watch.TheVariants as watch
use Rattle.ap_trim.proofs.Lemmas.{any_front, any_back, any_neither, any_one}
use Rattle.ap_trim.proofs.Numbered.{number_keeps, set_number}
use Rattle.ap_trim.proofs.Readings.{reads_start, reads_next, whole_read}
use Rattle.ap_trim.proofs.Watches.{kept_at_tag, kept_whole, untaken_next, no_front_tagged, no_front_lemma}

-- ---- the set that a number names

pub record IsMapped {X Y : Type 0} (f : X → Y) (o : Option X) (y : Y) : Type 0 where
  pub source : X
  pub source_is : o ≡ Some source
  pub image : y ≡ f source

pub mapped : {X Y : Type 0} (f : X → Y) (o : Option X) (y : Y) → option_map f o ≡ Some y →
    IsMapped f o y
mapped f None y h = absurd (none-some y h)
mapped f (Some x) y h = record { source = x; source_is = refl; image = sym (same_Some (f x) y h) }

module _ (m : Machine) where
  -- ---- the beginning

  pub begins : (old_sets sets : List (List ℕ)) (n : ℕ) (starts out taken : List ℕ) →
      starts ≡ 0 ∷ [] → ((s : ℕ) → IsIn s out ↔ Quietly m starts s) → taken ≡ out →
      IsNumbered old_sets sets taken n → BeginsWith m sets (watch.Lemma n)
  begins old_sets sets n starts out taken one h same k = record {
    sight = lemma taken;
    at = ap (option_map lemma) k.at;
    sees = record {
      untagged = refl;
      unjoined = refl;
      read = subst (AreRead m []) (sym same) (reads_start m out
          (subst (λ (z : List ℕ). (s : ℕ) → IsIn s out ↔ Quietly m z s) one h));
    };
  }

  module _ (x : Symbol) where
    pub next_steps : (old_sets sets : List (List ℕ)) (n next : ℕ)
        (old targets starts out taken : List ℕ) → slice_get old_sets n ≡ Some old →
        ((t : ℕ) → IsIn t targets ↔ FitsTo m old x t) → starts ≡ targets
        → ((s : ℕ) → IsIn s out ↔ Quietly m starts s) → taken ≡ out →
        IsNumbered old_sets sets taken next → StepsTo m x old_sets sets n next
    next_steps old_sets sets n next old targets starts out taken at fits same h own k = record {
      old = old;
      old_at = at;
      new = taken;
      new_at = k.at;
      reads = λ word read. subst (AreRead m (word ++ x ∷ [])) (sym own)
          (reads_next m word x old targets read fits out
          (subst (λ (z : List ℕ). (s : ℕ) → IsIn s out ↔ Quietly m z s) same h));
      keeps = number_keeps old_sets sets taken next (set_number old_sets sets taken next k);
    }

    module _ (old_sets sets : List (List ℕ)) (n next : ℕ)
        (st : StepsTo m x old_sets sets n next) where
      pub behind_kept : (now : List ℕ) → slice_get sets next ≡ Some now → HoldsFinal m now →
          GoesBehind m x sets n watch.Kept
      behind_kept now at final = record {
        set = st.old;
        set_at = st.keeps n st.old st.old_at;
        new = kept;
        new_at = refl;
        sees = λ word read tag unjoined none.
            kept_whole m (word ++ x ∷ []) tag ((whole_read m (word ++ x ∷ []) st.new
            (st.reads word read)).0 (subst (HoldsFinal m)
            (same_Some now st.new (sym at ∙ st.new_at)) final));
      }

      pub behind_tags : (now : List ℕ) → slice_get sets next ≡ Some now → (HoldsFinal m now → ⊥) →
          GoesBehind m x sets n (watch.Tags next)
      behind_tags now at bare = record {
        set = st.old;
        set_at = st.keeps n st.old st.old_at;
        new = tags st.new;
        new_at = ap (option_map tags) st.new_at;
        sees = λ word read tag unjoined none. record {
          tagged = tag;
          unjoined = unjoined;
          read = st.reads word read;
          untaken = untaken_next m word x none (λ w. bare
              (subst (HoldsFinal m) (same_Some st.new now (sym st.new_at ∙ at))
              ((whole_read m (word ++ x ∷ []) st.new (st.reads word read)).1 w)));
        };
      }

      pub lemma_on : is_tag x ≡ false → is_joint x ≡ false →
          GoesOn m sets (watch.Lemma n) (watch.Lemma next) (x ∷ [])
      lemma_on untagged unjoined = record {
        old = lemma st.old;
        old_at = ap (option_map lemma) (st.keeps n st.old st.old_at);
        new = lemma st.new;
        new_at = ap (option_map lemma) st.new_at;
        sees = λ word h. record {
          untagged = any_neither is_tag word (x ∷ []) h.untagged (any_one is_tag x false untagged);
          unjoined = any_neither is_joint word (x ∷ []) h.unjoined
              (any_one is_joint x false unjoined);
          read = st.reads word h.read;
        };
      }

    pub lemma_kept : (sets : List (List ℕ)) (n : ℕ) (now : List ℕ) → slice_get sets n ≡ Some now →
        HoldsFinal m now → is_tag x ≡ true → GoesOn m sets (watch.Lemma n) watch.Kept (x ∷ [])
    lemma_kept sets n now at final tag = record {
      old = lemma now;
      old_at = ap (option_map lemma) at;
      new = kept;
      new_at = refl;
      sees = λ word h. kept_at_tag m word x h.untagged tag ((whole_read m word now h.read).0 final);
    }

    pub lemma_behind : (old_sets sets : List (List ℕ)) (n : ℕ) (next : Watch) (now : List ℕ) →
        slice_get old_sets n ≡ Some now → Keeps old_sets sets → (HoldsFinal m now → ⊥) →
        is_tag x ≡ true → is_joint x ≡ false → GoesBehind m x sets n next →
        GoesOn m sets (watch.Lemma n) next (x ∷ [])
    lemma_behind old_sets sets n next now at keeps bare tag unjoined g = record {
      old = lemma g.set;
      old_at = ap (option_map lemma) g.set_at;
      new = g.new;
      new_at = g.new_at;
      sees = λ word h.
          let own : g.set ≡ now = same_Some g.set now (sym g.set_at ∙ keeps n now at) in
          g.sees word h.read (any_back is_tag word (x ∷ []) (any_one is_tag x true tag))
          (any_neither is_joint word (x ∷ []) h.unjoined (any_one is_joint x false unjoined))
          (no_front_lemma m word x h.untagged (λ w. bare
          (subst (HoldsFinal m) own ((whole_read m word g.set h.read).1 w))));
    }

    pub tags_behind : (sets : List (List ℕ)) (n : ℕ) (next : Watch) → is_joint x ≡ false →
        GoesBehind m x sets n next → GoesOn m sets (watch.Tags n) next (x ∷ [])
    tags_behind sets n next unjoined g = record {
      old = tags g.set;
      old_at = ap (option_map tags) g.set_at;
      new = g.new;
      new_at = g.new_at;
      sees = λ word h. g.sees word h.read (any_front is_tag word (x ∷ []) h.tagged)
          (any_neither is_joint word (x ∷ []) h.unjoined (any_one is_joint x false unjoined))
          (no_front_tagged m word x h.tagged h.untaken);
    }
    -- ---- the end
