-- What was made was stored and summed up.
use Rattle.std.proofs.Common.{◌≡◌, ℕ, List, ◌∙◌, subst, refl, inl, inr}
use Rattle.ap_outside.specs.Causes.{Rose}
use Rattle.ap_outside.specs.Told.{Puts, PutsFront, Stores}
use Rattle.ap_fst.specs.Sections.{Parts}
use Rattle.ap_binary.specs.Grammar.{IsTextOf}
use Rattle.ap_binary.specs.Text.{compiled_text}
use Rattle.ap_command.specs.declared.status.Status.TheVariants.{Done, WriteFault}
use Rattle.ap_pipe.specs.Standing.{Standing}
use Rattle.ap_command.specs.Outside.{FilesStanding}
use Rattle.ap_command.specs.Gives.{Making, IsMade, summary}
use Rattle.ap_command.specs.Compiling.{IsStored, StoresOrStops}

is-stored : (making : Making) (name text : List ℕ) (f g : FilesStanding) (p : Parts) →
    IsMade making p → text ≡ compiled_text p → IsTextOf text p →
    Stores f.contents g.contents name text → IsStored making name f g p
is-stored making name text f g p made e s stored =
    record {
      is_made = made;
      stored = subst (λ t. Stores f.contents g.contents name t) e stored;
      spelled = subst (λ t. IsTextOf t p) e s;
    }

-- it was stored, and the summary put
pub stored-done : (making : Making) (out : ℕ) (name text text' lines lines' : List ℕ)
    (f g : FilesStanding) (k l : Standing) (p : Parts) → IsMade making p → text' ≡ text →
    text ≡ compiled_text p → IsTextOf text p
    → Stores f.contents g.contents name text' → g.load_faults ≡ f.load_faults →
    g.store_faults ≡ f.store_faults → lines' ≡ lines → lines ≡ summary p →
    Puts k.bytes l.bytes lines' → l.faults ≡ k.faults →
    StoresOrStops making out name f g k l Done
stored-done making out name text text' lines lines' f g k l p made e' e s stored loads stores i' i
    put calm = inl (record {
      made = p;
      stored = is-stored making name text f g p made e s
          (subst (λ t. Stores f.contents g.contents name t) e' stored);
      loads = loads;
      stores = stores;
      summed = inl (
        record {
          put = subst (λ t. Puts k.bytes l.bytes t) (i' ∙ i) put;
          calm =
              calm;
        },
        refl,
      );
    })

-- it was stored, and a put failed
pub stored-write : (making : Making) (out : ℕ) (name text text' lines lines' : List ℕ)
    (f g : FilesStanding) (k l : Standing) (p : Parts) → IsMade making p → text' ≡ text →
    text ≡ compiled_text p → IsTextOf text p
    → Stores f.contents g.contents name text' → g.load_faults ≡ f.load_faults →
    g.store_faults ≡ f.store_faults → lines' ≡ lines → lines ≡ summary p →
    PutsFront k.bytes l.bytes lines' → Rose k.faults l.faults →
    StoresOrStops making out name f g k l WriteFault
stored-write making out name text text' lines lines' f g k l p made e' e s stored loads stores i' i
    put rose = inl (record {
      made = p;
      stored = is-stored making name text f g p made e s
          (subst (λ t. Stores f.contents g.contents name t) e' stored);
      loads = loads;
      stores = stores;
      summed = inr (
        record {
          put = subst (λ t. PutsFront k.bytes l.bytes t) (i' ∙ i) put;
          rose =
              rose;
        },
        refl,
      );
    })
