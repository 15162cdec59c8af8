-- A tool that goes over items step by step, where each step keeps the superblanks of the items that
-- it uses: it writes a row of pieces, and keeps all superblanks where no fault comes.
use Rattle.std.specs.Prelude.{◌≡◌, ℕ, zero, suc, pred, ◌<◌, List, [], ◌∷◌, ◌++◌, take, drop}
use Rattle.std.proofs.Common.{ap, sym, subst, ◌∙◌}
use Rattle.std.proofs.lemmas.Grind.{flat_map-append}
use Rattle.std.proofs.lemmas.List.{take-append-drop}
use Rattle.ap_stream.specs.Pieces.{HasSuperblanks, supers_of}
use Rattle.ap_stream.specs.Steps.{Step, Gives, Stops, goes_on, steps}
use Rattle.ap_stream.specs.Supers.{item_supers}
use Rattle.ap_stream.specs.Told.{behind}
use Rattle.ap_stream.specs.declared.dialect.Dialect.{Dialect}
use Rattle.ap_stream.specs.declared.fault.StreamFault.TheVariants.{Limit}
use Rattle.ap_stream.specs.declared.item.Read.{Read}
use Rattle.ap_stream.proofs.Gives.{GivesPieces, gives_none, gives_end, gives_behind}
use Rattle.ap_stream.proofs.Rows.{AreRead}
use Rattle.ap_stream.proofs.StepLaws.{drop_after}

-- a step uses items, and keeps their superblanks
abbrev pub StepKeeps : Dialect → List Read → Step → Type 0
StepKeeps to items (Gives n text) = (0 < n) × HasSuperblanks to text (supers_of (take n items))
StepKeeps to items (Stops kind) = Unit {0}

module _ (from to : Dialect) (first : List Read → Step) (keeps : (read : Read)
    (items : List Read) → AreRead from (read ∷ items) →
    StepKeeps to (read ∷ items) (first (read ∷ items))) where
  abbrev GoesKept : ℕ → List Read → Type 0
  GoesKept skip items = GivesPieces to (steps first skip items) (supers_of (drop skip items))

  goes_kept : (read : Read) (items : List Read) (step : Step) → StepKeeps to (read ∷ items) step →
      ((n : ℕ) → GoesKept n items) →
      GivesPieces to (goes_on read.place step (λ n. steps first n items)) (supers_of (read ∷ items))
  goes_kept read items (Gives n text) k go =
      let cut : take n (read ∷ items) ++ drop (pred n) items ≡ read ∷ items =
      ap (λ (q : List Read). take n (read ∷ items) ++ q) (drop_after read items n k.0)
      ∙ take-append-drop n (read ∷ items) in
      let all : supers_of (take n (read ∷ items)) ++ supers_of (drop (pred n) items)
      ≡ supers_of (read ∷ items) =
      sym (flat_map-append (λ (r : Read). item_supers r.item) (take n (read ∷ items))
      (drop (pred n) items)) ∙ ap supers_of cut in
      subst (GivesPieces to (behind text (steps first (pred n) items))) all
      (gives_behind to text (steps first (pred n) items) (supers_of (take n (read ∷ items)))
      (supers_of (drop (pred n) items)) k.1 (go (pred n)))
  goes_kept read items (Stops kind) k go =
      gives_end to (Limit kind read.place) (supers_of (read ∷ items))

  pub steps_keep : (skip : ℕ) (items : List Read) → AreRead from items → GoesKept skip items
  unfolding steps
  steps_keep zero [] h = gives_none to
  steps_keep (suc skip) [] h = gives_none to
  steps_keep (suc skip) (read ∷ items) h = steps_keep skip items h.1
  steps_keep zero (read ∷ items) h =
      goes_kept read items (first (read ∷ items)) (keeps read items h) (λ n. steps_keep n items h.1)
