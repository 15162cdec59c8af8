-- What a tool gives: a row of pieces, up to a fault; and the superblanks of all that it was given,
-- where no fault comes.
use Rattle.std.specs.Prelude.{◌≡◌, ℕ, List, [], ◌++◌, None, refl}
use Rattle.std.proofs.Common.{ap, subst}
use Rattle.ap_stream.specs.Pieces.{HasSuperblanks, nothing}
use Rattle.ap_stream.specs.ReadOn.{ArePieces, IsReadOn}
use Rattle.ap_stream.specs.Told.{Told, silent, behind, ends_in}
use Rattle.ap_stream.specs.declared.dialect.Dialect.{Dialect}
use Rattle.ap_stream.specs.declared.fault.StreamFault.{StreamFault}
use Rattle.ap_stream.proofs.Joined.{joined}
use Rattle.ap_stream.proofs.ReadOn.{are_read}

pub record GivesPieces (dialect : Dialect) (told : Told) (supers : List (List ℕ)) : Type 0 where
  pub found : List (List ℕ)
  pub has : HasSuperblanks dialect told.text found
  pub whole : told.fault ≡ None → found ≡ supers

module _ (dialect : Dialect) where
  pub gives_none : GivesPieces dialect silent []
  gives_none = record { found = []; has = nothing refl refl; whole = λ _. refl }

  pub gives_end : (fault : StreamFault) (supers : List (List ℕ)) →
      GivesPieces dialect (ends_in [] fault) supers
  gives_end fault supers =
      record { found = []; has = nothing refl refl; whole = λ e. absurd (cc) }

  -- a text first
  pub gives_behind : (text : List ℕ) (told : Told) (own more : List (List ℕ)) →
      HasSuperblanks dialect text own → GivesPieces dialect told more →
      GivesPieces dialect (behind text told) (own ++ more)
  gives_behind text told own more h g = record {
    found = own ++ g.found;
    has = joined dialect text told.text own g.found h g.has;
    whole = λ e. ap (λ (q : List (List ℕ)). own ++ q) (g.whole e);
  }

  module _ (told : Told) (supers : List (List ℕ)) (g : GivesPieces dialect told supers)
    where
      pub gives_all : told.fault ≡ None → HasSuperblanks dialect told.text supers
      gives_all e = subst (HasSuperblanks dialect told.text) (g.whole e) g.has

      pub gives_pieces : ArePieces dialect told.text
      gives_pieces = record { superblanks = g.found; has = g.has }

      pub gives_read : IsReadOn dialect told.text
      gives_read = are_read dialect told.text gives_pieces
