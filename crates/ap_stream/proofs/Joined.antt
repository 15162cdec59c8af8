-- Texts with superblanks, one behind another.
use Rattle.std.specs.Prelude.{ℕ, List, [], ◌++◌, refl}
use Rattle.std.proofs.Common.{ap, sym, ◌∙◌, append_assoc}
use Rattle.std.proofs.lemmas.List.{append-nil}
use Rattle.ap_stream.specs.Pieces.{HasSuperblanks, nothing, piece, IsPiece}
use Rattle.ap_stream.specs.declared.dialect.Dialect.{Dialect}

module _ (dialect : Dialect) where
  pub joined : (front back : List ℕ) (own more : List (List ℕ)) → HasSuperblanks dialect front own →
      HasSuperblanks dialect back more → HasSuperblanks dialect (front ++ back) (own ++ more)
  joined front back own more (nothing e f) k = rw (e, f) k
  joined front back own more (piece a rest b others p h e f) k =
      piece a (rest ++ back) b (others ++ more) p (joined rest back others more h k)
      (ap (λ (q : List ℕ). q ++ back) e ∙ append_assoc a rest back)
      (ap (λ (q : List (List ℕ)). q ++ more) f ∙ append_assoc b others more)

  -- one piece alone
  pub one_piece : (bytes : List ℕ) (own : List (List ℕ)) → IsPiece dialect bytes own →
      HasSuperblanks dialect bytes own
  one_piece bytes own p = piece bytes [] own [] p (nothing refl refl) (sym (append-nil bytes))
      (sym (append-nil own))
