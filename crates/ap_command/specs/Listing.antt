use Rattle.std.specs.Prelude.{◌≡◌, ℕ, ◌⊎◌, List, [], ◌∷◌, ◌++◌}
use Rattle.std.specs.List.{flat_map}
use Rattle.ap_outside.specs.Told.{Puts, PutsFront}
use Rattle.ap_dix.specs.declared.dictionary.Dictionary.{Dictionary}
use Rattle.ap_expand.specs.Lines.{lines}
use Rattle.ap_command.specs.declared.status.Status.{Status}
use Rattle.ap_command.specs.declared.status.Status.TheVariants.{Done, WriteFault, Memory}
use Rattle.ap_pipe.specs.Standing.{Standing}
use Rattle.ap_command.specs.Standing.{PutsAll, PutsSome}

-- lines, each with its line feed
abbrev pub lines_text : List (List ℕ) → List ℕ
lines_text lines = flat_map (λ line. line ++ 10 ∷ []) lines

-- what `lt-expand` writes for a dictionary
abbrev pub listing : Dictionary → List ℕ
listing d = lines_text (lines d)

-- a front of the text was put and no put failed, and memory ran out
pub record RunsOut (old new : Standing) (text : List ℕ) (status : Status) : Type 0 where
  pub put : PutsFront old.bytes new.bytes text
  pub calm : new.faults ≡ old.faults
  pub memory : status ≡ Memory

-- The text was written and all is done; or a put failed, or memory ran out, and a front of it was
-- written.
abbrev pub IsListed : Standing → Standing → List ℕ → Status → Type 0
IsListed old new text status = (PutsAll old new text × (status ≡ Done))
    ⊎ ((PutsSome old new text × (status ≡ WriteFault)) ⊎ RunsOut old new text status)

-- these lines were gathered, and others are to come
pub record Gathers (old new : List (List ℕ)) (text : List ℕ) : Type 0 where
  pub now : List (List ℕ)
  pub lines_are : old ≡ now ++ new
  pub text_is : text ≡ lines_text now

-- what was put so far, and what is to come
pub record IsSoFar (old now : Standing) (whole : List ℕ) (rest : List (List ℕ)) : Type 0 where
  pub text : List ℕ
  pub put : Puts old.bytes now.bytes text
  pub calm : now.faults ≡ old.faults
  pub whole_is : whole ≡ text ++ lines_text rest
