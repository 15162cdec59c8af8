-- The pieces of a plain text, and what stops it: each piece is a maximal run of white space, or a
-- character that is none. Places are in bytes.
use Rattle.std.specs.Prelude.{◌-◌, ◌≡◌, refl}
use Rattle.ap_stream.specs.Limits.{unit_max}
use Rattle.ap_format.specs.Pieces.{run_max}

pub run_max_is : run_max ≡ unit_max - 2
unfolding run_max
run_max_is = refl
