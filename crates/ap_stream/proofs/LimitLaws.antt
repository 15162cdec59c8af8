-- What bounds the stream. Each number stands at its constant alone.
use Rattle.std.specs.Prelude.{◌≡◌, refl}
use Rattle.ap_stream.specs.Limits.{unit_max, item_max}

pub item_max_is : item_max ≡ unit_max
unfolding item_max
item_max_is = refl
