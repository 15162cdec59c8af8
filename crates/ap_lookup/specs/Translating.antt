-- What the code says of a translation.
use Rattle.ap_lookup.specs.Translation.{Translated}
use Rattle.ap_lookup.specs.declared.translation.Translation.{Translation}

abbrev pub translated : Translation → Translated
translated t = record { heads = t.heads; left = t.rest }
