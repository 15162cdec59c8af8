use Rattle.std.proofs.Common.{ap, sym, ◌∙◌}
use Rattle.std.specs.Str.{bytes_eq}
use Rattle.ap_markup.specs.NameLists.{has_name}
use Rattle.ap_markup.proofs.Keys.{any_key}
use Rattle.ap_markup.proofs.name_list.Names.has.Goals as goal

pub returns : goal.returns
returns c =
    c.contains.ensures ∙ sym
    (any_key (bytes_eq c.args.name.now) (λ k. k.now) c.self.inside.names.keys)
    ∙ ap (λ names. has_name names c.args.name.now) c.self.view_is
