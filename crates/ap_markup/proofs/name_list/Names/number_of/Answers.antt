use Rattle.std.proofs.Common.{ap, sym, ◌∙◌}
use Rattle.std.specs.Str.{bytes_eq}
use Rattle.ap_markup.specs.NameLists.{number_of}
use Rattle.ap_markup.proofs.Keys.{key_at}
use Rattle.ap_markup.proofs.name_list.Names.number_of.Goals as goal

pub returns : goal.returns
returns c =
    c.get_index_of.ensures.index
    ∙ sym (key_at (bytes_eq c.args.name.now) (λ k. k.now) c.self.inside.names.keys)
    ∙ ap (λ names. number_of names c.args.name.now) c.self.view_is
