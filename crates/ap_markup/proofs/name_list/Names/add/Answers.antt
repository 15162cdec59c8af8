use Rattle.std.proofs.Common.{◌++◌, ◌∷◌, [], cond, map, ap, sym, ◌∙◌}
use Rattle.std.specs.List.{list_any}
use Rattle.std.specs.Str.{bytes_eq}
use Rattle.ap_markup.specs.NameLists.{with_name}
use Rattle.ap_markup.proofs.Keys.{any_key, with_key}
use Rattle.ap_markup.proofs.name_list.Names.add.Goals as goal

pub returns : goal.returns
returns c =
    let keys = c.self.inside.names.keys in
    ap (λ ks. map (λ k. k.now) ks) c.in_ok-insert.ensures.keys
    ∙ with_key (list_any (λ k. bytes_eq c.args.name.now k.now) keys) (λ k. k.now) keys c.args.name
    ∙ ap (λ b. cond b (map (λ k. k.now) keys) (map (λ k. k.now) keys ++ c.args.name.now ∷ []))
    (sym (any_key (bytes_eq c.args.name.now) (λ k. k.now) keys))
    ∙ ap (λ names. with_name names c.args.name.now) c.self.view_is
