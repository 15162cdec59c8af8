use Rattle.std.proofs.Common.{◌≡◌, true, subst, rules}
use Rattle.std.specs.Str.{IsUtf8}
use Rattle.ap_symbol.specs.TagNames.{is_tag_name}
use Rattle.ap_symbol.proofs.Coded.{name_text}
use Rattle.ap_symbol.proofs.tag_name.TagName.text.Goals as goal

pub returns-clause-coded : goal.returns-clause-coded
returns-clause-coded c =
    let same : c.as_str.result.now ≡ c.args.self.now = search rules in
    let name : is_tag_name c.args.self.now ≡ true = search rules in
    name_text c.args.self.now (subst IsUtf8 same c.as_str.utf8) name
