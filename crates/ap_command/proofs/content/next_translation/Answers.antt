use Rattle.std.proofs.Common.{◌≡◌, [], ◌∷◌, sym, subst}
use Rattle.ap_command.specs.declared.content.Content.TheVariants as code
use Rattle.ap_command.specs.Reading.{StartsCompiled, StartsRuled}
use Rattle.ap_command.proofs.Seven.{held, all-taken}
use Rattle.ap_command.proofs.content.next_translation.Goals as goal

pub next_compiled-bilingual-requires : goal.next_compiled-bilingual-requires
next_compiled-bilingual-requires c =
    let s = held c.args.kept.now.items c.requires in
    let e0 = c.next_compiled-analyser.ensures in
    let tail : c.next_compiled-analyser.new.kept.items ≡ code.Sections s.bi ∷ code.Rules s.t1x ∷
    code.Rules s.t2x ∷ code.Rules s.t3x ∷ code.Sections s.gen ∷ code.Sections s.post ∷ [] = cc in
    subst StartsCompiled (sym tail) tt

pub next_rules-transfer-requires : goal.next_rules-transfer-requires
next_rules-transfer-requires c =
    let s = held c.args.kept.now.items c.requires in
    let e0 = c.next_compiled-analyser.ensures in
    let e1 = c.next_compiled-bilingual.ensures in
    let tail : c.next_compiled-bilingual.new.kept.items ≡ code.Rules s.t1x ∷ code.Rules s.t2x ∷
    code.Rules s.t3x ∷ code.Sections s.gen ∷ code.Sections s.post ∷ [] = cc in
    subst StartsRuled (sym tail) tt

pub next_rules-interchunk-requires : goal.next_rules-interchunk-requires
next_rules-interchunk-requires c =
    let s = held c.args.kept.now.items c.requires in
    let e0 = c.next_compiled-analyser.ensures in
    let e1 = c.next_compiled-bilingual.ensures in
    let e2 = c.next_rules-transfer.ensures in
    let tail : c.next_rules-transfer.new.kept.items ≡ code.Rules s.t2x ∷ code.Rules s.t3x ∷
    code.Sections s.gen ∷ code.Sections s.post ∷ [] = cc in
    subst StartsRuled (sym tail) tt

pub next_rules-postchunk-requires : goal.next_rules-postchunk-requires
next_rules-postchunk-requires c =
    let s = held c.args.kept.now.items c.requires in
    let e0 = c.next_compiled-analyser.ensures in
    let e1 = c.next_compiled-bilingual.ensures in
    let e2 = c.next_rules-transfer.ensures in
    let e3 = c.next_rules-interchunk.ensures in
    let tail : c.next_rules-interchunk.new.kept.items ≡ code.Rules s.t3x ∷ code.Sections s.gen ∷
    code.Sections s.post ∷ [] = cc in
    subst StartsRuled (sym tail) tt

pub next_compiled-generator-requires : goal.next_compiled-generator-requires
next_compiled-generator-requires c =
    let s = held c.args.kept.now.items c.requires in
    let e0 = c.next_compiled-analyser.ensures in
    let e1 = c.next_compiled-bilingual.ensures in
    let e2 = c.next_rules-transfer.ensures in
    let e3 = c.next_rules-interchunk.ensures in
    let e4 = c.next_rules-postchunk.ensures in
    let tail : c.next_rules-postchunk.new.kept.items ≡ code.Sections s.gen ∷ code.Sections s.post ∷
    [] = cc in
    subst StartsCompiled (sym tail) tt

pub next_compiled-post_generator-requires : goal.next_compiled-post_generator-requires
next_compiled-post_generator-requires c =
    let s = held c.args.kept.now.items c.requires in
    let e0 = c.next_compiled-analyser.ensures in
    let e1 = c.next_compiled-bilingual.ensures in
    let e2 = c.next_rules-transfer.ensures in
    let e3 = c.next_rules-interchunk.ensures in
    let e4 = c.next_rules-postchunk.ensures in
    let e5 = c.next_compiled-generator.ensures in
    let tail : c.next_compiled-generator.new.kept.items ≡ code.Sections s.post ∷ [] = cc in
    subst StartsCompiled (sym tail) tt

pub returns : goal.returns
returns c =
    all-taken _ _ _ _ _ _ _ c.args.kept.now.items c.next_compiled-analyser.new.kept.items
    c.next_compiled-bilingual.new.kept.items c.next_rules-transfer.new.kept.items
    c.next_rules-interchunk.new.kept.items c.next_rules-postchunk.new.kept.items
    c.next_compiled-generator.new.kept.items c.next_compiled-post_generator.new.kept.items
    c.requires c.next_compiled-analyser.ensures c.next_compiled-bilingual.ensures
    c.next_rules-transfer.ensures c.next_rules-interchunk.ensures c.next_rules-postchunk.ensures
    c.next_compiled-generator.ensures c.next_compiled-post_generator.ensures
