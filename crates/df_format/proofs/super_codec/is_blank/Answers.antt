use Rattle.std.proofs.{Common.{◌∙◌, rules, tests}, lemmas.Iterator.{YieldsList-from_slice}, lemmas.Iterator.Search.{all_from_yields_List}}
use Rattle.df_format.{specs.Copies.{is_blank_copy}, proofs.CopyParts.{all_zero}}
use Rattle.df_format.proofs.super_codec.is_blank.Goals as goal

pub returns : goal.returns
unfolding is_blank_copy
returns c = all_from_yields_List _ _ _ _ c.all.ensures.ran (YieldsList-from_slice c.args.bytes.now cc) (λ x b q k. search (rules, tests))
    ∙ all_zero c.args.bytes.now 4096 c.requires
