-- One word is the name, or none is.
use Rattle.{std.proofs.Common.{string_bytes}, df_copy.proofs.Ended.{one_name}}
use Rattle.df_copy.proofs.engine.layout_in.Goals as goal

pub returns-in-len1-clause-none : goal.returns-in-len1-clause-none
returns-in-len1-clause-none c = one_name string_bytes c.args.words.now c.word-item.result c.as_str.result.now
    c.layout_named.result c.word-item.is c.in-len1.len_at_least c.in-len1.len_below c.as_str.ensures.value c.layout_named.ensures.none
