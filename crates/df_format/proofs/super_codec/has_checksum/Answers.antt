use Rattle.{std.{proofs.{Common.{List, ℕ, take, ap, ◌∙◌}, lemmas.List.{take_rest}}, specs.Str.{bytes_eq}}, df_base.specs.Fields.{check_of}}
use Rattle.df_format.proofs.super_codec.has_checksum.Goals as goal

pub returns : goal.returns
returns c = c.eq.ensures ∙ ap (λ (l : List ℕ).
    bytes_eq (take 16 c.args.bytes.now) l) (c.as_slice.ensures ∙ c.check.ensures ∙ ap check_of (take_rest c.args.bytes.now 32))
