use Rattle.{std.proofs.{Common.{arith, ◌≡◌, ◌∙◌, ap, List, ℕ, drop}, lemmas.List.{take_all, length-drop}}, df_base.specs.Fields.{check_of}}
use Rattle.df_format.{specs.{declared.header.Header.{Header}, Spelling.{sealed, spelling_rest}}, proofs.Makes.{is_sealed}}
use Rattle.df_format.proofs.codec.seal_header.Goals as goal

sealed_by : (h : Header) (sum : List ℕ) → sum ≡ check_of (spelling_rest h) → record h { checksum = sum } ≡ sealed h
sealed_by h sum is i = record h { checksum = is i }

value : goal.returns-clause-value
value c =
    let whole = take_all 240 (drop 16 c.put_fields.new.into) (omega (arith, length-drop 16 c.put_fields.new.into, c.put_fields.auto.into)) in
    sealed_by c.args.header c.check.result (c.check.ensures ∙ ap check_of (whole ∙ ap (λ (l : List ℕ). drop 16 l) c.put_fields.ensures))

pub returns-clause-value : goal.returns-clause-value
returns-clause-value = value

pub returns-clause-sealed : goal.returns-clause-sealed
returns-clause-sealed c = is_sealed c.args.header _ (value c) c.requires
