-- What stands after the first byte is a key and a value.
use Rattle.{std.proofs.{Common.{◌∷◌, ◌++◌, ℕ, List, ap, sym, ◌∙◌, arith}, lemmas.List.{take_rest}}, df_base.specs.Fields.{spelled}}
use Rattle.df_rows.{specs.Rows.{Entry}, proofs.{Bodies.{key_read, put_length}, command.put_in.Goals.{then-rest-lt-KEY-via-then-rest-lt-KEY, then-rest-lt-KEY-via-else-rest-lt-KEY+then-rest}}}
use Rattle.df_rows.proofs.command.put_in.Goals as goal

pub returns-then-rest-lt-KEY-clause-none : goal.returns-then-rest-lt-KEY-clause-none
returns-then-rest-lt-KEY-clause-none c = λ entry is same. let sizes = put_length c.args.rest.now entry is same in
    elim c.then-rest-lt-KEY.branch [
      | then-rest-lt-KEY-via-then-rest-lt-KEY w ↦ absurd (omega (arith, sizes.0, w.if-rest-lt-KEY.true))
      | then-rest-lt-KEY-via-else-rest-lt-KEY+then-rest w ↦ absurd (omega (arith, sizes.1, w.if-rest.true))
    ]

pub returns-clause-found : goal.returns-clause-found
returns-clause-found c = let row = c.new.ensures in ap (λ (l : List ℕ). 1 ∷ l)
    (sym (key_read c.args.rest.now (λ i. omega (arith, c.type_inv.rest i)) (omega arith))
    ∙ (λ i. spelled 16 (sym c.u128_at.ensures i) ++ sym (take_rest c.args.rest.now 16) i) ∙ ap (λ (e : Entry). spelled 16 e.0 ++ e.1) (sym row))
