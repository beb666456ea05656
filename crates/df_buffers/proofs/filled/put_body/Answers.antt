use Rattle.std.proofs.{Common.{◌≡◌, ℕ, List, length, take, ◌∙◌, ap, arith}, lemmas.List.{drop_at, length-take-le, take_at}}
use Rattle.df_buffers.proofs.filled.put_body.Goals as goal

pub returns-clause-body : goal.returns-clause-body
returns-clause-body c = let n : ℕ = length c.args.body.now in
    let front : length (take 256 c.args.bytes.now) ≡ 256 = length-take-le 256 c.args.bytes.now (omega (arith, c.requires)) in
    ap (λ (l : List ℕ). take n l) (drop_at (take 256 c.args.bytes.now) _ 256 front) ∙
    take_at c.copy_from_slice.new.self _ n (ap (λ (l : List ℕ). length l) c.copy_from_slice.ensures.after) ∙ c.copy_from_slice.ensures.after
