-- The body stays where it is between the header and the zeros.
use Rattle.std.proofs.{Common.{◌≡◌, ℕ, ◌+◌, ◌-◌, List, ◌++◌, length, take, drop, replicate, sym, ◌∙◌, ap, length-drop, arith}, lemmas.List.{length-take-le}}
use Rattle.df_format.{specs.Message.{sectors_end}, proofs.Makes.{body_behind, further, sectors_made}}
use Rattle.df_format.proofs.make.write_ends.Goals as goal

pub returns-clause-sectors : goal.returns-clause-sectors
returns-clause-sectors c = let old : List ℕ = c.args.into.now in let mid : List ℕ = c.put_header.new.into in let n : ℕ = c.args.count in
    let size : length (take n (drop 256 old)) ≡ n = length-take-le n (drop 256 old) (omega (arith, length-drop 256 old, c.requires.room)) in
    sectors_made _ mid mid c.put_zeros.new.into c.sectors_end-end.result
    c.put_header.ensures.front (ap (λ (k : ℕ). take (256 + k) mid) size ∙ body_behind n old mid c.put_header.ensures.rest)
    (c.put_zeros.ensures.front ∙ ap (λ (k : ℕ). take (256 + k) mid ++ replicate (c.sectors_end-end.result - (256 + k)) 0) (sym size))
    (c.sectors_end-end.ensures ∙ ap (λ (k : ℕ). sectors_end (256 + k)) (sym size))

pub returns-clause-rest : goal.returns-clause-rest
returns-clause-rest c = c.put_zeros.ensures.rest
    ∙ further 256 _ c.put_header.new.into c.args.into.now (omega (arith, c.sectors_end-end.ensures)) c.put_header.ensures.rest
