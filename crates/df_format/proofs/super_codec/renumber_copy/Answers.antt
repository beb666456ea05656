-- The number stands between the checksum and the zeros, and nothing else changes.
use Rattle.std.proofs.{Common.{◌≡◌, ◌++◌, ◌∙◌, ℕ, List, ap, drop, replicate, sym, take}, lemmas.List.{drop-drop, drop_at, take_at}}
use Rattle.df_base.{specs.Fields.{check_of, put_at, spelled}, proofs.Laws.{length-check_of, length-spelled}}
use Rattle.df_format.specs.{Super.{copy_bytes, covered_bytes}, declared.superblock.SuperFields.{SuperFields}}
use Rattle.df_format.proofs.super_codec.renumber_copy.Goals as goal

renumbered : (f : SuperFields) (before number : ℕ) (old new : List ℕ)
    → old ≡ copy_bytes before f → new ≡ put_at 4 16 number old → new ≡ copy_bytes number f
unfolding copy_bytes
renumbered f before number old new was put = let sum : List ℕ = check_of (covered_bytes f) in
    let rest : List ℕ = replicate 12 0 ++ covered_bytes f in let front : take 16 old ≡ sum =
    ap (λ (l : List ℕ). take 16 l) was ∙ take_at sum (spelled 4 before ++ rest) 16 (length-check_of (covered_bytes f)) in
    let behind : drop 20 old ≡ rest =
    sym (drop-drop 4 16 old) ∙ ap (λ (l : List ℕ). drop 4 (drop 16 l)) was
    ∙ ap (λ (l : List ℕ). drop 4 l) (drop_at sum (spelled 4 before ++ rest) 16 (length-check_of (covered_bytes f)))
    ∙ drop_at (spelled 4 before) rest 4 (length-spelled 4 before) in put ∙ (λ i. front i ++ (spelled 4 number ++ behind i))

pub returns : goal.returns
returns c = λ f before was. renumbered f before
    c.args.number c.args.into.now c.put_u32.new.bytes was (c.put_u32.ensures ∙ ap (λ (n : ℕ). put_at 4 16 n c.args.into.now) c.from.ensures)
