use Rattle.std.proofs.Common.{◌≡◌, arith, ◌∙◌, ap, [], ◌∷◌, List, ℕ, ◌++◌, take, append_assoc}
use Rattle.df_format.specs.Spelling.{fields, spelling_rest, tail_of, code_of}
use Rattle.df_base.{specs.{Text.{Puts, text}, Text.Piece.{Byte}, Text.Puts.{Done, Put, PutBytes, PutText}}, proofs.Laws.{written, text-append}}
use Rattle.df_format.proofs.codec.put_fields.Goals as goal

pub returns : goal.returns
unfolding spelling_rest
returns c = let h = c.args.header.now in let old : List ℕ = c.args.into.now in
    let kind : take 122 c.put_bytes.new.into ≡ take 120 c.put_u32-2.new.bytes ++ (code_of h.kind ∷ h.block_kind ∷ []) =
    c.put_bytes.ensures.front ∙ ap (λ (code : ℕ). take 120 c.put_u32-2.new.bytes ++ (code ∷ h.block_kind ∷ [])) c.code_of.ensures in
    let puts : Puts h fields 16 old c.put_bytes.new.into =
    PutBytes c.put_check.ensures.front (Put (omega arith)
    c.put_u128.ensures (PutBytes c.put_check-2.ensures.front (Put (omega arith) c.put_u128-2.ensures (Put (omega arith) c.put_u64.ensures
    (Put (omega arith) c.put_u64-2.ensures (Put (omega arith)
    c.put_u64-3.ensures (Put (omega arith) c.put_u64-4.ensures (Put (omega arith) c.put_u32.ensures (Put (omega arith) c.put_u32-2.ensures
    (PutText (Byte (λ x. code_of x.kind) ∷ Byte (λ x. x.block_kind) ∷ []) kind Done)))))))))) in
    c.put_tail.ensures ∙ ap (λ (l : List ℕ). l ++ tail_of h) (written puts) ∙ append_assoc (take 16 old) (text fields h []) (tail_of h)
    ∙ ap (λ (l : List ℕ). take 16 old ++ l) (text-append fields h [] (tail_of h))
