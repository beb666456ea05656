use Rattle.std.{proofs.{Common.{◌≡◌, ◌∙◌, drop, sym, take}, lemmas.{List.{take_rest}, Slice.Eq.{bytes_eq-Decides}}}, specs.Str.{bytes_eq}}
use Rattle.df_format.proofs.super_codec.agree.Goals as goal

pub returns-then-eq : goal.returns-then-eq
returns-then-eq c = let front : take 16 c.args.bytes.now ≡ take 16 c.args.other.now =
    (bytes_eq-Decides _ _).0 (sym c.eq.ensures ∙ c.if-eq.true) in
    let rest : c.eq-then-eq.result ≡ bytes_eq (drop 32 c.args.bytes.now) (drop 32 c.args.other.now) =
    c.eq-then-eq.ensures ∙ (λ i. bytes_eq (take_rest c.args.bytes.now 32 i) (take_rest c.args.other.now 32 i)) in
    (λ same. (front, (bytes_eq-Decides _ _).0 (sym rest ∙ same)), λ both. rest ∙ (bytes_eq-Decides _ _).1 both.1)
