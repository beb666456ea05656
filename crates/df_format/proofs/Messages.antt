-- The bytes of a unit: their length, and that they are bytes.
use Rattle.std.proofs.{Common.{◌≡◌, ◌+◌, ◌-◌, ℕ, length, replicate, arith, length-append}, lemmas.List.{length-replicate}}
use Rattle.df_base.{specs.Fields.{AreBytes}, proofs.Laws.{AreBytes-append, AreBytes-zeros}}
use Rattle.df_format.{specs.{declared.header.Header.{Header}, Spelling.{spelling}, Rules.{IsSealed}, Message.{Message, unit_bytes, sectors_of, sectors_end}}, proofs.Spelled.{length-spelling, spelling_size}}

pub length-unit : (u : Message) → IsSealed u.header → length (unit_bytes u) ≡ 256 + length u.body
length-unit u is = omega (arith, length-append (spelling u.header) u.body, length-spelling u.header is)

pub length-sectors : (u : Message) → IsSealed u.header → length (sectors_of u) ≡ sectors_end (256 + length u.body)
unfolding sectors_of
length-sectors u is = let n : ℕ = 256 + length u.body in
    omega (arith, length-append (unit_bytes u) (replicate (sectors_end n - n) 0), length-unit u is, length-replicate {A = ℕ} (sectors_end n - n) 0)

pub AreBytes-spelling : (h : Header) → IsSealed h → AreBytes (spelling h)
AreBytes-spelling h is = (spelling_size h is).each

pub AreBytes-sectors : (u : Message) → IsSealed u.header → AreBytes u.body → AreBytes (sectors_of u)
unfolding sectors_of
AreBytes-sectors u is are =
    AreBytes-append (unit_bytes u) _ (AreBytes-append (spelling u.header) u.body (AreBytes-spelling u.header is) are) (AreBytes-zeros _)
