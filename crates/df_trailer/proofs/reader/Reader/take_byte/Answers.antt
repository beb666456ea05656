use Rattle.{std.proofs.Common.{◌∙◌, ℕ, List, ap, arith}, df_trailer.{specs.Rooms.{byte_in_checks, byte_in_words}, proofs.Words.{lent_back}}}
use Rattle.df_trailer.proofs.reader.Reader.take_byte.Goals as goal

pub returns-then-place-bits-clause-bits : goal.returns-then-place-bits-clause-bits
returns-then-place-bits-clause-bits c = λ place within apart. let r = c.args.self.now in
    let back = lent_back r.parts.bits.len c.put_byte.new.words r.parts.bits.items (c.put_byte.ensures.length ∙ c.deref_mut.ensures.len) in
    ap (λ (ws : List ℕ). byte_in_words ws place) back
    ∙ c.put_byte.ensures.others place (omega (arith, within, c.deref_mut.ensures.len, r.bits_room)) apart
    ∙ ap (λ (ws : List ℕ). byte_in_words ws place) c.deref_mut.ensures.value

pub returns-then-place-bits-2-clause-checks : goal.returns-then-place-bits-2-clause-checks
returns-then-place-bits-2-clause-checks c = λ place within apart. let rows = c.deref_mut-then-place-bits-2 in let r = c.args.self.now in
    let back =
    lent_back r.parts.checks.len c.put_check_byte.new.checks r.parts.checks.items (c.put_check_byte.ensures.length ∙ rows.ensures.len) in
    ap (λ (cs : List (List ℕ)). byte_in_checks cs place) back
    ∙ c.put_check_byte.ensures.others place (λ same. apart (omega (arith, same, c.if-place-bits.false, c.from-bits.ensures, c.div_ceil.ensures)))
    ∙ ap (λ (cs : List (List ℕ)). byte_in_checks cs place) rows.ensures.value
