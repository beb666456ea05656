-- The sessions of a trailer, spelled and read back.
use Rattle.std.proofs.Common.{◌≡◌, ℕ, zero, suc, ◌+◌, ◌*◌, ◌≤◌, List, [], ◌∷◌, ◌++◌, length, drop, refl, sym, ap, ◌∙◌, arith}
use Rattle.df_base.{specs.{Fields.{AreBytes, field_at}, Text.{AreSo, Fit}}, proofs.Laws.{field_front, so_none, so_text, text-append, behind, read_back, spelled_back}}
use Rattle.{df_theory.specs.Units.{Session}, df_trailer.specs.{Spelling.{session_pieces, spell_sessions}, Text.{read_sessions, session}}}

-- the numbers of the sessions fit their fields
abbrev pub AreSmall : List Session → Type 0
AreSmall [] = Unit {0}
AreSmall (s ∷ ss) = Fit session_pieces s × AreSmall ss

pub so_sessions : (ss : List Session) → AreSo (32 * length ss) (spell_sessions ss)
so_sessions [] = so_none
so_sessions (s ∷ ss) = let all = so_text session_pieces s (assumption) (so_sessions ss) in
    record { size = omega (arith, all.size); each = all.each }

pub length_read : (n at : ℕ) (text : List ℕ) → length (read_sessions n at text) ≡ n
length_read zero at text = refl
length_read (suc n) at text = ap suc (length_read n (at + 32) text)

-- the op stands after the request
op_at : (at : ℕ) (text : List ℕ) → field_at 8 (at + 24) text ≡ field_at 8 (at + 16 + 8) text
op_at at text = ap (λ (n : ℕ). field_at 8 n text) (let there : at + 24 ≡ at + 16 + 8 = omega arith in there)

pub sessions_read : (ss : List Session) (at : ℕ) (text rest : List ℕ)
    → AreSmall ss → drop at text ≡ spell_sessions ss ++ rest → read_sessions (length ss) at text ≡ ss
sessions_read [] at text rest small is = refl
sessions_read (s ∷ ss) at text rest small is = let from = is ∙ text-append session_pieces s (spell_sessions ss) rest in
    let here = read_back session_pieces at text (spell_sessions ss ++ rest) s small.0 from in
    let op : field_at 8 (at + 24) text ≡ s.op = op_at at text ∙ here.1.1.0 in
    let others = sessions_read ss (at + 32) text rest small.1 (behind session_pieces at text (spell_sessions ss ++ rest) s small.0 from) in
    λ i. record { client = here.0 i; request = here.1.0 i; op = op i } ∷ others i

pub sessions_spelled : (n at : ℕ) (text rest : List ℕ) → AreBytes text
    → at + 32 * n ≤ length text → drop (at + 32 * n) text ≡ rest → drop at text ≡ spell_sessions (read_sessions n at text) ++ rest
sessions_spelled zero at text rest are fits is = ap (λ (m : ℕ). drop m text) (let here : at ≡ at + 32 * 0 = omega arith in here) ∙ is
sessions_spelled (suc n) at text rest are fits is = let ss : List Session = read_sessions n (at + 32) text in
    let far : (at + 32) + 32 * n ≡ at + 32 * suc n = omega arith in
    let others = sessions_spelled n (at + 32) text rest are (omega arith) (ap (λ (m : ℕ). drop m text) far ∙ is) in
    spelled_back session_pieces at text (spell_sessions ss ++ rest) (session at text) are (omega arith) (assumption (sym (op_at at text))) others
    ∙ sym (text-append session_pieces (session at text) (spell_sessions ss) rest)

-- what stands in a text stays where more comes after it
pub session_front : (at : ℕ) (xs ys : List ℕ) → at + 32 ≤ length xs → session at (xs ++ ys) ≡ session at xs
session_front at xs ys fits = let client = field_front 16 at xs ys (omega arith) in
    let request = field_front 8 (at + 16) xs ys (omega arith) in let op = field_front 8 (at + 24) xs ys (omega arith) in
    λ i. record { client = client i; request = request i; op = op i }

pub sessions_front : (n at : ℕ) (xs ys : List ℕ) → at + 32 * n ≤ length xs → read_sessions n at (xs ++ ys) ≡ read_sessions n at xs
sessions_front zero at xs ys fits = refl
sessions_front (suc n) at xs ys fits = let here = session_front at xs ys (omega arith) in
    let others = sessions_front n (at + 32) xs ys (omega arith) in λ i. here i ∷ others i

-- one session more
pub read_more : (n at : ℕ) (text : List ℕ) → read_sessions n at text ++ session (at + 32 * n) text ∷ [] ≡ read_sessions (n + 1) at text
read_more n at text = next n at ∙ ap (λ (m : ℕ). read_sessions m at text) (let up : suc n ≡ n + 1 = omega arith in up)
  where
    next : (n at : ℕ) → read_sessions n at text ++ session (at + 32 * n) text ∷ [] ≡ read_sessions (suc n) at text
    next zero at = ap (λ (p : ℕ). session p text ∷ []) (let here : at + 32 * 0 ≡ at = omega arith in here)
    next (suc n) at = let along : at + 32 * suc n ≡ (at + 32) + 32 * n = omega arith in
        ap (λ (p : ℕ). session at text ∷ (read_sessions n (at + 32) text ++ session p text ∷ [])) along
        ∙ ap (λ (ss : List Session). session at text ∷ ss) (next n (at + 32))
