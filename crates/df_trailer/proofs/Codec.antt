-- The spelling serves the machine of the replica's commands.
use Rattle.std.{proofs.Common.{◌≡◌, ℕ, suc, ◌+◌, ◌*◌, ◌/◌, ◌^◌, ◌<◌, ◌≤◌, Bool, true, false, Some, List, [], ◌∷◌, length, arith}, specs.{Prelude.{map, min}, List.{slice_get}}}
use Rattle.{df_base.{specs.Fields.{AreBytes}, proofs.Laws.{so_text}}, df_theory.specs.{Units.{Layout, Parts, Session}, Shape.{Shape}}}
use Rattle.df_model.specs.Codec.{IsCodec, IsLawful}
use Rattle.df_trailer.{specs.{Laws.{HasLimits}, Spelling.{block_checksums, is_referenced, spell, trailer_pieces}, Text.{ones, parse_of}}, proofs.{Blocks.{length_listed, so_checks}, Sessions.{so_sessions}, Sizes.{text_sized}, Read.{text_read}, Spelled.{lawful_stands, read_again, length_map}}}

pub text_bytes : (l : Layout) (parts : Parts) → AreBytes parts.root → AreBytes (spell l parts)
text_bytes l parts root = let all = so_text (trailer_pieces l (length parts.root) (length parts.sessions))
    parts (assumption (so_sessions parts.sessions)) (so_checks (block_checksums l parts)) in all.each

few_ones : (bits : List Bool) → ones bits ≤ length bits
few_ones [] = omega arith
few_ones (false ∷ bits) = omega (arith, few_ones bits)
few_ones (true ∷ bits) = omega (arith, few_ones bits)

pub codec : (sh : Shape) → HasLimits sh.layout → 256 < sh.layout.block_size → sh.parse ≡ parse_of sh.layout → IsCodec sh (spell sh.layout)
codec sh limits room is = record {
  some = some;
  size = size;
  reads = reads;
  lawful = lawful;
  room = room;
}
  where
    l : Layout
    l = sh.layout

    some : (parts : Parts) → 0 < length (spell sh.layout parts)
    some parts = omega (arith, text_sized sh.layout parts)

    size : (op : ℕ) (parts : Parts) → IsLawful sh.layout op parts
        → length (spell sh.layout parts) ≤ 4 + 1024 + 4 + 32 * sh.layout.clients + (sh.layout.blocks + 7) / 8 + 16 * sh.layout.blocks
    size op parts lawful = let st = lawful_stands sh.layout op parts limits lawful in
        let few = few_ones (map is_referenced (block_checksums sh.layout parts)) in let n = length_map (block_checksums sh.layout parts) in
        let m = length_listed (λ place. parts.references (suc place)) sh.layout.blocks in
        omega (arith, st.size, st.root_size_is, st.count_is, lawful.root.0, lawful.sessions.few)

    capped : (op : ℕ) (parts : Parts) → IsLawful sh.layout op parts → IsLawful sh.layout (min op (2 ^ 62)) parts
    capped op parts lawful = let reached : (k : ℕ) (s : Session) → slice_get parts.sessions k ≡ Some s
        → s.op ≤ min op (2 ^ 62) = λ k s at. omega (arith, lawful.reached k s at, (lawful.sessions.each k s at).op.1) in assumption

    reads : (op : ℕ) (parts : Parts) → IsLawful sh.layout op parts → sh.parse op (spell sh.layout parts) ≡ Some parts
    reads op parts lawful = rw is (read_again sh.layout (min op (2 ^ 62)) parts limits (capped op parts lawful))

    lawful : (op : ℕ) (text : List ℕ) (parts : Parts) → AreBytes text → sh.parse op text ≡ Some parts → IsLawful sh.layout op parts
    lawful op text parts are said = let low : IsLawful sh.layout (min op (2 ^ 62)) parts =
        (text_read sh.layout (min op (2 ^ 62)) text parts (omega arith) are (rw is at said)).lawful in
        let reached : (k : ℕ) (s : Session) → slice_get parts.sessions k ≡ Some s → s.op ≤ op = λ k s at. omega (arith, low.reached k s at) in
        assumption
