-- What a text in which no part fails says: lawful parts, of which it is the spelling.
use Rattle.std.{proofs.{Common.{◌≡◌, ℕ, zero, suc, ◌+◌, ◌-◌, ◌*◌, ◌/◌, ◌^◌, ◌<◌, ◌≤◌, ◌==◌, Bool, true, false, Option, Some, None, List, [], ◌∷◌, length, take, drop, refl, sym, ap, ◌∙◌, arith, length-drop}, lemmas.List.{length-take-le, take_at}, lemmas.Bool.{ltb-false, leb-false, eqb-true, not-false}}, specs.{Prelude.{map, min}, List.{slice_get}}}
use Rattle.df_base.{specs.{Fields.{AreBytes, field_at}, Text.{total}}, proofs.Laws.{field_at-lt, AreBytes-take, AreBytes-drop, spelled_back}}
use Rattle.df_theory.specs.Units.{Layout, Parts, Session}
use Rattle.df_model.{specs.{Codec.{InGrid, IsChecksum, IsLawful}, Refusals.{first_refusal}}, proofs.Laws.{all_pass}}
use Rattle.df_trailer.{specs.{declared.fault.Failing.{Failing}, declared.fault.Fault.{Fault}, Spelling.{block_checksums, is_referenced, listed, number_of_bits, spell, spell_checks, spell_sessions, trailer_pieces}, Text.{at_place, bits, bits_at, bits_of, checks_at, count, end_at, fault, fault_in, first_wrong, known_at_address, parse, parts_of, read_blocks, read_sessions, root_size, session, sessions_at, tests, unless, whole}}, proofs.{Bits.{length_bits, number_bits}, Rules.{KeepRules, rules_kept}}}
use Rattle.df_trailer.proofs.Blocks as blocks
use Rattle.df_trailer.proofs.Sessions as sessions

-- what the tests say of a text in which no part fails
pub record IsFine (l : Layout) (op : ℕ) (text : List ℕ) : Type 0 where
  pub start : 4 ≤ length text
  pub root : root_size text ≤ 1024
  pub few : count text ≤ l.clients
  pub rules : KeepRules op [] (read_sessions (count text) (sessions_at text) text)
  pub bits_are : bits l text < 2 ^ l.blocks
  pub ends : length text ≡ end_at l text

pub no_fault : (o : Option Failing) → fault_in o ≡ None → o ≡ None
no_fault None is = refl
no_fault (Some f) is = absurd (cc)

fits_whole : (c len s : ℕ) → s + 32 * c ≤ len → min c ((len - s) / 32) ≡ c
fits_whole c len s h = omega arith

pub fine : (l : Layout) (op : ℕ) (text : List ℕ) → fault l op text ≡ None → IsFine l op text
fine l op text none = let t = all_pass (tests l op text) (no_fault (first_refusal (tests l op text)) none) in let t1 = t.1 in
    let t2 = t1.1 in let t3 = t2.1 in let t4 = t3.1 in let t5 = t4.1 in let t6 = t5.1 in let t7 = t6.1 in let t8 = t7.1 in let t9 = t8.1 in
    let reach : bits_at text ≤ length text = ltb-false (length text) (bits_at text) t6.0 in
    let all : whole text ≡ count text = fits_whole (count text) (length text) (sessions_at text) reach in
    let right : whole text ≤ first_wrong op text = ltb-false (first_wrong op text) (whole text) t5.0 in
    let sizes : length (read_sessions (whole text) (sessions_at text) text) ≡ whole text =
    sessions.length_read (whole text) (sessions_at text) text in
    let kept : KeepRules op [] (read_sessions (whole text) (sessions_at text) text) =
    rules_kept op [] (read_sessions (whole text) (sessions_at text) text) (omega (arith, sizes, right)) in record {
      start = ltb-false (length text) 4 t.0;
      root = ltb-false 1024 (root_size text) t1.0;
      few = ltb-false l.clients (count text) t4.0;
      rules = rw all at kept;
      bits_are = leb-false (2 ^ l.blocks) (bits l text) t8.0;
      ends = eqb-true (length text) (end_at l text) (not-false (length text == end_at l text) t9.0);
    }

-- ---- the text is the spelling of its parts

pub spelled_again : (l : Layout) (op : ℕ) (text : List ℕ) → AreBytes text → IsFine l op text → spell l (parts_of l text) ≡ text
spelled_again l op text are f = let parts : Parts = parts_of l text in let set : List Bool = bits_of l.blocks (bits l text) in
    let bs : List (Option ℕ) = read_blocks set (checks_at l text) text in let rest : List ℕ = drop (bits_at text) text in
    let n_root : length parts.root ≡ root_size text =
    length-take-le (root_size text) (drop 4 text) (omega (arith, f.ends, length-drop 4 text)) in
    let n_sessions : length parts.sessions ≡ count text = sessions.length_read (count text) (sessions_at text) text in
    let n_blocks : length bs ≡ l.blocks = blocks.length_read set (checks_at l text) text ∙ length_bits l.blocks (bits l text) in
    let blocks_are : block_checksums l parts ≡ bs = ap (λ (n : ℕ). listed (at_place bs) n) (sym n_blocks) ∙ blocks.listed_places bs in
    let number : number_of_bits (map is_referenced (block_checksums l parts)) ≡ bits l text =
    ap (λ (all : List (Option ℕ)). number_of_bits (map is_referenced all)) blocks_are
    ∙ ap number_of_bits (blocks.bits_read set (checks_at l text) text) ∙ number_bits l.blocks (bits l text) f.bits_are in
    let spelled_sessions : take (32 * count text) (drop (sessions_at text) text) ≡ spell_sessions parts.sessions =
    ap (take (32 * count text)) (sessions.sessions_spelled (count text) (sessions_at text) text rest are (omega (arith, f.ends)) refl)
    ∙ take_at (spell_sessions parts.sessions) rest (32 * count text) (omega (arith, (sessions.so_sessions parts.sessions).size, n_sessions)) in
    let checks : drop (checks_at l text) text ≡ spell_checks (block_checksums l parts) =
    sym (ap spell_checks blocks_are ∙ blocks.checks_spelled set (checks_at l text) text are (sym f.ends)) in
    let ends : 0 + total (trailer_pieces l (root_size text) (count text)) ≡ checks_at l text = omega arith in
    sym (spelled_back (trailer_pieces l (root_size text) (count text))
    0 text (spell_checks (block_checksums l parts)) parts are (omega (arith, f.ends)) (assumption (sym n_root, sym n_sessions, sym number))
    (ap (λ (n : ℕ). drop n text) ends ∙ checks))

-- ---- the parts are lawful

clients_small : (n at : ℕ) (text : List ℕ)
    → AreBytes text → (k : ℕ) (s : Session) → slice_get (read_sessions n at text) k ≡ Some s → s.client < 2 ^ 128
clients_small zero at text are k s is = absurd (cc)
clients_small (suc n) at text are zero s is = let one : session at text ≡ s = cc in
    omega (arith, field_at-lt 16 at text are, ap (λ (t : Session). t.client) one)
clients_small (suc n) at text are (suc k) s is = clients_small n (at + 32) text are k s is

-- what is at a place of the blocks
pub record IsBlock (n k c : ℕ) : Type 0 where
  pub within : k < n
  pub small : c < 2 ^ 128

block_is : (bits : List Bool) (at : ℕ) (text : List ℕ)
    → AreBytes text → (k c : ℕ) → at_place (read_blocks bits at text) k ≡ Some c → IsBlock (length bits) k c
block_is [] at text are k c is = absurd (cc)
block_is (false ∷ bits) at text are zero c is = absurd (cc)
block_is (false ∷ bits) at text are (suc k) c is = let b = block_is bits at text are k c is in
    record { within = omega (arith, b.within); small = b.small }
block_is (true ∷ bits) at text are zero c is = let e : field_at 16 at text ≡ c = cc in
    record { within = omega arith; small = omega (arith, e, field_at-lt 16 at text are) }
block_is (true ∷ bits) at text are (suc k) c is = let b = block_is bits (at + 16) text are k c is in
    record { within = omega (arith, b.within); small = b.small }

pub parts_lawful : (l : Layout) (op : ℕ) (text : List ℕ) → op ≤ 2 ^ 62 → AreBytes text → IsFine l op text → IsLawful l op (parts_of l text)
parts_lawful l op text most are f = record {
  root = (root_short, AreBytes-take (root_size text) (drop 4 text) (AreBytes-drop 4 text are));
  sessions = record {
    few = omega (arith, sessions.length_read (count text) (sessions_at text) text, f.few);
    each = λ k s at. let r = f.rules.each k s at in record {
      client = (r.0, clients_small (count text) (sessions_at text) text are k s at);
      request = (r.1, r.2);
      op = (r.3, omega (arith, r.4, most));
    };
    apart = f.rules.clients;
  };
  reached = λ k s at. (f.rules.each k s at).4;
  ops = f.rules.ops;
  references = inside;
}
  where
    root_short : length (take (root_size text) (drop 4 text)) ≤ 1024
    root_short = let n = length-take-le (root_size text) (drop 4 text) (omega (arith, f.ends, length-drop 4 text)) in omega (arith, f.root)

    inside : (a c : ℕ)
        → known_at_address (read_blocks (bits_of l.blocks (bits l text)) (checks_at l text) text) a ≡ Some c → InGrid l a × IsChecksum c
    inside zero c is = absurd (cc)
    inside (suc k) c is = let b = block_is (bits_of l.blocks (bits l text)) (checks_at l text) text are k c is in
        let n = length_bits l.blocks (bits l text) in ((omega arith, omega (arith, b.within)), b.small)

fine_if : (o : Option Fault) (p parts : Parts) → unless o p ≡ Some parts → (o ≡ None) × (p ≡ parts)
fine_if None p parts is = (refl, cc)
fine_if (Some f) p parts is = absurd (cc)

pub record IsSpelling (l : Layout) (op : ℕ) (text : List ℕ) (parts : Parts) : Type 0 where
  pub lawful : IsLawful l op parts
  pub spells : spell l parts ≡ text

pub text_read : (l : Layout) (op : ℕ) (text : List ℕ) (parts : Parts)
    → op ≤ 2 ^ 62 → AreBytes text → parse l op text ≡ Some parts → IsSpelling l op text parts
text_read l op text parts most are is = let p = fine_if (fault l op text) (parts_of l text) parts is in let f = fine l op text p.0 in
    rw (← p.1) (record {
      lawful = parts_lawful l op text most are f;
      spells = spelled_again l op text are f;
    })
