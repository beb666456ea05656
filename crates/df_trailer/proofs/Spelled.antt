-- What stands where in the text of lawful parts.
use Rattle.std.{proofs.{Common.{◌≡◌, ℕ, zero, suc, ◌+◌, ◌*◌, ◌/◌, ◌^◌, ◌<◌, ◌≤◌, ◌==◌, Bool, true, false, nat_lt, Option, Some, None, List, [], ◌∷◌, ◌++◌, length, take, drop, refl, sym, ap, ◌∙◌, subst, arith}, Math.Path.{fun_ext}, Math.Nat.{pow-le-pow_right}, lemmas.List.{take-append-drop}, lemmas.Bool.{le-ltb, lt-leb, eq-eqb}}, specs.{Prelude.{map, nat_le}, List.{slice_get}}}
use Rattle.df_base.{specs.{Fields.{field_at}, Text.{Fit, AreRead, total}}, proofs.Laws.{bits_of_bytes, behind, read_back, no_some}}
use Rattle.{df_theory.specs.Units.{Layout, Parts, Session}, df_model.specs.Codec.{IsLawful, IsLawfulSession}}
use Rattle.df_trailer.{specs.{Spelling.{bits_size, block_checksums, is_referenced, number_of_bits, spell, spell_checks, spell_sessions, trailer_pieces}, Text.{bits, bits_at, bits_of, checks_at, count, count_at, end_at, fault, first_wrong, known_at_address, ones, parse, parts_of, read_blocks, read_sessions, root_size, sessions_at, whole, wrong_place}, Laws.{HasLimits}}, proofs.{Bits.{bits_number, number_small}, Blocks.{checks_listed, checks_read, length_listed, place_listed}, Sessions.{AreSmall, sessions_read, so_sessions}, Sizes.{text_sized}, Rules.{KeepRules, none_wrong}}}

-- what stands where
pub record Stands (l : Layout) (parts : Parts) (text : List ℕ) : Type 0 where
  pub root_size_is : root_size text ≡ length parts.root
  pub root_is : take (root_size text) (drop 4 text) ≡ parts.root
  pub count_is : count text ≡ length parts.sessions
  pub sessions : read_sessions (length parts.sessions) (sessions_at text) text ≡ parts.sessions
  pub bits_is : bits_of l.blocks (bits l text) ≡ map is_referenced (block_checksums l parts)
  pub small : bits l text < 2 ^ l.blocks
  pub blocks : read_blocks (map is_referenced (block_checksums l parts)) (checks_at l text) text ≡ block_checksums l parts
  pub size : length text ≡ checks_at l text + 16 * ones (map is_referenced (block_checksums l parts))

pub length_map : (bs : List (Option ℕ)) → length (map is_referenced bs) ≡ length bs
length_map [] = refl
length_map (b ∷ bs) = ap suc (length_map bs)

-- as many bytes as this many bits need
pub bits_fit : (n : ℕ) → 2 ^ n ≤ 256 ^ ((n + 7) / 8)
bits_fit n = let enough : n ≤ 8 * ((n + 7) / 8) = omega arith in
    let more : 2 ^ n ≤ 2 ^ (8 * ((n + 7) / 8)) = pow-le-pow_right (omega arith) enough in
    let same : 2 ^ (8 * ((n + 7) / 8)) ≡ 256 ^ ((n + 7) / 8) = bits_of_bytes ((n + 7) / 8) in omega arith

small_sessions : (ss : List Session) → ((k : ℕ) (s : Session) → slice_get ss k ≡ Some s → IsLawfulSession s) → AreSmall ss
small_sessions [] each = tt
small_sessions (s ∷ ss) each = let here = each 0 s refl in let request : s.request < 2 ^ 64 = omega (arith, here.request.1) in
    let op : s.op < 2 ^ 64 = omega (arith, here.op.1) in (assumption, small_sessions ss (λ k. each (suc k)))

pub lawful_stands : (l : Layout) (op : ℕ) (parts : Parts) → HasLimits l → IsLawful l op parts → Stands l parts (spell l parts)
lawful_stands l op parts limits lawful = let text : List ℕ = spell l parts in let bs : List (Option ℕ) = block_checksums l parts in
    let set : List Bool = map is_referenced bs in
    let size : length set ≡ l.blocks = length_map bs ∙ length_listed (λ place. parts.references (suc place)) l.blocks in
    let fits : number_of_bits set < 2 ^ l.blocks = rw size at (number_small set) in
    let short : length parts.root < 256 ^ 4 = omega (arith, lawful.root.0) in
    let few : length parts.sessions < 256 ^ 4 = omega (arith, lawful.sessions.few) in
    let small : number_of_bits set < 256 ^ bits_size l = omega (arith, fits, bits_fit l.blocks) in
    let fit : Fit (trailer_pieces l (length parts.root) (length parts.sessions)) parts = assumption (so_sessions parts.sessions) in
    let here = read_back (trailer_pieces l (length parts.root) (length parts.sessions)) 0 text (spell_checks bs) parts fit refl in
    let rest = behind (trailer_pieces l (length parts.root) (length parts.sessions)) 0 text (spell_checks bs) parts fit refl in
    let root : root_size text ≡ length parts.root = here.0 in
    let many : count text ≡ length parts.sessions = ap (λ (n : ℕ). field_at 4 (4 + n) text) root ∙ here.1.1.0 in
    let read : AreRead (trailer_pieces l (root_size text) (count text)) 0 text parts =
    subst (λ (n : ℕ). AreRead (trailer_pieces l (root_size text) n) 0 text parts)
    (sym many) (subst (λ (n : ℕ). AreRead (trailer_pieces l n (length parts.sessions)) 0 text parts) (sym root) here) in
    let ends : checks_at l text ≡ 0 + total (trailer_pieces l (length parts.root) (length parts.sessions)) = omega (arith, root, many) in
    let later : List ℕ = drop (32 * count text) (drop (sessions_at text) text) in
    let front : drop (sessions_at text) text ≡ spell_sessions parts.sessions ++ later =
    sym (take-append-drop (32 * count text) (drop (sessions_at text) text)) ∙ ap (λ (l : List ℕ). l ++ later) read.1.1.1.0 in record {
      root_size_is = root;
      root_is = read.1.0;
      count_is = many;
      sessions = sessions_read parts.sessions (sessions_at text) text later (small_sessions parts.sessions lawful.sessions.each) front;
      bits_is = ap (λ (x : ℕ). bits_of l.blocks x) read.1.1.1.1.0 ∙ ap (λ (n : ℕ). bits_of n (number_of_bits set)) (sym size) ∙ bits_number set;
      small = omega (arith, read.1.1.1.1.0, fits);
      blocks = checks_read bs (checks_at l text) text (checks_listed (λ place.
          parts.references (suc place)) l.blocks (λ k c is. (lawful.references (suc k) c is).1)) (ap (λ (n : ℕ). drop n text) ends ∙ rest);
      size = omega (arith, text_sized l parts, root, many);
    }

-- no test of the text fails
pub none_fails : (l : Layout) (op : ℕ) (parts : Parts) (text : List ℕ) → length parts.root ≤ 1024
    → length parts.sessions ≤ l.clients → KeepRules op [] parts.sessions → Stands l parts text → fault l op text ≡ None
none_fails l op parts text short few keep st = let t0 : nat_lt (length text) 4 ≡ false = le-ltb (length text) 4 (omega (arith, st.size)) in
    let t1 : nat_lt 1024 (root_size text) ≡ false = le-ltb 1024 (root_size text) (omega (arith, st.root_size_is)) in
    let t2 : nat_lt (length text) (count_at text) ≡ false = le-ltb (length text) (count_at text) (omega (arith, st.size)) in
    let t3 : nat_lt (length text) (sessions_at text) ≡ false = le-ltb (length text) (sessions_at text) (omega (arith, st.size)) in
    let t4 : nat_lt l.clients (count text) ≡ false = le-ltb l.clients (count text) (omega (arith, st.count_is)) in
    let all : whole text ≡ length parts.sessions = omega (arith, st.size, st.count_is) in
    let right : first_wrong op text ≡ length parts.sessions =
    ap (λ (n : ℕ). wrong_place op [] (read_sessions n (sessions_at text) text)) all
    ∙ ap (λ (xs : List Session). wrong_place op [] xs) st.sessions ∙ none_wrong op [] parts.sessions keep in
    let t5 : nat_lt (first_wrong op text) (whole text) ≡ false = le-ltb (first_wrong op text) (whole text) (omega (arith, all, right)) in
    let t6 : nat_lt (length text) (bits_at text) ≡ false = le-ltb (length text) (bits_at text) (omega (arith, st.size)) in
    let t7 : nat_lt (length text) (checks_at l text) ≡ false = le-ltb (length text) (checks_at l text) (omega (arith, st.size)) in
    let t8 : nat_le (2 ^ l.blocks) (bits l text) ≡ false = lt-leb (2 ^ l.blocks) (bits l text) st.small in
    let ends : length text ≡ end_at l text = st.size ∙ ap (λ (xs : List Bool). checks_at l text + 16 * ones xs) (sym st.bits_is) in
    let t9 : (length text == end_at l text) ≡ true = eq-eqb (length text) (end_at l text) ends in
    rw (t0, t1, t2, t3, t4, t5, t6, t7, t8, t9) refl

-- the parts of the text
pub same_parts : (l : Layout) (parts : Parts) (text : List ℕ) → ((k : ℕ) → parts.references k ≡ known_at_address (block_checksums l parts) k)
    → Stands l parts text → parts_of l text ≡ parts
same_parts l parts text at st = let sessions : read_sessions (count text) (sessions_at text) text ≡ parts.sessions =
    ap (λ (n : ℕ). read_sessions n (sessions_at text) text) st.count_is ∙ st.sessions in
    let blocks : read_blocks (bits_of l.blocks (bits l text)) (checks_at l text) text ≡ block_checksums l parts =
    ap (λ (xs : List Bool). read_blocks xs (checks_at l text) text) st.bits_is ∙ st.blocks in
    let references : known_at_address (read_blocks (bits_of l.blocks (bits l text)) (checks_at l text) text) ≡ parts.references =
    ap (λ (xs : List (Option ℕ)). known_at_address xs) blocks ∙ sym (fun_ext at) in
    λ i. record { root = st.root_is i; sessions = sessions i; references = references i }

-- nothing is referenced outside of the grid
listed_again : (l : Layout) (op : ℕ) (parts : Parts)
    → IsLawful l op parts → (k : ℕ) → parts.references k ≡ known_at_address (block_checksums l parts) k
listed_again l op parts lawful k = by_address k
  where
    by_address : (k : ℕ) → parts.references k ≡ known_at_address (block_checksums l parts) k
    by_address zero = no_some (parts.references 0) (λ c is. omega (arith, (lawful.references 0 c is).0.0))
    by_address (suc k) = sym (place_listed (λ place.
        parts.references (suc place)) l.blocks (λ j past. no_some _ (λ c is. omega (arith, past, (lawful.references (suc j) c is).0.1))) k)

pub lawful_keep : (l : Layout) (op : ℕ) (parts : Parts) → IsLawful l op parts → KeepRules op [] parts.sessions
lawful_keep l op parts lawful = record {
  each = λ k s at. let f = lawful.sessions.each k s at in (f.client.0, f.request.0, f.request.1, f.op.0, lawful.reached k s at);
  fresh = λ k s at. refl;
  clients = lawful.sessions.apart;
  ops = lawful.ops;
}

pub read_again : (l : Layout) (op : ℕ) (parts : Parts) → HasLimits l → IsLawful l op parts → parse l op (spell l parts) ≡ Some parts
read_again l op parts limits lawful = let st = lawful_stands l op parts limits lawful in let fine : fault l op (spell l parts) ≡ None =
    none_fails l op parts (spell l parts) lawful.root.0 lawful.sessions.few (lawful_keep l op parts lawful) st in
    rw fine (ap (λ (p : Parts). Some p) (same_parts l parts (spell l parts) (listed_again l op parts lawful) st))
