-- What a reader gives of a text in which nothing fails: its parts.
use Rattle.std.{proofs.{Common.{◌≡◌, ℕ, ◌+◌, ◌-◌, ◌*◌, ◌/◌, ◌%◌, ◌<◌, ◌≤◌, ◌==◌, Bool, true, false, Option, Some, None, List, [], ◌++◌, length, take, drop, map, get_or, replicate, refl, sym, ap, ◌∙◌, subst, arith, length-drop}, lemmas.List.{drop-append-le, take-append-le}}, specs.{Prelude.{if◌then◌else◌, IfNone, IfSome, slice_index}, Int.{bit_at}}}
use Rattle.{df_base.{specs.Fields.{field_at}, proofs.Laws.{field_moved}}, df_units.specs.Meaning.{layout_of}}
use Rattle.df_layout.specs.declared.layout.Layout as file
use Rattle.df_model.specs.Refusals.{first_refusal}
use Rattle.df_trailer.{specs.{declared.fault.Failing.{Failing}, declared.parts.Parts.{Parts}, declared.reader.Reader.{Reader}, Reading.{AreChecksKept, HasBit, HasRead, bits_room, checks_room, failing_in, kept_at, referenced_below, rest_tests}, Rooms.{AreParts, bits_in_words, byte_in_checks, number_in, reference_in, without_reply}, Spelling.{bits_size, listed}, Text.{bits_in, bits_of, count, fault, fault_in, head_tests, ones, parts_of, read_sessions, root_size, sessions_at}}, proofs.{Fed.{fails_as_read, room_size}, Kept.{IsEnd, append_first, head_ends, first_none}, Longer.{count_front, root_front}, Sessions.{sessions_front}, OneBit.{count_next, count_same}, References.{few_ones, reference_at}, Blocks.{length_listed}, Words.{at_listed}}}

root_said : (h rest : List ℕ) → IsEnd h → take (root_size h) (drop 4 h) ≡ take (root_size (h ++ rest)) (drop 4 (h ++ rest))
root_said h rest e = let r : root_size (h ++ rest) ≡ root_size h = root_front h rest e.four in
    let d : drop 4 (h ++ rest) ≡ drop 4 h ++ rest = drop-append-le 4 h rest e.four in
    let t : take (root_size h) (drop 4 h ++ rest) ≡ take (root_size h) (drop 4 h) =
    take-append-le (root_size h) (drop 4 h) rest (omega (arith, length-drop 4 h, e.ends)) in
    sym (ap (λ (n : ℕ). take n (drop 4 (h ++ rest))) r ∙ ap (λ (xs : List ℕ). take (root_size h) xs) d ∙ t)

sessions_said : (h rest : List ℕ)
    → IsEnd h → read_sessions (count h) (sessions_at h) h ≡ read_sessions (count (h ++ rest)) (sessions_at (h ++ rest)) (h ++ rest)
sessions_said h rest e = let r : root_size (h ++ rest) ≡ root_size h = root_front h rest e.four in
    let c : count (h ++ rest) ≡ count h = count_front h rest e.four e.sessions in
    let at : sessions_at (h ++ rest) ≡ sessions_at h = ap (λ (n : ℕ). 4 + n + 4) r in
    sym (ap (λ (n : ℕ). read_sessions n (sessions_at (h ++ rest)) (h ++ rest)) c
    ∙ ap (λ (n : ℕ). read_sessions (count h) n (h ++ rest)) at ∙ sessions_front (count h) (sessions_at h) h rest (omega (arith, e.ends)))

-- the checksum with a rank, where the bytes of the room are one list
pub ranked_said : (x blocks place : ℕ) (old : List (List ℕ)) → place < blocks → field_at 16 0 (get_or old (ones (bits_of place x)) [])
    ≡ field_at 16 (16 * ones (bits_of place x)) (listed (byte_in_checks old) (16 * blocks))
ranked_said x blocks place old within = field_moved 16 0 (16 * n) (get_or old n []) (listed (byte_in_checks old) (16 * blocks)) here
  where
    n : ℕ
    n = ones (bits_of place x)

    here : (j : ℕ) → j < 16 → slice_index (get_or old n []) (0 + j) ≡ slice_index (listed (byte_in_checks old) (16 * blocks)) (16 * n + j)
    here j h = let few = few_ones place x in let q : (16 * n + j) / 16 ≡ n = omega arith in
        let r : (16 * n + j) % 16 ≡ 0 + j = omega arith in sym (at_listed (byte_in_checks old) (16 * blocks) (16 * n + j) 0 (omega arith)
        ∙ ap (λ (i : ℕ). slice_index (get_or old i []) ((16 * n + j) % 16)) q ∙ ap (λ (i : ℕ). slice_index (get_or old n []) i) r)

-- a checksum at its place is the one that stood in its turn
moved_said : (x blocks place : ℕ) (old new : List (List ℕ)) → place < blocks
    → ((bit_at x place == 1) ≡ true → get_or new place [] ≡ get_or old (ones (bits_of place x)) [])
    → (if bit_at x place == 1 then Some (field_at 16 0 (get_or new place [])) else None)
    ≡ (if bit_at x place == 1 then Some (field_at 16 (16 * ones (bits_of place x)) (listed (byte_in_checks old) (16 * blocks))) else None)
moved_said x blocks place old new within moved =
    pick (bit_at x place == 1) (λ set. ap (λ (c : List ℕ). field_at 16 0 c) (moved set) ∙ ranked_said x blocks place old within)
  where
    pick : {a b : ℕ} (t : Bool) → (t ≡ true → a ≡ b) → (if t then Some a else None) ≡ (if t then Some b else None)
    pick true same = ap (λ (c : ℕ). Some c) (same refl)
    pick false same = refl

-- rooms of one layout are as long
pub same_words : (l m : file.Layout) → l ≡ m → (l.blocks + 63) / 64 ≡ (m.blocks + 63) / 64
same_words l m e = ap (λ (k : file.Layout). (k.blocks + 63) / 64) e

pub same_rows : (l m : file.Layout) → l ≡ m → l.blocks ≡ m.blocks
same_rows l m e = ap (λ (k : file.Layout). k.blocks) e

-- what a reader keeps of a block is what the text says, where nothing fails in it
pub kept_said : (layout : file.Layout) (op : ℕ) (text : List ℕ) (r : Reader) (address : ℕ)
    → failing_in r ≡ None → HasRead layout op r text → 1 ≤ address → address ≤ layout.blocks
    → kept_at r address ≡ (parts_of (layout_of layout) text).references address
kept_said layout op text r address none read some most = let head : List ℕ = r.front.head.items in
    let blocks : r.layout.blocks ≡ layout.blocks = ap (λ (l : file.Layout). l.blocks) read.of_layout in
    let clean : fault (layout_of layout) op text ≡ None =
    ap (λ (o : Option Failing). fault_in o) (sym (fails_as_read layout op text r read) ∙ none) in
    let size : length (bits_room r) ≡ bits_size (layout_of layout) = room_size r ∙ ap (λ (n : ℕ). (n + 7) / 8) blocks in
    let kept : AreChecksKept text (length head + length (bits_room r)) (checks_room r) = rw (sym size) at read.checks in
    let room : length (checks_room r) ≡ 16 * layout.blocks =
    length_listed (byte_in_checks r.parts.checks.items) (16 * r.layout.blocks) ∙ ap (λ (n : ℕ). 16 * n) blocks in
    reference_at (layout_of layout)
    op text head (bits_room r) (checks_room r) r.behind address layout.clients_within.1 read.kept room kept clean some most

-- the checksum that stands in a block's turn, and none where its bit isn't set
pub kept_here : (r : Reader) (address : ℕ) (words : List ℕ) (rows : List (List ℕ)) (set : Bool) (check : List ℕ)
    → HasBit r address → words ≡ r.parts.bits.items → rows ≡ r.parts.checks.items
    → ((bytes : ℕ) → address - 1 < 8 * bytes → set ≡ (bit_at (bits_in_words bytes words) (address - 1) == 1))
    → (set ≡ true → check ≡ get_or rows (referenced_below r address) [])
    → (if set then Some (field_at 16 0 check) else None) ≡ kept_at r address
kept_here r address words rows set check inside same_words_are same_rows_are is there =
    let place : address - 1 < r.layout.blocks = omega (arith, inside.0, inside.1) in
    let bit : set ≡ (bit_at (bits_in (bits_room r)) (address - 1) == 1) =
    is ((r.layout.blocks + 7) / 8) (omega (arith, place))
    ∙ ap (λ (ws : List ℕ). bit_at (bits_in_words ((r.layout.blocks + 7) / 8) ws) (address - 1) == 1) same_words_are in
    pick set (bit_at (bits_in (bits_room r)) (address - 1) == 1) bit (λ yes. ap (λ (c : List ℕ). field_at 16 0 c) (there yes ∙ ap (λ (cs : List (List ℕ)). get_or cs (referenced_below r address) []) same_rows_are) ∙ ranked_said (bits_in (bits_room r)) r.layout.blocks (address - 1) r.parts.checks.items place)
  where
    pick : {a b : ℕ} (s t : Bool) → s ≡ t → (s ≡ true → a ≡ b) → (if s then Some a else None) ≡ (if t then Some b else None)
    pick true true e same = ap (λ (c : ℕ). Some c) (same refl)
    pick false false e same = refl
    pick true false e same = absurd (cc)
    pick false true e same = absurd (cc)

-- the count of the next address
pub below_next : (r : Reader) (address before : ℕ) (words : List ℕ) (set : Bool)
    → HasBit r address → words ≡ r.parts.bits.items → before ≡ referenced_below r address
    → ((bytes : ℕ) → address - 1 < 8 * bytes → set ≡ (bit_at (bits_in_words bytes words) (address - 1) == 1))
    → referenced_below r (address + 1) ≡ (if set then before + 1 else before)
below_next r address before words set inside same_words_are before_is is =
    let bit : set ≡ (bit_at (bits_in (bits_room r)) (address - 1) == 1) =
    is ((r.layout.blocks + 7) / 8) (omega (arith, inside.0, inside.1))
    ∙ ap (λ (ws : List ℕ). bit_at (bits_in_words ((r.layout.blocks + 7) / 8) ws) (address - 1) == 1) same_words_are in
    let next : (address - 1) + 1 ≡ (address + 1) - 1 = omega (arith, inside.0) in
    ap (λ (n : ℕ). ones (bits_of n (bits_in (bits_room r)))) (sym next) ∙ go set bit
  where
    go : (s : Bool) → s ≡ (bit_at (bits_in (bits_room r)) (address - 1) == 1)
        → ones (bits_of ((address - 1) + 1) (bits_in (bits_room r))) ≡ (if s then before + 1 else before)
    go true e = sym (count_next (address - 1) (bits_in (bits_room r)) before (before + 1) true e refl before_is refl)
    go false e = sym (count_same (address - 1) (bits_in (bits_room r)) before before false e refl before_is refl)

pub below_few : (r : Reader) (address before : ℕ) → HasBit r address → before ≡ referenced_below r address → before < address
below_few r address before inside before_is = let few = few_ones (address - 1) (bits_in (bits_room r)) in omega (arith, inside.0)

-- what `reference` ensures
abbrev pub HasReference : Reader → ℕ → ℕ → Option (List ℕ) → Type 0
HasReference r address before result = record {
  value : number_in result ≡ kept_at r address;
  said : (layout : file.Layout) (op : ℕ) (text : List ℕ)
      → failing_in r ≡ None → HasRead layout op r text → number_in result ≡ (parts_of (layout_of layout) text).references address;
  more : IfSome result (λ check. referenced_below r (address + 1) ≡ before + 1);
  same : IfNone result (referenced_below r (address + 1) ≡ before);
  few : before < address;
}

pub has_reference : (r : Reader) (address before : ℕ) (result : Option (List ℕ))
    → HasBit r address → before ≡ referenced_below r address → number_in result ≡ kept_at r address
    → IfSome result (λ check. referenced_below r (address + 1) ≡ before + 1)
    → IfNone result (referenced_below r (address + 1) ≡ before) → HasReference r address before result
has_reference r address before result inside before_is value more same = record {
  value = value;
  said = λ layout op text none read. value
      ∙ kept_said layout op text r address none read inside.0 (subst (λ (l : file.Layout). address ≤ l.blocks) read.of_layout inside.1);
  more = more;
  same = same;
  few = below_few r address before inside before_is;
}

-- what was made of a reader's rooms
pub record IsMade (r : Reader) (parts : Parts) : Type 0 where
  pub root : parts.root.items ≡ take (root_size r.front.head.items) (drop 4 r.front.head.items)
  pub sessions : parts.sessions.items
      ≡ map without_reply (read_sessions (count r.front.head.items) (sessions_at r.front.head.items) r.front.head.items)
  pub bits : parts.bits.items ≡ r.parts.bits.items
  pub moved : (place : ℕ) → place < r.layout.blocks → (bit_at (bits_in (bits_room r)) place == 1) ≡ true
      → get_or parts.checks.items place [] ≡ get_or r.parts.checks.items (ones (bits_of place (bits_in (bits_room r)))) []
  pub empty : (place : ℕ)
      → place < r.layout.blocks → (bit_at (bits_in (bits_room r)) place == 1) ≡ false → get_or parts.checks.items place [] ≡ replicate 16 0

-- the checksums were moved by the bits, in rooms that were lent
pub moved_room : (r : Reader) (bits : List ℕ) (checks new : List (List ℕ)) → bits ≡ r.parts.bits.items → checks ≡ r.parts.checks.items
    → ((place : ℕ) → place < r.layout.blocks → (bit_at (bits_in_words ((r.layout.blocks + 7) / 8) bits) place == 1) ≡ true
    → get_or new place [] ≡ get_or checks (ones (bits_of place (bits_in_words ((r.layout.blocks + 7) / 8) bits))) [])
    → (place : ℕ) → place < r.layout.blocks → (bit_at (bits_in (bits_room r)) place == 1) ≡ true
    → get_or new place [] ≡ get_or r.parts.checks.items (ones (bits_of place (bits_in (bits_room r)))) []
moved_room r bits checks new same there moved place within one = let n : ℕ = (r.layout.blocks + 7) / 8 in
    moved place within (ap (λ (ws : List ℕ). bit_at (bits_in_words n ws) place == 1) same ∙ one)
    ∙ ap (λ (ws : List ℕ). get_or checks (ones (bits_of place (bits_in_words n ws))) []) same
    ∙ ap (λ (cs : List (List ℕ)). get_or cs (ones (bits_of place (bits_in_words n r.parts.bits.items))) []) there

-- zeros were put where no bit is set, in rooms that were lent
pub empty_room : (r : Reader) (bits : List ℕ) (new : List (List ℕ)) → bits ≡ r.parts.bits.items → ((place : ℕ) → place < r.layout.blocks
    → (bit_at (bits_in_words ((r.layout.blocks + 7) / 8) bits) place == 1) ≡ false → get_or new place [] ≡ replicate 16 0)
    → (place : ℕ) → place < r.layout.blocks → (bit_at (bits_in (bits_room r)) place == 1) ≡ false → get_or new place [] ≡ replicate 16 0
empty_room r bits new same empty place within unset =
    empty place within (ap (λ (ws : List ℕ). bit_at (bits_in_words ((r.layout.blocks + 7) / 8) ws) place == 1) same ∙ unset)

pub parts_said : (layout : file.Layout) (op : ℕ) (text : List ℕ) (r : Reader) (parts : Parts)
    → failing_in r ≡ None → IsMade r parts → HasRead layout op r text → AreParts (layout_of layout) parts (parts_of (layout_of layout) text)
parts_said layout op text r parts none made read = let head : List ℕ = r.front.head.items in
    let blocks : r.layout.blocks ≡ layout.blocks = ap (λ (l : file.Layout). l.blocks) read.of_layout in let rest : List (Bool × Failing) =
    rest_tests r.layout.blocks (length head) (bits_size (layout_of r.layout)) (bits_in (bits_room r)) r.behind in
    let e : IsEnd head = head_ends r.layout.clients r.op head read.kept.fits
    (first_none (first_refusal (head_tests r.layout.clients r.op head))
    (first_refusal rest) (sym (append_first (head_tests r.layout.clients r.op head) rest) ∙ none)) in
    let shown : (address : ℕ) → reference_in layout.blocks parts address ≡ (if bit_at (bits_in (bits_room r))
    (address - 1) == 1 then Some (field_at 16 0 (get_or parts.checks.items (address - 1) [])) else None) = λ address.
    ap (λ (n : ℕ). reference_in n parts address) (sym blocks)
    ∙ ap (λ (ws : List ℕ). if bit_at (bits_in_words ((r.layout.blocks + 7) / 8) ws)
    (address - 1) == 1 then Some (field_at 16 0 (get_or parts.checks.items (address - 1) [])) else None) made.bits in
    let said : (address : ℕ) → 1 ≤ address → address ≤ layout.blocks
    → reference_in layout.blocks parts address ≡ (parts_of (layout_of layout) text).references address = λ address some most. shown address
    ∙ moved_said (bits_in (bits_room r)) r.layout.blocks
    (address - 1) r.parts.checks.items parts.checks.items (omega (arith, blocks)) (made.moved (address - 1) (omega (arith, blocks)))
    ∙ kept_said layout op text r address none read some most in record {
      root = made.root ∙ root_said head read.kept.rest e ∙ ap (λ (t : List ℕ). take (root_size t) (drop 4 t)) (sym read.kept.is);
      sessions = made.sessions ∙ ap (map without_reply)
          (sessions_said head read.kept.rest e ∙ ap (λ (t : List ℕ). read_sessions (count t) (sessions_at t) t) (sym read.kept.is));
      references = said;
      zeros = λ address some most none-there. made.empty (address - 1) (omega (arith, blocks))
          (is_unset (bit_at (bits_in (bits_room r)) (address - 1) == 1) _ (sym (shown address) ∙ said address some most ∙ none-there));
    }
  where
    is_unset : (b : Bool) (x : ℕ) → (if b then Some x else None) ≡ None → b ≡ false
    is_unset true x is = absurd (cc)
    is_unset false x is = refl
