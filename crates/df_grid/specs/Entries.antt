-- The block table: for each address the checksum that is known of its block, and the reasons for which the address is held.
use Rattle.std.specs.Prelude.{ℕ, ◌+◌, ◌*◌, ◌/◌, ◌%◌, ◌==◌, ◌≤◌, Bool, ◌||◌, cond, List, [], ◌∷◌, length}
use Rattle.df_grid.specs.declared.entry.Entry.{Entry}

-- the table has an entry for the address; addresses begin with 1
abbrev pub HasEntry : List Entry → ℕ → Type 0
HasEntry entries address = (1 ≤ address) × (address ≤ length entries)

-- there is a reason to hold the block
abbrev pub is_marked : Entry → Bool
is_marked e = e.live || (e.captured || (e.written || (e.durable || e.chained)))

abbrev pub bit : Bool → ℕ
bit b = cond b 1 0

-- the marks as one byte, a bit for each reason
abbrev pub mark_of : Entry → ℕ
mark_of e = bit e.live + 2 * bit e.captured + 4 * bit e.written + 8 * bit e.durable + 16 * bit e.chained

abbrev pub entry_of : List ℕ → ℕ → Entry
entry_of checksum mark = record {
  checksum = checksum;
  live = mark % 2 == 1;
  captured = mark / 2 % 2 == 1;
  written = mark / 4 % 2 == 1;
  durable = mark / 8 % 2 == 1;
  chained = mark / 16 % 2 == 1;
}

-- the entries of checksums and marks that stand side by side
abbrev pub entries_of : List (List ℕ) → List ℕ → List Entry
entries_of [] marks = []
entries_of (c ∷ cs) [] = []
entries_of (c ∷ cs) (m ∷ ms) = entry_of c m ∷ entries_of cs ms
