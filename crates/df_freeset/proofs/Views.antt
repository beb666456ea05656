-- What taking and giving back make of the set as its callers see it.
use Rattle.std.{proofs.{Common.{◌≡◌, ℕ, ◌+◌, ◌-◌, ◌/◌, ◌<◌, Bool, true, false, List, length, get_or, set, ap, ◌∙◌, arith}, lemmas.List.{with_items_is, length-set, get_or_read}}, specs.{Prelude.{slice_index, sum_by, count_ones}, Global.{Vec}, Vec.{with_items}}}
use Rattle.df_freeset.{specs.{Addresses.{SetHasAddress, count_free}, Bits.{IsRoom, taken_in, setting, clearing}}, proofs.{Counts.{free_and_ones}, Words.{length_taken, taken_written, set_writes, clear_writes, word_inside}}}

-- the bit of an address of the set is one of the room's
pub bit_below : (words : List ℕ) (n : ℕ) (now : List Bool) (address : ℕ) → taken_in words n ≡ now → SetHasAddress now address → address - 1 < n
bit_below words n now address view has = omega (arith, length_taken words n, ap length view)

pub word_there : (words : List ℕ) (n : ℕ) (now : List Bool) (address : ℕ)
    → IsRoom words n → taken_in words n ≡ now → SetHasAddress now address → (address - 1) / 64 < length words
word_there words n now address room view has = word_inside words n (address - 1) room (bit_below words n now address view has)

-- words that are written back into their room are its words
pub written_back : (room : Vec ℕ) (new : List ℕ) (k word : ℕ) → new ≡ set room.items k word → (with_items room new).items ≡ new
written_back room new k word is = with_items_is room new (omega (arith, room.ok.0, length-set room.items k word, ap length is))

-- and a word read of them is theirs
pub read_back : (room : Vec ℕ) (new : List ℕ) (k w word read : ℕ) → new ≡ set room.items k word
    → w < length room.items → read ≡ get_or (with_items room new).items w read → read ≡ slice_index (set room.items k word) w
read_back room new k w word read is inside found =
    let whole : read ≡ get_or (set room.items k word) w read = rw (written_back room new k word is, is) at found in
    get_or_read (set room.items k word) w read (omega (arith, length-set room.items k word)) whole 0

-- the list of taken addresses, as its callers see it, has this address taken, or given back
pub taken_view : (words : List ℕ) (n : ℕ) (now : List Bool) (address : ℕ) → IsRoom words n → taken_in words n ≡ now → SetHasAddress now address
    → taken_in (setting words (address - 1)) n ≡ set now (address - 1) true
taken_view words n now address room view has = let inside : address - 1 < n = bit_below words n now address view has in
    taken_written words (setting words (address - 1)) n (address - 1) true inside (set_writes words n (address - 1) room inside)
    ∙ ap (λ (all : List Bool). set all (address - 1) true) view

pub given_view : (words : List ℕ) (n : ℕ) (now : List Bool) (address : ℕ) → IsRoom words n → taken_in words n ≡ now → SetHasAddress now address
    → taken_in (clearing words (address - 1)) n ≡ set now (address - 1) false
given_view words n now address room view has = let inside : address - 1 < n = bit_below words n now address view has in
    taken_written words (clearing words (address - 1)) n (address - 1) false inside (clear_writes words n (address - 1) room inside)
    ∙ ap (λ (all : List Bool). set all (address - 1) false) view

-- and so the words that are written back have it
pub now_taken : (room : Vec ℕ) (new : List ℕ) (n : ℕ) (now : List Bool) (address : ℕ)
    → new ≡ setting room.items (address - 1) → IsRoom room.items n → taken_in room.items n ≡ now → SetHasAddress now address
    → taken_in (with_items room new).items n ≡ set now (address - 1) true
now_taken room new n now address words fits view has =
    rw (written_back room _ _ _ words, words) (taken_view room.items n now address fits view has)

pub now_given : (room : Vec ℕ) (new : List ℕ) (n : ℕ) (now : List Bool) (address : ℕ)
    → new ≡ clearing room.items (address - 1) → IsRoom room.items n → taken_in room.items n ≡ now → SetHasAddress now address
    → taken_in (with_items room new).items n ≡ set now (address - 1) false
now_given room new n now address words fits view has =
    rw (written_back room _ _ _ words, words) (given_view room.items n now address fits view has)

-- the free ones are those that aren't counted
pub free_left : (words : List ℕ) (n : ℕ) (now : List Bool)
    → IsRoom words n → taken_in words n ≡ now → count_free now + sum_by count_ones words ≡ n
free_left words n now room view = rw view at (free_and_ones words n room)
