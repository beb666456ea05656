-- A piece more that a reader was fed, and what it answers.
use Rattle.std.proofs.Common.{◌≡◌, ℕ, ◌+◌, ◌-◌, ◌*◌, ◌/◌, ◌<◌, ◌≤◌, true, Option, List, ◌++◌, length, take, drop, sym, ap, ◌∙◌, arith, length-drop}
use Rattle.df_layout.specs.declared.layout.Layout as file
use Rattle.{df_units.specs.Meaning.{layout_of}, df_model.specs.Refusals.{first_refusal}}
use Rattle.df_trailer.{specs.{declared.fault.Failing.{Failing}, declared.reader.Reader.{Reader}, Reading.{AreChecksKept, HasRead, IsRestTaken, bits_room, checks_room, failing_in, failing_of}, Rooms.{byte_in_checks, byte_in_words}, Spelling.{bits_size}, Text.{head_end, is_whole, tests}}, proofs.{Kept.{IsAdded, added_is_kept, checks_added, fails_as_kept}, Blocks.{length_listed}, Words.{at_listed}}}

-- a reader took a piece, of which this many bytes went to the head
pub record IsFed (old new : Reader) (piece : List ℕ) (n : ℕ) : Type 0 where
  pub within : n ≤ length piece
  pub head : new.front.head.items ≡ old.front.head.items ++ take n piece
  pub fits : length old.front.head.items ≤ head_end old.front.head.items → length new.front.head.items ≤ head_end new.front.head.items
  pub stays : is_whole old.front.head.items ≡ true → n ≡ 0
  pub whole : n < length piece → is_whole new.front.head.items ≡ true
  pub size : new.behind ≡ old.behind + (length piece - n)
  pub rest : IsRestTaken old new (drop n piece)
  pub layout : new.layout ≡ old.layout
  pub op : new.op ≡ old.op

pub room_size : (r : Reader) → length (bits_room r) ≡ (r.layout.blocks + 7) / 8
room_size r = length_listed (byte_in_words r.parts.bits.items) ((r.layout.blocks + 7) / 8)

checks_size : (r : Reader) → length (checks_room r) ≡ 16 * r.layout.blocks
checks_size r = length_listed (byte_in_checks r.parts.checks.items) (16 * r.layout.blocks)

same_blocks : {old new : file.Layout} → new ≡ old → new.blocks ≡ old.blocks
same_blocks e = ap (λ (l : file.Layout). l.blocks) e

added : (old new : Reader) (piece : List ℕ) (n : ℕ) → IsFed old new piece n
    → IsAdded old.front.head.items (bits_room old) old.behind piece n new.front.head.items (bits_room new) new.behind
added old new piece n f = let blocks : new.layout.blocks ≡ old.layout.blocks = same_blocks f.layout in
    let left : length (drop n piece) ≡ length piece - n = length-drop n piece in record {
      within = f.within;
      head_is = f.head;
      fits = f.fits;
      stays = f.stays;
      whole = f.whole;
      size = f.size;
      room = omega (arith, room_size old, room_size new, blocks);
      before = λ i early inside.
          at_listed (byte_in_words new.parts.bits.items) ((new.layout.blocks + 7) / 8) i 0 (omega (arith, room_size old, blocks))
          ∙ f.rest.bits_stay i (omega (arith, room_size old)) early
          ∙ sym (at_listed (byte_in_words old.parts.bits.items) ((old.layout.blocks + 7) / 8) i 0 (omega (arith, room_size old)));
      here = λ i within inside.
          at_listed (byte_in_words new.parts.bits.items) ((new.layout.blocks + 7) / 8) (old.behind + i) 0 (omega (arith, room_size old, blocks))
          ∙ f.rest.bits_here i (omega arith) (omega (arith, room_size old));
    }

pub read_more : (layout : file.Layout) (op : ℕ) (text : List ℕ) (old new : Reader) (piece : List ℕ) (n : ℕ)
    → IsFed old new piece n → HasRead layout op old text → HasRead layout op new (text ++ piece)
read_more layout op text old new piece n f was = let a = added old new piece n f in
    let mine : new.layout ≡ layout = f.layout ∙ was.of_layout in
    let blocks : new.layout.blocks ≡ old.layout.blocks = same_blocks f.layout in
    let left : length (drop n piece) ≡ length piece - n = length-drop n piece in
    let old_size : length (bits_room old) ≡ bits_size (layout_of layout) =
    room_size old ∙ ap (λ (l : file.Layout). (l.blocks + 7) / 8) was.of_layout in
    let new_size : length (bits_room new) ≡ bits_size (layout_of layout) = room_size new ∙ ap (λ (l : file.Layout). (l.blocks + 7) / 8) mine in
    let given : AreChecksKept text (length old.front.head.items + length (bits_room old)) (checks_room old) =
    rw (sym old_size) at was.checks in
    let taken : AreChecksKept (text ++ piece) (length new.front.head.items + length (bits_room new)) (checks_room new) =
    checks_added (layout_of layout) text old.front.head.items
    (bits_room old) old.behind piece n new.front.head.items (bits_room new) new.behind (checks_room old) (checks_room new) was.kept a
    (omega (arith, checks_size old, checks_size new, blocks)) (λ i inside early.
    at_listed (byte_in_checks new.parts.checks.items) (16 * new.layout.blocks) i 0 (omega (arith, checks_size old, blocks))
    ∙ f.rest.checks_stay i (omega (arith, checks_size old)) (omega (arith, room_size old))
    ∙ sym (at_listed (byte_in_checks old.parts.checks.items) (16 * old.layout.blocks) i 0 (omega (arith, checks_size old))))
    (λ i j within there inside.
    at_listed (byte_in_checks new.parts.checks.items) (16 * new.layout.blocks) i 0 (omega (arith, checks_size old, blocks))
    ∙ f.rest.checks_here i j (omega arith) (omega (arith, room_size old)) (omega (arith, checks_size old))) given in record {
      of_layout = mine;
      of_op = f.op ∙ was.of_op;
      kept = added_is_kept (layout_of layout)
          text old.front.head.items (bits_room old) old.behind piece n new.front.head.items (bits_room new) new.behind was.kept a;
      checks = rw new_size at taken;
    }

-- what fails in what was kept fails in the text
pub fails_as_read : (layout : file.Layout) (op : ℕ) (text : List ℕ) (r : Reader)
    → HasRead layout op r text → failing_in r ≡ first_refusal (tests (layout_of layout) op text)
fails_as_read layout op text r read = let few : layout.clients ≤ 64 = layout.clients_within.1 in
    ap (λ (l : file.Layout). failing_for l r.op) read.of_layout ∙ ap (λ (o : ℕ). failing_for layout o) read.of_op
    ∙ fails_as_kept (layout_of layout) op text r.front.head.items (bits_room r) r.behind few read.kept
  where
    failing_for : file.Layout → ℕ → Option Failing
    failing_for l o = failing_of (layout_of l) o r.front.head.items (bits_room r) r.behind
