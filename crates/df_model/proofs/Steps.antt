-- A checkpoint that is begun, and the steps of its trailer.
use Rattle.std.proofs.{Common.{◌≡◌, inl, inr, ℕ, zero, suc, ◌+◌, ◌-◌, ◌*◌, ◌/◌, ◌%◌, ◌^◌, ◌<◌, ◌≤◌, min, List, ◌∷◌, ◌++◌, length, take, drop, None, refl, sym, ◌∙◌, ap, subst, arith, length-drop, ltb-false}, lemmas.List.{length-take, length-take-le, take_all}, Math.Seq.{take-add}, Math.Nat.{mul-suc}, lemmas.Bool.{eqb-false}}
use Rattle.df_base.proofs.Laws.{split_n}
use Rattle.df_theory.{specs.{Units.{Block, Parts}, Sessions.{sessions_after}, Tails.{last_checksum}, Trailer.{InChain, IsCount, piece_size, text_of}, Shape.{Shape}, View.{View, head, sequence}}, proofs.Laws.{tracks}}
use Rattle.df_model.{specs.{Work.{Running, Work}, Codec.{AreBytes, IsLawful}, Refusals.{begin_refusals, first_refusal}, After.{next_trailer, begun}, Sense.{AtEachOf, IsCapture, IsSpare, IsWork, RiseFrom}, Blocks.{addresses}, Memory.{free_of, block_room, memory_of}, Making.{needed_of, parts_of, pieces_of}}, proofs.{Entries.{entry_in, entry_none}, Tests.{all_pass}, Grid.{IsFree, are_free, each_take, each_weaker, free_rise, live_held, nowhere, rise_lower, rise_take}}}

-- ---- pieces

count_of : (room size n : ℕ)
    → 0 < size → n ≡ (size + room - 1) / room → size + room - 1 < room * n + room → room * n ≤ size + room - 1 → IsCount room size n
count_of room size zero some is low high = record { holds = omega (arith, mul-suc room 0); needed = λ none. absurd (omega arith) }
count_of room size (suc n) some is low high = record {
  holds = omega arith;
  needed = λ any. let same : suc n - 1 ≡ n = omega arith in rw same (omega (arith, mul-suc room n));
}

pub pieces_count : (room size : ℕ) → 0 < room → 0 < size → IsCount room size (pieces_of room size)
pieces_count room size some any =
    let split : room * ((size + room - 1) / room) + (size + room - 1) % room ≡ size + room - 1 = split_n room (size + room - 1) some in
    let rest : (size + room - 1) % room < room = omega arith in
    count_of room size (pieces_of room size) any refl (omega arith) (omega arith)

-- ---- the begin

module _ (sh : Shape) (spell : Parts → List ℕ) (w : Work) (root : List ℕ) (bytes : AreBytes root) (work : IsWork sh spell w)
    (none : first_refusal (begin_refusals (memory_of sh spell w) (needed_of spell (memory_of sh spell w) root) root) ≡ None) where
  abbrev v : View
  v = w.view

  abbrev r : Running
  r = begun sh spell w root

  some_room : 0 < block_room sh.layout
  some_room = omega (arith, work.codec.room)

  lawful : IsLawful sh.layout (head v) (parts_of (memory_of sh spell w) root)
  lawful = record {
    root = (ltb-false 1024 (length root) (all_pass (begin_refusals (memory_of sh spell w) (needed_of spell (memory_of sh spell w) root) root) none).1.0, bytes);
    sessions = work.sessions;
    reached = (tracks sh v work.view).below;
    ops = (tracks sh v work.view).apart;
    references = λ a c is. let live = entry_in w.live (addresses sh.layout) a c is in (work.grid a (live_held w a c live), work.sums a c live);
  }

  whole : take (head v - v.checkpoint.content.op) v.tail ≡ v.tail
  whole = take_all (head v - v.checkpoint.content.op) v.tail (omega arith)

  spares : AtEachOf (IsSpare sh r) r.left
  spares = each_take (IsSpare sh r) (needed_of spell (memory_of sh spell w) root) (free_of (memory_of sh spell w)) (each_weaker (IsFree sh w) (IsSpare sh r) (λ a free. record { inside = free.inside; unreferenced = entry_none w.live (addresses sh.layout) a (nowhere w a free.unheld).live }) (free_of (memory_of sh spell w)) (are_free sh spell w))

  pub begin_capture : IsCapture sh spell v r
  begin_capture = let tests = all_pass (begin_refusals (memory_of sh spell w) (needed_of spell (memory_of sh spell w) root) root) none in
      let enough : needed_of spell (memory_of sh spell w) root ≤ length (free_of (memory_of sh spell w)) =
      ltb-false (length (free_of (memory_of sh spell w))) (needed_of spell (memory_of sh spell w) root) tests.1.1.0 in
      let spent : sequence v ≡ 2 ^ 62 → ⊥ = eqb-false (sequence v) (2 ^ 62) tests.1.1.1.0 in
      let long : length r.left ≡ needed_of spell (memory_of sh spell w) root =
      length-take-le (needed_of spell (memory_of sh spell w) root) (free_of (memory_of sh spell w)) enough in
      let none_yet : block_room sh.layout * 0 ≡ 0 = omega arith in record {
        op_from = omega arith;
        op_to = omega arith;
        ends = λ p at low. work.view.groups p at;
        op_checksum = ap (last_checksum v.checkpoint.content.op_checksum) (sym whole);
        sessions = ap (sessions_after v.checkpoint.parts.sessions) (sym whole);
        unspent = omega (arith, work.view.checkpoint.tests.sequence.1);
        lawful = lawful;
        count = subst (IsCount (block_room sh.layout) (length (spell (parts_of (memory_of sh spell w) root)))) (let e : needed_of spell (memory_of sh spell w) root ≡ 0 + length r.left = omega arith in e) (pieces_count (block_room sh.layout) (length (spell (parts_of (memory_of sh spell w) root))) some_room (work.codec.some (parts_of (memory_of sh spell w) root)));
        links = refl;
        text = ap (λ (k : ℕ). take k (spell (parts_of (memory_of sh spell w) root))) (sym none_yet);
        written = λ a b at. absurd at;
        left = (spares, rise_take (needed_of spell (memory_of sh spell w) root) 1 (free_of (memory_of sh spell w)) (free_rise (λ a. _) 1 sh.layout.blocks));
      }

-- ---- a step

module _ (sh : Shape) (spell : Parts → List ℕ)
    (w : Work) (r : Running) (sum a : ℕ) (more : List ℕ) (old : IsCapture sh spell w.view r) (left : r.left ≡ a ∷ more) where
  abbrev b : Block
  b = next_trailer sh spell w r sum

  abbrev u : Running
  u = record r { written = (a, b) ∷ r.written; left = more }

  left_spare : AtEachOf (IsSpare sh r) (a ∷ more)
  left_spare = subst (AtEachOf (IsSpare sh r)) left old.left.0

  rises : RiseFrom 1 (a ∷ more)
  rises = subst (RiseFrom 1) left old.left.1

  keep_spare : (x : ℕ) → IsSpare sh r x → IsSpare sh u x
  keep_spare x spare = record { inside = spare.inside; unreferenced = spare.unreferenced }

  size : length b.body ≡ piece_size (block_room sh.layout) (length (spell r.parts)) (length r.written)
  size = length-take (block_room sh.layout) (drop (block_room sh.layout * length r.written) (spell r.parts))
      ∙ ap (min (block_room sh.layout)) (length-drop (block_room sh.layout * length r.written) (spell r.parts))

  text : text_of r.written ++ b.body ≡ take (block_room sh.layout * suc (length r.written)) (spell r.parts)
  text = ap (λ (l : List ℕ). l ++ b.body) old.text ∙ sym (take-add (block_room sh.layout * length r.written) (block_room sh.layout)
      (spell r.parts)) ∙ ap (λ (k : ℕ). take k (spell r.parts)) (sym (mul-suc (block_room sh.layout) (length r.written)))

  written : (x : ℕ) (y : Block) → InChain x y u.written → IsSpare sh u x × RiseFrom (x + 1) more
  written x y (inl here) = (subst (IsSpare sh u) (sym here.0) (keep_spare a left_spare.0), rw (sym here.0) at rises.1)
  written x y (inr there) = let before = old.written x y there in
      let rise : RiseFrom (x + 1) (a ∷ more) = subst (RiseFrom (x + 1)) left before.1 in
      (keep_spare x before.0, rise_lower (x + 1) (a + 1) more (omega (arith, rise.0)) rise.1)

  pub step_capture : IsCapture sh spell w.view u
  step_capture = record {
    op_from = old.op_from;
    op_to = old.op_to;
    ends = old.ends;
    count = subst (IsCount (block_room sh.layout) (length (spell r.parts)))
        (let e : length r.written + length r.left ≡ suc (length r.written) + length more = omega (arith, ap length left) in e) old.count;
    op_checksum = old.op_checksum;
    sessions = old.sessions;
    unspent = old.unspent;
    lawful = old.lawful;
    links = (left_spare.0.inside.0, refl, refl, refl, refl, size, refl, old.links);
    text = text;
    written = written;
    left = (each_weaker (IsSpare sh r) (IsSpare sh u) keep_spare more left_spare.1, rise_lower 1 (a + 1) more (omega arith) rises.1);
  }
