-- Blocks of a table are written one after the other, into free addresses.
use Rattle.std.{proofs.Common.{◌≡◌, ℕ, suc, ◌+◌, ◌-◌, ◌<◌, ◌≤◌, ◌==◌, nat_lt, Bool, true, false, if◌then◌else◌, List, [], ◌∷◌, ◌++◌, length, map, Option, None, Result, Ok, Err, refl, sym, ◌∙◌, ap, arith}, specs.{Prelude.{OnOk}, FinMap.{len-entries}, Fork.{slice_chunk}, List.{range_with_len}}}
use Rattle.std.specs.FinMap as maps
use Rattle.{df_base.proofs.Laws.{minus_zero}, df_disk.specs.Told.{Told}, df_format.specs.declared.header.Header.{Header}}
use Rattle.{df_layout.specs.declared.layout.Layout.{Layout}, df_session.specs.{Below.{State as Replica, memory}, Blocks.{written}}}
use Rattle.df_model.specs.{Blocks.{with_entry}, Commands.{Command, WriteBlock}, Memory.{free_of}, Refusals.{block_refusals, first_refusal}}
use Rattle.df_rows.specs.{Commands.{Map}, Limits.{block_count, rows_in_block}, Rows.{Entry, rows_of}}
use Rattle.df_table.{specs.{declared.ending.Ending.{Ending}, Policy.{body_at, writes}, Ready.{HasFree, WroteBlocks}, Turns.{EndIn, MakeAll}}, proofs.{Fine.{may_write}, Free.{enough_free}, Making.{IsMaking, all_making, making_ends, making_more, making_none}}}

-- ---- one block

-- one entry more
entry_case : (b c : Bool) (a s : ℕ) (x : ℕ × ℕ) (xs rest : List (ℕ × ℕ))
    → length rest ≤ length xs + 1 → length (if b then (a, s) ∷ x ∷ xs else (if c then (a, s) ∷ xs else x ∷ rest)) ≤ length (x ∷ xs) + 1
entry_case true c a s x xs rest few = omega arith
entry_case false true a s x xs rest few = omega arith
entry_case false false a s x xs rest few = omega (arith, few)

one_entry : (a s : ℕ) (xs : List (ℕ × ℕ)) → length (with_entry a s xs) ≤ length xs + 1
one_entry a s [] = omega arith
one_entry a s (x ∷ xs) = entry_case (nat_lt a x.0) (x.0 == a) a s x xs (with_entry a s xs) (one_entry a s xs)

wrote_at : (s t : Replica) (h : Header) → t ≡ written s h → WroteBlocks 1 s t
wrote_at s t h is = let live = ap (λ (v : Replica). v.blocks.live) is in record {
  same = is ∙ ap (λ (l : List (ℕ × ℕ)). record s { blocks = record s.blocks { live = l } }) (sym live);
  few = rw live (one_entry _ _ s.blocks.live);
}

pub wrote_one : {T : Type 0} (s t : Replica) (h : Header) (r : Result T Ending) → OnOk r (t ≡ written s h) → OnOk r (WroteBlocks 1 s t)
wrote_one s t h (Ok x) is = wrote_at s t h is
wrote_one s t h (Err e) is = tt

pub wrote_none : (s : Replica) → WroteBlocks 0 s s
wrote_none s = record { same = refl; few = omega arith }

pub wrote_more : (n : ℕ) (s t u : Replica) → WroteBlocks n s t → WroteBlocks 1 t u → WroteBlocks (n + 1) s u
wrote_more n s t u some one = record {
  same = one.same ∙ ap (λ (v : Replica). record v { blocks = record v.blocks { live = u.blocks.live } }) some.same;
  few = omega (arith, one.few, some.few);
}

-- where an address is free it isn't refused
pub may_put : (layout : Layout) (s : Replica) (body : List ℕ) → s.file.layout ≡ layout
    → HasFree layout s.blocks 1 → length body ≤ layout.block_size - 256 → first_refusal (block_refusals (memory s) 1 body) ≡ None
may_put layout s body is free short = let enough : (memory s).layout.blocks
    ≤ length (free_of (memory s)) + (length s.blocks.live + (length s.blocks.durable + length s.blocks.chain)) =
    enough_free (memory s).layout
    s.blocks.live s.blocks.captured s.blocks.written s.blocks.left s.blocks.durable s.blocks.chain free.captured free.written free.left in
    let blocks : (memory s).layout.blocks ≡ layout.blocks = ap (λ (l : Layout). l.blocks) is in
    may_write s body (rw (sym is) at short) (omega (arith, enough, blocks, free.free))

-- ---- all of them

-- the command that writes a block
abbrev pub put_at : Layout → Map → ℕ → Command
put_at layout rows k = WriteBlock 1 (body_at layout rows k)

abbrev pub puts_from : Layout → Map → (first count : ℕ) → List Command
puts_from layout rows first count = map (put_at layout rows) (range_with_len first count)

same_writes : (per : ℕ) (entries : List Entry) (ks : List ℕ) → map (WriteBlock 1) (map rows_of (map (λ k. slice_chunk entries per k) ks))
    ≡ map (λ k. WriteBlock 1 (rows_of (slice_chunk entries per k))) ks
same_writes per entries [] = refl
same_writes per entries (k ∷ ks) =
    ap (λ (l : List Command). WriteBlock 1 (rows_of (slice_chunk entries per k)) ∷ l) (same_writes per entries ks)

pub all_puts : (layout : Layout) (rows : Map) → puts_from layout rows 0 (block_count (rows_in_block layout) (maps.len rows)) ≡ writes layout rows
all_puts layout rows = ap (λ (n : ℕ). puts_from layout rows 0 (block_count (rows_in_block layout) n)) (len-entries rows) ∙ sym (same_writes
    (rows_in_block layout) (maps.entries rows) (range_with_len 0 (block_count (rows_in_block layout) (length (maps.entries rows)))))

-- this many of n blocks were written
pub record IsWriting (layout : Layout) (rows : Map) (n b : ℕ) (s t : Replica) (old now : Option Told) : Type 0 where
  pub making : IsMaking (puts_from layout rows 0 n) (puts_from layout rows b (n - b)) s t old now
  pub wrote : WroteBlocks b s t

pub writing_none : (layout : Layout) (rows : Map) (n : ℕ) (s : Replica) (told : Option Told) → IsWriting layout rows n 0 s s told told
writing_none layout rows n s told = record {
  making = rw (← (minus_zero n)) (making_none (puts_from layout rows 0 n) s told);
  wrote = wrote_none s;
}

module _ (layout : Layout)
    (rows : Map) (n b : ℕ) (less : b < n) (s t : Replica) (old now : Option Told) (is : IsWriting layout rows n b s t old now) where
  next_making : IsMaking (puts_from layout rows 0 n) ((put_at layout rows b ∷ []) ++ puts_from layout rows (b + 1) (n - (b + 1))) s t old now
  next_making = rw one_more at is.making
    where
      one_more : n - b ≡ suc (n - (b + 1))
      one_more = omega (arith, less)

  pub writing_more : (u : Replica) (new : Option Told)
      → WroteBlocks 1 t u → MakeAll (put_at layout rows b ∷ []) t u now new → IsWriting layout rows n (b + 1) s u old new
  writing_more u new one made = record {
    making = making_more (puts_from layout rows 0 n)
        (put_at layout rows b ∷ []) (puts_from layout rows (b + 1) (n - (b + 1))) s t u old now new next_making made;
    wrote = wrote_more b s t u is.wrote one;
  }

  pub writing_ends : (u : Replica) (new : Option Told) (ending : Ending)
      → EndIn (put_at layout rows b ∷ []) t u now new ending → EndIn (puts_from layout rows 0 n) s u old new ending
  writing_ends u new ending ends = making_ends (puts_from layout rows 0 n)
      (put_at layout rows b ∷ []) (puts_from layout rows (b + 1) (n - (b + 1))) s t u old now new next_making ending ends

  -- one block more may be written
  pub free_next : HasFree layout s.blocks n → HasFree layout t.blocks 1
  free_next free = record {
    captured = ap (λ (v : Replica). v.blocks.captured) is.wrote.same ∙ free.captured;
    written = ap (λ (v : Replica). v.blocks.written) is.wrote.same ∙ free.written;
    left = ap (λ (v : Replica). v.blocks.left) is.wrote.same ∙ free.left;
    free = omega (arith, less, free.free, is.wrote.few, ap (λ (v : Replica). length v.blocks.durable) is.wrote.same, ap (λ (v : Replica). length v.blocks.chain) is.wrote.same);
  }

module _ (layout : Layout)
    (rows : Map) (n b : ℕ) (s t : Replica) (old now : Option Told) (is : IsWriting layout rows n b s t old now) (all : b ≡ n) where
  pub writing_all : MakeAll (puts_from layout rows 0 n) s t old now
  writing_all = all_making (puts_from layout rows 0 n) s t old now (rw none at is.making)
    where
      none : n - b ≡ 0
      none = omega (arith, all)
