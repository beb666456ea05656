-- The referenced blocks are taken one after the other, in order of address: what the opening has found after each.
use Rattle.std.{proofs.Common.{◌≡◌, inl, inr, ℕ, suc, ◌+◌, ◌-◌, ◌<◌, ◌≤◌, List, [], ◌∷◌, ◌++◌, length, map, Option, Some, None, Result, Ok, Err, refl, sym, ◌∙◌, ap, subst, arith, append_assoc, length-append}, specs.List.{range_with_len}}
use Rattle.{df_base.proofs.Laws.{minus_zero}, df_layout.specs.declared.{layout.Layout.{Layout}, places.Place.{Place}}}
use Rattle.{df_theory.specs.Units.{Block}, df_disk.specs.Told.{Told}, df_session.specs.Below.{State as Replica, memory}}
use Rattle.df_model.{specs.{Blocks.{entries, entry, sum_at}, Commands.{Command, ReadBlock}, Memory.{Memory}, Supply.{Shown, block_read}}, proofs.Laws.{entry_at}}
use Rattle.df_rows.specs.{Blocks.{TableTakes, TakesAll}, Limits.{blocks_of_table}, Rows.{Entry}, Tables.{Table, with_rows}}
use Rattle.df_table.{specs.{declared.ending.Ending.{Ending}, declared.ending.Ending.TheVariants.{Damaged, Disk, NotTable, OpsSpent, SequenceSpent}, declared.opening.Taken.{Taken}, Opening.{AreReadBlocks, AreTakenBlocks, BlockHurt, FindsOf, FindsTable, NoneIsOther, OtherBlock, ReadsNext}, Calls.{Comes}, Policy.{block_reads, reads_at}, Table.{empty_table}, Turns.{EndIn, MakeAll}}, proofs.{Joined.{make_none}, Making.{IsMaking, all_making, making_ends, making_more, making_none}}}

-- ---- one more

read_more : (shown : Shown) (m : Memory) (xs : List (ℕ × ℕ)) (bodies : List (List ℕ)) (x : ℕ × ℕ) (b : Block) → AreReadBlocks
    shown m xs bodies → block_read shown m (ReadBlock x.0) ≡ Ok b → AreReadBlocks shown m (xs ++ x ∷ []) (bodies ++ b.body ∷ [])
read_more shown m [] [] x b are is = ((b, is, refl), tt)
read_more shown m [] (body ∷ bodies) x b are is = absurd are
read_more shown m (y ∷ xs) [] x b are is = absurd are
read_more shown m (y ∷ xs) (body ∷ bodies) x b are is = (are.0, read_more shown m xs bodies x b are.1 is)

takes_more : (t u : Table) (bodies : List (List ℕ)) (body : List ℕ) (es : List Entry)
    → TakesAll t bodies u → TableTakes u body es → TakesAll t (bodies ++ body ∷ []) (with_rows es u)
takes_more t u [] body es all one = (es, rw all at one, ap (with_rows es) all)
takes_more t u (b ∷ bodies) body es all one = (all.0, all.1, takes_more (with_rows all.0 t) u bodies body es all.2 one)

unok : (x y : Taken) (r : Result Taken Ending) → r ≡ Ok x → r ≡ Ok y → x ≡ y
unok x y r one two = cc

no_ok : (e : Ending) (x : Taken) (r : Result Taken Ending) → r ≡ Err e → r ≡ Ok x → ⊥
no_ok e x r one two = cc

-- ---- the blocks up to an address

-- Of n addresses those up to b were gone through, and this many of them were live: their blocks are a table.
pub record IsTaking (layout : Layout) (shown : Shown) (m : Memory) (f : ℕ → Option ℕ) (n b : ℕ) (t : Table) (taken : ℕ) : Type 0 where
  pub are : AreTakenBlocks layout shown m (entries f (range_with_len (b + 1) (n - b))) t
  pub count : taken ≡ length are.before

module _ (layout : Layout) (shown : Shown) (m : Memory) (f : ℕ → Option ℕ) (n : ℕ) (live : m.blocks.live ≡ entries f (range_with_len 1 n)) where
  pub taking_none : NoneIsOther m (length m.sessions) → IsTaking layout shown m f n 0 (empty_table layout) 0
  taking_none own = record {
    are = record {
      own = own;
      before = [];
      of = live ∙ ap (λ (k : ℕ). entries f (range_with_len 1 k)) (minus_zero n);
      few = omega arith;
      bodies = [];
      read = tt;
      taken = refl;
    };
    count = refl;
  }

  module _ (b : ℕ) (less : b < n) (t : Table) (taken : ℕ) (is : IsTaking layout shown m f n b t taken) where
    abbrev rest : List (ℕ × ℕ)
    rest = entries f (range_with_len (b + 1 + 1) (n - (b + 1)))

    next_is : entries f (range_with_len (b + 1) (n - b)) ≡ entry (b + 1) (sum_at (b + 1) m.blocks.live) rest
    next_is = ap (λ (k : ℕ). entries f (range_with_len (b + 1) k)) one_more ∙ ap (λ (o : Option ℕ).
        entry (b + 1) o rest) (sym (ap (sum_at (b + 1)) live ∙ entry_at f 1 n (b + 1) (omega arith) (omega (arith, less))))
      where
        one_more : n - b ≡ suc (n - (b + 1))
        one_more = omega (arith, less)

    abbrev split : (o : Option ℕ) → sum_at (b + 1) m.blocks.live ≡ o → AreTakenBlocks layout shown m (entry (b + 1) o rest) t
    split o found = record {
      own = is.are.own;
      before = is.are.before;
      of = is.are.of ∙ ap (λ (l : List (ℕ × ℕ)). is.are.before ++ l) (next_is ∙ ap (λ (p : Option ℕ). entry (b + 1) p rest) found);
      few = is.are.few;
      bodies = is.are.bodies;
      read = is.are.read;
      taken = is.are.taken;
    }

    -- the next address isn't live
    pub taking_on : sum_at (b + 1) m.blocks.live ≡ None → IsTaking layout shown m f n (b + 1) t taken
    taking_on none = record { are = split None none; count = is.count }

    -- the block of the next address is taken
    pub taking_more : (c : ℕ) → sum_at (b + 1) m.blocks.live ≡ Some c → (block : Block) → block_read shown m (ReadBlock (b + 1)) ≡ Ok block → taken < blocks_of_table layout → (es : List Entry) → TableTakes t block.body es → IsTaking layout shown m f n (b + 1) (with_rows es t) (taken + 1)
    taking_more c some block shows room es takes = record {
      are = record {
        own = is.are.own;
        before = is.are.before ++ (b + 1, c) ∷ [];
        of = (split (Some c) some).of ∙ sym (append_assoc is.are.before ((b + 1, c) ∷ []) rest);
        few = omega (arith, length-append is.are.before ((b + 1, c) ∷ []), is.count, room);
        bodies = is.are.bodies ++ block.body ∷ [];
        read = read_more shown m is.are.before is.are.bodies (b + 1, c) block is.are.read shows;
        taken = takes_more (empty_table layout) t is.are.bodies block.body es is.are.taken takes;
      };
      count = omega (arith, is.count, length-append is.are.before ((b + 1, c) ∷ []));
    }

  module _ (b : ℕ) (less : b < n) (x : Taken) (is : IsTaking layout shown m f n b x.table x.count) where
    -- what the read of the next address comes to
    pub taking_next : (o : Option ℕ) → sum_at (b + 1) m.blocks.live ≡ o → (next : Taken)
        → ReadsNext shown m (b + 1) (blocks_of_table layout) x o (Ok next) → IsTaking layout shown m f n (b + 1) next.table next.count
    taking_next None none next reads = let same : next ≡ x = unok next x (Ok next) refl reads in
        subst (λ (y : Taken). IsTaking layout shown m f n (b + 1) y.table y.count) (sym same) (taking_on b less x.table x.count is none)
    taking_next (Some c) some next reads = let takes = reads.0.2 in
        subst (λ (k : ℕ). IsTaking layout shown m f n (b + 1) next.table k) (sym reads.1)
        (rw (sym takes.1.2) at (taking_more b less x.table x.count is c some reads.0.0 reads.0.1 takes.0 takes.1.0 takes.1.1))

    -- or how it ends
    pub taking_ends : (o : Option ℕ) → sum_at (b + 1) m.blocks.live ≡ o
        → (ending : Ending) → ReadsNext shown m (b + 1) (blocks_of_table layout) x o (Err ending) → FindsOf layout shown m (Err ending)
    taking_ends None none ending reads = absurd (no_ok ending x (Err ending) refl reads)
    taking_ends (Some c) some Disk reads = inl refl
    taking_ends (Some c) some (Damaged place class) reads = inr (rw (sym reads.0) at
        (BlockHurt (b + 1, c) (rest b less x.table x.count is) x.table class (split b less x.table x.count is (Some c) some) reads.1))
    taking_ends (Some c) some (NotTable place) reads = let takes = reads.2 in inr (rw (sym takes.0) at (OtherBlock
        (b + 1, c) (rest b less x.table x.count is) x.table reads.0 (split b less x.table x.count is (Some c) some) reads.1 (elim takes.1 [
          | inl norows ↦ inl norows
          | inr full ↦ inr (rw is.count at full)
        ])))
    taking_ends (Some c) some OpsSpent reads = absurd reads
    taking_ends (Some c) some SequenceSpent reads = absurd reads

  -- all were gone through
  pub taking_all : (b : ℕ) (t : Table) (taken : ℕ) → b ≡ n → IsTaking layout shown m f n b t taken → AreTakenBlocks layout shown m [] t
  taking_all b t taken all is = rw (ap (λ (k : ℕ). entries f (range_with_len (b + 1) k)) none_left) at is.are
    where
      none_left : n - b ≡ 0
      none_left = omega (arith, all)

-- ---- the calls

-- the reads of entries
abbrev pub reads_of : List (ℕ × ℕ) → List Command
reads_of xs = map (λ (x : ℕ × ℕ). ReadBlock x.0) xs

-- one address
pub reads_some : {T : Type 0} (a c : ℕ) (s t : Replica) (old new : Option Told) (r : Result T Ending)
    → sum_at a s.blocks.live ≡ Some c → Comes (ReadBlock a ∷ []) s t old new r → Comes (reads_at a (memory s)) s t old new r
reads_some a c s t old new r is comes = subst (λ (o : Option ℕ). Comes (reads_of (entry a o [])) s t old new r) (sym is) comes

pub reads_none : (a : ℕ) (s : Replica) (told : Option Told) → sum_at a s.blocks.live ≡ None → MakeAll (reads_at a (memory s)) s s told told
reads_none a s told none = subst (λ (o : Option ℕ). MakeAll (reads_of (entry a o [])) s s told told) (sym none) (make_none s told)

module _ (f : ℕ → Option ℕ) (n : ℕ) (s : Replica) (live : s.blocks.live ≡ entries f (range_with_len 1 n)) where
  abbrev to_come : ℕ → List Command
  to_come b = reads_of (entries f (range_with_len (b + 1) (n - b)))

  pub reading_none : (told : Option Told) → IsMaking (block_reads (memory s)) (to_come 0) s s told told
  reading_none told = subst (λ (l : List (ℕ × ℕ)). IsMaking (block_reads (memory s)) (reads_of l) s s told told)
      (live ∙ ap (λ (k : ℕ). entries f (range_with_len 1 k)) (minus_zero n)) (making_none (block_reads (memory s)) s told)

  module _ (b : ℕ) (less : b < n)
      (t u : Replica) (old now new : Option Told) (same : t ≡ s) (is : IsMaking (block_reads (memory s)) (to_come b) s t old now) where
    parts : (o : Option ℕ) → reads_of (entry (b + 1) o (entries f (range_with_len (b + 1 + 1) (n - (b + 1)))))
        ≡ reads_of (entry (b + 1) o []) ++ to_come (b + 1)
    parts None = refl
    parts (Some c) = refl

    here : IsMaking (block_reads (memory s)) (reads_at (b + 1) (memory t) ++ to_come (b + 1)) s t old now
    here = rw (ap (λ (k : ℕ). reads_of (entries f (range_with_len (b + 1) k))) one_more ∙ parts (f (b + 1))
        ∙ ap (λ (o : Option ℕ). reads_of (entry (b + 1) o []) ++ to_come (b + 1)) (sym (ap (λ (r : Replica).
        sum_at (b + 1) r.blocks.live) same ∙ ap (sum_at (b + 1)) live ∙ entry_at f 1 n (b + 1) (omega arith) (omega (arith, less))))) at is
      where
        one_more : n - b ≡ suc (n - (b + 1))
        one_more = omega (arith, less)

    pub reading_more : MakeAll (reads_at (b + 1) (memory t)) t u now new → IsMaking (block_reads (memory s)) (to_come (b + 1)) s u old new
    reading_more made = making_more (block_reads (memory s)) (reads_at (b + 1) (memory t)) (to_come (b + 1)) s t u old now new here made

    pub reading_ends : (ending : Ending)
        → EndIn (reads_at (b + 1) (memory t)) t u now new ending → EndIn (block_reads (memory s)) s u old new ending
    reading_ends ending ends =
        making_ends (block_reads (memory s)) (reads_at (b + 1) (memory t)) (to_come (b + 1)) s t u old now new here ending ends

  pub reading_all : (b : ℕ) (t : Replica) (old now : Option Told)
      → b ≡ n → IsMaking (block_reads (memory s)) (to_come b) s t old now → MakeAll (block_reads (memory s)) s t old now
  reading_all b t old now all is = all_making (block_reads (memory s)) s t old now (rw none_left at is)
    where
      none_left : n - b ≡ 0
      none_left = omega (arith, all)
