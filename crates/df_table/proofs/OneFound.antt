-- An opening finds one thing: of two that go on from the same start one goes further only where the other one has no reason to end.
use Rattle.std.proofs.{Common.{◌≡◌, ◌⊎◌, inl, inr, ℕ, suc, ◌+◌, ◌<◌, ◌≤◌, ◌%◌, List, [], ◌∷◌, ◌++◌, length, Result, Ok, Err, refl, sym, ◌∙◌, ap, subst, arith}, lemmas.Bool.{cases_lt}, lemmas.Option.{slice_get_within}}
use Rattle.df_layout.specs.{declared.damage.Class.{Class}, declared.layout.Layout.{Layout}, declared.places.Zone.TheVariants.{ClientReplies, Grid, WalPrepares}}
use Rattle.df_theory.specs.Units.{Block, Message}
use Rattle.df_model.specs.{Commands.{ReadBlock, ReadPrepare}, Memory.{Memory}, Supply.{Shown, block_read, message_given}}
use Rattle.df_rows.{specs.{declared.command.Command.{Command}, Blocks.{TableTakes, TakesAll}, Limits.{blocks_of_table}, Rows.{Entry}, Tables.{Table, with_command, with_commands, with_rows}}, proofs.Laws.{one_body, one_command}}
use Rattle.df_table.specs.{declared.ending.Ending.{Ending}, declared.ending.Ending.TheVariants.{Damaged, NotTable}, Laws.{FindsOne}, Opening.{AreFollowed, AreReadBlocks, ArePrepares, AreTakenBlocks, BlockHurt, FindsTable, Found, IsOtherClient, NoCommand, NoRows, NoneIsOther, OtherBlock, OtherClient, OtherPrepare, PrepareHurt, place_at}, Table.{CommandFollows, FollowAll, empty_table}}

ok_one : (A E : Type 0) (r : Result A E) (a b : A) → r ≡ Ok a → r ≡ Ok b → a ≡ b
ok_one A E r a b one two = let same : Ok a ≡ Ok b = sym one ∙ two in let is : a ≡ b = cc in is

ok_err : (A E : Type 0) (r : Result A E) (a : A) (e : E) → r ≡ Ok a → r ≡ Err e → ⊥
ok_err A E r a e one two = let same : Ok a ≡ Err e = sym one ∙ two in cc

err_one : (A E : Type 0) (r : Result A E) (a b : E) → r ≡ Err a → r ≡ Err b → a ≡ b
err_one A E r a b one two = let same : Err a ≡ Err b = sym one ∙ two in let is : a ≡ b = cc in is

module _ (shown : Shown) (m : Memory) where
  -- ---- blocks

  -- the first of blocks that are read, and those after it
  record BlockHead (x : ℕ × ℕ) (xs : List (ℕ × ℕ)) (t u : Table) : Type 0 where
    block : Block
    read : block_read shown m (ReadBlock x.0) ≡ Ok block
    entries : List Entry
    takes : TableTakes t block.body entries
    bodies : List (List ℕ)
    reads : AreReadBlocks shown m xs bodies
    rest : TakesAll (with_rows entries t) bodies u

  block_head : (x : ℕ × ℕ) (xs : List (ℕ × ℕ)) (bodies : List (List ℕ)) (t u : Table)
      → AreReadBlocks shown m (x ∷ xs) bodies → TakesAll t bodies u → BlockHead x xs t u
  block_head x xs [] t u read takes = absurd read
  block_head x xs (body ∷ more) t u read takes =
      record { block = read.0.0; read = read.0.1; entries = takes.0; takes = rw (sym read.0.2) at takes.1; bodies = more; reads = read.1; rest = takes.2 }

  block_none : (bodies : List (List ℕ)) (t u : Table) → AreReadBlocks shown m [] bodies → TakesAll t bodies u → u ≡ t
  block_none [] t u read takes = takes
  block_none (body ∷ more) t u read takes = absurd read

  -- the other one reads and takes the first of these
  record GoesOn (rest : List (ℕ × ℕ)) (t : Table) (short long : ℕ) : Type 0 where
    next : ℕ × ℕ
    more : List (ℕ × ℕ)
    is : rest ≡ next ∷ more
    block : Block
    read : block_read shown m (ReadBlock next.0) ≡ Ok block
    entries : List Entry
    takes : TableTakes t block.body entries
    less : short < long

  -- both end there
  record EndsThere (r1 r2 : List (ℕ × ℕ)) (t1 t2 : Table) : Type 0 where
    rest : r1 ≡ r2
    table : t1 ≡ t2

  abbrev Compared : (r1 r2 : List (ℕ × ℕ)) (t1 t2 : Table) (n1 n2 : ℕ) → Type 0
  Compared r1 r2 t1 t2 n1 n2 = EndsThere r1 r2 t1 t2 ⊎ (GoesOn r2 t2 n2 n1 ⊎ GoesOn r1 t1 n1 n2)

  one_on : (rest : List (ℕ × ℕ)) (t : Table) (short long : ℕ) → GoesOn rest t short long → GoesOn rest t (suc short) (suc long)
  one_on rest t short long g = record { next = g.next; more = g.more; is = g.is; block = g.block; read = g.read; entries = g.entries; takes = g.takes; less = omega (arith, g.less) }

  all_on : (r1 r2 : List (ℕ × ℕ)) (t1 t2 : Table) (n1 n2 : ℕ) → Compared r1 r2 t1 t2 n1 n2 → Compared r1 r2 t1 t2 (suc n1) (suc n2)
  all_on r1 r2 t1 t2 n1 n2 (inl same) = inl same
  all_on r1 r2 t1 t2 n1 n2 (inr (inl g)) = inr (inl (one_on r2 t2 n2 n1 g))
  all_on r1 r2 t1 t2 n1 n2 (inr (inr g)) = inr (inr (one_on r1 t1 n1 n2 g))

  compare : (b1 r1 b2 r2 : List (ℕ × ℕ)) (bodies1 bodies2 : List (List ℕ)) (t t1 t2 : Table) → b1 ++ r1 ≡ b2 ++ r2
      → AreReadBlocks shown m b1 bodies1 → TakesAll t bodies1 t1 → AreReadBlocks shown m b2 bodies2 → TakesAll t bodies2 t2
      → Compared r1 r2 t1 t2 (length b1) (length b2)
  compare [] r1 [] r2 bodies1 bodies2 t t1 t2 is read1 take1 read2 take2 =
      inl (record { rest = is; table = block_none bodies1 t t1 read1 take1 ∙ sym (block_none bodies2 t t2 read2 take2) })
  compare [] r1 (y ∷ b2) r2 bodies1 bodies2 t t1 t2 is read1 take1 read2 take2 = let h = block_head y b2 bodies2 t t2 read2 take2 in
      inr (inr (record { next = y; more = b2 ++ r2; is = is; block = h.block; read = h.read; entries = h.entries; takes = rw ((block_none bodies1 t t1 read1 take1)) h.takes; less = omega arith }))
  compare (x ∷ b1) r1 [] r2 bodies1 bodies2 t t1 t2 is read1 take1 read2 take2 = let h = block_head x b1 bodies1 t t1 read1 take1 in
      inr (inl (record { next = x; more = b1 ++ r1; is = sym is; block = h.block; read = h.read; entries = h.entries; takes = rw ((block_none bodies2 t t2 read2 take2)) h.takes; less = omega arith }))
  compare (x ∷ b1) r1 (y ∷ b2) r2 bodies1 bodies2 t t1 t2 is read1 take1 read2 take2 = let one = block_head x b1 bodies1 t t1 read1 take1 in
      let two = block_head y b2 bodies2 t t2 read2 take2 in let whole : x ∷ (b1 ++ r1) ≡ y ∷ (b2 ++ r2) = is in let first : x ≡ y = cc in
      let more : b1 ++ r1 ≡ b2 ++ r2 = cc in let block = ok_one Block Class (block_read shown m (ReadBlock x.0))
      one.block two.block one.read (ap (λ (z : ℕ × ℕ). block_read shown m (ReadBlock z.0)) first ∙ two.read) in
      let entries = one_body t one.block.body two.entries one.entries (rw (sym block) at two.takes) one.takes in
      all_on r1 r2 t1 t2 (length b1) (length b2)
      (compare b1 r1 b2 r2 one.bodies two.bodies (with_rows one.entries t) t1 t2 more one.reads one.rest two.reads (rw entries at two.rest))

  -- ---- prepares

  record TailGoesOn (op : ℕ) (t : Table) (short long : ℕ) : Type 0 where
    prepare : Message
    read : message_given shown m (ReadPrepare (op + short)) ≡ Ok prepare
    command : Command
    follows : CommandFollows t prepare.body command
    less : short < long

  record TailEndsThere (t1 t2 : Table) (n1 n2 : ℕ) : Type 0 where
    table : t1 ≡ t2
    count : n1 ≡ n2

  abbrev TailCompared : (op : ℕ) (t1 t2 : Table) (n1 n2 : ℕ) → Type 0
  TailCompared op t1 t2 n1 n2 = TailEndsThere t1 t2 n1 n2 ⊎ (TailGoesOn op t2 n2 n1 ⊎ TailGoesOn op t1 n1 n2)

  tail_one_on : (op : ℕ) (t : Table) (short long : ℕ) → TailGoesOn (op + 1) t short long → TailGoesOn op t (suc short) (suc long)
  tail_one_on op t short long g = record {
    prepare = g.prepare;
    read = subst (λ (n : ℕ). message_given shown m (ReadPrepare n) ≡ Ok g.prepare) (omega arith) g.read;
    command = g.command;
    follows = g.follows;
    less = omega (arith, g.less);
  }

  tail_all_on : (op : ℕ) (t1 t2 : Table) (n1 n2 : ℕ) → TailCompared (op + 1) t1 t2 n1 n2 → TailCompared op t1 t2 (suc n1) (suc n2)
  tail_all_on op t1 t2 n1 n2 (inl same) = inl (record { table = same.table; count = ap suc same.count })
  tail_all_on op t1 t2 n1 n2 (inr (inl g)) = inr (inl (tail_one_on op t2 n2 n1 g))
  tail_all_on op t1 t2 n1 n2 (inr (inr g)) = inr (inr (tail_one_on op t1 n1 n2 g))

  at_start : (op : ℕ) (p : Message) → message_given shown m (ReadPrepare op) ≡ Ok p → message_given shown m (ReadPrepare (op + 0)) ≡ Ok p
  at_start op p read = subst (λ (n : ℕ). message_given shown m (ReadPrepare n) ≡ Ok p) (omega arith) read

  compare_tail : (op : ℕ) (p1 p2 : List Message) (c1 c2 : List Command) (t : Table)
      → ArePrepares shown m op p1 → FollowAll t p1 c1 → ArePrepares shown m op p2 → FollowAll t p2 c2
      → TailCompared op (with_commands c1 t) (with_commands c2 t) (length p1) (length p2)
  compare_tail op [] [] [] [] t read1 all1 read2 all2 = inl (record { table = refl; count = refl })
  compare_tail op [] p2 (c ∷ c1) c2 t read1 all1 read2 all2 = absurd all1
  compare_tail op [] [] [] (d ∷ c2) t read1 all1 read2 all2 = absurd all2
  compare_tail op [] (q ∷ p2) [] [] t read1 all1 read2 all2 = absurd all2
  compare_tail op [] (q ∷ p2) [] (d ∷ c2) t read1 all1 read2 all2 =
      inr (inr (record { prepare = q; read = at_start op q read2.0; command = d; follows = all2.0; less = omega arith }))
  compare_tail op (p ∷ p1) p2 [] c2 t read1 all1 read2 all2 = absurd all1
  compare_tail op (p ∷ p1) [] (c ∷ c1) [] t read1 all1 read2 all2 =
      inr (inl (record { prepare = p; read = at_start op p read1.0; command = c; follows = all1.0; less = omega arith }))
  compare_tail op (p ∷ p1) [] (c ∷ c1) (d ∷ c2) t read1 all1 read2 all2 = absurd all2
  compare_tail op (p ∷ p1) (q ∷ p2) (c ∷ c1) [] t read1 all1 read2 all2 = absurd all2
  compare_tail op (p ∷ p1) (q ∷ p2) (c ∷ c1) (d ∷ c2) t read1 all1 read2 all2 =
      let prepare = ok_one Message Class (message_given shown m (ReadPrepare op)) p q read1.0 read2.0 in let command : c ≡ d =
      one_command c d all1.0.fits all2.0.fits (sym all1.0.body_is ∙ ap (λ (x : Message). x.body) prepare ∙ all2.0.body_is) in
      let behind : FollowAll (with_command c t) p2 c2 = rw (sym command) at all2.1 in subst (λ (e : Command). TailCompared
      op (with_commands c1 (with_command c t)) (with_commands c2 (with_command e t)) (suc (length p1)) (suc (length p2))) command
      (tail_all_on op (with_commands c1 (with_command c t)) (with_commands c2 (with_command c t))
      (length p1) (length p2) (compare_tail (op + 1) p1 p2 c1 c2 (with_command c t) read1.1 all1.1 read2.1 behind))

-- ---- why it ends

module _ (layout : Layout) (shown : Shown) (m : Memory) where
  -- at a block: it isn't shown, or has no rows of the table
  abbrev BlockWhy : (x : ℕ × ℕ) (before : List (ℕ × ℕ)) (t : Table) → Result Table Ending → Type 0
  BlockWhy x before t r =
      ((class : Class) × (block_read shown m (ReadBlock x.0) ≡ Err class) × (r ≡ Err (Damaged (place_at Grid x.0) class)))
      ⊎ ((b : Block) × (block_read shown m (ReadBlock x.0) ≡ Ok b) × NoRows layout t before b.body × (r ≡ Err (NotTable (place_at Grid x.0))))

  -- in the tail: a prepare isn't shown, or is no command; or all were
  abbrev TailWhy : (op : ℕ) (t : Table) → Result Table Ending → Type 0
  TailWhy op t r = ((op < m.head) × (class : Class) × (message_given shown m (ReadPrepare (op + 1)) ≡ Err class)
      × (r ≡ Err (Damaged (place_at WalPrepares ((op + 1) % layout.slots)) class)))
      ⊎ ((op < m.head) × (p : Message) × (message_given shown m (ReadPrepare (op + 1)) ≡ Ok p)
      × NoCommand t p.body × (r ≡ Err (NotTable (place_at WalPrepares ((op + 1) % layout.slots))))) ⊎ ((op ≡ m.head) × (r ≡ Ok t))

  record SessionStop (r : Result Table Ending) : Type 0 where
    place : ℕ
    is : IsOtherClient m place
    none : NoneIsOther m place
    result : r ≡ Err (NotTable (place_at ClientReplies place))

  record BlockStop (r : Result Table Ending) : Type 0 where
    x : ℕ × ℕ
    rest : List (ℕ × ℕ)
    table : Table
    taken : AreTakenBlocks layout shown m (x ∷ rest) table
    why : BlockWhy x taken.before table r

  record TailStop (r : Result Table Ending) : Type 0 where
    op : ℕ
    table : Table
    followed : AreFollowed layout shown m op table
    why : TailWhy op table r

  abbrev Stop : Result Table Ending → Type 0
  Stop r = SessionStop r ⊎ (BlockStop r ⊎ TailStop r)

  stop_of : (r : Result Table Ending) → FindsTable layout shown m r → Stop r
  stop_of r (OtherClient place is none) = inl (record { place = place; is = is; none = none; result = refl })
  stop_of r (BlockHurt x rest t class taken hurt) =
      inr (inl (record { x = x; rest = rest; table = t; taken = taken; why = inl (class, hurt, refl) }))
  stop_of r (OtherBlock x rest t b taken read norows) =
      inr (inl (record { x = x; rest = rest; table = t; taken = taken; why = inr (b, read, norows, refl) }))
  stop_of r (PrepareHurt op t class are less hurt) =
      inr (inr (record { op = op; table = t; followed = are; why = inl (less, class, hurt, refl) }))
  stop_of r (OtherPrepare op t p are less read none) =
      inr (inr (record { op = op; table = t; followed = are; why = inr (inl (less, p, read, none, refl)) }))
  stop_of r (Found t are) = inr (inr (record { op = m.head; table = t; followed = are; why = inr (inr (refl, refl)) }))

  -- ---- nothing goes on there

  ends_block : (x : ℕ × ℕ) (rest before : List (ℕ × ℕ)) (t : Table) (r : Result Table Ending) (long : ℕ)
      → BlockWhy x before t r → GoesOn shown m (x ∷ rest) t (length before) long → long ≤ blocks_of_table layout → ⊥
  ends_block x rest before t r long why g few = let whole : x ∷ rest ≡ g.next ∷ g.more = g.is in let first : x ≡ g.next = cc in
      let read : block_read shown m (ReadBlock x.0) ≡ Ok g.block = ap (λ (z : ℕ × ℕ). block_read shown m (ReadBlock z.0)) first ∙ g.read in
      go why read
    where
      go : BlockWhy x before t r → block_read shown m (ReadBlock x.0) ≡ Ok g.block → ⊥
      go (inl hurt) read = ok_err Block Class (block_read shown m (ReadBlock x.0)) g.block hurt.0 read hurt.1
      go (inr (b, there, inl none, is)) read =
          none g.entries (rw (ok_one Block Class (block_read shown m (ReadBlock x.0)) g.block b read there) at g.takes)
      go (inr (b, there, inr many, is)) read = omega (arith, many, few, g.less)

  compare_taken : (r1 r2 : List (ℕ × ℕ)) (t1 t2 : Table) (a : AreTakenBlocks layout shown m r1 t1) (b : AreTakenBlocks layout shown m r2 t2)
      → Compared shown m r1 r2 t1 t2 (length a.before) (length b.before)
  compare_taken r1 r2 t1 t2 a b =
      compare shown m a.before r1 b.before r2 a.bodies b.bodies (empty_table layout) t1 t2 (sym a.of ∙ b.of) a.read a.taken b.read b.taken

  no_more : (t : Table) (short long : ℕ) → GoesOn shown m [] t short long → ⊥
  no_more t short long g = let whole : [] ≡ g.next ∷ g.more = g.is in cc

  -- all were read, and one ended among them
  among_all : (r : Result Table Ending) (base : Table) (s : BlockStop r) (all : AreTakenBlocks layout shown m [] base) → ⊥
  among_all r base s all = go (compare_taken (s.x ∷ s.rest) [] s.table base s.taken all)
    where
      go : Compared shown m (s.x ∷ s.rest) [] s.table base (length s.taken.before) (length all.before) → ⊥
      go (inl same) = let whole : s.x ∷ s.rest ≡ [] = same.rest in cc
      go (inr (inl g)) = no_more base (length all.before) (length s.taken.before) g
      go (inr (inr g)) = ends_block s.x s.rest s.taken.before s.table r (length all.before) s.why g all.few

  -- ---- two blocks

  one_way : (x y : ℕ × ℕ) (b1 b2 : List (ℕ × ℕ)) (t1 t2 : Table) (r1 r2 : Result Table Ending)
      → x ≡ y → BlockWhy x b1 t1 r1 → BlockWhy y b2 t2 r2 → r1 ≡ r2
  one_way x y b1 b2 t1 t2 r1 r2 same (inl (c, hurt, is)) (inl (k, other, so)) = let class : c ≡ k = err_one
      Block Class (block_read shown m (ReadBlock x.0)) c k hurt (ap (λ (z : ℕ × ℕ). block_read shown m (ReadBlock z.0)) same ∙ other) in
      is ∙ ap (λ (z : ℕ × ℕ). Err (Damaged (place_at Grid z.0) c)) same
      ∙ ap (λ (d : Class). Err (Damaged (place_at Grid y.0) d)) class ∙ sym so
  one_way x y b1 b2 t1 t2 r1 r2 same (inl (c, hurt, is)) (inr (b, read, none, so)) = absurd (ok_err
      Block Class (block_read shown m (ReadBlock x.0)) b c (ap (λ (z : ℕ × ℕ). block_read shown m (ReadBlock z.0)) same ∙ read) hurt)
  one_way x y b1 b2 t1 t2 r1 r2 same (inr (b, read, none, is)) (inl (c, hurt, so)) = absurd (ok_err
      Block Class (block_read shown m (ReadBlock x.0)) b c read (ap (λ (z : ℕ × ℕ). block_read shown m (ReadBlock z.0)) same ∙ hurt))
  one_way x y b1 b2 t1 t2 r1 r2 same (inr (b, read, none, is)) (inr (d, there, other, so)) =
      is ∙ ap (λ (z : ℕ × ℕ). Err (NotTable (place_at Grid z.0))) same ∙ sym so

  two_blocks : (r1 r2 : Result Table Ending) → BlockStop r1 → BlockStop r2 → r1 ≡ r2
  two_blocks r1 r2 one two = go (compare_taken (one.x ∷ one.rest) (two.x ∷ two.rest) one.table two.table one.taken two.taken)
    where
      go : Compared shown m (one.x ∷ one.rest) (two.x ∷ two.rest) one.table two.table (length one.taken.before) (length two.taken.before)
          → r1 ≡ r2
      go (inl same) = let whole : one.x ∷ one.rest ≡ two.x ∷ two.rest = same.rest in let first : one.x ≡ two.x = cc in
          one_way one.x two.x one.taken.before two.taken.before one.table two.table r1 r2 first one.why two.why
      go (inr (inl g)) = absurd (ends_block two.x two.rest two.taken.before two.table r2 (length one.taken.before) two.why g one.taken.few)
      go (inr (inr g)) = absurd (ends_block one.x one.rest one.taken.before one.table r1 (length two.taken.before) one.why g two.taken.few)

  -- ---- two tails

  tail_within : (op : ℕ) (t : Table) (r : Result Table Ending) → TailWhy op t r → op ≤ m.head
  tail_within op t r (inl why) = omega (arith, why.0)
  tail_within op t r (inr (inl why)) = omega (arith, why.0)
  tail_within op t r (inr (inr why)) = omega (arith, why.0)

  ends_tail : (op : ℕ) (t u : Table) (r : Result Table Ending) (short long : ℕ) → op ≡ m.content.op + short
      → m.content.op + long ≤ m.head → t ≡ u → TailWhy op t r → TailGoesOn shown m (m.content.op + 1) u short long → ⊥
  ends_tail op t u r short long from within same why g = let place : m.content.op + 1 + short ≡ op + 1 = omega (arith, from) in
      go why (rw place at g.read)
    where
      go : TailWhy op t r → message_given shown m (ReadPrepare (op + 1)) ≡ Ok g.prepare → ⊥
      go (inl (less, class, hurt, is)) read = ok_err Message Class (message_given shown m (ReadPrepare (op + 1))) g.prepare class read hurt
      go (inr (inl (less, p, there, none, is))) read = none g.command
          (rw (sym same) at (rw (ok_one Message Class (message_given shown m (ReadPrepare (op + 1))) g.prepare p read there) at g.follows))
      go (inr (inr (all, is))) read = omega (arith, from, all, within, g.less)

  tail_way : (op : ℕ) (t : Table) (r1 r2 : Result Table Ending) → TailWhy op t r1 → TailWhy op t r2 → r1 ≡ r2
  tail_way op t r1 r2 (inl (less, c, hurt, is)) (inl (low, k, other, so)) =
      let class : c ≡ k = err_one Message Class (message_given shown m (ReadPrepare (op + 1))) c k hurt other in
      is ∙ ap (λ (d : Class). Err (Damaged (place_at WalPrepares ((op + 1) % layout.slots)) d)) class ∙ sym so
  tail_way op t r1 r2 (inl (less, c, hurt, is)) (inr (inl (low, p, read, none, so))) =
      absurd (ok_err Message Class (message_given shown m (ReadPrepare (op + 1))) p c read hurt)
  tail_way op t r1 r2 (inl (less, c, hurt, is)) (inr (inr (all, so))) = absurd (omega (arith, less, all))
  tail_way op t r1 r2 (inr (inl (less, p, read, none, is))) (inl (low, c, hurt, so)) =
      absurd (ok_err Message Class (message_given shown m (ReadPrepare (op + 1))) p c read hurt)
  tail_way op t r1 r2 (inr (inl (less, p, read, none, is))) (inr (inl (low, q, there, other, so))) = is ∙ sym so
  tail_way op t r1 r2 (inr (inl (less, p, read, none, is))) (inr (inr (all, so))) = absurd (omega (arith, less, all))
  tail_way op t r1 r2 (inr (inr (all, is))) (inl (less, c, hurt, so)) = absurd (omega (arith, less, all))
  tail_way op t r1 r2 (inr (inr (all, is))) (inr (inl (less, p, read, none, so))) = absurd (omega (arith, less, all))
  tail_way op t r1 r2 (inr (inr (all, is))) (inr (inr (end, so))) = is ∙ sym so

  one_base : (t1 t2 : Table) (a : AreTakenBlocks layout shown m [] t1) (b : AreTakenBlocks layout shown m [] t2) → t1 ≡ t2
  one_base t1 t2 a b = go (compare_taken [] [] t1 t2 a b)
    where
      go : Compared shown m [] [] t1 t2 (length a.before) (length b.before) → t1 ≡ t2
      go (inl same) = same.table
      go (inr (inl g)) = absurd (no_more t2 (length b.before) (length a.before) g)
      go (inr (inr g)) = absurd (no_more t1 (length a.before) (length b.before) g)

  two_tails : (r1 r2 : Result Table Ending) → TailStop r1 → TailStop r2 → r1 ≡ r2
  two_tails r1 r2 one two = let a = one.followed in let b = two.followed in let base = one_base a.base b.base a.blocks b.blocks in
      let follow = rw (sym base) at b.follow in
      let behind : two.table ≡ with_commands b.commands a.base = b.is ∙ ap (λ (u : Table). with_commands b.commands u) (sym base) in
      go behind (compare_tail shown m (m.content.op + 1) a.prepares b.prepares a.commands b.commands a.base a.read a.follow b.read follow)
    where
      go : two.table ≡ with_commands two.followed.commands one.followed.base
          → TailCompared shown m (m.content.op + 1) (with_commands one.followed.commands one.followed.base)
          (with_commands two.followed.commands one.followed.base) (length one.followed.prepares) (length two.followed.prepares) → r1 ≡ r2
      go behind (inl same) = let op : two.op ≡ one.op = omega (arith, one.followed.upto, two.followed.upto, same.count) in
          let table : two.table ≡ one.table = behind ∙ sym same.table ∙ sym one.followed.is in
          tail_way one.op one.table r1 r2 one.why (rw op at (rw table at two.why))
      go behind (inr (inl g)) = absurd (
          ends_tail two.op two.table (with_commands two.followed.commands one.followed.base)
          r2 (length two.followed.prepares) (length one.followed.prepares) two.followed.upto
          (omega (arith, one.followed.upto, tail_within one.op one.table r1 one.why)) behind two.why g
          )
      go behind (inr (inr g)) = absurd (
          ends_tail one.op one.table (with_commands one.followed.commands one.followed.base)
          r1 (length one.followed.prepares) (length two.followed.prepares) one.followed.upto
          (omega (arith, two.followed.upto, tail_within two.op two.table r2 two.why)) one.followed.is one.why g
          )

  -- ---- sessions

  own_none : (r : Result Table Ending) → SessionStop r → NoneIsOther m (length m.sessions) → ⊥
  own_none r s own = own s.place (slice_get_within m.sessions s.place s.is.session s.is.at) s.is

  two_sessions : (r1 r2 : Result Table Ending) → SessionStop r1 → SessionStop r2 → r1 ≡ r2
  two_sessions r1 r2 one two = elim (cases_lt one.place two.place) [
    | inl less ↦ absurd (two.none one.place less one.is)
    | inr most ↦ elim (cases_lt two.place one.place) [
      | inl less ↦ absurd (one.none two.place less two.is)
      | inr least ↦ one.result ∙ ap (λ (k : ℕ). Err (NotTable (place_at ClientReplies k)))
          (let same : one.place ≡ two.place = omega (arith, most, least) in same) ∙ sym two.result
    ]
  ]

  -- ---- one

  one_stop : (r1 r2 : Result Table Ending) → Stop r1 → Stop r2 → r1 ≡ r2
  one_stop r1 r2 (inl one) (inl two) = two_sessions r1 r2 one two
  one_stop r1 r2 (inl one) (inr (inl two)) = absurd (own_none r1 one two.taken.own)
  one_stop r1 r2 (inl one) (inr (inr two)) = absurd (own_none r1 one two.followed.blocks.own)
  one_stop r1 r2 (inr (inl one)) (inl two) = absurd (own_none r2 two one.taken.own)
  one_stop r1 r2 (inr (inl one)) (inr (inl two)) = two_blocks r1 r2 one two
  one_stop r1 r2 (inr (inl one)) (inr (inr two)) = absurd (among_all r1 two.followed.base one two.followed.blocks)
  one_stop r1 r2 (inr (inr one)) (inl two) = absurd (own_none r2 two one.followed.blocks.own)
  one_stop r1 r2 (inr (inr one)) (inr (inl two)) = absurd (among_all r2 one.followed.base two one.followed.blocks)
  one_stop r1 r2 (inr (inr one)) (inr (inr two)) = two_tails r1 r2 one two

pub finds_one : FindsOne
finds_one layout shown m one other first second =
    one_stop layout shown m one other (stop_of layout shown m one first) (stop_of layout shown m other second)
