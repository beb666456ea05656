-- What an opening finds is the table of the file: the blocks that it reads are those that the view references, and the prepares are those
-- of its tail.
use Rattle.std.{proofs.{Common.{◌≡◌, inl, inr, ℕ, zero, suc, ◌+◌, ◌%◌, ◌<◌, ◌≤◌, ◌==◌, not, Bool, true, false, List, [], ◌∷◌, append-nil, length, Option, Some, None, Result, Ok, refl, sym, ◌∙◌, ap, subst, arith}, lemmas.Bool.{eqb-false}}, specs.List.{range_with_len}}
use Rattle.{df_base.proofs.Laws.{one_some}, df_layout.specs.declared.{damage.Class.{Class, TheVariants.{Stale}}, layout.Layout.{Layout}}}
use Rattle.df_theory.specs.{Sessions.{noted}, Tails.{Chain, In}, Units.{AnyUnit, Block, BlockPlace, BlockUnit, CopyUnit, HeaderUnit, Message, PreparePlace, PrepareUnit, ReplyUnit, Session}}
use Rattle.df_model.{specs.{Blocks.{entries, entry, sum_at}, Commands.{ReadBlock}, Memory.{Memory, memory_of, prepare_sum}, Supply.{Shown, block_given, block_read, class_at, given_if, is_sum, no_trailer, prepare_given}, Work.{Work}}, proofs.Laws.{entry_at, known_is}}
use Rattle.{df_rows.specs.Tables.{Table}, df_session.specs.{Begun.{begun_work}, Below.{shape, spelling}, Reading.{shown_of}}}
use Rattle.df_table.specs.{declared.ending.Ending.{Ending}, Laws.{FoundIsTable}, Opening.{AreFollowed, ArePrepares, AreReadBlocks, BlockHurt, FindsTable, Found, OtherBlock, OtherClient, OtherPrepare, PrepareHurt}, Table.{FollowAll, ShowsBodies, ShowsBody}}

-- ---- a table was found

pub unok : (x y : Table) (r : Result Table Ending) → r ≡ Ok x → r ≡ Ok y → x ≡ y
unok x y r one two = cc

pub found_followed : (layout : Layout) (shown : Shown) (m : Memory) (t : Table) (r : Result Table Ending)
    → r ≡ Ok t → FindsTable layout shown m r → AreFollowed layout shown m m.head t
found_followed layout shown m t r is (Found u are) = let same : u ≡ t = unok u t (Ok u) refl is in
    subst (λ (x : Table). AreFollowed layout shown m m.head x) same are
found_followed layout shown m t r is (OtherClient place other none) = absurd (cc (is))
found_followed layout shown m t r is (BlockHurt x rest u class taken hurt) = absurd (cc (is))
found_followed layout shown m t r is (OtherBlock x rest u b taken read norows) = absurd (cc (is))
found_followed layout shown m t r is (PrepareHurt op u class are less hurt) = absurd (cc (is))
found_followed layout shown m t r is (OtherPrepare op u p are less read none) = absurd (cc (is))

-- ---- a block that is read is shown

record BlockSeen (known : Option ℕ) (unit : Option AnyUnit) (b : Block) : Type 0 where
  there : unit ≡ Some (BlockUnit b)
  sum : known ≡ Some b.checksum
  own : 0 < b.kind

some_kind : (b : Block) → (b.kind == 0) ≡ false → 0 < b.kind
some_kind b apart = omega (arith, eqb-false b.kind 0 apart)

-- of a block that isn't a trailer's
own_block : (b x : Block) (zero_kind : Bool) → (b.kind == 0) ≡ zero_kind → given_if (not zero_kind) b Stale ≡ Ok x → (0 < b.kind) × (b ≡ x)
own_block b x true is read = absurd (cc (read))
own_block b x false is read = (some_kind b is, (let same : b ≡ x = cc in same))

summed : (known : Option ℕ) (b x : Block) (class : Class) (fits : Bool)
    → is_sum known b.checksum ≡ fits → no_trailer (given_if fits b class) ≡ Ok x → BlockSeen known (Some (BlockUnit b)) x
summed known b x class false is read = absurd (cc (read))
summed known b x class true is read = let known_sum = known_is known b.checksum is in let own = own_block b x (b.kind == 0) refl read in
    subst (λ (y : Block). BlockSeen known (Some (BlockUnit b)) y) own.1 (record { there = refl; sum = known_sum; own = own.0 })

seen : (known : Option ℕ) (unit : Option AnyUnit) (class : Class) (x : Block)
    → no_trailer (block_given known unit class) ≡ Ok x → BlockSeen known unit x
seen known (Some (BlockUnit b)) class x read = summed known b x class (is_sum known b.checksum) refl read
seen known (Some (CopyUnit c)) class x read = absurd (cc (read))
seen known (Some (HeaderUnit h)) class x read = absurd (cc (read))
seen known (Some (PrepareUnit p)) class x read = absurd (cc (read))
seen known (Some (ReplyUnit r)) class x read = absurd (cc (read))
seen known None class x read = absurd (cc (read))

module _ (shown : Shown) (m : Memory) where
  body_seen : (a c : ℕ) (body : List ℕ) → sum_at a m.blocks.live ≡ Some c
      → (b : Block) × (block_read shown m (ReadBlock a) ≡ Ok b) × (b.body ≡ body) → ShowsBody shown.units (a, c) body
  body_seen a c body known read =
      let is = seen (sum_at a m.blocks.live) (shown.units (BlockPlace a)) (class_at shown (BlockPlace a)) read.0 read.1 in
      record { block = read.0; there = is.there; sum = one_some (sum_at a m.blocks.live) read.0.checksum c is.sum known; own = is.own; body_is = read.2 }

  module _ (f : ℕ → Option ℕ) where
    entry_seen : (a : ℕ) (rest : List (ℕ × ℕ)) → ((c : ℕ) → f a ≡ Some c → sum_at a m.blocks.live ≡ Some c) → ((bodies : List (List ℕ))
        → AreReadBlocks shown m rest bodies → ShowsBodies shown.units rest bodies) → (o : Option ℕ) → f a ≡ o → (bodies : List (List ℕ))
        → AreReadBlocks shown m (entry a o rest) bodies → ShowsBodies shown.units (entry a o rest) bodies
    entry_seen a rest known more None is bodies read = more bodies read
    entry_seen a rest known more (Some c) is [] read = absurd read
    entry_seen a rest known more (Some c) is (body ∷ bodies) read = (body_seen a c body (known c is) read.0, more bodies read.1)

    bodies_seen : (s n : ℕ) → ((a c : ℕ) → s ≤ a → a < s + n → f a ≡ Some c → sum_at a m.blocks.live ≡ Some c) → (bodies : List (List ℕ))
        → AreReadBlocks shown m (entries f (range_with_len s n)) bodies → ShowsBodies shown.units (entries f (range_with_len s n)) bodies
    bodies_seen s zero known [] read = tt
    bodies_seen s zero known (body ∷ bodies) read = absurd read
    bodies_seen s (suc n) known bodies read =
        entry_seen s (entries f (range_with_len (s + 1) n)) (λ c is. known s c (omega arith) (omega arith) is)
        (bodies_seen (s + 1) n (λ a c from to is. known a c (omega (arith, from)) (omega (arith, to)) is)) (f s) refl bodies read

  pub as_many : (xs : List (ℕ × ℕ)) (bodies : List (List ℕ)) → AreReadBlocks shown m xs bodies → length bodies ≡ length xs
  as_many [] [] read = refl
  as_many [] (body ∷ bodies) read = absurd read
  as_many (x ∷ xs) [] read = absurd read
  as_many (x ∷ xs) (body ∷ bodies) read = ap suc (as_many xs bodies read.1)

  -- ---- the prepares that are read are those of the tail

  sum_fits : (p q : Message) (class : Class) (fits : Bool) → given_if fits p class ≡ Ok q → p ≡ q
  sum_fits p q class true read = cc
  sum_fits p q class false read = absurd (cc (read))

  prepare_seen : (known : Option ℕ) (unit : Option AnyUnit) (class : Class) (q : Message)
      → prepare_given known unit class ≡ Ok q → unit ≡ Some (PrepareUnit q)
  prepare_seen known (Some (PrepareUnit p)) class q read =
      ap (λ (x : Message). Some (PrepareUnit x)) (sum_fits p q class (is_sum known p.header.checksum) read)
  prepare_seen known (Some (CopyUnit c)) class q read = absurd (cc (read))
  prepare_seen known (Some (HeaderUnit h)) class q read = absurd (cc (read))
  prepare_seen known (Some (BlockUnit b)) class q read = absurd (cc (read))
  prepare_seen known (Some (ReplyUnit r)) class q read = absurd (cc (read))
  prepare_seen known None class q read = absurd (cc (read))

  one_prepare : (p q : Message) (unit : Option AnyUnit) → unit ≡ Some (PrepareUnit p) → unit ≡ Some (PrepareUnit q) → p ≡ q
  one_prepare p q unit one two = let same : Some (PrepareUnit p) ≡ Some (PrepareUnit q) = sym one ∙ two in let is : p ≡ q = cc in is

  same_lists : (p q : Message) (ps qs : List Message) → p ≡ q → ps ≡ qs → p ∷ ps ≡ q ∷ qs
  same_lists p q ps qs one more = cc

  tail_seen : (op : ℕ) (ps qs : List Message) (clients parent mark : ℕ) (ss : List Session) → ArePrepares shown m op ps → Chain clients
      op parent mark ss qs → ((q : Message) → In q qs → shown.units (PreparePlace (q.header.op % m.layout.slots)) ≡ Some (PrepareUnit q))
      → length ps ≡ length qs → ps ≡ qs
  tail_seen op [] [] clients parent mark ss read chain there same = refl
  tail_seen op [] (q ∷ qs) clients parent mark ss read chain there same = absurd (omega (arith, same))
  tail_seen op (p ∷ ps) [] clients parent mark ss read chain there same = absurd (omega (arith, same))
  tail_seen op (p ∷ ps) (q ∷ qs) clients parent mark ss read chain there same = let mine = prepare_seen (prepare_sum m op)
      (shown.units (PreparePlace (op % m.layout.slots))) (class_at shown (PreparePlace (op % m.layout.slots))) p read.0 in
      let its = subst (λ (k : ℕ). shown.units (PreparePlace (k % m.layout.slots)) ≡ Some (PrepareUnit q)) chain.0.op_is (there q (inl refl)) in
      same_lists p q ps qs (one_prepare p q (shown.units (PreparePlace (op % m.layout.slots))) mine its)
      (tail_seen (op + 1) ps qs clients q.header.checksum q.header.mark (noted q.header ss) read.1 chain.1 (λ z at.
      there z (inr at)) (omega (arith, same)))

-- ---- the table

pub found_is_table : FoundIsTable
found_is_table file t v table whole found finds = let w : Work = begun_work file t.shown v in
    let m : Memory = memory_of (shape file) (spelling file) w in let shown : Shown = shown_of file t.shown in
    let are = found_followed file.layout shown m table (Ok table) refl finds in
    let live : m.blocks.live ≡ are.blocks.before = are.blocks.of ∙ append-nil are.blocks.before in
    let read : AreReadBlocks shown m m.blocks.live are.blocks.bodies = rw (sym live) at are.blocks.read in
    let tail : are.prepares ≡ v.tail =
    tail_seen shown m (m.content.op + 1) are.prepares v.tail _ _ _ _ are.read found.tail.chain (λ q at.
    (found.tail.takes q at).shown) (omega (arith, are.upto)) in record {
      bodies = are.blocks.bodies;
      there = bodies_seen shown m v.checkpoint.parts.references 1 file.layout.blocks (λ a c from to is.
          entry_at v.checkpoint.parts.references 1 file.layout.blocks a from to ∙ is) are.blocks.bodies read;
      few = omega (arith, are.blocks.few, as_many shown m are.blocks.before are.blocks.bodies are.blocks.read);
      base = are.base;
      rows = are.blocks.taken;
      commands = are.commands;
      tail = rw tail at are.follow;
      is = are.is;
    }
