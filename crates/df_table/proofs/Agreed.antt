-- What an opening finds over what a disk shows it finds over all that no command tells apart from it.
use Rattle.std.{proofs.Common.{◌≡◌, inl, inr, ℕ, zero, suc, ◌+◌, ◌<◌, ◌≤◌, ◌%◌, List, [], ◌∷◌, ◌++◌, Option, Some, None, Result, refl, sym, ◌∙◌, ap, subst, arith}, specs.List.{range_with_len}}
use Rattle.{df_layout.specs.declared.{damage.Class.{Class}, layout.Layout.{Layout}}, df_rows.specs.Tables.{Table}}
use Rattle.df_theory.specs.Units.{AnyUnit, BlockPlace, Message, Place, PreparePlace}
use Rattle.df_model.specs.{Blocks.{entries, entry, sum_at}, Commands.{ReadBlock, ReadPrepare}, Memory.{Memory, prepare_sum}, Supply.{Shown, block_given, block_read, class_at, class_or, message_given, no_trailer, prepare_given}}
use Rattle.df_session.specs.{Agreeing.{AgreeShown}, Leaving.{IsReadPlace}}
use Rattle.df_table.specs.{declared.ending.Ending.{Ending}, Opening.{AreFollowed, ArePrepares, AreReadBlocks, AreTakenBlocks, BlockHurt, FindsOf, FindsTable, Found, OtherBlock, OtherClient, OtherPrepare, PrepareHurt}}

-- each address is one of the grid
abbrev pub AreInside : Layout → List (ℕ × ℕ) → Type 0
AreInside layout [] = Unit {0}
AreInside layout (x ∷ xs) = IsReadPlace layout (BlockPlace x.0) × AreInside layout xs

front_inside : (layout : Layout) (xs ys : List (ℕ × ℕ)) → AreInside layout (xs ++ ys) → AreInside layout xs
front_inside layout [] ys all = tt
front_inside layout (x ∷ xs) ys all = (all.0, front_inside layout xs ys all.1)

back_inside : (layout : Layout) (xs ys : List (ℕ × ℕ)) → AreInside layout (xs ++ ys) → AreInside layout ys
back_inside layout [] ys all = all
back_inside layout (x ∷ xs) ys all = back_inside layout xs ys all.1

-- ---- reads

module _ (layout : Layout) (one other : Shown) (agree : AgreeShown layout one other) (m : Memory) where
  class_same : (place : Place) → IsReadPlace layout place → one.units place ≡ other.units place → class_at one place ≡ class_at other place
  class_same place read same = go (one.units place) refl ∙ ap (λ (o : Option AnyUnit). class_or o (other.damage place)) same
    where
      go : (o : Option AnyUnit) → one.units place ≡ o → class_or o (one.damage place) ≡ class_or o (other.damage place)
      go None is = agree.classes place read is
      go (Some x) is = refl

  block_same : (a : ℕ) → IsReadPlace layout (BlockPlace a) → block_read one m (ReadBlock a) ≡ block_read other m (ReadBlock a)
  block_same a read =
      ap (λ (o : Option AnyUnit). no_trailer (block_given (sum_at a m.blocks.live) o (class_at one (BlockPlace a)))) (agree.units.block a)
      ∙ ap (λ (c : Class). no_trailer (block_given (sum_at a m.blocks.live) (other.units (BlockPlace a)) c))
      (class_same (BlockPlace a) read (agree.units.block a))

  prepare_same : (op : ℕ) → IsReadPlace layout (PreparePlace (op % m.layout.slots))
      → message_given one m (ReadPrepare op) ≡ message_given other m (ReadPrepare op)
  prepare_same op read = let slot = op % m.layout.slots in
      ap (λ (o : Option AnyUnit). prepare_given (prepare_sum m op) o (class_at one (PreparePlace slot))) (agree.units.prepare slot)
      ∙ ap (λ (c : Class).
      prepare_given (prepare_sum m op) (other.units (PreparePlace slot)) c) (class_same (PreparePlace slot) read (agree.units.prepare slot))

  module _ (slots : (op : ℕ) → IsReadPlace layout (PreparePlace (op % m.layout.slots))) (inside : AreInside layout m.blocks.live) where
    read_same : (xs : List (ℕ × ℕ)) (bodies : List (List ℕ))
        → AreInside layout xs → AreReadBlocks one m xs bodies → AreReadBlocks other m xs bodies
    read_same [] [] all are = tt
    read_same [] (body ∷ bodies) all are = absurd are
    read_same (x ∷ xs) [] all are = absurd are
    read_same (x ∷ xs) (body ∷ bodies) all are = ((are.0.0, sym (block_same x.0 all.0) ∙ are.0.1, are.0.2), read_same xs bodies all.1 are.1)

    prepares_same : (op : ℕ) (ps : List Message) → ArePrepares one m op ps → ArePrepares other m op ps
    prepares_same op [] are = tt
    prepares_same op (p ∷ ps) are = (sym (prepare_same op (slots op)) ∙ are.0, prepares_same (op + 1) ps are.1)

    abbrev taken_same : (rest : List (ℕ × ℕ)) (t : Table) → AreTakenBlocks layout one m rest t → AreTakenBlocks layout other m rest t
    taken_same rest t are = record {
      own = are.own;
      before = are.before;
      read = read_same are.before are.bodies (front_inside layout are.before rest (subst (AreInside layout) are.of inside)) are.read;
      of = are.of;
      few = are.few;
      bodies = are.bodies;
      taken = are.taken;
    }

    followed_same : (op : ℕ) (t : Table) → AreFollowed layout one m op t → AreFollowed layout other m op t
    followed_same op t are = record {
      base = are.base;
      blocks = taken_same [] are.base are.blocks;
      prepares = are.prepares;
      upto = are.upto;
      read = prepares_same (m.content.op + 1) are.prepares are.read;
      commands = are.commands;
      follow = are.follow;
      is = are.is;
    }

    -- the next one to be read
    next_inside : (x : ℕ × ℕ) (rest : List (ℕ × ℕ)) (t : Table) → AreTakenBlocks layout one m (x ∷ rest) t → IsReadPlace layout (BlockPlace x.0)
    next_inside x rest t are = (back_inside layout are.before (x ∷ rest) (subst (AreInside layout) are.of inside)).0

    finds_same : (r : Result Table Ending) → FindsTable layout one m r → FindsTable layout other m r
    finds_same r (OtherClient place is none) = OtherClient place is none
    finds_same r (BlockHurt x rest t class taken hurt) =
        BlockHurt x rest t class (taken_same (x ∷ rest) t taken) (sym (block_same x.0 (next_inside x rest t taken)) ∙ hurt)
    finds_same r (OtherBlock x rest t b taken read norows) =
        OtherBlock x rest t b (taken_same (x ∷ rest) t taken) (sym (block_same x.0 (next_inside x rest t taken)) ∙ read) norows
    finds_same r (PrepareHurt op t class are less hurt) =
        PrepareHurt op t class (followed_same op t are) less (sym (prepare_same (op + 1) (slots (op + 1))) ∙ hurt)
    finds_same r (OtherPrepare op t p are less read none) =
        OtherPrepare op t p (followed_same op t are) less (sym (prepare_same (op + 1) (slots (op + 1))) ∙ read) none
    finds_same r (Found t are) = Found t (followed_same m.head t are)

    pub finds_of_same : (r : Result Table Ending) → FindsOf layout one m r → FindsOf layout other m r
    finds_of_same r (inl failed) = inl failed
    finds_of_same r (inr finds) = inr (finds_same r finds)

-- the entries of a map over the grid's addresses are inside
entry_inside : (layout : Layout) (a : ℕ) (o : Option ℕ) (rest : List (ℕ × ℕ))
    → IsReadPlace layout (BlockPlace a) → AreInside layout rest → AreInside layout (entry a o rest)
entry_inside layout a None rest here all = all
entry_inside layout a (Some c) rest here all = (here, all)

pub entries_inside : (layout : Layout) (f : ℕ → Option ℕ) (s n : ℕ)
    → ((a : ℕ) → s ≤ a → a < s + n → IsReadPlace layout (BlockPlace a)) → AreInside layout (entries f (range_with_len s n))
entries_inside layout f s zero each = tt
entries_inside layout f s (suc n) each = entry_inside layout s (f s) (entries f (range_with_len (s + 1) n))
    (each s (omega arith) (omega arith)) (entries_inside layout f (s + 1) n (λ a from to. each a (omega (arith, from)) (omega (arith, to))))
