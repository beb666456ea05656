-- Steps that write no block: of copies and of headers. They leave each block as it was.
use Rattle.std.proofs.Common.{◌≡◌, ℕ, ◌%◌, List, [], ◌∷◌, ◌++◌, Option, Some, None, refl, ◌∙◌, ap}
use Rattle.df_theory.specs.{Units.{AnyUnit, BlockPlace, Content, CopyPlace, CopyUnit, Header, Message, PreparePlace, PrepareUnit, Units, or_else}, Shape.{Shape, slots}, View.{View}, UnitLog.{PutsOne, Synced, UnitLog, add, now, wrote}, Runs.{Puts, Step, Syncs, after_steps}, CopyPuts.{PutsCopies, update_steps}, MakingLaws.{all_puts}, MendLaws.{AllPutCopy, AllPutTable, PutsTable, copy_steps, header_steps, mend_steps}, WholeLaws.{AllSpare}, WriterLaws.{AllPutPrepare, flush_steps}}

abbrev pub PutsNoBlock : Units → Type 0
PutsNoBlock put = (a : ℕ) → put (BlockPlace a) ≡ None

abbrev pub NoBlocks : List Step → Type 0
NoBlocks [] = Unit {0}
NoBlocks ((Puts put) ∷ ss) = PutsNoBlock put × NoBlocks ss
NoBlocks (Syncs ∷ ss) = NoBlocks ss

-- ---- what they leave

-- whatever a view references is spared
pub spare_all : (v : View) (ss : List Step) → NoBlocks ss → AllSpare v ss
spare_all v [] none = tt
spare_all v ((Puts put) ∷ ss) none = (λ a c is. none.0 a, spare_all v ss none.1)
spare_all v (Syncs ∷ ss) none = spare_all v ss none

pub blocks_stay : (ss : List Step) (log : UnitLog) → NoBlocks ss → (a : ℕ) → now (after_steps ss log) (BlockPlace a) ≡ now log (BlockPlace a)
blocks_stay [] log none a = refl
blocks_stay ((Puts put) ∷ ss) log none a =
    blocks_stay ss (wrote put log) none.1 a ∙ ap (λ (o : Option AnyUnit). or_else o (now log (BlockPlace a))) (none.0 a)
blocks_stay (Syncs ∷ ss) log none a = blocks_stay ss (add Synced log) none a

-- ---- which steps are such

pub no_blocks_both : (ss ts : List Step) → NoBlocks ss → NoBlocks ts → NoBlocks (ss ++ ts)
no_blocks_both [] ts one two = two
no_blocks_both ((Puts put) ∷ ss) ts one two = (one.0, no_blocks_both ss ts one.1 two)
no_blocks_both (Syncs ∷ ss) ts one two = no_blocks_both ss ts one two

-- of whatever stands at no block's place
put_no_block : (put : Units) → ((a : ℕ) (y : AnyUnit) → put (BlockPlace a) ≡ Some y → ⊥) → PutsNoBlock put
put_no_block put never a = go (put (BlockPlace a)) refl
  where
    go : (o : Option AnyUnit) → put (BlockPlace a) ≡ o → put (BlockPlace a) ≡ None
    go None none = none
    go (Some y) some = absurd (never a y some)

copy_no_block : (put : Units) (n : ℕ) (c : Content) → PutsOne put (CopyPlace n) (CopyUnit c) → PutsNoBlock put
copy_no_block put n c one = put_no_block put (λ a y some. let at : BlockPlace a ≡ CopyPlace n = (one.only (BlockPlace a) y some).0 in cc)

pub update_no_blocks : (c : Content) (puts : PutsCopies c) → NoBlocks (update_steps puts)
update_no_blocks c puts = (copy_no_block puts.put0 0 c puts.one0, (copy_no_block puts.put1 1 c puts.one1, (copy_no_block puts.put2 2 c puts.one2, (copy_no_block puts.put3 3 c puts.one3, tt))))

prepare_no_block : (put : Units) (slot : ℕ) (p : Message) → PutsOne put (PreparePlace slot) (PrepareUnit p) → PutsNoBlock put
prepare_no_block put slot p one =
    put_no_block put (λ a y some. let at : BlockPlace a ≡ PreparePlace slot = (one.only (BlockPlace a) y some).0 in cc)

prepares_no_blocks : (sh : Shape) (ps : List Message) (puts : List Units) → AllPutPrepare sh ps puts → NoBlocks (all_puts puts)
prepares_no_blocks sh [] [] all = tt
prepares_no_blocks sh [] (put ∷ puts) all = absurd all
prepares_no_blocks sh (p ∷ ps) [] all = absurd all
prepares_no_blocks sh (p ∷ ps) (put ∷ puts) all = (prepare_no_block put (p.header.op % slots sh) p all.0, prepares_no_blocks sh ps puts all.1)

sector_no_block : (table : ℕ → Header) (put : Units) → PutsTable table put → PutsNoBlock put
sector_no_block table put all = put_no_block put (λ a y some. let at = (all (BlockPlace a) y some).1 in cc)

puts_no_blocks : (table : ℕ → Header) (puts : List Units) → AllPutTable table puts → NoBlocks (all_puts puts)
puts_no_blocks table [] all = tt
puts_no_blocks table (put ∷ puts) all = (sector_no_block table put all.0, puts_no_blocks table puts all.1)

headers_no_blocks : (table : ℕ → Header) (puts : List Units) → AllPutTable table puts → NoBlocks (header_steps puts)
headers_no_blocks table [] all = tt
headers_no_blocks table (put ∷ puts) all = no_blocks_both (all_puts (put ∷ puts)) (Syncs ∷ []) (puts_no_blocks table (put ∷ puts) all) tt

copies_no_blocks : (c : Content) (m n : ℕ) (copies : List (ℕ × Units)) → AllPutCopy c m n copies → NoBlocks (copy_steps copies)
copies_no_blocks c m n [] all = tt
copies_no_blocks c m n (k ∷ ks) all = (copy_no_block k.1 k.0 c all.0, copies_no_blocks c m n ks all.3)

pub flush_no_blocks : (sh : Shape) (ps : List Message) (prepares : List Units) (table : ℕ → Header) (headers : List Units)
    → AllPutPrepare sh ps prepares → AllPutTable table headers → NoBlocks (flush_steps prepares headers)
flush_no_blocks sh ps prepares table headers puts sectors = no_blocks_both (all_puts prepares) (Syncs ∷ (all_puts headers ++ Syncs ∷ []))
    (prepares_no_blocks sh ps prepares puts) (no_blocks_both (all_puts headers) (Syncs ∷ []) (puts_no_blocks table headers sectors) tt)

pub mend_no_blocks : (table : ℕ → Header) (headers : List Units) (c : Content) (m n : ℕ) (copies : List (ℕ × Units))
    → AllPutTable table headers → AllPutCopy c m n copies → NoBlocks (mend_steps headers copies)
mend_no_blocks table headers c m n copies puts_headers puts_copies = no_blocks_both
    (header_steps headers) (copy_steps copies) (headers_no_blocks table headers puts_headers) (copies_no_blocks c m n copies puts_copies)
