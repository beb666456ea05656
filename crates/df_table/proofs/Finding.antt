-- An opening finds the table of a file whose sessions are all the client's: the blocks that the view references are read, and so are the
-- prepares of its tail.
use Rattle.std.{proofs.Common.{◌≡◌, inl, inr, ℕ, zero, suc, ◌+◌, ◌-◌, ◌%◌, ◌<◌, ◌≤◌, Bool, List, [], ◌∷◌, append-nil, map, Option, Some, None, Ok, refl, sym, ◌∙◌, ap, arith}, specs.List.{range_with_len, slice_get}}
use Rattle.{df_base.proofs.Laws.{zero_plus, not_zero}, df_disk.specs.Told.{Told}, df_units.specs.Bytes.{unit_at}}
use Rattle.{df_layout.specs.declared.{damage.Class.{Class, TheVariants.{Stale}}, layout.Layout.{Layout}}, df_rows.specs.Tables.{Table}}
use Rattle.df_theory.specs.{Found.{IsFound}, Sessions.{noted, sessions_after}, Tails.{Chain, In}, Units.{AnyUnit, Block, BlockPlace, BlockUnit, Message, PreparePlace, PrepareUnit, Session}, View.{View}}
use Rattle.df_model.{specs.{Blocks.{entries, entry, sum_at}, Commands.{ReadBlock}, Memory.{Memory, memory_of, prepare_sum, sum_of_message}, Supply.{Shown, block_given, block_read, class_at, given_if, no_trailer}, Work.{Work}}, proofs.Laws.{entry_at, same_sum, prepare_shown}}
use Rattle.df_session.specs.{Begun.{begun_work}, Below.{DataFile, shape, spelling}, Reading.{shown_of}}
use Rattle.df_table.{specs.{Laws.{FindsIn}, Opening.{ArePrepares, AreReadBlocks, FindsTable, Found}, Policy.{the_client}, Table.{IsObjectTable, ShowsBodies, ShowsBody}}, proofs.{Begun.{own_all}, FoundTable.{as_many}, Owned.{OwnView, after_mine, after_own, each_own, own_at}}}

-- ---- what is given, where the unit is shown

block_shown : (known : Option ℕ) (unit : Option AnyUnit) (class : Class) (b : Block)
    → unit ≡ Some (BlockUnit b) → known ≡ Some b.checksum → 0 < b.kind → no_trailer (block_given known unit class) ≡ Ok b
block_shown known unit class b shows knows own =
    ap (λ (u : Option AnyUnit). no_trailer (block_given known u class)) shows ∙ ap (λ (e : Bool).
    no_trailer (given_if e b class)) (same_sum known b.checksum knows) ∙ ap (λ (e : Bool). given_if e b Stale) (not_zero b.kind own)

module _ (shown : Shown) (m : Memory) where
  -- ---- blocks

  body_read : (x : ℕ × ℕ) (body : List ℕ) → sum_at x.0 m.blocks.live ≡ Some x.1
      → ShowsBody shown.units x body → (b : Block) × (block_read shown m (ReadBlock x.0) ≡ Ok b) × (b.body ≡ body)
  body_read x body known s = (s.block, block_shown (sum_at x.0 m.blocks.live) (shown.units (BlockPlace x.0)) (class_at shown (BlockPlace x.0)) s.block s.there (known ∙ ap Some (sym s.sum)) s.own, s.body_is)

  module _ (f : ℕ → Option ℕ) where
    entry_read : (a : ℕ) (rest : List (ℕ × ℕ)) → ((c : ℕ) → f a ≡ Some c → sum_at a m.blocks.live ≡ Some c) → ((bodies : List (List ℕ))
        → ShowsBodies shown.units rest bodies → AreReadBlocks shown m rest bodies) → (o : Option ℕ) → f a ≡ o → (bodies : List (List ℕ))
        → ShowsBodies shown.units (entry a o rest) bodies → AreReadBlocks shown m (entry a o rest) bodies
    entry_read a rest known more None is bodies shows = more bodies shows
    entry_read a rest known more (Some c) is [] shows = absurd shows
    entry_read a rest known more (Some c) is (body ∷ bodies) shows = (body_read (a, c) body (known c is) shows.0, more bodies shows.1)

    bodies_read : (s n : ℕ) → ((a c : ℕ) → s ≤ a → a < s + n → f a ≡ Some c → sum_at a m.blocks.live ≡ Some c) → (bodies : List (List ℕ))
        → ShowsBodies shown.units (entries f (range_with_len s n)) bodies → AreReadBlocks shown m (entries f (range_with_len s n)) bodies
    bodies_read s zero known [] shows = tt
    bodies_read s zero known (body ∷ bodies) shows = absurd shows
    bodies_read s (suc n) known bodies shows =
        entry_read s (entries f (range_with_len (s + 1) n)) (λ c is. known s c (omega arith) (omega arith) is)
        (bodies_read (s + 1) n (λ a c from to is. known a c (omega (arith, from)) (omega (arith, to)) is)) (f s) refl bodies shows

  -- ---- prepares

  -- of a tail these are the last ones, after this many
  prepares_read : (before op : ℕ) (ps : List Message) (clients parent mark : ℕ) (ss : List Session) → op ≡ m.content.op + 1 + before
      → ((k : ℕ) → slice_get m.prepares (before + k) ≡ slice_get (map sum_of_message ps) k) → Chain clients op parent mark ss ps
      → ((p : Message) → In p ps → shown.units (PreparePlace (p.header.op % m.layout.slots)) ≡ Some (PrepareUnit p))
      → ArePrepares shown m op ps
  prepares_read before op [] clients parent mark ss is sums chain there = tt
  prepares_read before op (p ∷ ps) clients parent mark ss is sums chain there =
      let at : op - m.content.op - 1 ≡ before + 0 = omega (arith, is) in
      let known : prepare_sum m op ≡ Some p.header.checksum = ap (λ (k : ℕ). slice_get m.prepares k) at ∙ sums 0 in
      let shows : shown.units (PreparePlace (op % m.layout.slots)) ≡ Some (PrepareUnit p) = rw (← chain.0.op_is) (there p (inl refl)) in (
        prepare_shown (prepare_sum m op)
            (shown.units (PreparePlace (op % m.layout.slots))) (class_at shown (PreparePlace (op % m.layout.slots))) p shows known,
        prepares_read (before + 1) (op + 1) ps clients p.header.checksum p.header.mark (noted p.header ss) (omega (arith, is)) (λ k.
            ap (λ (i : ℕ). slice_get m.prepares i) (next k) ∙ sums (suc k)) chain.1 (λ q at. there q (inr at)),
      )
    where
      next : (k : ℕ) → before + 1 + k ≡ before + suc k
      next k = omega arith

-- ---- the table

pub table_is_found : (file : DataFile) (t : Told) (v : View) (table : Table) → IsFound (shape file) (unit_at file.layout
    file.cluster t.shown) v → OwnView v → IsObjectTable file (unit_at file.layout file.cluster t.shown) v table → FindsIn file t v table
table_is_found file t v table found own is = let w : Work = begun_work file t.shown v in
    let m : Memory = memory_of (shape file) (spelling file) w in let shown : Shown = shown_of file t.shown in
    let read : AreReadBlocks shown m m.blocks.live is.bodies =
    bodies_read shown m v.checkpoint.parts.references 1 file.layout.blocks (λ a c from to known.
    entry_at v.checkpoint.parts.references 1 file.layout.blocks a from to ∙ known) is.bodies is.there in Found table (record {
      base = is.base;
      blocks = record {
        own = λ k inside other.
            other.other (own_at m.sessions k other.session (after_own v.tail v.checkpoint.parts.sessions own.parts own.tail) other.at);
        before = m.blocks.live;
        of = sym (append-nil m.blocks.live);
        few = omega (arith, is.few, as_many shown m m.blocks.live is.bodies read);
        bodies = is.bodies;
        read = read;
        taken = is.rows;
      };
      prepares = v.tail;
      upto = refl;
      read = prepares_read shown m 0 (m.content.op + 1) v.tail _ _ _ _ (omega arith) (λ k.
          ap (λ (i : ℕ). slice_get m.prepares i) (zero_plus k)) found.tail.chain (λ p at. (found.tail.takes p at).shown);
      commands = is.commands;
      follow = is.tail;
      is = is.is;
    })

-- and where one is found, all sessions of the file are the client's
found_table_own : (layout : Layout) (shown : Shown) (m : Memory) (table : Table)
    → FindsTable layout shown m (Ok table) → (k : ℕ) (s : Session) → slice_get m.sessions k ≡ Some s → s.client ≡ the_client
found_table_own layout shown m table (Found _ followed) = own_all m followed.blocks.own

pub found_own : (file : DataFile) (t : Told) (v : View) (table : Table) → FindsIn file t v table → OwnView v
found_own file t v table finds = let m : Memory = memory_of (shape file) (spelling file) (begun_work file t.shown v) in
    let both = after_mine v.tail v.checkpoint.parts.sessions
    (each_own (sessions_after v.checkpoint.parts.sessions v.tail) (found_table_own file.layout (shown_of file t.shown) m table finds)) in
    record { parts = both.0; tail = both.1 }
