-- The blocks are copied one after the other, in order of address: what stands after each address.
use Rattle.std.{proofs.{Common.{◌≡◌, inl, inr, ℕ, suc, ◌+◌, ◌-◌, ◌<◌, ◌≤◌, Bool, true, List, [], ◌∷◌, ◌++◌, length, Option, Some, None, Result, Ok, Err, refl, sym, ◌∙◌, ap, subst, arith, append_assoc, length-append}, lemmas.List.{append-nil}}, specs.Prelude.{nat_lt, slice_get}}
use Rattle.{df_base.{specs.Log.{Event}, proofs.Laws.{minus_zero}}, df_disk.specs.Told.{Told}, df_format.specs.Message.{Message}}
use Rattle.{df_layout.specs.declared.{damage.Class.{Class}, layout.Layout.{Layout}}, df_units.specs.Meaning.{block_of}}
use Rattle.df_theory.specs.Units as units
use Rattle.{df_grid.specs.Writes.{made_events}, df_opening.specs.Below.{State, memory}}
use Rattle.df_model.{specs.{Blocks.{entry, sum_at}, Commands.{ReadBlock}, Refusals.{first_refusal}, Supply.{Shown, block_read}, Work.{is_known}}, proofs.Laws.{some_known}}
use Rattle.df_copy.{specs.{declared.ending.Ending.{Ending}, declared.ending.Ending.TheVariants.{BlockTooLong}, declared.target.Target.{Target}, Acts.{Beside, CopiesAt, CopiesBlock, CopiesBlocks, FitBlocks, FitsBlock, LeavesSource}, Targets.{IsTarget}, Tests.{block_test, block_tests, block_tests_of, references, references_from}, Units.{IsBlockAt, OverShown, all_events, moved, moved_from}}, proofs.{Grids.{target_push}, Planning.{references_next}, Listed.{events_push, moved_push, over_all, over_by, push_cases, push_length, split_at}, Turns.{AreWritten, at_entry, turn_on, turn_skips, turn_stops, turns_end}}}

-- how many addresses the source has
abbrev pub addresses_of : State → ℕ
addresses_of s = (memory s).layout.blocks

-- the live blocks after an address
abbrev pub behind_of : State → ℕ → List (ℕ × ℕ)
behind_of s b = references_from (memory s) (b + 1) (addresses_of s - b)

-- their tests
abbrev pub left_from : Layout → State → ℕ → Shown → List (Bool × Ending)
left_from layout s b shown = block_tests_of layout shown (memory s) (behind_of s b)

-- the writes of blocks at their new addresses
abbrev pub events_of : Layout → List Message → List Event
events_of layout bs = all_events (made_events layout) (moved_from 1 bs)

-- the blocks up to an address are written
pub record IsBlocking (layout : Layout) (s : State) (rs : List Message) (t : Target) (from old new : Option Told) (b : ℕ) : Type 0 where
  pub bs : List Message
  pub before : List (ℕ × ℕ)
  pub count : length before ≡ length bs
  pub of : references (memory s) ≡ before ++ behind_of s b
  pub is : IsTarget layout s.file.cluster rs bs t
  pub written : AreWritten s.file from (FitBlocks layout s from) (events_of layout) (λ shown.
      block_tests layout shown (memory s)) (left_from layout s b) old new bs

module _ (layout : Layout) (s : State) (rs : List Message) (from old : Option Told) where
  abbrev all_tests : Shown → List (Bool × Ending)
  all_tests shown = block_tests layout shown (memory s)

  abbrev Fit : List Message → Type 0
  Fit bs = FitBlocks layout s from bs

  pub blocking_none : (t : Target) → IsTarget layout s.file.cluster rs [] t → IsBlocking layout s rs t from old old 0
  blocking_none t is = record {
    bs = [];
    before = [];
    count = refl;
    of = ap (references_from (memory s) 1) (minus_zero (addresses_of s));
    is = is;
    written = record {
      fit = record { are = record { each = λ k u at. absurd (cc) }; fit = λ k u at. absurd (cc) };
      added = refl;
      decide = over_all s.file from (λ shown. first_refusal (all_tests shown) ≡ first_refusal (left_from layout s 0 shown))
          (λ shown. ap (λ (n : ℕ).
          first_refusal (block_tests_of layout shown (memory s) (references_from (memory s) 1 n))) (minus_zero (addresses_of s)));
    };
  }

  module _ (t : Target) (new : Option Told) (b : ℕ) (less : b < addresses_of s) (is : IsBlocking layout s rs t from old new b) where
    -- what stands at the next address, and after it
    next_is : (o : Option ℕ) → sum_at (b + 1) s.blocks.live ≡ o → behind_of s b ≡ entry (b + 1) o (behind_of s (b + 1))
    next_is o found = references_next (memory s) b less o found

    of_next : (o : Option ℕ) → sum_at (b + 1) s.blocks.live ≡ o → references (memory s) ≡ is.before ++ entry (b + 1) o (behind_of s (b + 1))
    of_next o found = is.of ∙ ap (λ (l : List (ℕ × ℕ)). is.before ++ l) (next_is o found)

    left_is : (o : Option ℕ) → sum_at (b + 1) s.blocks.live ≡ o
        → (shown : Shown) → left_from layout s b shown ≡ block_tests_of layout shown (memory s) (entry (b + 1) o (behind_of s (b + 1)))
    left_is o found shown = ap (λ (l : List (ℕ × ℕ)). block_tests_of layout shown (memory s) l) (next_is o found)

    -- a live one has room
    room_for : (sum : ℕ) → sum_at (b + 1) s.blocks.live ≡ Some sum → length (references (memory s)) ≤ layout.blocks → t.copied < layout.blocks
    room_for sum found room = let all : length (references (memory s)) ≡ length is.before + suc (length (behind_of s (b + 1))) =
        ap length (of_next (Some sum) found) ∙ length-append is.before ((b + 1, sum) ∷ behind_of s (b + 1)) in
        omega (arith, all, room, is.is.copied, is.count)

    -- ---- nothing is live there

    skipped : sum_at (b + 1) s.blocks.live ≡ None
        → (u : Target) (newer : Option Told) → u ≡ t → newer ≡ new → IsBlocking layout s rs u from old newer (b + 1)
    skipped found u newer same unwritten = record {
      bs = is.bs;
      before = is.before;
      count = is.count;
      of = of_next None found;
      is = rw (sym same) at is.is;
      written = turn_skips s.file from Fit (events_of layout)
          all_tests old (left_from layout s b) new is.bs is.written (left_from layout s (b + 1)) newer (left_is None found) unwritten;
    }

    -- ---- a block is

    module _ (sum : ℕ) (found : sum_at (b + 1) s.blocks.live ≡ Some sum) where
      abbrev test : Shown → Bool × Ending
      test shown = block_test layout (b + 1) (block_read shown (memory s) (ReadBlock (b + 1)))

      push : (x : Message) → FitsBlock layout s from (b + 1) x → FitBlocks layout s from (is.bs ++ x ∷ [])
      push x one = record {
        are = record {
          each = λ i u at. elim (push_cases is.bs x i u at) [
            | inl there ↦ is.written.fit.are.each i u there
            | inr last ↦ (
              (b + 1, sum),
              ap (slice_get (references (memory s))) (last.0 ∙ sym is.count) ∙ ap (λ (l : List (ℕ × ℕ)).
                  slice_get l (length is.before)) (of_next (Some sum) found) ∙ split_at is.before (behind_of s (b + 1)) (b + 1, sum),
              rw last.1 at one.is,
            )
          ];
        };
        fit = λ i u at. elim (push_cases is.bs x i u at) [
          | inl there ↦ is.written.fit.fit i u there
          | inr last ↦ rw last.1 at one.fits
        ];
      }

      -- what is written up to it
      joins : (x : Message) → events_of layout (is.bs ++ x ∷ []) ≡ events_of layout is.bs ++ made_events layout (moved (t.copied + 1) x)
      joins x = ap (all_events (made_events layout)) (moved_push 1 is.bs x)
          ∙ events_push (made_events layout) (moved_from 1 is.bs) (moved (1 + length is.bs) x)
          ∙ ap (λ (k : ℕ). events_of layout is.bs ++ made_events layout (moved k x)) place
        where
          place : 1 + length is.bs ≡ t.copied + 1
          place = omega (arith, is.is.copied)

      took : (u : Target) (newer : Option Told) (y : Unit {0})
          → CopiesBlock layout (b + 1) s t u from new newer (Ok y) → IsBlocking layout s rs u from old newer (b + 1)
      took u newer y copies = let x : Message = copies.0 in record {
        bs = is.bs ++ x ∷ [];
        before = is.before ++ (b + 1, sum) ∷ [];
        count = push_length is.before (b + 1, sum) (length is.bs) is.count ∙ sym (push_length is.bs x (length is.bs) refl);
        of = of_next (Some sum) found ∙ sym (append_assoc is.before ((b + 1, sum) ∷ []) (behind_of s (b + 1)));
        is = target_push layout s.file.cluster rs is.bs x t u is.is copies.3;
        written = turn_on s.file from Fit (events_of layout) all_tests old (left_from layout s b)
            new is.bs is.written test (left_from layout s (b + 1)) (left_is (Some sum) found) (FitsBlock layout s from (b + 1))
            (λ v. made_events layout (moved (t.copied + 1) v)) push joins x newer layout.block_size
            (256 + length x.body) (BlockTooLong (b + 1) (256 + length x.body)) copies.1 copies.2 copies.1.fits (tested x copies.1);
      }
        where
          tested : (x : Message) → FitsBlock layout s from (b + 1) x → OverShown s.file from (λ shown.
              test shown ≡ (nat_lt layout.block_size (256 + length x.body), BlockTooLong (b + 1) (256 + length x.body)))
          tested x one = over_by s.file from (λ shown. block_read shown (memory s) (ReadBlock (b + 1)) ≡ Ok (block_of x)) (λ shown.
              test shown ≡ (nat_lt layout.block_size (256 + length x.body), BlockTooLong (b + 1) (256 + length x.body))) one.is.shown
              (λ shown there. ap (λ (r : Result units.Block Class). block_test layout (b + 1) r) there)

      stopped : (u all : Target) (newer : Option Told) (e : Ending) → CopiesBlock {T = Unit {0}} layout (b + 1) s t u from new newer (Err e)
          → CopiesBlocks {T = Unit {0}} layout s rs all from old newer (Err e)
      stopped u all newer e stops = turn_stops s.file from Fit (events_of layout) all_tests old (left_from layout s b)
          new is.bs is.written test (left_from layout s (b + 1)) (left_is (Some sum) found) (FitsBlock layout s from (b + 1))
          (λ v. made_events layout (moved (t.copied + 1) v)) push joins newer e stops

    -- ---- both

    more : (y : Unit {0}) (u : Target) (newer : Option Told) (o : Option ℕ) → sum_at (b + 1) s.blocks.live ≡ o
        → CopiesAt layout (b + 1) o s t u from new newer (Ok y) → IsBlocking layout s rs u from old newer (b + 1)
    more y u newer None found copies = skipped found u newer copies.0 copies.1
    more y u newer (Some sum) found copies = took sum found u newer y copies

    ends : (u all : Target) (newer : Option Told) (e : Ending) (o : Option ℕ) → sum_at (b + 1) s.blocks.live ≡ o → CopiesAt {T = Unit {0}}
        layout (b + 1) o s t u from new newer (Err e) → CopiesBlocks {T = Unit {0}} layout s rs all from old newer (Err e)
    ends u all newer e None found copies = absurd copies
    ends u all newer e (Some sum) found copies = stopped sum found u all newer e copies

  -- after the last address all are written, and no test holds
  pub blocking_all : {T : Type 0} (y : T) (t : Target) (new : Option Told) (b : ℕ)
      → b ≡ addresses_of s → IsBlocking layout s rs t from old new b → CopiesBlocks layout s rs t from old new (Ok y)
  blocking_all y t new b past is = (is.bs, is.written.fit, sym is.count ∙ sym all, is.written.added, is.is, turns_end s.file from Fit (events_of layout) all_tests old (left_from layout s b) new is.bs is.written none)
    where
      left : (m n : ℕ) → m ≡ n → n - m ≡ 0
      left m n same = omega (arith, same)

      no_more : behind_of s b ≡ []
      no_more = ap (references_from (memory s) (b + 1)) (left b (addresses_of s) past)

      all : length (references (memory s)) ≡ length is.before
      all = ap length (is.of ∙ ap (λ (l : List (ℕ × ℕ)). is.before ++ l) no_more ∙ append-nil is.before)

      none : (shown : Shown) → left_from layout s b shown ≡ []
      none shown = ap (λ (l : List (ℕ × ℕ)). block_tests_of layout shown (memory s) l) no_more

-- ---- a turn of the loop, in which the source and the layout are as they were at the entry

module _ {layout l : Layout} {at kept : Beside} {x : Unit {0}} {rs : List Message} {t : Target} {old new : Option Told} {b : ℕ}
    (same : l ≡ layout) (leaves : LeavesSource at kept (Ok x)) (less : b < addresses_of at.source)
    (is : IsBlocking layout at.source rs t at.told old new b) (before : ℕ) (address : before ≡ b) where
  pub blocking_room : is_known (sum_at (before + 1) kept.source.blocks.live) ≡ true
      → length (references (memory at.source)) ≤ layout.blocks → t.copied < l.blocks
  blocking_room known room = let one = some_known (sum_at (before + 1) kept.source.blocks.live) known in
      let found : sum_at (b + 1) at.source.blocks.live ≡ Some one.0 = ap (λ (k : ℕ). sum_at (k + 1) at.source.blocks.live) (sym address)
      ∙ ap (λ (q : State). sum_at (before + 1) q.blocks.live) (sym leaves.kept) ∙ one.1 in
      let has = room_for layout at.source rs at.told old t new b less is one.0 found room in
      let blocks = ap (λ (k : Layout). k.blocks) same in omega (arith, has, blocks)

  module _ (u : Target) (newer : Option Told) where
    entered : (r : Result (Unit {0}) Ending) → CopiesAt l (before + 1) (sum_at (before + 1) kept.source.blocks.live) kept.source
        t u kept.told new newer r → CopiesAt layout (b + 1) (sum_at (b + 1) at.source.blocks.live) at.source t u at.told new newer r
    entered r copies =
        subst (λ (k : ℕ). CopiesAt layout (k + 1) (sum_at (k + 1) at.source.blocks.live) at.source t u at.told new newer r) address
        (at_entry (λ (k : Layout) (q : State) (o : Option Told).
        CopiesAt k (before + 1) (sum_at (before + 1) q.blocks.live) q t u o new newer r) layout l same leaves copies)

    pub blocking_more : (y : Unit {0}) → CopiesAt l (before + 1) (sum_at (before + 1) kept.source.blocks.live)
        kept.source t u kept.told new newer (Ok y) → IsBlocking layout at.source rs u at.told old newer (b + 1)
    blocking_more y copies =
        more layout at.source rs at.told old t new b less is y u newer (sum_at (b + 1) at.source.blocks.live) refl (entered (Ok y) copies)

    pub blocking_ends : (e : Ending) → CopiesAt {T = Unit {0}} l (before + 1) (sum_at (before + 1) kept.source.blocks.live)
        kept.source t u kept.told new newer (Err e) → CopiesBlocks {T = Unit {0}} layout at.source rs u at.told old newer (Err e)
    blocking_ends e copies = ends
        layout at.source rs at.told old t new b less is u u newer e (sum_at (b + 1) at.source.blocks.live) refl (entered (Err e) copies)
