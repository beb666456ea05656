-- A live block that is read, and what the copy does with it.
use Rattle.std.{proofs.{Common.{◌≡◌, ℕ, ◌+◌, Bool, true, false, not, List, [], ◌∷◌, length, Option, Some, None, Result, Ok, Err, refl, sym, ◌∙◌, ap, subst, arith}, lemmas.Bool.{lt-ltb}, lemmas.Option.{none-some}}, specs.Prelude.{nat_lt}}
use Rattle.{df_disk.specs.Told.{Told}, df_layout.specs.declared.{damage.Class.{Class}, layout.Layout.{Layout}, places.Place.{Place}}}
use Rattle.{df_format.specs.{declared.kind.Kind.TheVariants.{Block}, Message.{Message}}, df_units.specs.Meaning.{block_of}}
use Rattle.df_theory.specs.Units as units
use Rattle.{df_trailer.specs.Rooms.{number_in}, df_opening.specs.Below.{State, memory}, df_replica.specs.BlockReads.{IsReadBlock}}
use Rattle.df_grid.specs.Grid as grid
use Rattle.df_model.specs.{Blocks.{sum_at}, Commands.{ReadBlock}, Refusals.{first_refusal}, Supply.{block_read}, Work.{is_known}, declared.reading.ReadError.{ReadError}}
use Rattle.df_model.specs.declared.reading.ReadError.TheVariants as read
use Rattle.df_copy.specs.{declared.ending.Ending.{Ending}, declared.ending.Ending.TheVariants.{BlockTooLong, Damaged, NotAtRest, NotBlank, ReplyTooLong, Source, Target as TargetFails, TooFewBlocks, TooFewClients}, declared.target.Target.{Target}, Acts.{CopiesAt, CopiesBlock, IsBlockOf, PutsBlock}, Statuses.{copied_block_ending}, Tests.{block_test}, Units.{IsBlockAt, OverShown}}

-- an address with a checksum is live
pub known_by : {check : Option (List ℕ)} {sum : List ℕ} {o : Option ℕ} → check ≡ Some sum → number_in check ≡ o → is_known o ≡ true
known_by some number = ap is_known (sym number ∙ ap number_in some)

-- a block of a live address isn't refused
pub live_there : (s : State) (from : Option Told) (address : ℕ) (e : ReadError)
    → is_known (sum_at address (memory s).blocks.live) ≡ true → IsReadBlock address s from (Err e) → e ≡ read.NotLive → ⊥
live_there s from address e known exact is =
    none-some read.NotLive (sym (ap (λ (b : Bool). first_refusal {E = ReadError} ((not b, read.NotLive) ∷ [])) known) ∙ rw is at exact)

module _ (s : State) (from : Option Told) (address : ℕ) where
  pub block_is : (u : Message) → grid.IsKnownBlock Block s.file.layout s.file.cluster address (sum_at address s.blocks.live) u
      → IsReadBlock address s from (Ok (block_of u)) → IsBlockAt s from address u
  block_is u known exact = record { known = known; shown = there from exact }
    where
      there : (o : Option Told) → IsReadBlock address s o (Ok (block_of u))
          → OverShown s.file o (λ shown. block_read shown (memory s) (ReadBlock address) ≡ Ok (block_of u))
      there None given = tt
      there (Some t) given = sym given.1

  pub block_unit : (u : Message) → grid.IsKnownBlock Block s.file.layout s.file.cluster address (sum_at address s.blocks.live) u
      → (cluster : ℕ) → cluster ≡ s.file.cluster → IsBlockOf cluster address u
  block_unit u known cluster same =
      subst (λ (c : ℕ). IsBlockOf c address u) (sym same) (record { own = s.file.layout; is = known.is; kind = known.of_kind })

  -- one that isn't shown as it is known ends the copy
  pub block_unread : (T : Type 0) (layout : Layout) (t n : Target) (new : Option Told) (e : ReadError) → (e ≡ read.NotLive → ⊥)
      → IsReadBlock address s from (Err e) → CopiesBlock {T = T} layout address s t n from new new (Err (copied_block_ending e))
  block_unread T layout t n new read.DiskFault live exact = refl
  block_unread T layout t n new read.NotLive live exact = absurd (live refl)
  block_unread T layout t n new (read.Damaged at class) live exact = (there from exact, refl)
    where
      there : (o : Option Told) → IsReadBlock address s o (Err (read.Damaged at class)) → OverShown s.file o (λ shown.
          block_test layout address (block_read shown (memory s) (ReadBlock address)) ≡ (true, Damaged at class))
      there None given = tt
      there (Some told) given = ap (λ (r : Result units.Block Class). block_test layout address r) (sym given.2)
          ∙ ap (λ (p : Place). (true, Damaged p class)) (sym given.1)

-- a block that was read is written, or is too long, or the target's disk fails
module _ {T : Type 0} (s : State) (address : ℕ) (u : Message) (t n : Target) (from old new : Option Told) (is : IsBlockAt s from address u) where
  pub block_put : (r : Result T Ending) → PutsBlock address u t n old new r → CopiesBlock t.layout address s t n from old new r
  block_put (Ok x) puts = (u, record { is = is; fits = puts.0 }, puts.1, puts.2)
  block_put (Err TargetFails) puts = (u, record { is = is; fits = puts.0 }, puts.1)
  block_put (Err (BlockTooLong a size)) puts = (there from is.shown, puts.3)
    where
      too_long : nat_lt t.layout.block_size (256 + length u.body) ≡ true
      too_long = lt-ltb t.layout.block_size (256 + length u.body) (omega (arith, puts.1, puts.2))

      there : (o : Option Told) → OverShown s.file o (λ shown. block_read shown (memory s) (ReadBlock address) ≡ Ok (block_of u)) → OverShown s.file o (λ shown. block_test t.layout address (block_read shown (memory s) (ReadBlock address)) ≡ (true, BlockTooLong a size))
      there None shown = tt
      there (Some told) shown = ap (λ (x : Result units.Block Class). block_test t.layout address x) shown
          ∙ ap (λ (b : Bool). (b, BlockTooLong address (256 + length u.body))) too_long
          ∙ ap (λ (k : ℕ). (true, BlockTooLong k (256 + length u.body))) (sym puts.0)
          ∙ ap (λ (k : ℕ). (true, BlockTooLong a k)) (sym puts.1)
  block_put (Err Source) puts = absurd puts
  block_put (Err (NotAtRest a b c)) puts = absurd puts
  block_put (Err (TooFewClients a b)) puts = absurd puts
  block_put (Err (TooFewBlocks a b)) puts = absurd puts
  block_put (Err (NotBlank a)) puts = absurd puts
  block_put (Err (ReplyTooLong a b)) puts = absurd puts
  block_put (Err (Damaged a b)) puts = absurd puts

-- an address at which a block is live
copies_known : {T : Type 0} (layout : Layout) (address : ℕ) (o : Option ℕ) (s : State) (t n : Target) (from old new : Option Told) (r : Result T Ending) → is_known o ≡ true → CopiesBlock layout address s t n from old new r → CopiesAt layout address o s t n from old new r
copies_known layout address None s t n from old new r known copies = absurd (let no : is_known None ≡ false = refl in cc (no, known))
copies_known layout address (Some sum) s t n from old new r known copies = copies

pub copies_live : {T : Type 0} (layout : Layout) (address : ℕ) (s : State) (t n : Target) (from old new : Option Told) (r : Result T Ending)
    → is_known (sum_at address s.blocks.live) ≡ true → CopiesBlock layout address s t n from old new r
    → CopiesAt layout address (sum_at address s.blocks.live) s t n from old new r
copies_live layout address s t n from old new r known copies =
    copies_known layout address (sum_at address s.blocks.live) s t n from old new r known copies
