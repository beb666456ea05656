-- The prepares after the checkpoint are applied one after the other, in order of op: what the opening has found after each.
use Rattle.std.proofs.{Common.{◌≡◌, inl, inr, ℕ, ◌+◌, ◌<◌, Bool, true, false, List, [], ◌∷◌, ◌++◌, length, Ok, Err, refl, sym, ◌∙◌, ap, subst, arith, length-append}, lemmas.Bool.{false≢true}}
use Rattle.{df_layout.specs.declared.{layout.Layout.{Layout}, places.Place.{Place}}, df_theory.specs.Units.{Message}}
use Rattle.df_model.specs.{Commands.{ReadPrepare}, Memory.{Memory}, Supply.{Shown, message_given}}
use Rattle.df_rows.{specs.{declared.command.Command.{Command}, Commands.{IsCommand, body_of}, Tables.{CanApply, Table, with_command}}, proofs.Laws.{commands_more, one_command}}
use Rattle.df_table.{specs.{declared.ending.Ending.{Ending}, declared.ending.Ending.TheVariants.{Damaged, Disk, NotTable, OpsSpent, SequenceSpent}, Opening.{AreFollowed, ArePrepares, AreTakenBlocks, FindsOf, FindsTable, NoCommand, OtherPrepare, PrepareHurt, ReadsPrepare}, Table.{CommandFollows}}, proofs.Leads.{follow_more}}

prepares_more : (shown : Shown) (m : Memory) (op at : ℕ) (ps : List Message) (p : Message) → at ≡ op + length ps
    → ArePrepares shown m op ps → message_given shown m (ReadPrepare at) ≡ Ok p → ArePrepares shown m op (ps ++ p ∷ [])
prepares_more shown m op at [] p is are one = (subst (λ (k : ℕ). message_given shown m (ReadPrepare k) ≡ Ok p) (omega (arith, is)) one, tt)
prepares_more shown m op at (q ∷ ps) p is are one = (are.0, prepares_more shown m (op + 1) at ps p (omega (arith, is)) are.1 one)

module _ (layout : Layout) (shown : Shown) (m : Memory) where
  -- none is after the checkpoint's op
  pub followed_none : (t : Table) → AreTakenBlocks layout shown m [] t → AreFollowed layout shown m m.content.op t
  followed_none t taken =
      record { base = t; blocks = taken; prepares = []; upto = omega arith; read = tt; commands = []; follow = tt; is = refl }

  module _ (op : ℕ) (t : Table) (is : AreFollowed layout shown m op t) where
    followed_one : (p : Message) → message_given shown m (ReadPrepare (op + 1)) ≡ Ok p
        → (c : Command) → CommandFollows t p.body c → AreFollowed layout shown m (op + 1) (with_command c t)
    followed_one p shows c follows = record {
      base = is.base;
      blocks = is.blocks;
      prepares = is.prepares ++ p ∷ [];
      upto = omega (arith, is.upto, length-append is.prepares (p ∷ []));
      read = prepares_more shown m (m.content.op + 1) (op + 1) is.prepares p (omega (arith, is.upto)) is.read shows;
      commands = is.commands ++ c ∷ [];
      follow = follow_more is.base is.prepares is.commands p c is.follow (rw is.is at follows);
      is = ap (with_command c) is.is ∙ sym (commands_more is.commands (c ∷ []) is.base);
    }

    -- the next prepare is applied
    pub followed_more : (A : Type 0) (later : Table) (x : A)
        → ReadsPrepare {A = A} layout shown m (op + 1) t later (Ok x) → AreFollowed layout shown m (op + 1) later
    followed_more A later x reads =
        subst (λ (k : Table). AreFollowed layout shown m (op + 1) k) (sym reads.2.2) (followed_one reads.0 reads.1 reads.2.0 reads.2.1)

    -- or how it ends
    pub followed_ends : (A : Type 0) (later : Table) (ending : Ending)
        → op < m.head → ReadsPrepare {A = A} layout shown m (op + 1) t later (Err ending) → FindsOf layout shown m (Err ending)
    followed_ends A later Disk less reads = inl refl
    followed_ends A later (Damaged place class) less reads = inr (rw (sym reads.0) at (PrepareHurt op t class is less reads.1))
    followed_ends A later (NotTable place) less reads = inr (rw (sym reads.2.0) at (OtherPrepare op t reads.0 is less reads.1 reads.2.1))
    followed_ends A later OpsSpent less reads = absurd reads
    followed_ends A later SequenceSpent less reads = absurd reads

-- a command for which there is no room is none that follows
pub no_command : (t : Table) (body : List ℕ) (d : Command) (able : Bool)
    → body ≡ body_of d → IsCommand d → able ≡ false → (CanApply t d → able ≡ true) → NoCommand t body
no_command t body d able is fits cannot can = λ c follows.
    let same : c ≡ d = one_command c d follows.fits fits (sym follows.body_is ∙ is) in
    false≢true (sym cannot ∙ can (subst (CanApply t) same follows.room))
